use Rattle.std.proofs.Common.{◌≡◌, ◌∙◌, [], true, false, sym, subst, append-nil}
use Rattle.poly_num.specs.Vectors.{IsPrimitive}
use Rattle.job_text.proofs.EntryLemmas.{entries_tell}
use Rattle.job_text.proofs.entries.read_row.Goals as goal

pub returns-clause-yes : goal.returns-clause-yes
returns-clause-yes c one =
    let read = c.read_entries.ensures.yes c.if-not-read_entries.false in
    ((c.read_entries.ensures.size, c.is_primitive.ensures.0 one, read.0), read.1)

pub returns-clause-no : goal.returns-clause-no
returns-clause-no c not v (count, primitive, nums) is =
    let read = c.read_entries.ensures.yes c.if-not-read_entries.false in
    let same = entries_tell c.read_entries.new.row v [] read.0 nums tt (c.read_entries.ensures.size ∙ sym count)
    (append-nil _ ∙ sym read.1 ∙ is) in
    let holds = c.is_primitive.ensures.1 (subst IsPrimitive (sym same.0) primitive) in
    let no : true ≡ false = sym holds ∙ not in absurd cc
