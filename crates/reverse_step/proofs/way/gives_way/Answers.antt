use Rattle.std.proofs.Common.{◌∙◌, sym}
use Rattle.dictionary_laws.proofs.Filters.{member_only}
use Rattle.reverse_step.proofs.WayLemmas.{is_not_false}
use Rattle.reverse_step.proofs.way.gives_way.Goals as goal

pub returns-then-get-ne0-clause-no : goal.returns-then-get-ne0-clause-no
returns-then-get-ne0-clause-no c f n =
    absurd (n (member_only c.args.col c.args.key.now (sym c.is_one_of.ensures ∙ is_not_false c.is_one_of.result f)))
