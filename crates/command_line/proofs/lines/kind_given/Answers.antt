use Rattle.std.proofs.Common.{◌≡◌, codes, ◌∙◌, Some, None}
use Rattle.clap.specs.Words.{found_of}
use Rattle.clap.proofs.WalkLemmas.{first_value-rows}
use Rattle.command_line.proofs.FoundWords.{kind_found, same_some}
use Rattle.command_line.specs.Lines.{word_of}
use Rattle.command_line.proofs.lines.kind_given.Goals as goal

pub returns-in-Some-clause-some : goal.returns-in-Some-clause-some
returns-in-Some-clause-some c =
    kind_found _ c.in-Some.word.now (c.in-Some.ensures ∙ first_value-rows (found_of c.args.given.now) (codes "KIND")) c.kind_named.result c.kind_named.ensures.some

pub returns-in-Some-clause-none : goal.returns-in-Some-clause-none
returns-in-Some-clause-none c none kind e =
    c.kind_named.ensures.none none kind (same_some _ _ (c.in-Some.ensures ∙ first_value-rows (found_of c.args.given.now) (codes "KIND") ∙ e))

pub returns-in-None-clause-none : goal.returns-in-None-clause-none
returns-in-None-clause-none c none kind e =
    let bad : None ≡ Some (word_of kind) = c.in-None.ensures ∙ first_value-rows (found_of c.args.given.now) (codes "KIND") ∙ e in absurd (cc)
