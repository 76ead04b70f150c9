use Rattle.std.proofs.Common.{sym, ◌∙◌}
use Rattle.poly_reader.proofs.WordCounts.{words_below}
use Rattle.poly_reader.proofs.WordsOn.{first_on, only_on, none_on}
use Rattle.poly_reader.proofs.lines.LineWords.next.Goals as goal

pub returns-in_err-start-clause-word : goal.returns-in_err-start-clause-word
returns-in_err-start-clause-word c =
    rw c.from_residual.ensures (sym c.self.view_is ∙ none_on c.self.inside.line c.self.inside.rest.now
    (sym c.word_at.ensures ∙ c.in_err-start.was))

pub returns-in_err-start-clause-few : goal.returns-in_err-start-clause-few
returns-in_err-start-clause-few c =
    words_below c.self.inside.line _ c.self.inside.rest.now _ c.self.view_is c.self.invariant

pub returns-in-Some-clause-word : goal.returns-in-Some-clause-word
returns-in-Some-clause-word c =
    rw (c.new.ensures, c.split_at-in-Some.ensures.front, c.split_at-in-Some.ensures.back, c.split_at.ensures.back)
    (sym c.self.view_is ∙ first_on c.self.inside.line c.self.inside.rest.now c.in_ok-start.start c.in-Some.end
    (sym c.word_at.ensures ∙ c.in_ok-start.was) (rw c.split_at.ensures.back at (sym c.in-Some.ensures)))

pub returns-in-Some-clause-few : goal.returns-in-Some-clause-few
returns-in-Some-clause-few c = words_below c.self.inside.line _ c.self.inside.rest.now _ c.self.view_is c.self.invariant

pub returns-in-None-clause-word : goal.returns-in-None-clause-word
returns-in-None-clause-word c =
    rw (c.new-in-None.ensures, c.split_at.ensures.back)
    (sym c.self.view_is ∙ only_on c.self.inside.line c.self.inside.rest.now c.in_ok-start.start
    (sym c.word_at.ensures ∙ c.in_ok-start.was) (rw c.split_at.ensures.back at (sym c.in-None.ensures)))

pub returns-in-None-clause-few : goal.returns-in-None-clause-few
returns-in-None-clause-few c = words_below c.self.inside.line _ c.self.inside.rest.now _ c.self.view_is c.self.invariant
