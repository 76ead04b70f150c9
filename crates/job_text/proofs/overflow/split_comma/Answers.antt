use Rattle.std.proofs.Common.{◌∙◌, ◌++◌, List, ℕ, sym, ap, take, take-append-drop}
use Rattle.std.proofs.lemmas.List.{take_rest}
use Rattle.plain_text.proofs.CutLemmas.{found_at, lacks_before, lacks_all}
use Rattle.job_text.proofs.overflow.split_comma.Goals as goal

pub returns-in-Some : goal.returns-in-Some
returns-in-Some c =
    let word = c.args.word.now in let at = c.in-Some.at in let is = sym c.in-Some.ensures in
    rw take_rest
    (sym (take-append-drop at word) ∙ ap (λ (l : List ℕ). take at word ++ l) (found_at 44 word at is), lacks_before 44 word at is)

pub returns-in-None : goal.returns-in-None
returns-in-None c = lacks_all 44 c.args.word.now (sym c.in-None.ensures)
