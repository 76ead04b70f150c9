use Rattle.std.proofs.Common.{◌∙◌, [], List, ℕ, length, refl, sym, ap, append-nil}
use Rattle.std.proofs.lemmas.Bool.{eqb-false}
use Rattle.plain_text.proofs.ReadLemmas.{none_read}
use Rattle.job_text.proofs.KeyTextLemmas.{key_front_tells}
use Rattle.job_text.proofs.keys.read_key.Goals as goal

pub returns-in-None : goal.returns-in-None
returns-in-None c = none_read (λ key has is. c.in-None.ensures.none refl key [] has tt (is ∙ sym (append-nil _)))

pub returns-else-is_empty : goal.returns-else-is_empty
returns-else-is_empty c =
    let (has, split, goes_on) = c.in-Some.ensures.some in
    none_read (λ key k is.
    let same = key_front_tells c.in-Some.found.0 key c.in-Some.found.1.now [] has.is_key.room k.is_key.room has.labels k.labels
    goes_on tt (sym split ∙ is ∙ sym (append-nil _)) in
    eqb-false (length c.in-Some.found.1.now) 0 (sym c.is_empty.ensures ∙ c.if-is_empty.false)
    (ap (λ (t : List ℕ). length t) same.1))
