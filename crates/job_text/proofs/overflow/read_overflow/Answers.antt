use Rattle.std.proofs.Common.{◌∙◌, [], List, ℕ, length, refl, sym, ap}
use Rattle.std.proofs.lemmas.Bool.{eqb-false, eqb-true}
use Rattle.plain_text.proofs.ReadLemmas.{none_read, some_read, read_none, read_at}
use Rattle.poly_model.specs.declared.overflow.Overflow.{Overflow}
use Rattle.job_text.proofs.EndLemmas.{empty_from_length}
use Rattle.job_text.proofs.OverflowLemmas.{a_text, b_text, c_text, d_text, phase_step, a_behind, b_behind, c_behind, d_behind, none_behind, overflow_read}
use Rattle.job_text.proofs.overflow.read_overflow.Goals as goal

pub returns-in_err-phase : goal.returns-in_err-phase
returns-in_err-phase c =
    rw c.from_residual.ensures (none_read (λ o h is.
    read_none c.in_err-phase.was c.read_phase.ensures o.phase tt (phase_step o c.split_word.ensures is).0))

pub returns-in-None : goal.returns-in-None
returns-in-None c = none_read (λ o h is.
    c.in-None.ensures.none refl o.key (a_text o) h.key refl (phase_step o c.split_word.ensures is).1)

pub returns-in-None-next_place : goal.returns-in-None-next_place
returns-in-None-next_place c = none_read (λ o h is.
    c.in-None-next_place.ensures.none refl o.a (b_text o) h.a refl
    (a_behind o h c.split_word.ensures is c.in-Some.ensures))

pub returns-in-None-next_place-2 : goal.returns-in-None-next_place-2
returns-in-None-next_place-2 c = none_read (λ o h is.
    c.in-None-next_place-2.ensures.none refl o.b (c_text o) h.b refl
    (b_behind o h c.split_word.ensures is c.in-Some.ensures c.in-Some-next_place.ensures))

pub returns-in-None-next_place-3 : goal.returns-in-None-next_place-3
returns-in-None-next_place-3 c = none_read (λ o h is.
    c.in-None-next_place-3.ensures.none refl o.c (d_text o) h.c refl
    (c_behind o h c.split_word.ensures is c.in-Some.ensures c.in-Some-next_place.ensures c.in-Some-next_place-2.ensures))

pub returns-in-None-next_place-4 : goal.returns-in-None-next_place-4
returns-in-None-next_place-4 c = none_read (λ o h is.
    c.in-None-next_place-4.ensures.none refl o.d ([]) h.d tt
    (d_behind o h c.split_word.ensures is c.in-Some.ensures c.in-Some-next_place.ensures c.in-Some-next_place-2.ensures
    c.in-Some-next_place-3.ensures))

pub returns-then-not-is_empty : goal.returns-then-not-is_empty
returns-then-not-is_empty c = none_read (λ o h is.
    eqb-false (length c.in-Some-next_place-4.found.1.now) 0 (sym c.is_empty.ensures ∙ c.if-not-is_empty.true)
    (ap (λ (t : List ℕ). length t)
    (none_behind o h c.split_word.ensures is c.in-Some.ensures c.in-Some-next_place.ensures c.in-Some-next_place-2.ensures
    c.in-Some-next_place-3.ensures c.in-Some-next_place-4.ensures)))

pub returns : goal.returns
returns c =
    let phase = read_at c.in_ok-phase.was c.read_phase.ensures in
    let k = c.in-Some.ensures.some in
    let pa = c.in-Some-next_place.ensures.some in
    let pb = c.in-Some-next_place-2.ensures.some in
    let pc = c.in-Some-next_place-3.ensures.some in
    let pd = c.in-Some-next_place-4.ensures.some in
    let o : Overflow = record {
      phase = c.in_ok-phase.phase;
      key = c.in-Some.found.0;
      a = c.in-Some-next_place.found.0;
      b = c.in-Some-next_place-2.found.0;
      c = c.in-Some-next_place-3.found.0;
      d = c.in-Some-next_place-4.found.0;
    } in
    some_read o (record { key = k.0; a = pa.0; b = pb.0; c = pc.0; d = pd.0 })
    (overflow_read o c.split_word.ensures.whole phase.1 k.1 pa.1 pb.1 pc.1 pd.1
    (empty_from_length c.in-Some-next_place-4.found.1.now
    (eqb-true (length c.in-Some-next_place-4.found.1.now) 0 (sym c.is_empty.ensures ∙ c.if-not-is_empty.false))))
