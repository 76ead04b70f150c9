-- A text of which so many first bytes went out.
use Rattle.std.proofs.Common.{◌≡◌, ℕ, List, sym, subst, arith, length, take, drop, take_all, take-append-drop, Result, Ok, Err, OnOk}
use Rattle.std.specs.Io.KnownBytes.{Appends}
use Rattle.poly_io.specs.declared.sink.Sink.{Ghosts as Sink}
use Rattle.poly_io.specs.Causes.{HasCause, Rose}
use Rattle.poly_io.specs.Written.{Prints}

-- what failed in a later call failed in all of them
pub failed_later : {T U E F : Type 0} {before mid now : ℕ} {e : E} {f : F} → mid ≡ before →
    HasCause {T = T} mid now (Err e) → HasCause {T = U} before now (Err f)
failed_later {now = now} same c = record {
  later = omega (arith, same, c.later);
  failed = subst (λ n. Rose n now) same c.failed;
  same = tt;
}

-- it is printed: as a whole where all of them went out
pub prints_first : {O T E : Type 0} {sink : Sink O} {a b : O} {r : Result T E} (n : ℕ) (text : List ℕ) →
    Appends (sink.written a) (sink.written b) (take n text) → OnOk r (n ≡ length text) →
    HasCause (sink.faults a) (sink.faults b) r → Prints sink a b r text
prints_first {sink = sink} {a = a} {b = b} {r = Ok x} n text went all cause =
    let whole : take n text ≡ text = take_all n text (omega (arith, all)) in
    record { whole = subst (Appends (sink.written a) (sink.written b)) whole went; part = tt; cause = cause }
prints_first {r = Err e} n text went all cause = record {
  whole = tt;
  part = record { sent = take n text; unsent = drop n text; split = sym (take-append-drop n text); bytes = went };
  cause = cause;
}
