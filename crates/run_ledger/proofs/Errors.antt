-- Which error a result is, and what a count of faults is beside a result that is none.
use Rattle.std.proofs.Common.{◌≡◌, ℕ, Result, Ok, Err, IsErrAnd, ap, sym, ◌∙◌}
use Rattle.std.specs.Result.{IsErrOf, OnErr}
use Rattle.std.proofs.lemmas.Result.{err_from_is_err_and}
use Rattle.poly_io.specs.Causes.{RisesAt}
use Rattle.job_ledger.specs.Stops.{IsCaused}
use Rattle.job_ledger.specs.declared.stop.LedgerStop.{LedgerStop}
use Rattle.job_ledger.specs.declared.stop.LedgerStop.TheVariants.{DiskFault as LedgerFault}

pub one_error : {T E : Type 0} (a b : E) → ◌≡◌ {A = Result T E} (Err a) (Err b) → a ≡ b
one_error a b e = cc

-- the error that `?` hands on is the one of the call
handed_on : {T E : Type 0} (r : Result T E) (a b : E) → IsErrAnd r (λ e. e ≡ a) → IsErrOf r b → a ≡ b
handed_on r a b is e =
    let q = err_from_is_err_and r is in sym q.2 ∙ one_error q.0 b (sym q.1 ∙ e)

pub came : {T U E : Type 0} (r : Result U E) (a b : E) → IsErrAnd r (λ e. e ≡ a) → IsErrOf r b →
    IsErrOf {T = T} (Err a) b
came r a b is e = ap (λ x. Err x) (handed_on r a b is e)

pub handed_back : {T E : Type 0} (r : Result T E) (a b : E) → IsErrAnd r (λ e. e ≡ a) → a ≡ b → IsErrOf r b
handed_back r a b is e =
    let q = err_from_is_err_and r is in q.1 ∙ ap (λ x. Err x) (q.2 ∙ e)

-- what holds at an error holds where it is handed on
pub on_error : {T E : Type 0} (r : Result T E) (A : Type 0) → A → OnErr r A
on_error (Ok x) A a = tt
on_error (Err e) A a = a

-- so does what it says of a count of faults
pub rises_again : {T U E : Type 0} (fault : E) (before now : ℕ) (r : Result U E) (a : E) → IsErrAnd r (λ e. e ≡ a) →
    RisesAt {T = T} fault before now (Err a) → RisesAt fault before now r
rises_again fault before now r a is rises = record {
  later = rises.later;
  failed = λ e. rises.failed (came r a fault is e);
  same = λ other. rises.same (λ f. other (handed_back r a fault is (one_error a fault f)));
}

pub caused_again : {T U : Type 0} (before now : ℕ) (r : Result U LedgerStop) (a : LedgerStop) →
    IsErrAnd r (λ e. e ≡ a) → IsCaused {T = T} before now (Err a) → IsCaused before now r
caused_again before now r a is caused = record {
  later = caused.later;
  fault = λ e. caused.fault (came r a LedgerFault is e);
  same = λ other. caused.same (λ f. other (handed_back r a LedgerFault is (one_error a LedgerFault f)));
}

-- where there is no error, no fault was counted
pub none_rose : {T E : Type 0} (fault : E) (before now : ℕ) (x : T) → RisesAt {E = E} fault before now (Ok x) →
    now ≡ before
none_rose fault before now x rises = rises.same (λ h. absurd cc)
