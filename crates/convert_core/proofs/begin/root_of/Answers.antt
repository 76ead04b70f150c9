use Rattle.std.specs.Result.{IsErrOf}
use Rattle.std.proofs.Common.{◌≡◌, List, length, Err, inr, refl, sym, ap, subst, arith}
use Rattle.poly_num.specs.Vectors.{Vector}
use Rattle.poly_model.specs.declared.overflow.Overflow.{Overflow as Passed}
use Rattle.poly_model.specs.Due.{IsDue, IsAskedInFirst}
use Rattle.poly_model.specs.Systems.{System}
use Rattle.convert_core.specs.declared.begin.SearchStop.{SearchStop}
use Rattle.convert_core.specs.Searches.{IsRootOf}
use Rattle.convert_core.proofs.Beginnings.{is_root_of}
use Rattle.convert_core.proofs.LinearRows.{feasible_is_consistent}
use Rattle.convert_core.proofs.begin.root_of.Goals as goal

pub returns-in-Err-Inconsistent-clause-infeasible : goal.returns-in-Err-Inconsistent-clause-infeasible
returns-in-Err-Inconsistent-clause-infeasible c h p file e =
    let none = rw c.in-Err-Inconsistent.field-0-is at c.in-Err-Inconsistent.ensures.inconsistent in
    let few = c.keeps_limits.ensures.few in
    none refl p file (feasible_is_consistent p (omega (arith, few, ap (λ (s : System). length s.rows) file)) e)

pub returns-in-Ok-first-clause-found : goal.returns-in-Ok-first-clause-found
returns-in-Ok-first-clause-found c p file =
    let x = c.in-Ok.ensures.prepared p file in
    subst (λ (lines : List Vector). IsRootOf p c.in-Ok-first.found.root.key c.in-Ok-first.found.dict lines)
    (sym c.in-Ok-first.ensures.lines)
    (is_root_of p c.in-Ok.prepared.lines c.in-Ok.prepared.free c.in-Ok.prepared.dictionary x c.in-Ok-first.found.root.key
    c.in-Ok-first.found.dict (c.in-Ok-first.ensures.found p x))

same_overflow : {T : Type 0} (a o : Passed) →
    IsErrOf {T = T} {E = SearchStop} (Err (SearchStop.Overflow a)) (SearchStop.Overflow o) → a ≡ o
same_overflow a o h = cc

pub returns-in-Err-Overflow-first-clause-overflow : goal.returns-in-Err-Overflow-first-clause-overflow
returns-in-Err-Overflow-first-clause-overflow c o h p file =
    let found = (rw c.in-Err-Overflow-first.field-0-is at c.in-Err-Overflow-first.ensures.overflow)
    c.in-Err-Overflow-first.overflow refl p (c.in-Ok.ensures.prepared p file) in
    let same : c.in-Err-Overflow-first.overflow ≡ o = same_overflow c.in-Err-Overflow-first.overflow o h in
    inr (subst (λ (x : Passed). IsDue p x (IsAskedInFirst p x)) same found)
