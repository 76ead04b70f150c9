-- An answer has one error.
use Rattle.std.proofs.Common.{◌≡◌, Err, sym, ◌∙◌}
use Rattle.std.specs.Prelude.{Result, IsErrOf}

pub one_error : {T E : Type 0} (r : Result T E) (x y : E) → IsErrOf r x → r ≡ Err y → y ≡ x
one_error {T} {E} r x y h e = let same : ◌≡◌ {A = Result T E} (Err y) (Err x) = sym e ∙ h in cc
