-- Signs: of a number, of a vector by its first entry that is not 0, of a dot product.
use Rattle.std.specs.Prelude.{ℕ, zero, suc, ◌+◌, ◌<◌, ℤ, pos, negsuc, ◌*ℤ◌, [], ◌∷◌, take, length}
use Rattle.std.specs.List.{slice_index_or as get_or}
use Rattle.std.specs.Ordering.{int_cmp}
use Rattle.std.specs.declared.cmp.Ordering.{Ordering}
use Rattle.std.specs.declared.cmp.Ordering.TheVariants.{Less, Equal, Greater}
use Rattle.poly_num.specs.Numbers.{IsNum}
use Rattle.poly_num.specs.Vectors.{Vector, ◌·◌}

-- the order of z and 0
abbrev pub sign_of : ℤ → Ordering
sign_of z = int_cmp z (pos 0)

-- the sign of the first entry that is not 0, and else equal
abbrev pub lex_sign_of : Vector → Ordering
lex_sign_of [] = Equal
lex_sign_of (pos zero ∷ v) = lex_sign_of v
lex_sign_of (pos (suc n) ∷ v) = Greater
lex_sign_of (negsuc n ∷ v) = Less

-- each product, and each sum of the first so many products, is a number
abbrev pub DotFits : Vector → Vector → Type 0
DotFits u v = (k : ℕ) → k < length u →
    IsNum (get_or u k (pos 0) *ℤ get_or v k (pos 0)) × IsNum (take (k + 1) u · take (k + 1) v)
