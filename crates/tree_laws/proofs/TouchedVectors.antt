-- The first entry of a point row is positive, so no point touches 1 0 .. 0.
use Rattle.std.proofs.Common.{◌≡◌, ℕ, Bool, true, false, cond, List, [], ◌∷◌, ◌++◌, map, ℤ, pos, sym, subst, ◌∙◌, arith}
use Rattle.std.specs.Prelude.{◌<ℤ◌, int_lt}
use Rattle.std.specs.List.{AllByRecursion, list_any}
use Rattle.std.proofs.lemmas.Int.{ints}
use Rattle.poly_num.specs.Vectors.{Vector}
use Rattle.poly_num.proofs.VectorLemmas.{dot_comm}
use Rattle.poly_num.proofs.Order.{positive_nonzero}
use Rattle.poly_model.specs.declared.kind.Kind.{Kind}
use Rattle.poly_model.specs.declared.kind.Kind.TheVariants.{H, V}
use Rattle.poly_model.specs.Systems.{FileRow, Row, Polyhedron, first_unit, starts_positive, cone_row, is_point_row, added_row, all_rows, cone_of}
use Rattle.poly_model.specs.Cones.{at}
use Rattle.poly_model.specs.Extreme.{TouchesPoint, IsShown}
use Rattle.linear_laws.proofs.Members.{all_at}
use Rattle.linear_laws.proofs.AllLemmas.{all_both}
use Rattle.cone_laws.proofs.FeasibleLemmas.{first_unit_reads}

-- where a row is a point, its first entry is positive
abbrev IsMarked : Row → Type 0
IsMarked row = row.point ≡ true → pos 0 <ℤ at 0 row.entries

positive_number : (x : ℤ) → int_lt (pos 0) x ≡ true → pos 0 <ℤ x
positive_number x e = grind (arith, ints)

is_marked : (row : FileRow) → IsMarked (cone_row V row)
is_marked row = by row.entries
  where
    by : (v : Vector) → starts_positive v ≡ true → pos 0 <ℤ at 0 v
    by [] e = absurd (cc)
    by (x ∷ v) e = positive_number x e

all_marked : (rows : List FileRow) → AllByRecursion IsMarked (map (cone_row V) rows)
all_marked [] = tt
all_marked (row ∷ rows) = (is_marked row, all_marked rows)

added_is_marked : (n : ℕ) (rows : List Row) → AllByRecursion IsMarked (added_row V n rows)
added_is_marked n rows = by (list_any is_point_row rows)
  where
    by : (b : Bool) →
        AllByRecursion IsMarked (cond b [] (record { entries = first_unit n; linear = false; point = true } ∷ []))
    by true = tt
    by false = (λ e. omega (arith, ints), tt)

cone_is_marked : (kind : Kind) (n : ℕ) (rows : List FileRow) → kind ≡ V →
    AllByRecursion IsMarked (map (cone_row kind) rows ++ added_row kind n (map (cone_row kind) rows))
cone_is_marked H n rows e = absurd (cc)
cone_is_marked V n rows e =
    all_both IsMarked (map (cone_row V) rows) (added_row V n (map (cone_row V) rows)) (all_marked rows)
    (added_is_marked n (map (cone_row V) rows))

module _ (p : Polyhedron) where
  not_touched : p.kind ≡ V → TouchesPoint (cone_of p) (first_unit p.n) → ⊥
  not_touched e t =
      positive_nonzero (at 0 t.row.entries)
      (all_at IsMarked (cone_of p).rows (cone_is_marked p.kind p.n (all_rows p) e) t.row t.within t.point)
      (sym (first_unit_reads p.n t.row.entries) ∙ dot_comm (first_unit p.n) t.row.entries ∙ t.tight)

  pub first_unit_is_not_shown : p.kind ≡ V → IsShown p.kind (cone_of p) (first_unit p.n) → ⊥
  first_unit_is_not_shown e s = not_touched e (subst (λ kind. IsShown kind (cone_of p) (first_unit p.n)) e s)
