-- Each example has a point: the origin, where it is given by inequalities.
use Rattle.std.proofs.Common.{◌≡◌, false, ℕ, ◌+◌, ◌-◌, ◌*◌, ◌<◌, ℤ, pos, List, [], ◌∷◌, ◌++◌, map, replicate, refl, sym, subst, ◌∙◌, arith}
use Rattle.std.specs.Prelude.{◌≤ℤ◌}
use Rattle.std.specs.List.{AllByRecursion}
use Rattle.std.proofs.lemmas.Int.{ints}
use Rattle.std.proofs.lemmas.List.{length-replicate}
use Rattle.std.proofs.lemmas.List.Elements.{All-from_recursion}
use Rattle.poly_num.specs.Vectors.{Vector, ◌·◌}
use Rattle.poly_num.proofs.VectorLemmas.{dot_comm, zeros-dot}
use Rattle.poly_model.specs.declared.kind.Kind.TheVariants.{H}
use Rattle.poly_model.specs.Cones.{at, Meets}
use Rattle.poly_model.specs.Extreme.{HasPoint, IsFeasible}
use Rattle.poly_model.specs.Systems.{Row, first_unit, cone_row, cone_of}
use Rattle.example_polys.specs.declared.kind.ExampleKind.{ExampleKind}
use Rattle.example_polys.specs.declared.kind.ExampleKind.TheVariants.{Cube, Cross, Product, Pyramid}
use Rattle.example_polys.specs.Examples.{one, minus_one, one_at, unit_rows, sides, pyramid, plain_row, example_of}
use Rattle.example_polys.proofs.EachRow.{all_both, all_rows, all_groups}

-- the constant of the inequality is not negative
abbrev AllowsOrigin : Vector → Type 0
AllowsOrigin row = pos 0 ≤ℤ at 0 row

row_at_origin : (n : ℕ) (row : Vector) → row · first_unit n ≡ at 0 row
row_at_origin n [] = refl
row_at_origin n (x ∷ v) =
    let rest = dot_comm v (replicate (n - 1) (pos 0)) ∙ zeros-dot (n - 1) v in omega (arith, ints, rest)

each_meets : (n : ℕ) (rows : List Vector) → AllByRecursion AllowsOrigin rows →
    AllByRecursion (Meets (first_unit n)) (map (cone_row H) (map plain_row rows))
each_meets n [] h = tt
each_meets n (row ∷ rows) h =
    (subst (λ x. pos 0 ≤ℤ x) (sym (row_at_origin n row)) h.0, each_meets n rows h.1)

-- the row at infinity too
all_meet : (n : ℕ) (rows : List Row) → AllByRecursion (Meets (first_unit n)) rows →
    AllByRecursion (Meets (first_unit n)) (rows ++ record { entries = first_unit n; linear = false; point = false } ∷ [])
all_meet n [] h =
    (subst (λ x. pos 0 ≤ℤ x) (sym (row_at_origin n (first_unit n))) (let l : pos 0 ≤ℤ pos 1 = omega (arith, ints) in l), tt)
all_meet n (row ∷ rows) h = (h.0, all_meet n rows h.1)

at_origin : (n : ℕ) → 0 < n → (rows : List Vector) → AllByRecursion AllowsOrigin rows →
    HasPoint (record {
      kind = H;
      n = n;
      rows = map (cone_row H) (map plain_row rows) ++ record { entries = first_unit n; linear = false; point = false } ∷ [];
    })
at_origin n some rows h = record {
  vector = first_unit n;
  in_cone = record {
    width = omega (arith, some, length-replicate (n - 1) (pos 0));
    meets = All-from_recursion (Meets (first_unit n)) _ (all_meet n (map (cone_row H) (map plain_row rows)) (each_meets n rows h));
  };
  positive = omega (arith, ints);
}

units_allow : (c : ℤ) (n : ℕ) (x : ℤ) → pos 0 ≤ℤ c → AllByRecursion AllowsOrigin (unit_rows c n x)
units_allow c n x h = all_rows AllowsOrigin (λ i. c ∷ one_at n i x) 0 n (λ i below. h)

pub has_point : (kind : ExampleKind) (n : ℕ) → IsFeasible (cone_of (example_of kind n))
has_point Cube n =
    at_origin (n + 1) (omega arith) _
    (all_both AllowsOrigin _ _ (units_allow (pos 0) n one (omega (arith, ints)))
    (units_allow one n minus_one (omega (arith, ints))))
has_point Cross n = tt
has_point Product n =
    at_origin (2 * n + 1) (omega arith) _
    (all_both AllowsOrigin _ _ (units_allow (pos 0) (2 * n) one (omega (arith, ints)))
    (omega (arith, ints), (omega (arith, ints), tt)))
has_point Pyramid n =
    at_origin (n + 2) (omega arith) (pyramid n) (
      omega (arith, ints),
      all_groups AllowsOrigin (sides n) 0 n (λ i below. (omega (arith, ints), (omega (arith, ints), tt))),
    )
