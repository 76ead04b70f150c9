-- The columns of a dictionary, as vectors over the coordinates of the cone.
use Rattle.std.proofs.Common.{◌≡◌, ℕ, suc, ◌+◌, ◌<◌, [], ◌∷◌, ℤ, ◌*ℤ◌, map, length, refl, sym, ap, subst, ◌∙◌, arith}
use Rattle.std.specs.List.{range_with_len}
use Rattle.poly_num.specs.Vectors.{Vector, ◌·◌, scale}
use Rattle.poly_num.proofs.Ring.{mul_comm}
use Rattle.poly_model.specs.Systems.{Polyhedron}
use Rattle.poly_model.specs.Cones.{at}
use Rattle.poly_model.specs.Spaces.{Space}
use Rattle.dictionary.specs.Views.{Dictionary, IsDictionaryIn}
use Rattle.hull_lift.specs.Facets.{coordinate_in, column_of}
use Rattle.poly_model.specs.Labels.{constant_label}
use Rattle.hull_lift.specs.Laws.{IsInColumn, ColumnVectors}
use Rattle.hull_lift.proofs.ColumnNumbers.{Has, along, at_point}
use Rattle.hull_lift.proofs.SpaceVectors.{IsOver, over_phase}

-- a vector that is, over e, x times f entry by entry
pub scaled : (f : ℕ → ℤ) (e x : ℤ) (a : ℕ) (v : Vector) → ((j : ℕ) → j < length v → e *ℤ at j v ≡ f (a + j) *ℤ x) →
    scale e v ≡ scale x (map f (range_with_len a (length v)))
scaled f e x a [] h = refl
scaled f e x a (y ∷ v) h =
    let here : a + 0 ≡ a = omega arith in
    let first : e *ℤ y ≡ x *ℤ f a = h 0 (omega arith) ∙ ap (λ i. f i *ℤ x) here ∙ mul_comm (f a) x in
    let rest = scaled f e x (a + 1) v (λ j l.
    let next : a + suc j ≡ a + 1 + j = omega arith in
    h (suc j) (omega arith) ∙ ap (λ i. f i *ℤ x) next) in
    cc

module _ (p : Polyhedron) (space : Space) (d : Dictionary) (is : IsDictionaryIn space d) where
  in_column : (col : ℕ) (y : Vector) (x : ℤ) → IsOver p space y → ((j : ℕ) → Has space d is col y x j) →
      IsInColumn p space d col y x
  in_column col y x over has = record {
    vector = over.vector;
    width = over.width;
    values = over.values;
    column = subst (λ n. scale d.denominator over.vector ≡ scale x (column_of d col n)) over.width
        (scaled (coordinate_in d col) d.denominator x 0 over.vector
        (λ j l.
        let within : j < p.n = omega (arith, over.width) in
        let none : j ≡ 0 + j = omega arith in
        ap (λ t. d.denominator *ℤ t) (sym (over.coordinates j within)) ∙ has j
        ∙ ap (λ i. coordinate_in d col i *ℤ x) none));
  }

pub column_vectors : ColumnVectors
column_vectors p phase space n of d is = record {
  ray = λ col c m z a. in_column p space d is col z (space.form col · z)
      (over_phase p phase space n of z a.direction.inside) (along space d is col c m z a);
  point = λ y a. in_column p space d is constant_label y (space.infinity · y)
      (over_phase p phase space n of y a.inside) (at_point space d is y a);
}
