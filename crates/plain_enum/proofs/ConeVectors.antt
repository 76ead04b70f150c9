-- Vectors over the coordinates of a cone, and what a dictionary of the cone's space says of the labels' values there.
use Rattle.std.proofs.Common.{◌≡◌, ◌≢◌, ℕ, suc, List, [], ◌∷◌, ℤ, pos, ◌*ℤ◌, length, refl, sym, ap, ◌∙◌, arith}
use Rattle.std.specs.List.{Contains}
use Rattle.std.proofs.lemmas.List.FromFn.{length-map-range_with_len}
use Rattle.poly_num.specs.Vectors.{Vector, ◌·◌, IsZero}
use Rattle.poly_num.proofs.Order.{zero_factor, positive_nonzero}
use Rattle.poly_num.proofs.VectorLemmas.{dot-scale}
use Rattle.poly_model.specs.declared.overflow.Phase.TheVariants.{Cone}
use Rattle.poly_model.specs.Systems.{Polyhedron}
use Rattle.poly_model.specs.Spaces.{IsDirection, in_front, cone_space}
use Rattle.poly_model.specs.Dictionaries.{Table, IsCobasis, Writes, sum_over}
use Rattle.linear_laws.proofs.Entries.{coordinate_reads}
use Rattle.dictionary_laws.proofs.Duals.{Dual, dual_of}
use Rattle.dictionary_laws.proofs.Values.{level_value, terms, value_along, value_by_factor}
use Rattle.dictionary_laws.proofs.Members.{all_from, sum_zero}
use Rattle.dictionary_laws.proofs.InFront.{with_front}
use Rattle.dictionary.specs.Views.{table_of}
use Rattle.hull_lift.specs.Facets.{coordinate_in, column_of}
use Rattle.hull_lift.specs.Laws.{IsInColumn, HasColumns}
use Rattle.hull_lift.proofs.ColumnVectors.{column_vectors}
use Rattle.plain_enum.specs.Standing.{form_of}
use Rattle.plain_enum.specs.Laws.{ValuesAtColumns}

-- v, with 0 in front, is a direction of the cone's space
direction_of : (p : Polyhedron) (v : Vector) → length v ≡ p.n → IsDirection (cone_space p) (pos 0 ∷ v)
direction_of p v l = record {
  inside = record { width = ap suc l; fixed = tt };
  level = coordinate_reads 0 (pos 0 ∷ v);
}

-- a vector at which k is not 0, and the other labels of the key are
pub record DualOver (p : Polyhedron) (key : List ℕ) (k : ℕ) : Type 0 where
  pub vector : Vector
  pub width : length vector ≡ p.n
  pub here : form_of p k · vector ≢ pos 0
  pub elsewhere : (j : ℕ) → Contains key j → j ≢ k → form_of p j · vector ≡ pos 0

module _ (p : Polyhedron) where
  -- such a vector of the cone's space, without its first entry
  over : (key : List ℕ) (k : ℕ) (v : Vector) → length v ≡ suc p.n → in_front (form_of p k) · v ≢ pos 0 →
      ((j : ℕ) → Contains key j → j ≢ k → in_front (form_of p j) · v ≡ pos 0) → DualOver p key k
  over key k [] l h e = absurd (omega arith)
  over key k (x ∷ v) l h e = record {
    vector = v;
    width = omega arith;
    here = λ z. h (with_front (form_of p k) x v ∙ z);
    elsewhere = λ j c n. sym (with_front (form_of p j) x v) ∙ e j c n;
  }

  module _ (key : List ℕ) (cobasis : IsCobasis (cone_space p) key) where
    -- each label of a cobasis has one
    pub dual_over : (k : ℕ) → Contains key k → DualOver p key k
    dual_over k c =
        let d = dual_of (cone_space p) key cobasis k c in
        over key k d.vector d.direction.inside.width d.here d.elsewhere

    -- only zero is 0 at all labels of the key
    pub zero_over : (y : Vector) → length y ≡ p.n →
        ((k : ℕ) → Contains key k → form_of p k · y ≡ pos 0) → IsZero y
    zero_over y e h =
        (cobasis.enough (pos 0 ∷ y) (direction_of p y e)
        (all_from (λ k. (cone_space p).form k · (pos 0 ∷ y) ≡ pos 0) key
        (λ k c. with_front (form_of p k) (pos 0) y ∙ h k c))).1

    module _ (t : Table) (w : Writes (cone_space p) key t) where
      -- the value of a label where only k of the key is not 0
      pub value_at_dual : (i : ℕ) → Contains (cone_space p).labels i → (k : ℕ) → Contains key k →
          (d : DualOver p key k) →
          t.denominator *ℤ (form_of p i · d.vector)
          ≡ t.entry i k *ℤ (form_of p k · d.vector)
      value_at_dual i l k c d =
          ap (λ x. t.denominator *ℤ x) (sym (with_front (form_of p i) (pos 0) d.vector))
          ∙ value_along (cone_space p) key cobasis t w i l k c (pos 0 ∷ d.vector) (direction_of p d.vector d.width)
          (λ j h n. with_front (form_of p j) (pos 0) d.vector ∙ d.elsewhere j h n)
          ∙ ap (λ x. t.entry i k *ℤ x) (with_front (form_of p k) (pos 0) d.vector)

      -- a label is 0 at y where each term of its row is
      pub zero_by_terms : (i : ℕ) → Contains (cone_space p).labels i → (y : Vector) → length y ≡ p.n →
          ((k : ℕ) → Contains key k → t.entry i k *ℤ (form_of p k · y) ≡ pos 0) →
          form_of p i · y ≡ pos 0
      zero_by_terms i l y e h =
          let d = direction_of p y e in
          let x = sym (with_front (form_of p i) (pos 0) y) in
          zero_factor t.denominator (form_of p i · y)
          (ap (λ v. t.denominator *ℤ v) x
          ∙ level_value (t.constant i) ((cone_space p).infinity · (pos 0 ∷ y))
          (sum_over key (terms (cone_space p) t i (pos 0 ∷ y)))
          (t.denominator *ℤ ((cone_space p).form i · (pos 0 ∷ y))) d.level (w.values i l (pos 0 ∷ y) d.inside)
          ∙ sum_zero key (terms (cone_space p) t i (pos 0 ∷ y))
          (λ k c. ap (λ v. t.entry i k *ℤ v) (with_front (form_of p k) (pos 0) y) ∙ h k c))
          (positive_nonzero t.denominator w.positive)

-- ---- columns
pub values_at_columns : ValuesAtColumns
values_at_columns p d is col c l = record {
  width = length-map-range_with_len (coordinate_in d col) 0 p.n;
  values = λ i h. value_by_factor x d.denominator (form_of p i · along.vector)
      (form_of p i · column_of d col p.n) (Table.entry (table_of d) i col) dual.here
      (sym (dot-scale (form_of p i) d.denominator along.vector)
      ∙ ap (λ v. form_of p i · v) along.column
      ∙ dot-scale (form_of p i) x (column_of d col p.n))
      (ap (λ v. d.denominator *ℤ v) (sym (along.values i h))
      ∙ value_along (cone_space p) d.key is.dictionary.cobasis (table_of d) is.dictionary.writes i h col c dual.vector
      dual.direction dual.elsewhere);
}
  where
    dual : Dual (cone_space p) [] d.key col
    dual = dual_of (cone_space p) d.key is.dictionary.cobasis col c

    x : ℤ
    x = (cone_space p).form col · dual.vector

    along : IsInColumn p (cone_space p) d col dual.vector x
    along =
        let columns : HasColumns p (cone_space p) d = column_vectors p Cone (cone_space p) (λ e. cc) refl d is in
        columns.ray col c (λ e. omega (arith, e)) dual.vector
        (record { direction = dual.direction; others = dual.elsewhere })
