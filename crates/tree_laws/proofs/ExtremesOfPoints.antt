-- The extreme vectors of the cone of a V file are, behind an entry 0 for constants, those of its main space.
use Rattle.std.proofs.Common.{◌≡◌, ℕ, suc, ◌<◌, true, false, List, [], ◌∷◌, ℤ, pos, ◌*ℤ◌, map, length, get_or, refl, sym, ap, subst, ◌∙◌, ⊎_elim, arith}
use Rattle.std.specs.Prelude.{◌≤ℤ◌}
use Rattle.std.specs.List.{All, Contains}
use Rattle.std.proofs.lemmas.Bool.{cases_Bool}
use Rattle.std.proofs.lemmas.Int.{ints}
use Rattle.std.proofs.lemmas.Nat.Gcd.{dvd-zero}
use Rattle.std.proofs.lemmas.List.Elements.{All-from_get_or}
use Rattle.poly_num.specs.Vectors.{Vector, ◌·◌, IsPrimitive, IsMultipleOf}
use Rattle.poly_num.proofs.Ring.{mul_zero}
use Rattle.poly_model.specs.declared.kind.Kind.TheVariants.{V}
use Rattle.poly_model.specs.Independence.{Vanish}
use Rattle.poly_model.specs.Systems.{Row, no_row, System, Polyhedron, cone_of}
use Rattle.poly_model.specs.Cones.{at, coordinate, Meets, IsTight}
use Rattle.poly_model.specs.FreeColumns.{AreFreeColumns}
use Rattle.poly_model.specs.Extreme.{IsOnFace, IsShown, IsExtreme}
use Rattle.poly_model.specs.Spaces.{Space, IsInside, in_front, label_form}
use Rattle.poly_model.specs.LexOrder.{rows_in}
use Rattle.poly_model.specs.Tree.{IsExtremeIn}
use Rattle.poly_model.specs.Labels.{IsRow}
use Rattle.linear_laws.proofs.Entries.{coordinate_reads}
use Rattle.linear_laws.proofs.Members.{all_at}
use Rattle.linear_laws.proofs.AllLemmas.{all_weaker, all_from_map}
use Rattle.cone_laws.specs.Faces.{fixed_rows}
use Rattle.cone_laws.proofs.RowLemmas.{LinearRowsVanish, fixed_vanish, zero_at_fixed, linear_from_fixed}
use Rattle.cone_laws.proofs.ColumnLemmas.{zero_from_tight}
use Rattle.cone_laws.proofs.FaceLemmas.{linear_vanish_in_cone}
use Rattle.dictionary_laws.specs.Points.{RowsDetermine}
use Rattle.dictionary_laws.proofs.InFront.{with_front, vanish_in_front}
use Rattle.tree_laws.proofs.MainLabels.{main_in, meets_linear, meets_other, met_other, same_fixed, rows_from_forms, forms_from_rows}

-- ---- a vector with an entry in front
pub behind_vanish : (gs : List Vector) (x : ℤ) (v : Vector) → Vanish (map in_front gs) (x ∷ v) → Vanish gs v
behind_vanish gs x v h =
    all_weaker (λ g. in_front g · (x ∷ v) ≡ pos 0) (λ g. g · v ≡ pos 0) (λ g e. sym (with_front g x v) ∙ e) gs
    (all_from_map (λ g. g · (x ∷ v) ≡ pos 0) in_front gs h)

front_primitive : (v : Vector) → IsPrimitive v → IsPrimitive (pos 0 ∷ v)
front_primitive v h = (λ z. h.0 z.1, λ d l k. h.1 d l k.1)

behind_primitive : (v : Vector) → IsPrimitive (pos 0 ∷ v) → IsPrimitive v
behind_primitive v h = (λ z. h.0 (refl, z), λ d l k. h.1 d l (dvd-zero d, k))

first_value : (x : ℤ) (v : Vector) → coordinate 0 · (x ∷ v) ≡ x
first_value x v = coordinate_reads 0 (x ∷ v)

behind_multiple : (v w : Vector) (x : ℤ) → IsMultipleOf (pos 0 ∷ v) (x ∷ w) → IsMultipleOf v w
behind_multiple v w x m = (m.0, m.1, m.2, let h = m.3 in cc)

front_multiple : (v w : Vector) (x : ℤ) → x ≡ pos 0 → IsMultipleOf v w → IsMultipleOf (pos 0 ∷ v) (x ∷ w)
front_multiple v w x e m = (
  m.0,
  m.1,
  m.2,
  let h = m.3 in
      let f : m.0 *ℤ x ≡ m.1 *ℤ pos 0 = ap (λ t. m.0 *ℤ t) e ∙ mul_zero m.0 ∙ sym (mul_zero m.1) in
      cc,
)

module _ (p : Polyhedron) (free : List ℕ) (f : AreFreeColumns (cone_of p) free)
    (few : IsRow (length (cone_of p).rows)) where
  abbrev sys : System
  sys = cone_of p

  abbrev rows : List Row
  rows = sys.rows

  abbrev space : Space
  space = main_in V p free

  is_fixed : (x : ℤ) (z : Vector) → ((j : ℕ) → Contains free j → at j z ≡ pos 0) → LinearRowsVanish rows z →
      Vanish space.fixed (x ∷ z)
  is_fixed x z h l =
      subst (λ gs. Vanish (map in_front gs) (x ∷ z)) (same_fixed p free)
      (vanish_in_front (fixed_rows free sys) x z (fixed_vanish free sys z h l))

  by_fixed : (x : ℤ) (z : Vector) → Vanish space.fixed (x ∷ z) → Vanish (fixed_rows free sys) z
  by_fixed x z v =
      behind_vanish (fixed_rows free sys) x z
      (subst (λ gs. Vanish (map in_front gs) (x ∷ z)) (sym (same_fixed p free)) v)

  -- values of rows, behind the entry in front
  form_facts : (P : ℤ → Type 0) (x : ℤ) (z : Vector) →
      ((i : ℕ) → Contains (rows_in space.labels) i → P (space.form i · (x ∷ z))) →
      (m : ℕ) → m < length rows → (get_or rows m no_row).linear ≡ false → P ((get_or rows m no_row).entries · z)
  form_facts P x z h =
      rows_from_forms rows rows (λ m l. refl) few 0 p.n (λ g. P (g · z))
      (λ i c. subst P (with_front (label_form rows i) x z) (h i c))

  facts_of_forms : (P : ℤ → Type 0) (x : ℤ) (z : Vector) → ((m : ℕ) → m < length rows →
      (get_or rows m no_row).linear ≡ false → P ((get_or rows m no_row).entries · z)) →
      (i : ℕ) → Contains (rows_in space.labels) i → P (space.form i · (x ∷ z))
  facts_of_forms P x z h i c =
      subst P (sym (with_front (label_form rows i) x z))
      (forms_from_rows rows rows (λ m l. refl) few 0 p.n (λ g. P (g · z)) h i c)

  -- ---- a direction that is 0 on all rows of the space is so on those of the cone: the rows determine a direction
  all_tight : (x : ℤ) (z : Vector) → IsInside space (x ∷ z) →
      ((i : ℕ) → Contains (rows_in space.labels) i → space.form i · (x ∷ z) ≡ pos 0) → All (IsTight z) rows
  all_tight x z i others = All-from_get_or (IsTight z) rows no_row (λ m l. ⊎_elim
      (λ (t : (get_or rows m no_row).linear ≡ true).
      linear_from_fixed free sys z (by_fixed x z i.fixed) m no_row l t)
      (λ (n : (get_or rows m no_row).linear ≡ false). form_facts (λ v. v ≡ pos 0) x z others m l n)
      (cases_Bool (get_or rows m no_row).linear))

  pub rows_determine : RowsDetermine space
  rows_determine [] d v = absurd (let w = IsInside.width d.inside in omega arith)
  rows_determine (x ∷ z) d v = (
    sym (first_value x z) ∙ d.level,
    zero_from_tight sys z (let w = IsInside.width d.inside in omega arith)
        (all_tight x z d.inside (all_at (λ k. space.form k · (x ∷ z) ≡ pos 0) (rows_in space.labels) v))
        (λ j q. zero_at_fixed free sys z (by_fixed x z (IsInside.fixed d.inside)) j ((f.exactly j).0 q)),
  )

  -- ---- from the cone to the space
  module _ (y : Vector) (e : IsExtreme sys y) where
    on_face : (x : ℤ) (z : Vector) → IsInside space (x ∷ z) →
        ((i : ℕ) → Contains (rows_in space.labels) i → space.form i · (pos 0 ∷ y) ≡ pos 0 →
        space.form i · (x ∷ z) ≡ pos 0) →
        IsOnFace sys y z
    on_face x z i others = record {
      width = let w = i.width in omega arith;
      free = λ j q. zero_at_fixed free sys z (by_fixed x z i.fixed) j ((f.exactly j).0 q);
      linear = linear_from_fixed free sys z (by_fixed x z i.fixed);
      tight = All-from_get_or (λ row. IsTight y row → IsTight z row) rows no_row (λ m l. ⊎_elim
          (λ (t : (get_or rows m no_row).linear ≡ true) _.
          linear_from_fixed free sys z (by_fixed x z i.fixed) m no_row l t)
          (λ (n : (get_or rows m no_row).linear ≡ false).
          rows_from_forms rows rows (λ m l. refl) few 0 p.n (λ g. g · y ≡ pos 0 → g · z ≡ pos 0)
          (λ k c t. sym (with_front (label_form rows k) x z)
          ∙ others k c (with_front (label_form rows k) (pos 0) y ∙ t)) m l n)
          (cases_Bool (get_or rows m no_row).linear));
    }

    alone_behind : (z : Vector) → IsInside space z →
        (space.infinity · (pos 0 ∷ y) ≡ pos 0 → space.infinity · z ≡ pos 0) →
        ((i : ℕ) → Contains (rows_in space.labels) i → space.form i · (pos 0 ∷ y) ≡ pos 0 → space.form i · z ≡ pos 0) →
        IsMultipleOf (pos 0 ∷ y) z
    alone_behind [] i top others = absurd (let w = i.width in omega arith)
    alone_behind (x ∷ z) i top others =
        front_multiple y z x (sym (first_value x z) ∙ top (first_value (pos 0) y)) (e.alone z (on_face x z i others))

    pub extreme_in_space : IsExtremeIn space (pos 0 ∷ y)
    extreme_in_space = record {
      primitive = front_primitive y e.primitive;
      inside = record {
        width = ap suc e.in_cone.width;
        fixed = is_fixed (pos 0) y (λ j c. e.free j ((f.exactly j).1 c)) (linear_vanish_in_cone sys y e.in_cone);
      };
      finite = subst (λ (x : ℤ). pos 0 ≤ℤ x) (sym (first_value (pos 0) y)) (omega (arith, ints));
      rows = facts_of_forms (λ x. pos 0 ≤ℤ x) (pos 0) y
          (λ m l n. met_other y (get_or rows m no_row) n (e.in_cone.meets m no_row l));
      alone = alone_behind;
    }

  -- ---- from the space to the cone
  module _ (y : Vector) (e : IsExtremeIn space (pos 0 ∷ y)) (shown : IsShown V sys y) where
    meets_all : All (Meets y) rows
    meets_all = All-from_get_or (Meets y) rows no_row (λ m l. ⊎_elim
        (λ (t : (get_or rows m no_row).linear ≡ true).
        meets_linear y (get_or rows m no_row) t
        (linear_from_fixed free sys y (by_fixed (pos 0) y e.inside.fixed) m no_row l t))
        (λ (n : (get_or rows m no_row).linear ≡ false).
        meets_other y (get_or rows m no_row) n (form_facts (λ x. pos 0 ≤ℤ x) (pos 0) y e.rows m l n))
        (cases_Bool (get_or rows m no_row).linear))

    alone_on_face : (z : Vector) → IsOnFace sys y z → IsMultipleOf y z
    alone_on_face z h =
        behind_multiple y z (pos 0) (e.alone (pos 0 ∷ z)
        (record {
          width = ap suc h.width;
          fixed = is_fixed (pos 0) z (λ j c. h.free j ((f.exactly j).1 c)) h.linear;
        })
        (λ _. first_value (pos 0) z)
        (λ i c t. with_front (label_form rows i) (pos 0) z
        ∙ forms_from_rows rows rows (λ m l. refl) few 0 p.n (λ g. g · y ≡ pos 0 → g · z ≡ pos 0)
        (λ m l _. h.tight m no_row l) i c (sym (with_front (label_form rows i) (pos 0) y) ∙ t)))

    pub extreme_of_space : p.kind ≡ V → IsExtreme sys y
    extreme_of_space kind = record {
      primitive = behind_primitive y e.primitive;
      free = λ j q. zero_at_fixed free sys y (by_fixed (pos 0) y e.inside.fixed) j ((f.exactly j).0 q);
      in_cone = record { width = let w = e.inside.width in omega arith; meets = meets_all };
      alone = alone_on_face;
      shown = subst (λ k. IsShown k sys y) (sym kind) shown;
    }
