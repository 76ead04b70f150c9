-- Where one label is left: the primitive vector of its column, its opposite, and what is shown.
use Rattle.std.proofs.Common.{◌≡◌, ◌≢◌, ◌↔◌, ⊎_elim, Bool, ℕ, suc, ◌-◌, ◌<◌, ◌≤◌, ℤ, pos, neg_ℤ, ◌*ℤ◌, ◌<ℤ◌, List, [], ◌∷◌, length, get_or, sym, ap, subst, ◌∙◌, arith}
use Rattle.std.specs.Prelude.{◌≤ℤ◌, int_div}
use Rattle.std.specs.List.{Contains}
use Rattle.std.proofs.lemmas.Int.{ints}
use Rattle.std.proofs.lemmas.List.{get_or-map, get_or_default, length-map}
use Rattle.std.proofs.lemmas.List.Elements.{Contains-get_or}
use Rattle.poly_num.specs.Vectors.{Vector, ◌·◌, IsPrimitive, IsMultipleOf}
use Rattle.poly_num.specs.Divisors.{MakesPrimitive, gcd_of_all}
use Rattle.poly_num.proofs.Ring.{mul_zero, mul-neg, neg-mul, one_mul}
use Rattle.poly_num.proofs.Order.{zero_factor, positive_nonzero, gives_at_most, keeps_at_most}
use Rattle.poly_num.proofs.VectorLemmas.{dot-scale, dot-neg, scale-one}
use Rattle.poly_num.proofs.PrimitiveLemmas.{MakesPrimitive-quotients, primitive-neg}
use Rattle.poly_model.specs.Independence.{Vanish}
use Rattle.poly_model.specs.declared.kind.Kind.{Kind}
use Rattle.poly_model.specs.declared.kind.Kind.TheVariants.{H, V}
use Rattle.poly_model.specs.Systems.{Row, row_of, no_row, Polyhedron, cone_of}
use Rattle.poly_model.specs.Extreme.{TouchesPoint, IsShown}
use Rattle.poly_model.specs.Dictionaries.{Table}
use Rattle.poly_model.proofs.RowLemmas.{row_from_one}
use Rattle.linear_laws.specs.Corners.{IsInConeOf}
use Rattle.linear_laws.proofs.Members.{all_at}
use Rattle.linear_laws.proofs.Proportions.{vanish_from_multiple, multiples_from_values}
use Rattle.linear_laws.proofs.Signs.{minus_zero}
use Rattle.dictionary.specs.Views.{Dictionary, table_of}
use Rattle.hull_lift.specs.Facets.{primitive_column, column_of, IsTouchedAt, IsShownAs}
use Rattle.listing_laws.specs.ListedCone.{ListedCone, row_at, IsListable, IsConeOf}
use Rattle.listing_laws.specs.Lists.{Lists}
use Rattle.listing_laws.specs.Prefixes.{marked_labels, IsCornerUnder}
use Rattle.listing_laws.specs.Directions.{PassesLocalTest, IsShownAlong}
use Rattle.listing_laws.proofs.FirstLists.{labels_within}
use Rattle.listing_laws.proofs.ListLemmas.{all_members, lists_none}
use Rattle.listing_laws.proofs.AlongLemmas.{up_to_sign}
use Rattle.listing_laws.proofs.ConeLemmas.{is_listable}
use Rattle.listing_laws.proofs.ShownLemmas.{under_is_tested, one_if_it_passes}
use Rattle.plain_enum.specs.declared.side.Side.{Side}
use Rattle.plain_enum.specs.declared.side.Side.TheVariants.{Along, Against}
use Rattle.plain_enum.specs.Columns.{IsOnSide, IsFirst}
use Rattle.plain_enum.specs.Shown.{IsShownOn, vector_on}
use Rattle.plain_enum.specs.Standing.{StandsAt, LeavesColumn}
use Rattle.plain_enum.proofs.Parts.{in_second}
use Rattle.plain_enum.proofs.RowsTaken.{as_many}
use Rattle.plain_enum.proofs.FixedLabels.{FixedAre, taken_not_linear, is_taken}
use Rattle.plain_enum.proofs.OneLeft.{test_by_entries}

-- ---- signs under a positive factor
-- the number, or its opposite
abbrev sign_on : Side → ℤ → ℤ
sign_on Along e = e
sign_on Against e = neg_ℤ e

not_negative : (p x e : ℤ) → pos 0 <ℤ p → p *ℤ x ≡ e → pos 0 ≤ℤ e → pos 0 ≤ℤ x
not_negative p x e h m l =
    gives_at_most p (pos 0) x h (subst (λ t. t ≤ℤ (p *ℤ x)) (sym (mul_zero p)) (subst (λ t. pos 0 ≤ℤ t) (sym m) l))

not_negative_back : (p x e : ℤ) → pos 0 <ℤ p → p *ℤ x ≡ e → pos 0 ≤ℤ x → pos 0 ≤ℤ e
not_negative_back p x e h m l =
    subst (λ t. pos 0 ≤ℤ t) m (subst (λ t. t ≤ℤ (p *ℤ x)) (mul_zero p) (keeps_at_most p (pos 0) x h l))

module _ (p : Polyhedron) (cone : ListedCone) (free : List ℕ) (d : Dictionary)
    (fixed : List ℕ) (k : ℕ) (marks : List Bool) (stands : StandsAt p cone d fixed (k ∷ []) marks)
    (are : FixedAre (cone_of p).rows free d fixed)
    (s : LeavesColumn p cone d marks k) (listed : IsConeOf (cone_of p) cone) where
  abbrev z : Vector
  z = column_of d k p.n

  abbrev y : Vector
  y = primitive_column d k p.n

  made : MakesPrimitive z y
  made = MakesPrimitive-quotients z

  abbrev g : ℤ
  g = pos made.factor.0

  positive : pos 0 <ℤ g
  positive = let l = made.factor.1 in omega (arith, ints)

  nonzero : g ≢ pos 0
  nonzero = positive_nonzero g positive

  primitive_on : (side : Side) → IsPrimitive (vector_on side y)
  primitive_on Along = made.primitive s.leaves.left.nonzero
  primitive_on Against = primitive-neg y (made.primitive s.leaves.left.nonzero)

  -- ---- values
  value : (row : Vector) → g *ℤ (row · y) ≡ row · z
  value row = sym (dot-scale row g y) ∙ ap (λ v. row · v) (sym made.factor.2)

  value_on : (side : Side) (row : Vector) → g *ℤ (row · vector_on side y) ≡ sign_on side (row · z)
  value_on Along row = value row
  value_on Against row =
      ap (λ t. g *ℤ t) (dot-neg row y) ∙ mul-neg g (row · y) ∙ ap neg_ℤ (value row)

  entry_on : (side : Side) (i : ℕ) → 0 < i → i ≤ length cone.rows →
      g *ℤ (row_at cone i · vector_on side y) ≡ sign_on side (Table.entry (table_of d) i k)
  entry_on side i a b = value_on side (row_at cone i) ∙ ap (sign_on side) (s.at_left i a b)

  width : length y ≡ length z
  width = length-map z (λ x. int_div x (pos (gcd_of_all z)))

  width_on : (side : Side) → length (vector_on side y) ≡ length z
  width_on Along = width
  width_on Against = length-map y neg_ℤ ∙ width

  -- ---- multiples of the column
  along_on : (side : Side) → IsMultipleOf z (vector_on side y)
  along_on Along = (g, pos 1, nonzero, sym made.factor.2 ∙ sym (scale-one z))
  along_on Against = (
    g,
    neg_ℤ (pos 1),
    nonzero,
    multiples_from_values g (neg_ℤ (pos 1)) (vector_on Against y) z (width_on Against)
        (λ row. value_on Against row ∙ opposite (row · z)),
  )
    where
      opposite : (x : ℤ) → neg_ℤ x ≡ neg_ℤ (pos 1) *ℤ x
      opposite x = sym (neg-mul (pos 1) x ∙ ap neg_ℤ (one_mul x))

  -- ---- in the cone
  below : (i : ℕ) → i ≤ length cone.rows → i ≤ length (cone_of p).rows
  below i l = omega (arith, as_many p cone stands.over)

  back_below : (i : ℕ) → i ≤ length (cone_of p).rows → i ≤ length cone.rows
  back_below i l = omega (arith, as_many p cone stands.over)

  vanish_on : (side : Side) → Vanish cone.base (vector_on side y)
  vanish_on side =
      let m = along_on side in
      vanish_from_multiple m.0 m.1 (vector_on side y) z m.2 m.3 cone.base s.leaves.left.base

  -- the sign of each row, by its entry
  sign_there : (side : Side) → IsOnSide d (length (cone_of p).rows) k side → (i : ℕ) → 0 < i → i ≤ length
      (cone_of p).rows →
      pos 0 ≤ℤ sign_on side (Table.entry (table_of d) i k)
  sign_there Along h i a b = h i a b
  sign_there Against h i a b = let e = h i a b in omega (arith, ints)

  sign_back : (side : Side) →
      ((i : ℕ) → 0 < i → i ≤ length (cone_of p).rows → pos 0 ≤ℤ sign_on side (Table.entry (table_of d) i k)) →
      IsOnSide d (length (cone_of p).rows) k side
  sign_back Along h = h
  sign_back Against h = λ i a b. let e = h i a b in omega (arith, ints)

  row_here : (x : Vector) (c : Contains cone.rows x) → row_at cone (suc c.0) ≡ x
  row_here x (m, l, e) =
      let place : suc m - 1 ≡ m = omega arith in
      ap (λ j. get_or cone.rows j []) place ∙ get_or_default cone.rows m [] x l ∙ e

  in_cone_on : (side : Side) → IsOnSide d (length (cone_of p).rows) k side →
      IsInConeOf cone.n cone.base cone.rows (vector_on side y)
  in_cone_on side h = record {
    width = width_on side ∙ s.leaves.left.width;
    vanishing = vanish_on side;
    nonnegative = all_members (λ row. pos 0 ≤ℤ (row · vector_on side y)) cone.rows
        (λ row c. subst (λ t. pos 0 ≤ℤ (t · vector_on side y)) (row_here row c)
        (at_least (suc c.0) (omega arith) (let l = c.1 in omega arith)));
  }
    where
      at_least : (i : ℕ) → 0 < i → i ≤ length cone.rows → pos 0 ≤ℤ (row_at cone i · vector_on side y)
      at_least i a b =
          not_negative g (row_at cone i · vector_on side y) (sign_on side (Table.entry (table_of d) i k)) positive
          (entry_on side i a b) (sign_there side h i a (below i b))

  side_of_cone : (side : Side) → IsInConeOf cone.n cone.base cone.rows (vector_on side y) →
      IsOnSide d (length (cone_of p).rows) k side
  side_of_cone side h = sign_back side at_least
    where
      at_least : (i : ℕ) → 0 < i → i ≤ length (cone_of p).rows → pos 0 ≤ℤ sign_on side (Table.entry (table_of d) i k)
      at_least i a b =
          not_negative_back g (row_at cone i · vector_on side y) (sign_on side (Table.entry (table_of d) i k)) positive
          (entry_on side i a (back_below i b))
          (all_at (λ row. pos 0 ≤ℤ (row · vector_on side y)) cone.rows h.nonnegative (row_at cone i)
          (Contains-get_or cone.rows (i - 1) [] (omega (arith, back_below i b))))

  -- ---- the local test
  test_there : IsFirst (cone_of p).rows d (length (cone_of p).rows) k →
      PassesLocalTest cone (marked_labels marks) s.leaves.duals z
  test_there h =
      (test_by_entries p cone d marks k s).1
      (λ i a e j c l.
      let top = (labels_within 1 marks j c).1 in
      let within = stands.within in
      let few = stands.over.few in
      h i a (below i (omega arith)) e j
      (stands.key.back j (in_second fixed (marked_labels marks) (k ∷ []) j c))
      (omega (arith, as_many p cone stands.over))
      (taken_not_linear p cone d fixed (k ∷ []) marks stands (cone_of p).rows free are j c) l)

  test_back : PassesLocalTest cone (marked_labels marks) s.leaves.duals z →
      IsFirst (cone_of p).rows d (length (cone_of p).rows) k
  test_back h i a b e j c low n l =
      (test_by_entries p cone d marks k s).0 h i a e j
      (is_taken p cone d fixed (k ∷ []) marks stands (cone_of p).rows free are j c low n) l

  -- ---- shown
  zero_back : (e : ℤ) (side : Side) → sign_on side e ≡ pos 0 → e ≡ pos 0
  zero_back e Along h = h
  zero_back e Against h = minus_zero e h

  zero_there : (e : ℤ) (side : Side) → e ≡ pos 0 → sign_on side e ≡ pos 0
  zero_there e Along h = h
  zero_there e Against h = ap neg_ℤ h

  entries_of : (i : ℕ) → 0 < i → i ≤ length (cone_of p).rows → (row_of (cone_of p).rows i).entries ≡ row_at cone i
  entries_of i a b =
      sym (ap (λ gs. get_or gs (i - 1) []) stands.over.rows
      ∙ get_or-map (λ (row : Row). row.entries) (cone_of p).rows (i - 1) no_row [] (omega arith)
      ∙ ap (λ (row : Row). row.entries) (sym (row_from_one (cone_of p).rows i a)))

  touches_there : (side : Side) → (i : ℕ) × IsTouchedAt (cone_of p) d k i → TouchesPoint (cone_of p) (vector_on side y)
  touches_there side (i, t) =
      let a = t.from_one in
      let b = t.within in
      record {
        row = row_of (cone_of p).rows i;
        within = subst (Contains (cone_of p).rows) (sym (row_from_one (cone_of p).rows i a))
            (Contains-get_or (cone_of p).rows (i - 1) no_row (omega arith));
        point = t.point;
        tight = ap (λ v. v · vector_on side y) (entries_of i a b)
            ∙ zero_factor g (row_at cone i · vector_on side y)
            (entry_on side i a (back_below i b) ∙ zero_there (Table.entry (table_of d) i k) side t.zero) nonzero;
      }

  touches_back : (side : Side) → TouchesPoint (cone_of p) (vector_on side y) → (i : ℕ) × IsTouchedAt (cone_of p) d k i
  touches_back side t =
      let m = t.within.0 in
      let lt : m < length (cone_of p).rows = t.within.1 in
      let same : row_of (cone_of p).rows (suc m) ≡ t.row =
      get_or_default (cone_of p).rows m no_row t.row lt ∙ t.within.2 in
      let b : suc m ≤ length (cone_of p).rows = omega arith in
      let tight : row_at cone (suc m) · vector_on side y ≡ pos 0 =
      ap (λ v. v · vector_on side y) (sym (entries_of (suc m) (omega arith) b))
      ∙ ap (λ (r : Row). r.entries · vector_on side y) same ∙ t.tight in (
        suc m,
        record {
          from_one = omega arith;
          within = b;
          point = ap (λ (r : Row). r.point) same ∙ t.point;
          zero = zero_back (Table.entry (table_of d) (suc m) k) side
              (sym (entry_on side (suc m) (omega arith) (back_below (suc m) b)) ∙ ap (λ x. g *ℤ x) tight ∙ mul_zero g);
        },
      )

  shown_as : (side : Side) (kind : Kind) → IsShownAs kind (cone_of p) d k ↔ IsShown kind (cone_of p) (vector_on side y)
  shown_as side H = (λ u. u, λ u. u)
  shown_as side V = (touches_there side, touches_back side)

  -- ---- what is under the prefix
  listable : IsListable cone
  listable = is_listable (cone_of p) cone listed

  pub one_on : (side : Side) → IsShownOn (cone_of p) d k side → Lists (IsCornerUnder cone marks) (vector_on side y ∷ [])
  one_on side h =
      one_if_it_passes cone listable marks z s.leaves (test_there h.first) (vector_on side y)
      (record {
        primitive = primitive_on side;
        along = along_on side;
        in_cone = in_cone_on side h.on_side;
        shown = (listed.shows (vector_on side y)).1 ((shown_as side p.kind).0 h.shown);
      })

  pub none_on : ((side : Side) → IsShownOn (cone_of p) d k side → ⊥) → Lists (IsCornerUnder cone marks) []
  none_on n = lists_none (IsCornerUnder cone marks) (λ w u. none w ((under_is_tested cone listable marks z s.leaves w).0 u))
    where
      none_at : (side : Side) → IsShownAlong cone z (vector_on side y) → PassesLocalTest cone
          (marked_labels marks) s.leaves.duals z → ⊥
      none_at side a t =
          n side (record {
            on_side = side_of_cone side a.in_cone;
            first = test_back t;
            shown = (shown_as side p.kind).1 ((listed.shows (vector_on side y)).0 a.shown);
          })

      none : (w : Vector) → IsShownAlong cone z w × PassesLocalTest cone (marked_labels marks) s.leaves.duals z → ⊥
      none w (a, t) =
          ⊎_elim (λ e. none_at Along (subst (IsShownAlong cone z) e a) t)
          (λ e. none_at Against (subst (IsShownAlong cone z) e a) t)
          (up_to_sign y w z (primitive_on Along) (along_on Along) a.primitive a.along)
