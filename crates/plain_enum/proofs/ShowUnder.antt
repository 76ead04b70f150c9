-- What is shown where the dictionary stands and one label is left: the one coordinate of the key that is not free.
use Rattle.std.proofs.Common.{◌≡◌, ⊎_elim, Bool, ℕ, ◌-◌, ◌<◌, ◌≤◌, List, [], ◌∷◌, length, map, refl, sym, ap, subst, ◌∙◌, arith}
use Rattle.std.specs.List.{Contains, range_with_len}
use Rattle.std.proofs.lemmas.List.Elements.{Contains-append_cases}
use Rattle.poly_num.specs.Vectors.{Vector}
use Rattle.poly_model.specs.Limits.{most_columns}
use Rattle.poly_model.specs.Systems.{System, Polyhedron, cone_of}
use Rattle.poly_model.specs.Spaces.{cone_space}
use Rattle.poly_model.specs.Labels.{coordinate_label, constant_label}
use Rattle.linear_laws.proofs.Members.{Contains-nil, Contains-first, Contains-cons_cases}
use Rattle.dictionary_laws.proofs.Filters.{range_only, map_only}
use Rattle.dictionary_laws.proofs.Values.{is_label}
use Rattle.dictionary.specs.Views.{Dictionary}
use Rattle.hull_lift.specs.Facets.{primitive_column}
use Rattle.listing_laws.specs.ListedCone.{ListedCone, IsConeOf}
use Rattle.listing_laws.specs.Lists.{Lists}
use Rattle.listing_laws.specs.Prefixes.{IsCornerUnder}
use Rattle.plain_enum.specs.declared.side.Side.{Side}
use Rattle.plain_enum.specs.Columns.{IsLeftCoordinate, LeavesNoCoordinate}
use Rattle.plain_enum.specs.Shown.{IsShownOn, vector_on}
use Rattle.plain_enum.specs.Listed.{IsAt}
use Rattle.plain_enum.specs.Standing.{StandsAt, LeavesColumn}
use Rattle.plain_enum.proofs.FixedLabels.{FixedAre, left_in_key, left_not_free, is_left}
use Rattle.plain_enum.proofs.OneLeft.{one_is_left}
use Rattle.plain_enum.proofs.ColumnShown.{one_on, none_on}

-- ---- the label that is left
one_only : (left : List ℕ) → length left ≡ 1 → (k : ℕ) × (left ≡ k ∷ [])
one_only [] e = absurd (omega (arith, e))
one_only (k ∷ []) e = (k, refl)
one_only (k ∷ j ∷ ks) e = absurd (omega (arith, e))

module _ (sys : System) (free : List ℕ) (d : Dictionary) (from : ℕ) (p : Polyhedron)
    (cone : ListedCone) (fixed left : List ℕ) (marks : List Bool)
    (at : IsAt sys free d from 0 p cone fixed left marks) where
  abbrev k : ℕ
  k = (one_only left at.count).0

  stands : StandsAt p cone d fixed (k ∷ []) marks
  stands = subst (λ ks. StandsAt p cone d fixed ks marks) (one_only left at.count).1 at.stands

  in_key : Contains d.key k
  in_key = left_in_key p cone d fixed (k ∷ []) marks stands k (Contains-first k [])

  pub has_coordinate : LeavesNoCoordinate d free → ⊥
  has_coordinate none =
      none k in_key (stands.coordinates k (Contains-first k []))
      (left_not_free p cone d fixed (k ∷ []) marks stands sys.rows free at.fixed_are k (Contains-first k []))

  -- a coordinate of the key that is not free is the one that is left
  is_the_one : (col : ℕ) → IsLeftCoordinate d free col → col ≡ k
  is_the_one col l =
      ⊎_elim (λ e. sym e) (λ n. absurd (Contains-nil col n))
      (Contains-cons_cases col k []
      (is_left p cone d fixed (k ∷ []) marks stands sys.rows free at.fixed_are col l.inside l.coordinate l.not_free))

  left_below : p.n ≤ most_columns → k < constant_label
  left_below narrow =
      ⊎_elim
      (λ c. let r = (range_only 1 (length (cone_of p).rows) k c).1 in let few = stands.over.few in omega arith)
      (λ c.
      let m = map_only coordinate_label (range_with_len 0 (p.n - 0)) k c in
      let r = (range_only 0 (p.n - 0) m.0 m.1).1 in
      let e = m.2 in
      omega arith)
      (Contains-append_cases (range_with_len 1 (length (cone_of p).rows))
      (map coordinate_label (range_with_len 0 (p.n - 0))) k
      (is_label (cone_space p) d.key stands.dictionary.dictionary.cobasis k in_key))

  module _ (narrow : sys.n ≤ most_columns) (col : ℕ) (is : IsLeftCoordinate d free col) where
    same_width : sys.n ≡ p.n
    same_width = ap (λ (s : System). s.n) at.file

    leaves : LeavesColumn p cone d marks k
    leaves = one_is_left p cone d fixed k marks stands (left_below (subst (λ n. n ≤ most_columns) same_width narrow))

    are : FixedAre (cone_of p).rows free d fixed
    are = subst (λ (s : System). FixedAre s.rows free d fixed) at.file at.fixed_are

    listed : IsConeOf (cone_of p) cone
    listed = subst (λ s. IsConeOf s cone) at.file at.is_cone

    pub nothing_here : ((side : Side) → IsShownOn sys d col side → ⊥) → Lists (IsCornerUnder cone marks) []
    nothing_here n =
        none_on p cone free d fixed k marks stands are leaves listed
        (λ side h. n side (subst (λ s. IsShownOn s d col side) (sym at.file)
        (subst (λ j. IsShownOn (cone_of p) d j side) (sym (is_the_one col is)) h)))

    pub one_here : (side : Side) → IsShownOn sys d col side →
        Lists (IsCornerUnder cone marks) (vector_on side (primitive_column d col sys.n) ∷ [])
    one_here side h =
        subst (λ n. Lists (IsCornerUnder cone marks) (vector_on side (primitive_column d col n) ∷ [])) (sym same_width)
        (subst (λ j. Lists (IsCornerUnder cone marks) (vector_on side (primitive_column d j p.n) ∷ []))
        (sym (is_the_one col is))
        (one_on p cone free d fixed k marks stands are leaves listed side
        (subst (λ j. IsShownOn (cone_of p) d j side) (is_the_one col is)
        (subst (λ s. IsShownOn s d col side) at.file h))))

    -- and so is one that is written as the vector of the column
    pub one_written : (side : Side) → IsShownOn sys d col side → (n : ℕ) → n ≡ sys.n → (vector : Vector) →
        vector ≡ vector_on side (primitive_column d col n) → Lists (IsCornerUnder cone marks) (vector ∷ [])
    one_written side h n width vector e =
        subst (λ (y : Vector). Lists (IsCornerUnder cone marks) (y ∷ []))
        (sym (e ∙ ap (λ m. vector_on side (primitive_column d col m)) width)) (one_here side h)
