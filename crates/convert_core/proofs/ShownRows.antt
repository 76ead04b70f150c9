-- The rows that are printed at a cobasis are the vectors that are shown there.
use Rattle.std.proofs.Common.{◌≡◌, ◌≢◌, ◌↔◌, ℕ, ◌<◌, List, [], ◌∷◌, ℤ, pos, ◌<ℤ◌, ◌*ℤ◌, length, Some, None, refl, sym, ap, subst, ◌∙◌, arith}
use Rattle.std.specs.List.{Contains}
use Rattle.std.proofs.lemmas.Int.{ints}
use Rattle.std.proofs.lemmas.Bool.{ltb-true}
use Rattle.std.proofs.Math.Nat.{dvd-zero}
use Rattle.poly_num.specs.Vectors.{Vector, ◌·◌, scale, IsZero, IsPrimitive}
use Rattle.poly_num.specs.Divisors.{MakesPrimitive}
use Rattle.poly_num.proofs.Order.{positive_nonzero, positive_product}
use Rattle.poly_num.proofs.PrimitiveLemmas.{MakesPrimitive-quotients}
use Rattle.poly_num.proofs.VectorLemmas.{scale-scale, zero-scale, zero_from_scale, scale_cancel}
use Rattle.poly_model.specs.declared.kind.Kind.{Kind}
use Rattle.poly_model.specs.declared.kind.Kind.TheVariants.{H, V}
use Rattle.poly_model.specs.declared.overflow.Phase.TheVariants.{Main}
use Rattle.poly_model.specs.Extreme.{IsShown}
use Rattle.poly_model.specs.FreeColumns.{AreFreeColumns}
use Rattle.poly_model.specs.Labels.{coordinates_from, constant_label}
use Rattle.poly_model.specs.Spaces.{Space, IsInside, in_main, main_space}
use Rattle.poly_model.specs.Subtrees.{IsShownAtKey}
use Rattle.poly_model.specs.Systems.{Polyhedron, cone_of}
use Rattle.poly_model.specs.Tree.{IsRowDictionary, IsLexFeasible, ShowsPoint, ShowsRay, IsAtPoint, IsAlongColumn}
use Rattle.linear_laws.proofs.Entries.{coordinate_reads}
use Rattle.linear_laws.proofs.PrimitiveAlong.{primitive_same}
use Rattle.dictionary_laws.proofs.Filters.{filter_only}
use Rattle.tree_laws.proofs.MainLabels.{main_in}
use Rattle.tree_laws.proofs.Numbers.{key_row}
use Rattle.tree_laws.proofs.PointVectors.{some_point}
use Rattle.tree_laws.proofs.RayVectors.{some_ray}
use Rattle.tree_laws.proofs.ListedVectors as listed
use Rattle.search_laws.proofs.AnyShown.{serves_too}
use Rattle.dictionary.specs.Views.{Dictionary, IsDictionaryIn, table_of}
use Rattle.hull_lift.specs.Facets.{column_of, primitive_column, HasPointRows, IsShownColumn}
use Rattle.hull_lift.specs.Laws.{IsAlong, IsInColumn}
use Rattle.hull_lift.proofs.ColumnVectors.{column_vectors}
use Rattle.hull_lift.proofs.MainColumns.{ray_in_column, point_in_column}
use Rattle.hull_lift.proofs.ShownColumns.{shown_columns}

-- ---- vectors of the cone in the main space
primitive_of_kind : (kind : Kind) (v : Vector) → IsPrimitive (in_main kind v) → IsPrimitive v
primitive_of_kind H v h = h
primitive_of_kind V v h = (λ z. h.0 (refl, z), λ d l k. h.1 d l (dvd-zero d, k))

-- a vector of the space that is 0 at infinity
level_of_kind : (kind : Kind) (p : Polyhedron) (free : List ℕ) (z : Vector) → IsInside (main_in kind p free) z →
    (main_in kind p free).infinity · z ≡ pos 0 → (v : Vector) × (z ≡ in_main kind v)
level_of_kind H p free z i e = (z, refl)
level_of_kind V p free [] i e = absurd (let w = i.width in omega (arith, w))
level_of_kind V p free (x ∷ v) i e = (v, ap (λ y. y ∷ v) (sym (coordinate_reads 0 (x ∷ v)) ∙ e))

-- of a V file no vector of the cone has a value at infinity there
no_point : (kind : Kind) (p : Polyhedron) (free : List ℕ) (v : Vector) → kind ≡ V →
    pos 0 <ℤ ((main_in kind p free).infinity · in_main kind v) → ⊥
no_point H p free v e h = cc
no_point V p free v e h =
    let zero = coordinate_reads 0 (pos 0 ∷ v) in
    let no : pos 0 <ℤ pos 0 = subst (λ x. pos 0 <ℤ x) zero h in omega (arith, ints, no)

pub all_shown : (kind : Kind) (p : Polyhedron) (y : Vector) → kind ≡ H → IsShown kind (cone_of p) y
all_shown H p y e = tt
all_shown V p y e = absurd cc

module _ (p : Polyhedron) (free : List ℕ) (columns : AreFreeColumns (cone_of p) free)
    (few : length (cone_of p).rows < coordinates_from) (root : List ℕ) (d : Dictionary)
    (is : IsDictionaryIn (main_space p free) d) (f : IsLexFeasible (main_space p free) root d.key (table_of d)) where
  abbrev space : Space
  space = main_space p free

  rows : IsRowDictionary space d.key (table_of d)
  rows = f.dictionary

  pub no_constant : (s : ℕ) → Contains d.key s → s ≢ constant_label
  no_constant s c e =
      let row = (filter_only _ space.labels s (key_row space d.key (table_of d) rows s c)).1 in
      let below = ltb-true s coordinates_from row in omega (arith, below, e)

  -- the one primitive vector that is a positive multiple of a column
  primitive_there : (col : ℕ) (v : Vector) (x : ℤ) → pos 0 <ℤ x → IsPrimitive v →
      scale d.denominator v ≡ scale x (column_of d col p.n) → v ≡ primitive_column d col p.n
  primitive_there col v x hx hv e =
      primitive_same d.denominator (x *ℤ pos made.factor.0) v (primitive_column d col p.n) hv
      (made.primitive nonzero) positive
      (positive_product x (pos made.factor.0) hx (let l = made.factor.1 in omega (arith, ints, l)))
      (e ∙ ap (scale x) made.factor.2 ∙ scale-scale x (pos made.factor.0) (primitive_column d col p.n))
    where
      positive : pos 0 <ℤ d.denominator
      positive = is.dictionary.writes.positive

      made : MakesPrimitive (column_of d col p.n) (primitive_column d col p.n)
      made = MakesPrimitive-quotients (column_of d col p.n)

      nonzero : IsZero (column_of d col p.n) → ⊥
      nonzero z =
          hv.0 (zero_from_scale d.denominator v (positive_nonzero d.denominator positive)
          (subst IsZero (sym e) (zero-scale x (column_of d col p.n) z)))

  -- ---- rays
  module _ (s : ℕ) (c : Contains d.key s) where
    along_of : (v : Vector) → IsAlongColumn space d.key s (in_main p.kind v) → IsAlong space d s (in_main p.kind v)
    along_of v a = record { direction = record { inside = a.inside; level = a.level }; others = a.nothing }

    ray_is : (v : Vector) → IsAlongColumn space d.key s (in_main p.kind v) → v ≡ primitive_column d s p.n
    ray_is v a =
        primitive_there s v (space.form s · in_main p.kind v) a.here (primitive_of_kind p.kind v a.primitive)
        (ray_in_column p free d is v s c (no_constant s c) (along_of v a))

    some_vector : (v : Vector) × IsAlongColumn space d.key s (in_main p.kind v)
    some_vector =
        let (z, a) = some_ray space d.key (table_of d) rows s c in
        let (v, e) = level_of_kind p.kind p free z a.inside a.level in
        (v, subst (IsAlongColumn space d.key s) e a)

    pub ray_along : IsAlongColumn space d.key s (in_main p.kind (primitive_column d s p.n))
    ray_along =
        let (v, a) = some_vector in
        subst (λ w. IsAlongColumn space d.key s (in_main p.kind w)) (ray_is v a) a

    -- where it touches a point row
    pub touched_exactly : (p.kind ≡ V → HasPointRows (cone_of p) d) →
        IsShownColumn (cone_of p) d s ↔ IsShown p.kind (cone_of p) (primitive_column d s p.n)
    touched_exactly points = (
      λ t. subst (IsShown p.kind (cone_of p)) same (both.0 t),
      λ t. both.1 (subst (IsShown p.kind (cone_of p)) (sym same) t),
    )
      where
        y : Vector
        y = primitive_column d s p.n

        a : IsAlong space d s (in_main p.kind y)
        a = along_of y ray_along

        nonzero : space.form s · in_main p.kind y ≢ pos 0
        nonzero = positive_nonzero (space.form s · in_main p.kind y) ray_along.here

        x : IsInColumn p space d s (in_main p.kind y) (space.form s · in_main p.kind y)
        x = (column_vectors p Main space (λ e. cc) (free, columns, refl) d is).ray s c (no_constant s c) (in_main p.kind y) a

        same : x.vector ≡ y
        same =
            scale_cancel d.denominator x.vector y
            (positive_nonzero d.denominator is.dictionary.writes.positive)
            (x.column ∙ sym (ray_in_column p free d is y s c (no_constant s c) a))

        both : IsShownColumn (cone_of p) d s ↔ IsShown p.kind (cone_of p) x.vector
        both = shown_columns p space d is few points s c (in_main p.kind y) a nonzero x

    pub shown_ray : ShowsRay d.labels root d.key (table_of d) s →
        IsShown p.kind (cone_of p) (primitive_column d s p.n) →
        IsShownAtKey p root d.key (Some s) (primitive_column d s p.n)
    shown_ray r t = record {
      free = free;
      columns = columns;
      table = table_of d;
      feasible = f;
      shown = (subst (λ ls. ShowsRay ls root d.key (table_of d) s) is.labels r, ray_along);
      touched = t;
    }

  -- ---- back
  module _ (y : Vector) where
    pub ray_back : (s : ℕ) → IsShownAtKey p root d.key (Some s) y →
        Contains d.key s × ShowsRay d.labels root d.key (table_of d) s × (y ≡ primitive_column d s p.n)
    ray_back s w =
        let (t, g, x) = listed.shown_there p root free columns d.key (Some s) y w in
        let here = (serves_too space root d.key t (table_of d) g.dictionary rows).shown (Some s) (in_main p.kind y) x in (
          here.0.column,
          subst (λ ls. ShowsRay ls root d.key (table_of d) s) (sym is.labels) here.0,
          ray_is s here.0.column y here.1,
        )

    point_is : IsAtPoint space d.key (in_main p.kind y) → y ≡ primitive_column d constant_label p.n
    point_is a =
        primitive_there constant_label y (space.infinity · in_main p.kind y) a.finite
        (primitive_of_kind p.kind y a.primitive)
        (point_in_column p free d is y (record { inside = a.inside; zero = a.nothing }))

    pub point_back : IsShownAtKey p root d.key None y →
        (p.kind ≡ H) × ShowsPoint d.labels root d.key (table_of d) × (y ≡ primitive_column d constant_label p.n)
    point_back w =
        let (t, g, x) = listed.shown_there p root free columns d.key None y w in
        let here = (serves_too space root d.key t (table_of d) g.dictionary rows).shown None (in_main p.kind y) x in (
          by p.kind refl here.1.finite,
          subst (λ ls. ShowsPoint ls root d.key (table_of d)) (sym is.labels) here.0,
          point_is here.1,
        )
      where
        by : (kind : Kind) → p.kind ≡ kind → pos 0 <ℤ (space.infinity · in_main p.kind y) → p.kind ≡ H
        by H e h = e
        by V e h = absurd (no_point p.kind p free y e h)

  -- ---- the point
  in_kind : (kind : Kind) (z : Vector) → kind ≡ H → in_main kind z ≡ z
  in_kind H z e = refl
  in_kind V z e = absurd cc

  pub shown_point : p.kind ≡ H → ShowsPoint d.labels root d.key (table_of d) →
      IsShownAtKey p root d.key None (primitive_column d constant_label p.n)
  shown_point kind r =
      let (z, a) = some_point space d.key (table_of d) rows in
      let there : IsAtPoint space d.key (in_main p.kind z) = subst (IsAtPoint space d.key) (sym (in_kind p.kind z kind)) a in
      record {
        free = free;
        columns = columns;
        table = table_of d;
        feasible = f;
        shown = (
          subst (λ ls. ShowsPoint ls root d.key (table_of d)) is.labels r,
          subst (λ w. IsAtPoint space d.key (in_main p.kind w)) (point_is z there) there,
        );
        touched = all_shown p.kind p (primitive_column d constant_label p.n) kind;
      }
