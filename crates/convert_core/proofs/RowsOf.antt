-- The columns that pass the tests at a cobasis give the vectors that are shown there, each once.
use Rattle.std.proofs.Common.{◌≡◌, ◌≢◌, ◌⊎◌, inl, inr, ⊎_elim, ℕ, ◌<◌, List, [], ◌∷◌, map, length, Option, Some, None, refl, sym, subst, ◌∙◌}
use Rattle.std.specs.List.{Contains}
use Rattle.poly_num.specs.Vectors.{Vector}
use Rattle.poly_model.specs.declared.kind.Kind.{Kind}
use Rattle.poly_model.specs.declared.kind.Kind.TheVariants.{H, V}
use Rattle.poly_model.specs.Extreme.{IsShown, IsExtreme}
use Rattle.poly_model.specs.FreeColumns.{AreFreeColumns}
use Rattle.poly_model.specs.Labels.{coordinates_from, constant_label}
use Rattle.poly_model.specs.Spaces.{main_space}
use Rattle.poly_model.specs.Subtrees.{IsSubtreeRoot, IsShownAtKey}
use Rattle.poly_model.specs.Systems.{Polyhedron, cone_of}
use Rattle.poly_model.specs.Tree.{IsLexFeasible}
use Rattle.linear_laws.specs.Distinct.{AreDistinct}
use Rattle.linear_laws.proofs.Members.{Contains-nil, Contains-first, Contains-later, Contains-cons_cases}
use Rattle.tree_laws.proofs.ListedVectors.{searches_listing}
use Rattle.search_laws.specs.Shares.{ListsAll}
use Rattle.search_laws.specs.SharesOfListings.{IsShownAtSome}
use Rattle.dictionary.specs.Views.{Dictionary, IsDictionaryIn, table_of}
use Rattle.hull_lift.specs.Facets.{primitive_column, HasPointRows, IsShownAs, IsShownColumn}
use Rattle.convert_core.specs.declared.rays.Rays.{Rays}
use Rattle.convert_core.specs.declared.rays.Rays.TheVariants.{All, Touching}
use Rattle.convert_core.specs.Rays.{HasLinearPoint, AreShown}
use Rattle.convert_core.specs.Rows.{IsColumnShown, CanTest, columns_of, column_rows}
use Rattle.convert_core.proofs.LinearRows.{shown_by_linear_point}
use Rattle.convert_core.proofs.RowLists.{value_there, value_of, once_values}
use Rattle.convert_core.proofs.ShownRows.{no_constant, ray_along, touched_exactly, shown_ray, ray_back, point_back, shown_point, all_shown}

module _ (p : Polyhedron) (free : List ℕ) (columns : AreFreeColumns (cone_of p) free)
    (few : length (cone_of p).rows < coordinates_from) (root : List ℕ) (d : Dictionary)
    (is : IsDictionaryIn (main_space p free) d) (f : IsLexFeasible (main_space p free) root d.key (table_of d)) where
  abbrev row : ℕ → Vector
  row c = primitive_column d c p.n

  -- ---- which rays touch a point row
  touched : (rays : Rays) → AreShown (cone_of p) rays →
      (p.kind ≡ V → (HasLinearPoint (cone_of p) → ⊥) → HasPointRows (cone_of p) d) → (s : ℕ) → Contains d.key s →
      HasLinearPoint (cone_of p) ⊎ IsShownColumn (cone_of p) d s → IsShown p.kind (cone_of p) (row s)
  touched rays are points s c (inl x) =
      shown_by_linear_point p free (row s) (ray_along p free columns few root d is f s c).inside x
  touched All (inl h) points s c (inr t) = all_shown p.kind p (row s) h
  touched All (inr x) points s c (inr t) =
      shown_by_linear_point p free (row s) (ray_along p free columns few root d is f s c).inside x
  touched Touching (v, none) points s c (inr t) =
      (touched_exactly p free columns few root d is f s c (λ k. points k none)).0 t

  column_of_kind : (kind : Kind) → p.kind ≡ H → p.kind ≡ kind → (s : ℕ) → IsShownColumn (cone_of p) d s
  column_of_kind kind h e s = by p.kind h
    where
      by : (k : Kind) → k ≡ H → IsShownAs k (cone_of p) d s
      by H e = tt
      by V e = absurd cc

  touches : (rays : Rays) → AreShown (cone_of p) rays →
      (p.kind ≡ V → (HasLinearPoint (cone_of p) → ⊥) → HasPointRows (cone_of p) d) → (s : ℕ) → Contains d.key s →
      IsShown p.kind (cone_of p) (row s) → HasLinearPoint (cone_of p) ⊎ IsShownColumn (cone_of p) d s
  touches All (inl h) points s c t = inr (column_of_kind p.kind h refl s)
  touches All (inr x) points s c t = inl x
  touches Touching (v, none) points s c t =
      inr ((touched_exactly p free columns few root d is f s c (λ k. points k none)).1 t)

  module _ (rays : Rays) (can : CanTest (cone_of p) d rays) where
    abbrev pub IsListed : ℕ → Type 0
    IsListed c = Contains (columns_of d) c × IsColumnShown (cone_of p) root d c

    -- the place that a column shows
    abbrev IsPlace : ℕ → Option ℕ → Type 0
    IsPlace c None = c ≡ constant_label
    IsPlace c (Some s) = s ≡ c

    in_key : (c : ℕ) → Contains (columns_of d) c → c ≢ constant_label → Contains d.key c
    in_key c m n = ⊎_elim (λ (e : constant_label ≡ c). absurd (n (sym e))) (λ (k : Contains d.key c). k)
        (Contains-cons_cases c constant_label d.key m)

    pub shown_there : (c : ℕ) → IsListed c → (place : Option ℕ) × IsShownAtKey p root d.key place (row c) × IsPlace c place
    shown_there c (m, inl (e, (kind, shows))) = (
      None,
      subst (λ k. IsShownAtKey p root d.key None (row k)) (sym e)
          (shown_point p free columns few root d is f kind shows),
      e,
    )
    shown_there c (m, inr (n, (shows, t))) =
        let k = in_key c m n in (
          Some c,
          shown_ray p free columns few root d is f c k shows (touched rays can.shown can.points c k t),
          refl,
        )

    shown_back : (place : Option ℕ) (y : Vector) → IsShownAtKey p root d.key place y →
        (c : ℕ) × IsListed c × (row c ≡ y)
    shown_back None y w =
        let (kind, shows, e) = point_back p free columns few root d is f y w in
        (constant_label, (Contains-first constant_label d.key, inl (refl, (kind, shows))), sym e)
    shown_back (Some s) y w =
        let (c, shows, e) = ray_back p free columns few root d is f y s w in (
          s,
          (
            Contains-later s constant_label d.key c,
            inr (
              no_constant p free columns few root d is f s c,
              (shows, touches rays can.shown can.points s c (subst (IsShown p.kind (cone_of p)) e w.touched)),
            ),
          ),
          sym e,
        )

    one_place : (a b : ℕ) (i : Option ℕ) → IsPlace a i → IsPlace b i → a ≡ b
    one_place a b None x y = x ∙ sym y
    one_place a b (Some s) x y = sym x ∙ y

    module _ (h : IsSubtreeRoot p root) where
      -- two columns show two vectors
      one_column : (a b : ℕ) → IsListed a → IsListed b → row a ≡ row b → a ≡ b
      one_column a b x y e =
          let (i, u, k) = shown_there a x in
          let (j, v, l) = shown_there b y in
          let law = searches_listing p root few h in
          let once = law.each_once (row a) (law.only_extreme d.key i (row a) u) in
          let same : i ≡ j =
          (once.only d.key i u).1
          ∙ sym (once.only d.key j (subst (IsShownAtKey p root d.key j) (sym e) v)).1 in
          one_place a b i k (subst (IsPlace b) (sym same) l)

      extreme_there : (c : ℕ) → IsListed c → IsExtreme (cone_of p) (row c)
      extreme_there c x =
          let (i, u, k) = shown_there c x in
          (searches_listing p root few h).only_extreme d.key i (row c) u

      -- so the rows of all columns that pass are the vectors shown here
      pub lists_rows : (cs : List ℕ) → ListsAll IsListed cs →
          ListsAll (IsShownAtSome p root (d.key ∷ [])) (column_rows (cone_of p) d cs)
      lists_rows cs l = record {
        once = once_values row cs l.once
            (λ a b c e q. one_column a b (l.only a c) (l.only b e) q);
        only = λ y c.
            let (x, m, e) = value_of row cs y c in
            let (i, u, k) = shown_there x (l.only x m) in
            (d.key, Contains-first d.key [], i, subst (IsShownAtKey p root d.key i) e u);
        each = λ y s.
            let w = shown_back s.2 y (subst (λ k. IsShownAtKey p root k s.2 y) (sym (only_key s.0 s.1)) s.3) in
            subst (Contains (map row cs)) w.2 (value_there row cs w.0 (l.each w.0 w.1));
      }
        where
          only_key : (k : List ℕ) → Contains (d.key ∷ []) k → d.key ≡ k
          only_key k c = ⊎_elim (λ (e : d.key ≡ k). e) (λ (m : Contains [] k). absurd (Contains-nil k m))
              (Contains-cons_cases k d.key [] c)

      -- and those of some are some of them
      pub some_rows : (cs : List ℕ) → AreDistinct cs → ((c : ℕ) → Contains cs c → IsListed c) →
          AreDistinct (column_rows (cone_of p) d cs)
          × ((y : Vector) → Contains (column_rows (cone_of p) d cs) y → IsShownAtSome p root (d.key ∷ []) y)
      some_rows cs once only = (
        once_values row cs once (λ a b c e q. one_column a b (only a c) (only b e) q),
        λ y c.
            let (x, m, e) = value_of row cs y c in
            let (i, u, k) = shown_there x (only x m) in
            (d.key, Contains-first d.key [], i, subst (IsShownAtKey p root d.key i) e u),
      )
