-- A vector of a pointed cone is moved along a direction on which a form and all tight rows are 0, until
-- one row more is tight; the form keeps its sign.
use Rattle.std.proofs.Common.{◌≡◌, ◌≢◌, ◌⊎◌, inl, inr, ℕ, ◌<◌, pos, ◌*ℤ◌, neg_ℤ, ◌≤ℤ◌, ◌<ℤ◌, List, [], ◌∷◌, map, length, ap, ◌∙◌, arith}
use Rattle.std.proofs.lemmas.List.{length-map}
use Rattle.std.specs.List.{AllByRecursion}
use Rattle.poly_num.specs.Vectors.{Vector, ◌·◌, IsZero}
use Rattle.poly_num.proofs.Ring.{lin, mul_zero}
use Rattle.poly_num.proofs.Order.{positive_product}
use Rattle.poly_num.proofs.VectorLemmas.{dot-neg, dot-zero}
use Rattle.poly_model.specs.Independence.{Vanish}
use Rattle.linear_laws.specs.Corners.{IsInConeOf, IsPointed, IsOnTight}
use Rattle.linear_laws.proofs.Members.{all_at}
use Rattle.linear_laws.proofs.Proportions.{zero_by_forms}
use Rattle.linear_laws.proofs.Combinations.{zero_combination}
use Rattle.linear_laws.proofs.Tight.{loose_at, loose_fewer}
use Rattle.linear_laws.proofs.Nearest.{met_at, dot-met_at, length-met_at, vanish-met_at, met_itself, Nearest, nearest_row}

module _ (n : ℕ) (fixed rows : List Vector) (h : Vector) where
  -- y is in the cone, and the form h is positive there
  pub record IsUp (y : Vector) : Type 0 where
    pub in_cone : IsInConeOf n fixed rows y
    pub up : pos 0 <ℤ (h · y)

  -- w is a direction along which h and what is tight at y stay as they are
  pub record IsFlat (y w : Vector) : Type 0 where
    pub width : length w ≡ n
    pub vanishing : Vanish fixed w
    pub on_tight : IsOnTight y rows w
    pub flat : h · w ≡ pos 0
    pub not_zero : IsZero w → ⊥

  -- a further vector at which more rows are tight
  pub record Tighter (y : Vector) : Type 0 where
    pub z : Vector
    pub up : IsUp z
    pub fewer : loose_at z rows < loose_at y rows

  -- ---- along a flat direction to the first row that is met
  met_on_tight : (y w g : Vector) (ks : List Vector) → IsOnTight y ks w → IsOnTight y ks (met_at y w g)
  met_on_tight y w g [] t = tt
  met_on_tight y w g (k ∷ ks) t = (
    λ e. dot-met_at y w k g ∙ zero_combination (neg_ℤ (g · w)) (k · y) (g · y) (k · w) e (t.0 e),
    met_on_tight y w g ks t.1,
  )

  go_along : (y w : Vector) → IsUp y → IsFlat y w → Nearest y w rows → Tighter y
  go_along y w u f t = record {
    z = met_at y w t.row;
    up = record {
      in_cone = record {
        width = length-met_at y w n t.row u.in_cone.width f.width;
        vanishing = vanish-met_at y w fixed t.row u.in_cone.vanishing f.vanishing;
        nonnegative = t.is.nearest;
      };
      up = still_up;
    };
    fewer = loose_fewer y (met_at y w t.row) rows (met_on_tight y w t.row rows f.on_tight) t.row t.member
        loose (met_itself y w t.row);
  }
    where
      loose : t.row · y ≢ pos 0
      loose e =
          let z = all_at (λ k. k · y ≡ pos 0 → k · w ≡ pos 0) rows f.on_tight t.row t.member e in
          let d = t.is.down in
          omega (arith, lin)

      still_up : pos 0 <ℤ (h · met_at y w t.row)
      still_up =
          let d = t.is.down in
          let down : pos 0 <ℤ neg_ℤ (t.row · w) = omega (arith, lin) in
          let p = positive_product (neg_ℤ (t.row · w)) (h · y) down u.up in
          let z = ap (λ t'. (t.row · y) *ℤ t') f.flat ∙ mul_zero (t.row · y) in
          omega (arith, lin, dot-met_at y w h t.row)

  -- ---- one of the two ways a row is met
  vanish_turned : (w : Vector) (ks : List Vector) → Vanish ks w → Vanish ks (map neg_ℤ w)
  vanish_turned w [] v = tt
  vanish_turned w (k ∷ ks) v = (dot-neg k w ∙ ap neg_ℤ v.0, vanish_turned w ks v.1)

  on_tight_turned : (y w : Vector) (ks : List Vector) → IsOnTight y ks w → IsOnTight y ks (map neg_ℤ w)
  on_tight_turned y w [] t = tt
  on_tight_turned y w (k ∷ ks) t = (λ e. dot-neg k w ∙ ap neg_ℤ (t.0 e), on_tight_turned y w ks t.1)

  zero_from_turned : (w g : Vector) → g · map neg_ℤ w ≡ pos 0 → g · w ≡ pos 0
  zero_from_turned w g e = let d = dot-neg g w in omega (arith, lin)

  flat_turned : (y w : Vector) → IsFlat y w → IsFlat y (map neg_ℤ w)
  flat_turned y w f = record {
    width = length-map w neg_ℤ ∙ f.width;
    vanishing = vanish_turned w fixed f.vanishing;
    on_tight = on_tight_turned y w rows f.on_tight;
    flat = dot-neg h w ∙ ap neg_ℤ f.flat;
    not_zero = λ z. f.not_zero (zero_by_forms w (λ g. zero_from_turned w g (dot-zero g (map neg_ℤ w) z)));
  }

  -- rows that are negative in neither way are 0
  vanish_from_both : (w : Vector) (ks : List Vector) → AllByRecursion (λ l. pos 0 ≤ℤ (l · w)) ks →
      AllByRecursion (λ l. pos 0 ≤ℤ (l · map neg_ℤ w)) ks → Vanish ks w
  vanish_from_both w [] a b = tt
  vanish_from_both w (k ∷ ks) a b = (
    (let p = a.0 in let q = b.0 in let d = dot-neg k w in omega (arith, lin)),
    vanish_from_both w ks a.1 b.1,
  )

  pub move : IsPointed n fixed rows → (y w : Vector) → IsUp y → IsFlat y w → Tighter y
  move pointed y w u f =
      by (nearest_row y w rows u.in_cone.nonnegative) (nearest_row y (map neg_ℤ w) rows u.in_cone.nonnegative)
    where
      by : AllByRecursion (λ l. pos 0 ≤ℤ (l · w)) rows ⊎ Nearest y w rows →
          AllByRecursion (λ l. pos 0 ≤ℤ (l · map neg_ℤ w)) rows ⊎ Nearest y (map neg_ℤ w) rows → Tighter y
      by (inr t) s = go_along y w u f t
      by (inl a) (inr t) = go_along y (map neg_ℤ w) u (flat_turned y w f) t
      by (inl a) (inl b) = absurd (f.not_zero (pointed w f.width f.vanishing (vanish_from_both w rows a b)))
