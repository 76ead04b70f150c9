-- The corners under a prefix, and those under it with the next row or without.
use Rattle.std.proofs.Common.{◌≡◌, ◌≢◌, ◌⊎◌, ◌↔◌, inl, inr, ⊎_elim, Bool, true, false, ℕ, ◌+◌, ◌-◌, ◌<◌, ◌≤◌, pos, List, [], ◌∷◌, ◌++◌, length, ap, arith}
use lib.IntN.{ℤ_discrete}
use Rattle.std.specs.List.{Contains, slice_index_or}
use Rattle.poly_model.specs.Keys.{IsAscending}
use Rattle.poly_num.specs.Vectors.{Vector, ◌·◌}
use Rattle.poly_model.specs.Independence.{Follows, IsNew}
use Rattle.linear_laws.proofs.FirstBases.{not_both}
use Rattle.linear_laws.proofs.TightLists.{first_tight_is_one, alone_by_tight_count}
use Rattle.listing_laws.specs.ListedCone.{ListedCone, row_at, IsListable, IsShownCorner}
use Rattle.listing_laws.specs.Lists.{Lists}
use Rattle.listing_laws.specs.Prefixes.{taken_at, next_row, marked_labels, IsCornerUnder, IsListedUpTo}
use Rattle.listing_laws.proofs.FirstLists.{labels_within, labels_ascend, taken-with, taken-without, labels-with, labels-without, first_with, first_without}
use Rattle.listing_laws.proofs.ListLemmas.{goes_start, goes_skip, goes_take, goes_end}

-- ---- the labels
pub next_label : (cone : ListedCone) (marks : List Bool) → row_at cone (length marks + 1) ≡ next_row cone marks
next_label cone marks =
    let e : length marks + 1 - 1 ≡ length marks = omega arith in
    ap (λ k. slice_index_or cone.rows k []) e

pub labels_are_ascending : (marks : List Bool) → IsAscending (marked_labels marks)
    × ((k : ℕ) → Contains (marked_labels marks) k → (0 < k) × (k ≤ length marks))
labels_are_ascending marks = (
  labels_ascend 1 marks,
  λ k c. let l = labels_within 1 marks k c in let m = l.0 in let n = l.1 in (omega arith, omega arith),
)

module _ (cone : ListedCone) where
  -- ---- the next row
  module _ (marks : List Bool) (l : length marks < length cone.rows) where
    pub skipped : (y : Vector) → Follows cone.n (taken_at cone marks) (next_row cone marks) →
        IsCornerUnder cone marks y ↔ IsCornerUnder cone (marks ++ false ∷ []) y
    skipped y f =
        let next = first_without cone.n cone.base y cone.rows marks l in
        (λ u. (u.0, next.1 (u.1, λ e. f)), λ u. (u.0, (next.0 u.1).0))

    pub taken_or_not : (y : Vector) → IsNew cone.n (taken_at cone marks) (next_row cone marks) →
        IsCornerUnder cone marks y
        ↔ (IsCornerUnder cone (marks ++ true ∷ []) y ⊎ IsCornerUnder cone (marks ++ false ∷ []) y)
    taken_or_not y w = (
      λ u. by u (ℤ_discrete (next_row cone marks · y) (pos 0)),
      λ s. ⊎_elim (λ u. (u.0, ((first_with cone.n cone.base y cone.rows marks l).0 u.1).0))
          (λ u. (u.0, ((first_without cone.n cone.base y cone.rows marks l).0 u.1).0)) s,
    )
      where
        by : IsCornerUnder cone marks y → Dec (next_row cone marks · y ≡ pos 0) →
            IsCornerUnder cone (marks ++ true ∷ []) y ⊎ IsCornerUnder cone (marks ++ false ∷ []) y
        by u (yes e) = inl (u.0, (first_with cone.n cone.base y cone.rows marks l).1 (u.1, e, w))
        by u (no h) = inr (u.0, (first_without cone.n cone.base y cone.rows marks l).1 (u.1, λ e. absurd (h e)))

    pub not_both_under : (y : Vector) → IsCornerUnder cone (marks ++ true ∷ []) y →
        IsCornerUnder cone (marks ++ false ∷ []) y → ⊥
    not_both_under y u v =
        let a = (first_with cone.n cone.base y cone.rows marks l).0 u.1 in
        let b = (first_without cone.n cone.base y cone.rows marks l).0 v.1 in
        not_both cone.n (taken_at cone marks) (next_row cone marks) a.2 (b.1 a.1)

    pub grows : (taken_at cone (marks ++ true ∷ []) ≡ next_row cone marks ∷ taken_at cone marks)
        × (marked_labels (marks ++ true ∷ []) ≡ marked_labels marks ++ (length marks + 1) ∷ [])
    grows = (taken-with cone.base cone.rows marks l, labels-with 1 marks)

    pub stays : (taken_at cone (marks ++ false ∷ []) ≡ taken_at cone marks)
        × (marked_labels (marks ++ false ∷ []) ≡ marked_labels marks)
    stays = (taken-without cone.base cone.rows marks l, labels-without 1 marks)

    -- ---- the loop over the rows
    pub loop_skips : (prefix : List Bool) (listed : List Vector) →
        Follows cone.n (taken_at cone marks) (next_row cone marks) →
        IsListedUpTo cone prefix marks listed → IsListedUpTo cone prefix (marks ++ false ∷ []) listed
    loop_skips prefix listed f g =
        goes_skip (IsCornerUnder cone prefix) (IsCornerUnder cone marks) (IsCornerUnder cone (marks ++ false ∷ []))
        listed g
        (λ y. skipped y f)

    pub loop_takes : (prefix : List Bool) (listed more : List Vector) →
        IsNew cone.n (taken_at cone marks) (next_row cone marks) → IsListedUpTo cone prefix marks listed →
        Lists (IsCornerUnder cone (marks ++ true ∷ [])) more →
        IsListedUpTo cone prefix (marks ++ false ∷ []) (listed ++ more)
    loop_takes prefix listed more w g a =
        goes_take (IsCornerUnder cone prefix) (IsCornerUnder cone marks) (IsCornerUnder cone (marks ++ true ∷ []))
        (IsCornerUnder cone (marks ++ false ∷ [])) listed more g a not_both_under (λ y. taken_or_not y w)

  pub loop_begins : (prefix : List Bool) → IsListedUpTo cone prefix prefix []
  loop_begins prefix = goes_start (IsCornerUnder cone prefix)

  -- ---- all rows
  module _ (listable : IsListable cone) where
    pub one_list : (y : Vector) → IsShownCorner cone y →
        (marks : List Bool) × (length marks ≡ length cone.rows) × IsCornerUnder cone marks y
        × ((others : List Bool) → length others ≡ length cone.rows → IsCornerUnder cone others y → others ≡ marks)
    one_list y c =
        let h = first_tight_is_one cone.n cone.base y cone.rows listable.independent in
        (h.0, h.1, (c, h.2), λ others l u. h.3 others l u.1)

    pub full : (marks : List Bool) (y : Vector) → length marks ≡ length cone.rows → IsCornerUnder cone marks y →
        length (taken_at cone marks) + 1 ≡ cone.n
    full marks y l u =
        let c = u.0.corner in
        (alone_by_tight_count cone.n cone.base cone.rows y marks listable.independent l u.1 c.in_cone.width
        c.in_cone.vanishing c.primitive.0).0 c.alone

    pub loop_ends : (prefix marks : List Bool) (listed : List Vector) → length marks ≡ length cone.rows →
        length (taken_at cone marks) + 1 ≢ cone.n → IsListedUpTo cone prefix marks listed →
        Lists (IsCornerUnder cone prefix) listed
    loop_ends prefix marks listed l n g =
        goes_end (IsCornerUnder cone prefix) (IsCornerUnder cone marks) listed g (λ y u. n (full marks y l u))
