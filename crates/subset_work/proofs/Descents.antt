-- The way down to a key, and where it begins.
use Rattle.std.proofs.Common.{◌≡◌, ⊎_elim, ℕ, zero, suc, ◌+◌, ◌-◌, ◌≤◌, ◌<◌, List, [], ◌∷◌, ◌++◌, length, length-append, append_assoc, refl, sym, ap, subst, ◌∙◌, arith}
use Rattle.std.specs.List.{Contains}
use Rattle.std.proofs.lemmas.List.Elements.{All-contains, Contains-append_right, Contains-append_cases}
use Rattle.poly_model.specs.Keys.{IsAscending}
use Rattle.poly_model.specs.Systems.{System, Polyhedron, cone_of}
use Rattle.linear_laws.proofs.Members.{Contains-nil, Contains-first}
use Rattle.linear_laws.specs.NewRows.{AreNew}
use Rattle.dictionary.specs.Views.{Dictionary}
use Rattle.listing_laws.specs.ListedCone.{ListedCone, IsConeOf}
use Rattle.plain_enum.specs.Begin.{IsBegun, left_in, fixed_in, begun_cone}
use Rattle.plain_enum.specs.Columns.{LeavesNoCoordinate, HasNoColumn}
use Rattle.plain_enum.proofs.BeginAt.{left_only, stands, begins_at, is_cone}
use Rattle.plain_enum.proofs.Counting.{length_of_cobasis}
use Rattle.plain_enum.proofs.Standings.{stands_dictionary}
use Rattle.plain_enum.specs.Standing.{parted}
use Rattle.poly_model.specs.Dictionaries.{IsCobasis}
use Rattle.poly_model.specs.Limits.{most_labels}
use Rattle.work_core.specs.Subsets.{plain_labels, IsReducedDimension, IsSubsetKey, reduced_space}
use Rattle.work_core.proofs.Dimensions.{has_base, same_free, cobasis_fills}
use Rattle.work_core.proofs.SubsetLists.{same_fixed}
use Rattle.work_core.proofs.SubsetShares.{has_shares, has_one_list}
use Rattle.subset_work.specs.Standing.{IsNext, HasRoom, IsLive, IsDead}
use Rattle.subset_work.proofs.ListTree.{above_front, plain_label, child_next}
use Rattle.subset_work.proofs.ListPrefixes.{count_key, live_stays, dead_child}

-- ---- dimensions over any cone of the polyhedron
fills : (p : Polyhedron) (cone : ListedCone) → IsConeOf (cone_of p) cone → (r : ℕ) → IsReducedDimension p r →
    length cone.base + r ≡ p.n
fills p cone is r d =
    let b = has_base p in
    let new : AreNew p.n cone.base = subst (λ n. AreNew n cone.base) is.width is.independent in
    omega (
      arith,
      d.count,
      cobasis_fills p b.free cone.base new (same_fixed p cone is) d.basis
          (subst (λ f. IsCobasis (reduced_space p f) d.basis) (same_free p d.free b.free d.columns b.columns) d.cobasis),
    )

module _ (sys : System) (free : List ℕ) (d : Dictionary) (i depth : ℕ) (p : Polyhedron) (key : List ℕ)
    (live : IsLive sys free d i depth p key) where
  pub length_at : (r : ℕ) → IsReducedDimension p r → length key + suc depth ≡ r
  length_at r q =
      let f = fills p live.cone (subst (λ s. IsConeOf s live.cone) live.at.file live.at.is_cone) r q in
      omega (arith, f, count_key sys free d i depth p key live)

pub room_at : (sys : System) (free : List ℕ) (d : Dictionary) (i depth left : ℕ) (p : Polyhedron) (key : List ℕ) →
    IsLive sys free d i depth p key → HasRoom p key left → left ≡ depth
room_at sys free d i depth left p key live room =
    let l = length_at sys free d i depth p key live room.dimension room.reduced in omega (arith, l, room.count)

pub live_later : (more : ℕ) (sys : System) (free : List ℕ) (d : Dictionary) (i depth : ℕ) (p : Polyhedron) (key : List ℕ) →
    IsLive sys free d i depth p key → i + more ≤ length sys.rows + 1 → IsLive sys free d (i + more) depth p key
live_later zero sys free d i depth p key live l = let e : i ≡ i + 0 = omega arith in subst (λ j. IsLive sys free d j depth p key) e live
live_later (suc more) sys free d i depth p key live l =
    let e : i + 1 + more ≡ i + suc more = omega arith in
    subst (λ j. IsLive sys free d j depth p key) e
    (live_later more sys free d (i + 1) depth p key (live_stays sys free d i depth p key live (omega (arith, l))) (omega (arith, l)))

pub next_is_one : (key : List ℕ) (i j : ℕ) → IsNext key i → IsNext key j → i ≡ j
next_is_one key i j a b = let l = a.least j b.some b.above in let m = b.least i a.some a.above in omega (arith, l, m)

-- ---- one label down
module _ (sys : System) (free : List ℕ) (d : Dictionary) (i depth : ℕ) (p : Polyhedron) (front : List ℕ)
    (live : IsLive sys free d i depth p front) (next : IsNext front i) (key : List ℕ) (label : ℕ) (later : List ℕ)
    (begins : key ≡ front ++ label ∷ later) (is : IsSubsetKey p key) where
  pub label_within : (0 < label) × (label ≤ length sys.rows)
  label_within =
      let h = plain_label p label (All-contains (Contains (plain_labels p)) key label is.rows
      (subst (λ ks. Contains ks label) (sym begins) (Contains-append_right front (label ∷ later) label (Contains-first label later)))) in
      let b = h.1 in (h.0, omega (arith, b, ap (λ (t : System). length t.rows) live.at.file))

  above : (k : ℕ) → Contains front k → k < label
  above k c = above_front front label later (subst IsAscending begins is.ascending.ascending) k c

  reaches : i ≤ label
  reaches = next.least label label_within.0 above

  pub live_at_label : IsLive sys free d label depth p front
  live_at_label =
      let r = reaches in let b = label_within.1 in
      let e : i + (label - i) ≡ label = omega (arith, r) in
      subst (λ j. IsLive sys free d j depth p front) e (live_later (label - i) sys free d i depth p front live (omega (arith, r, b)))

  pub next_below : IsNext (front ++ label ∷ []) (label + 1)
  next_below = child_next p front label i next reaches

  pub begins_below : key ≡ (front ++ label ∷ []) ++ later
  begins_below = begins ∙ sym (append_assoc front (label ∷ []) later)

  pub dead_below : HasNoColumn d free label → IsDead p key
  dead_below none one u y h =
      dead_child sys free d label depth p front live_at_label label_within.1 none one (
        u.0,
        (has_shares p).through one key (front ++ label ∷ []) u.0 u.1
            (length later, record { more = later; begins = begins_below; count = refl }),
      ) y h

  pub too_long : depth ≡ 0 → ⊥
  too_long z =
      let l = length_at sys free d i depth p front live is.dimension is.reduced in
      let e = ap length begins in let f = length-append front (label ∷ later) in let s = is.short in
      omega (arith, l, e, f, s, z)

-- ---- the beginning
none_in_it : (ks : List ℕ) → ((k : ℕ) → Contains ks k → ⊥) → ks ≡ []
none_in_it [] h = refl
none_in_it (k ∷ ks) h = absurd (h k (Contains-first k ks))

module _ (p : Polyhedron) (at last : Dictionary) (free : List ℕ) (b : IsBegun p at last free) where
  abbrev left : List ℕ
  left = left_in free at.key

  abbrev fixed : List ℕ
  fixed = fixed_in (cone_of p).rows free at.key

  begun_live : (depth : ℕ) → length left ≡ suc depth → IsLive (cone_of p) free at 1 depth p []
  begun_live depth e = record {
    cone = begun_cone p free at;
    fixed = fixed;
    left = left;
    marks = [];
    at = begins_at p at last free b (cone_of p) depth refl e;
    labels = refl;
  }

  -- the dimension is what is left
  pub left_is_dimension : (r : ℕ) → IsReducedDimension p r → length left ≡ r
  left_is_dimension r d =
      let s = stands p at last free b in
      let all = length_of_cobasis p (parted fixed [] left) (stands_dictionary p (begun_cone p free at) at fixed left [] s).cobasis in
      let f = fills p (begun_cone p free at) (is_cone p at last free b) r d in
      omega (arith, all, f, s.count, length-append fixed left)

  pub live_from : (sys : System) → sys ≡ cone_of p → (col : ℕ) → Contains left col → (depth : ℕ) → depth ≡ length left - 1 →
      IsLive sys free at 1 depth p []
  live_from sys file col (k, l, c) depth e =
      subst (λ s. IsLive s free at 1 depth p []) (sym file) (begun_live depth (omega (arith, l, e)))

  pub room_from : (narrow : p.n ≤ most_labels) (depth : ℕ) → depth ≡ length left - 1 → (key : List ℕ) → IsSubsetKey p key → HasRoom p key (depth - length key)
  room_from narrow depth e key is =
      let l = left_is_dimension is.dimension is.reduced in let s = is.short in record {
        narrow = narrow;
        is_key = is;
        dimension = is.dimension;
        reduced = is.reduced;
        count = omega (arith, e, l, s);
      }

  module _ (none : LeavesNoCoordinate at free) where
    nothing_left : left ≡ []
    nothing_left = none_in_it left (λ k c. let h = left_only p at last free b k c in none k h.0 h.1 h.2)

    pub room_none : (narrow : p.n ≤ most_labels) → (key : List ℕ) → IsSubsetKey p key → HasRoom p key 0
    room_none narrow key is =
        let l = left_is_dimension is.dimension is.reduced in let s = is.short in let z = ap length nothing_left in record {
          narrow = narrow;
          is_key = is;
          dimension = is.dimension;
          reduced = is.reduced;
          count = omega (arith, l, s, z);
        }

    pub dead_none : p.n ≤ most_labels → (key : List ℕ) → IsSubsetKey p key → IsDead p key
    dead_none narrow key is one u y h =
        let m = has_one_list p narrow y h.0 in
        let r = m.long is.dimension is.reduced in
        let l = left_is_dimension is.dimension is.reduced in let z = ap length nothing_left in
        omega (arith, r, l, z)

-- the least label above an ascending list is the one after its last
pub next_nil : IsNext [] 1
next_nil = record { some = omega arith; above = λ k c. absurd (Contains-nil k c); least = λ j s h. omega (arith, s) }

pub next_last : (front : List ℕ) (label : ℕ) → IsAscending (front ++ label ∷ []) → IsNext (front ++ label ∷ []) (label + 1)
next_last front label a = record {
  some = omega arith;
  above = λ k c. ⊎_elim (λ d. let l = above_front front label [] a k d in omega (arith, l))
      (λ d. let e = one_only k d in omega (arith, e)) (Contains-append_cases front (label ∷ []) k c);
  least = λ j s h. let l = h label (Contains-append_right front (label ∷ []) label (Contains-first label [])) in omega (arith, l);
}
  where
    one_only : (k : ℕ) → Contains (label ∷ []) k → k ≡ label
    one_only k (zero, l, e) = sym e
    one_only k (suc n, l, e) = absurd (omega (arith, l))

pub nothing : (ks : List ℕ) → length ks ≡ 0 → ks ≡ []
nothing [] e = refl
nothing (k ∷ ks) e = absurd (omega (arith, e))
