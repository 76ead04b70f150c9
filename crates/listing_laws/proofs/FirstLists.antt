-- The first independent list of the rows tight at a vector: how it goes on at the next row, and what the rows
-- taken tell.
use Rattle.std.proofs.Common.{◌≡◌, ◌↔◌, ⊎_elim, Bool, true, false, ℕ, suc, ◌+◌, ◌<◌, ◌≤◌, pos, List, [], ◌∷◌, ◌++◌, length, refl, sym, ap, ◌∙◌, subst, arith}
use Rattle.std.specs.List.{Contains, slice_index_or}
use Rattle.poly_num.specs.Vectors.{Vector, ◌·◌}
use Rattle.poly_model.specs.Keys.{IsAscending}
use Rattle.poly_model.specs.Independence.{Vanish, Follows, IsNew, taken}
use Rattle.linear_laws.specs.Corners.{IsOnTight}
use Rattle.linear_laws.specs.LocalTest.{AreFirstTight}
use Rattle.linear_laws.proofs.Members.{Contains-nil, Contains-cons_cases}
use Rattle.listing_laws.specs.Prefixes.{labels_from}
use Rattle.listing_laws.proofs.ListLemmas.{all_members}

pub taken-nil : (before gs : List Vector) → taken before gs [] ≡ before
taken-nil before [] = refl
taken-nil before (g ∷ gs) = refl

-- ---- one mark more
pub taken-with : (before gs : List Vector) (ms : List Bool) → length ms < length gs →
    taken before gs (ms ++ true ∷ []) ≡ slice_index_or gs (length ms) [] ∷ taken before gs ms
taken-with before [] ms l = absurd (omega arith)
taken-with before (g ∷ gs) [] l = taken-nil (g ∷ before) gs
taken-with before (g ∷ gs) (true ∷ ms) l = taken-with (g ∷ before) gs ms (omega arith)
taken-with before (g ∷ gs) (false ∷ ms) l = taken-with before gs ms (omega arith)

pub taken-without : (before gs : List Vector) (ms : List Bool) → length ms < length gs →
    taken before gs (ms ++ false ∷ []) ≡ taken before gs ms
taken-without before [] ms l = absurd (omega arith)
taken-without before (g ∷ gs) [] l = taken-nil before gs
taken-without before (g ∷ gs) (true ∷ ms) l = taken-without (g ∷ before) gs ms (omega arith)
taken-without before (g ∷ gs) (false ∷ ms) l = taken-without before gs ms (omega arith)

pub labels-with : (k : ℕ) (ms : List Bool) → labels_from k (ms ++ true ∷ []) ≡ labels_from k ms ++ (length ms + k) ∷ []
labels-with k [] = let e : k ≡ length {A = Bool} [] + k = omega arith in ap (λ j. j ∷ []) e
labels-with k (true ∷ ms) =
    let e : length ms + suc k ≡ suc (length ms) + k = omega arith in
    ap (λ ks. k ∷ ks) (labels-with (suc k) ms ∙ ap (λ j. labels_from (suc k) ms ++ j ∷ []) e)
labels-with k (false ∷ ms) =
    let e : length ms + suc k ≡ suc (length ms) + k = omega arith in
    labels-with (suc k) ms ∙ ap (λ j. labels_from (suc k) ms ++ j ∷ []) e

pub labels-without : (k : ℕ) (ms : List Bool) → labels_from k (ms ++ false ∷ []) ≡ labels_from k ms
labels-without k [] = refl
labels-without k (true ∷ ms) = ap (λ ks. k ∷ ks) (labels-without (suc k) ms)
labels-without k (false ∷ ms) = labels-without (suc k) ms

-- ---- the labels
pub labels_within : (j : ℕ) (ms : List Bool) (k : ℕ) → Contains (labels_from j ms) k → (j ≤ k) × (k < j + length ms)
labels_within j [] k c = absurd (Contains-nil k c)
labels_within j (true ∷ ms) k c =
    ⊎_elim (λ e. (omega (arith, e), omega (arith, e)))
    (λ d. let l = labels_within (suc j) ms k d in let m = l.0 in let n = l.1 in (omega arith, omega arith))
    (Contains-cons_cases k j (labels_from (suc j) ms) c)
labels_within j (false ∷ ms) k c =
    let l = labels_within (suc j) ms k c in let m = l.0 in let n = l.1 in (omega arith, omega arith)

pub labels_ascend : (j : ℕ) (ms : List Bool) → IsAscending (labels_from j ms)
labels_ascend j [] = tt
labels_ascend j (true ∷ ms) = (
  all_members (λ k. j < k) (labels_from (suc j) ms) (λ k c. let l = (labels_within (suc j) ms k c).0 in omega arith),
  labels_ascend (suc j) ms,
)
labels_ascend j (false ∷ ms) = labels_ascend (suc j) ms

-- ---- how many rows are taken
pub length-taken : (before gs : List Vector) (ms : List Bool) (k : ℕ) → length ms ≤ length gs →
    length (taken before gs ms) ≡ length before + length (labels_from k ms)
length-taken before gs [] k l = omega (arith, ap length (taken-nil before gs))
length-taken before [] (m ∷ ms) k l = absurd (omega arith)
length-taken before (g ∷ gs) (true ∷ ms) k l = omega (arith, length-taken (g ∷ before) gs ms (suc k) (omega arith))
length-taken before (g ∷ gs) (false ∷ ms) k l = length-taken before gs ms (suc k) (omega arith)

-- the row behind the marks: taken, or not
pub first_with : (n : ℕ) (before : List Vector) (y : Vector) (gs : List Vector) (ms : List Bool) →
    length ms < length gs →
    AreFirstTight n before y gs (ms ++ true ∷ [])
    ↔ (AreFirstTight n before y gs ms × (slice_index_or gs (length ms) [] · y ≡ pos 0)
    × IsNew n (taken before gs ms) (slice_index_or gs (length ms) []))
first_with n before y [] ms l = absurd (omega arith)
first_with n before y (g ∷ gs) [] l = (λ h. (tt, h.0, h.1), λ h. (h.1, h.2, tt))
first_with n before y (g ∷ gs) (true ∷ ms) l =
    let go = first_with n (g ∷ before) y gs ms (omega arith) in
    (λ h. let k = go.0 h.2 in ((h.0, h.1, k.0), k.1, k.2), λ h. (h.0.0, h.0.1, go.1 (h.0.2, h.1, h.2)))
first_with n before y (g ∷ gs) (false ∷ ms) l =
    let go = first_with n before y gs ms (omega arith) in
    (λ h. let k = go.0 h.1 in ((h.0, k.0), k.1, k.2), λ h. (h.0.0, go.1 (h.0.1, h.1, h.2)))

pub first_without : (n : ℕ) (before : List Vector) (y : Vector) (gs : List Vector) (ms : List Bool) →
    length ms < length gs →
    AreFirstTight n before y gs (ms ++ false ∷ [])
    ↔ (AreFirstTight n before y gs ms
    × (slice_index_or gs (length ms) [] · y ≡ pos 0 →
    Follows n (taken before gs ms) (slice_index_or gs (length ms) [])))
first_without n before y [] ms l = absurd (omega arith)
first_without n before y (g ∷ gs) [] l = (λ h. (tt, h.0), λ h. (h.1, tt))
first_without n before y (g ∷ gs) (true ∷ ms) l =
    let go = first_without n (g ∷ before) y gs ms (omega arith) in
    (λ h. let k = go.0 h.2 in ((h.0, h.1, k.0), k.1), λ h. (h.0.0, h.0.1, go.1 (h.0.2, h.1)))
first_without n before y (g ∷ gs) (false ∷ ms) l =
    let go = first_without n before y gs ms (omega arith) in
    (λ h. let k = go.0 h.1 in ((h.0, k.0), k.1), λ h. (h.0.0, go.1 (h.0.1, h.1)))

-- ---- what the rows taken tell
pub vanish_taken : (n : ℕ) (before : List Vector) (y : Vector) (gs : List Vector) (ms : List Bool) → Vanish before y →
    AreFirstTight n before y gs ms → Vanish (taken before gs ms) y
vanish_taken n before y gs [] v h = subst (λ t. Vanish t y) (sym (taken-nil before gs)) v
vanish_taken n before y [] (m ∷ ms) v h = absurd h
vanish_taken n before y (g ∷ gs) (true ∷ ms) v h = vanish_taken n (g ∷ before) y gs ms (h.0, v) h.2
vanish_taken n before y (g ∷ gs) (false ∷ ms) v h = vanish_taken n before y gs ms v h.1

-- z is 0 on what is tight at y, so on the rows taken
pub vanish_on_tight : (n : ℕ) (before : List Vector) (y z : Vector) (gs : List Vector) (ms : List Bool) →
    AreFirstTight n before y gs ms → Vanish before z → IsOnTight y gs z → Vanish (taken before gs ms) z
vanish_on_tight n before y z gs [] h v t = subst (λ t. Vanish t z) (sym (taken-nil before gs)) v
vanish_on_tight n before y z [] (m ∷ ms) h v t = absurd h
vanish_on_tight n before y z (g ∷ gs) (true ∷ ms) h v t = vanish_on_tight n (g ∷ before) y z gs ms h.2 (t.0 h.0, v) t.1
vanish_on_tight n before y z (g ∷ gs) (false ∷ ms) h v t = vanish_on_tight n before y z gs ms h.1 v t.1
