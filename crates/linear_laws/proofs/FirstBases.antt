-- A list of rows has one first basis, and depends on it; rows that are new one over another.
use Rattle.std.proofs.Common.{◌≡◌, ◌⊎◌, inl, inr, ⊎_elim, Bool, true, false, ℕ, List, [], ◌∷◌, length, refl, ap}
use Rattle.poly_num.specs.Vectors.{Vector}
use Rattle.poly_model.specs.Independence.{Vanish, Follows, IsNew, IsFirstBasis, taken}
use Rattle.linear_laws.specs.NewRows.{AreNew}
use Rattle.linear_laws.proofs.Elimination.{Reached, start, scan, take_row, new_row, follows_row, Eliminated, eliminate, eliminate_all}

pub not_both : (n : ℕ) (before : List Vector) (g : Vector) → IsNew n before g → Follows n before g → ⊥
not_both n before g w f = w.3 (f w.0 w.1 w.2)

pub first_unique : (n : ℕ) (before gs : List Vector) (ms ks : List Bool) →
    IsFirstBasis n before gs ms → IsFirstBasis n before gs ks → ms ≡ ks
first_unique n before [] [] [] a b = refl
first_unique n before [] [] (k ∷ ks) a b = absurd b
first_unique n before [] (m ∷ ms) ks a b = absurd a
first_unique n before (g ∷ gs) [] ks a b = absurd a
first_unique n before (g ∷ gs) (true ∷ ms) [] a b = absurd b
first_unique n before (g ∷ gs) (false ∷ ms) [] a b = absurd b
first_unique n before (g ∷ gs) (true ∷ ms) (true ∷ ks) a b =
    ap (λ t. true ∷ t) (first_unique n (g ∷ before) gs ms ks a.1 b.1)
first_unique n before (g ∷ gs) (true ∷ ms) (false ∷ ks) a b = absurd (not_both n before g a.0 b.0)
first_unique n before (g ∷ gs) (false ∷ ms) (true ∷ ks) a b = absurd (not_both n before g b.0 a.0)
first_unique n before (g ∷ gs) (false ∷ ms) (false ∷ ks) a b =
    ap (λ t. false ∷ t) (first_unique n before gs ms ks a.1 b.1)

-- where the rows taken are 0, all rows are
pub taken_enough : (n : ℕ) (before gs : List Vector) (ms : List Bool) → IsFirstBasis n before gs ms →
    (y : Vector) → length y ≡ n → Vanish (taken before gs ms) y → Vanish before y × Vanish gs y
taken_enough n before [] [] f y l v = (v, tt)
taken_enough n before [] (m ∷ ms) f y l v = absurd f
taken_enough n before (g ∷ gs) [] f y l v = absurd f
taken_enough n before (g ∷ gs) (true ∷ ms) f y l v =
    let k : Vanish (g ∷ before) y × Vanish gs y = taken_enough n (g ∷ before) gs ms f.1 y l v in (k.0.1, (k.0.0, k.1))
taken_enough n before (g ∷ gs) (false ∷ ms) f y l v =
    let k : Vanish before y × Vanish gs y = taken_enough n before gs ms f.1 y l v in (k.0, (f.0 y l k.0, k.1))

-- where all rows are 0, those taken are
pub taken_of : (before gs : List Vector) (ms : List Bool) (y : Vector) →
    Vanish before y → Vanish gs y → Vanish (taken before gs ms) y
taken_of before [] ms y b v = b
taken_of before (g ∷ gs) [] y b v = b
taken_of before (g ∷ gs) (true ∷ ms) y b v = taken_of (g ∷ before) gs ms y (v.0, b) v.1
taken_of before (g ∷ gs) (false ∷ ms) y b v = taken_of before gs ms y b v.1

-- ---- over any rows
-- a further row is new over them or follows from them
pub new_or_follows : (n : ℕ) (rows : List Vector) (g : Vector) → IsNew n rows g ⊎ Follows n rows g
new_or_follows n rows g = by (eliminate_all n rows)
  where
    by : Eliminated n [] rows → IsNew n rows g ⊎ Follows n rows g
    by e =
        ⊎_elim
        (λ z. inr (λ y l v. follows_row g e.reached z y l (taken_of [] rows e.marks y tt v)))
        (λ f. let w = new_row g e.reached f in
        inl (w.0, w.1, (taken_enough n [] rows e.marks e.first w.0 w.1 w.2).1, w.3))
        (scan g e.reached.slots)

pub first_basis : (n : ℕ) (before rows : List Vector) → (ms : List Bool) × IsFirstBasis n before rows ms
first_basis n before [] = ([], tt)
first_basis n before (g ∷ rows) =
    ⊎_elim
    (λ (w : IsNew n before g). let h = first_basis n (g ∷ before) rows in (true ∷ h.0, (w, h.1)))
    (λ (f : Follows n before g). let h = first_basis n before rows in (false ∷ h.0, (f, h.1)))
    (new_or_follows n before g)

pub first_basis_is_one : (n : ℕ) (before rows : List Vector) →
    (ms : List Bool) × IsFirstBasis n before rows ms × ((ks : List Bool) → IsFirstBasis n before rows ks → ks ≡ ms)
first_basis_is_one n before rows =
    let h = first_basis n before rows in (h.0, h.1, λ ks f. first_unique n before rows ks h.0 f h.1)

-- ---- over rows that are new
-- elimination takes each of them
pub reach : (n : ℕ) (gs : List Vector) → AreNew n gs → Reached n gs
reach n [] a = start n
reach n (g ∷ gs) a = by (reach n gs a.1)
  where
    by : Reached n gs → Reached n (g ∷ gs)
    by r = ⊎_elim (λ z. absurd (not_both n gs g a.0 (follows_row g r z))) (λ f. take_row g r f) (scan g r.slots)

pub eliminate_over : (n : ℕ) (before gs : List Vector) → AreNew n before → Eliminated n before gs
eliminate_over n before gs a = eliminate n before gs (reach n before a)
