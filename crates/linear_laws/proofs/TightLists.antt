-- The first independent list of the rows tight at a vector: there is one, and its length says whether
-- the vector is alone on what is tight at it.
use Rattle.std.proofs.Common.{◌≡◌, ◌⊎◌, ◌↔◌, inl, inr, Bool, true, false, ℕ, suc, ◌+◌, pos, List, [], ◌∷◌, ◌++◌, length, refl, sym, ap, ◌∙◌, subst, arith}
use lib.IntN.{ℤ_discrete}
use Rattle.poly_num.specs.Vectors.{Vector, ◌·◌, IsZero}
use Rattle.poly_model.specs.Independence.{Vanish, Follows, IsNew, IsFirstBasis, taken, IsAlone}
use Rattle.linear_laws.specs.NewRows.{AreNew}
use Rattle.linear_laws.specs.LocalTest.{AreFirstTight}
use Rattle.linear_laws.specs.Corners.{IsAloneOnTight}
use Rattle.linear_laws.proofs.AllLemmas.{all_left, all_right, all_both}
use Rattle.linear_laws.proofs.FirstBases.{not_both, new_or_follows}
use Rattle.linear_laws.proofs.Alone.{alone_by_first_basis}
use Rattle.linear_laws.proofs.Tight.{cons_if_zero, tight_at, left_out, on_tight_from_vanish, vanish_from_on_tight, on_tight_itself}

-- ---- there is one
pub record TightMarks (n : ℕ) (before : List Vector) (y : Vector) (gs : List Vector) : Type 0 where
  pub marks : List Bool
  pub full : length marks ≡ length gs
  pub first : AreFirstTight n before y gs marks

pub tight_marks : (n : ℕ) (before : List Vector) → AreNew n before → (y : Vector) (gs : List Vector) →
    TightMarks n before y gs
tight_marks n before a y [] = record { marks = []; full = refl; first = tt }
tight_marks n before a y (g ∷ gs) =
    by (ℤ_discrete (g · y) (pos 0)) (new_or_follows n before g) (tight_marks n before a y gs)
    (λ w. tight_marks n (g ∷ before) (w, a) y gs)
  where
    skipped : TightMarks n before y gs → (g · y ≡ pos 0 → Follows n before g) → TightMarks n before y (g ∷ gs)
    skipped t h = record { marks = false ∷ t.marks; full = ap suc t.full; first = (h, t.first) }

    kept : g · y ≡ pos 0 → IsNew n before g → TightMarks n (g ∷ before) y gs → TightMarks n before y (g ∷ gs)
    kept e w t = record { marks = true ∷ t.marks; full = ap suc t.full; first = (e, w, t.first) }

    by : Dec (g · y ≡ pos 0) → IsNew n before g ⊎ Follows n before g → TightMarks n before y gs →
        (IsNew n before g → TightMarks n (g ∷ before) y gs) → TightMarks n before y (g ∷ gs)
    by (no h) d skip take = skipped skip (λ e. absurd (h e))
    by (yes e) (inr f) skip take = skipped skip (λ e. f)
    by (yes e) (inl w) skip take = kept e w (take w)

pub tight_unique : (n : ℕ) (before : List Vector) (y : Vector) (gs : List Vector) (ms ks : List Bool) →
    length ks ≡ length ms → AreFirstTight n before y gs ms → AreFirstTight n before y gs ks → ks ≡ ms
tight_unique n before y gs [] [] l a b = refl
tight_unique n before y gs [] (k ∷ ks) l a b = absurd (omega arith)
tight_unique n before y gs (m ∷ ms) [] l a b = absurd (omega arith)
tight_unique n before y [] (m ∷ ms) (k ∷ ks) l a b = absurd a
tight_unique n before y (g ∷ gs) (true ∷ ms) (true ∷ ks) l a b =
    ap (λ t. true ∷ t) (tight_unique n (g ∷ before) y gs ms ks (omega arith) a.2 b.2)
tight_unique n before y (g ∷ gs) (true ∷ ms) (false ∷ ks) l a b = absurd (not_both n before g a.1 (b.0 a.0))
tight_unique n before y (g ∷ gs) (false ∷ ms) (true ∷ ks) l a b = absurd (not_both n before g b.1 (a.0 b.0))
tight_unique n before y (g ∷ gs) (false ∷ ms) (false ∷ ks) l a b =
    ap (λ t. false ∷ t) (tight_unique n before y gs ms ks (omega arith) a.1 b.1)

pub first_tight_is_one : (n : ℕ) (before : List Vector) (y : Vector) (gs : List Vector) → AreNew n before →
    (ms : List Bool) × (length ms ≡ length gs) × AreFirstTight n before y gs ms
    × ((ks : List Bool) → length ks ≡ length gs → AreFirstTight n before y gs ks → ks ≡ ms)
first_tight_is_one n before y gs a = by (tight_marks n before a y gs)
  where
    by : TightMarks n before y gs → (ms : List Bool) × (length ms ≡ length gs) × AreFirstTight n before y gs ms
        × ((ks : List Bool) → length ks ≡ length gs → AreFirstTight n before y gs ks → ks ≡ ms)
    by t = (t.marks, t.full, t.first, λ ks l f. tight_unique n before y gs t.marks ks (l ∙ sym t.full) t.first f)

-- ---- it is the first basis of the list of the tight rows
pub record BasisOfTight (n : ℕ) (before : List Vector) (tight goal : List Vector) : Type 0 where
  pub marks : List Bool
  pub first : IsFirstBasis n before tight marks
  pub same : taken before tight marks ≡ goal

pub basis_of_tight : (n : ℕ) (before : List Vector) (y : Vector) (gs : List Vector) (ms : List Bool) →
    length ms ≡ length gs → AreFirstTight n before y gs ms →
    BasisOfTight n before (tight_at y gs) (taken before gs ms)
basis_of_tight n before y [] [] l f = record { marks = []; first = tt; same = refl }
basis_of_tight n before y [] (m ∷ ms) l f = absurd f
basis_of_tight n before y (g ∷ gs) [] l f = absurd (omega arith)
basis_of_tight n before y (g ∷ gs) (true ∷ ms) l f =
    let b = basis_of_tight n (g ∷ before) y gs ms (omega arith) f.2 in
    subst (λ x. BasisOfTight n before (cons_if_zero x g (tight_at y gs)) (taken (g ∷ before) gs ms)) (sym f.0)
    (record { marks = true ∷ b.marks; first = (f.1, b.first); same = b.same })
basis_of_tight n before y (g ∷ gs) (false ∷ ms) l f =
    by (ℤ_discrete (g · y) (pos 0)) (basis_of_tight n before y gs ms (omega arith) f.1)
  where
    by : Dec (g · y ≡ pos 0) → BasisOfTight n before (tight_at y gs) (taken before gs ms) →
        BasisOfTight n before (cons_if_zero (g · y) g (tight_at y gs)) (taken before gs ms)
    by (yes e) b =
        subst (λ x. BasisOfTight n before (cons_if_zero x g (tight_at y gs)) (taken before gs ms)) (sym e)
        (record { marks = false ∷ b.marks; first = (f.0 e, b.first); same = b.same })
    by (no h) b =
        subst (λ t. BasisOfTight n before t (taken before gs ms)) (sym (left_out (g · y) g (tight_at y gs) h)) b

-- ---- alone on what is tight
module _ (n : ℕ) (before gs : List Vector) (y : Vector) where
  alone_on_list : IsAloneOnTight n before gs y → IsAlone n (before ++ tight_at y gs) y
  alone_on_list h z l v =
      h z l (all_left (λ g. g · z ≡ pos 0) before (tight_at y gs) v)
      (on_tight_from_vanish y z gs (all_right (λ g. g · z ≡ pos 0) before (tight_at y gs) v))

  alone_on_tight : IsAlone n (before ++ tight_at y gs) y → IsAloneOnTight n before gs y
  alone_on_tight h z l b t =
      h z l (all_both (λ g. g · z ≡ pos 0) before (tight_at y gs) b (vanish_from_on_tight y z gs t))

  pub alone_by_tight_count : (ms : List Bool) → AreNew n before → length ms ≡ length gs →
      AreFirstTight n before y gs ms → length y ≡ n → Vanish before y → (IsZero y → ⊥) →
      IsAloneOnTight n before gs y ↔ (length (taken before gs ms) + 1 ≡ n)
  alone_by_tight_count ms a full f l v nz = by (basis_of_tight n before y gs ms full f)
    where
      tight : Vanish (tight_at y gs) y
      tight = vanish_from_on_tight y y gs (on_tight_itself y gs)

      by : BasisOfTight n before (tight_at y gs) (taken before gs ms) →
          IsAloneOnTight n before gs y ↔ (length (taken before gs ms) + 1 ≡ n)
      by b =
          let count = alone_by_first_basis n before (tight_at y gs) b.marks y a b.first l v tight nz in
          let same = ap (λ t. length t + 1) b.same in
          (λ h. sym same ∙ count.0 (alone_on_list h), λ k. alone_on_tight (count.1 (same ∙ k)))
