-- The children of a key are one list, so what is met is one list: wherever there is one child at a label.
use Rattle.std.proofs.Common.{◌≡◌, ◌⊎◌, inl, inr, ℕ, suc, ◌≤◌, ◌<◌, List, [], ◌∷◌, ◌++◌, length, refl, sym, ap, subst, ◌∙◌, arith}
use Rattle.std.specs.List.{Contains}
use Rattle.linear_laws.proofs.Members.{same_first, same_others, ascending_is_one}
use Rattle.work_core.specs.Orders.{Met, visited, given_back, AreAt, AreChildren, Meets}
use Rattle.job_laws.proofs.MetLists.{child_of_label}

no_first : {X : Type 0} (x : X) (xs : List X) → [] ≡ x ∷ xs → ⊥
no_first x xs e = let l = ap length e in omega (arith, l)

module _ (At : List ℕ → ℕ → List ℕ → Type 0)
    (one : (key : List ℕ) (s : ℕ) (a b : List ℕ) → At key s a → At key s b → a ≡ b) where
  same_at : (key labels : List ℕ) (cs ds : List (List ℕ)) → AreAt At key labels cs → AreAt At key labels ds → cs ≡ ds
  same_at key [] [] [] x y = refl
  same_at key [] [] (d ∷ ds) x y = absurd y
  same_at key [] (c ∷ cs) ds x y = absurd x
  same_at key (s ∷ labels) [] ds x y = absurd x
  same_at key (s ∷ labels) (c ∷ cs) [] x y = absurd y
  same_at key (s ∷ labels) (c ∷ cs) (d ∷ ds) (h, x) (g, y) =
      ap (λ k. k ∷ cs) (one key s c d h g) ∙ ap (λ ks. d ∷ ks) (same_at key labels cs ds x y)

  labels_within : (key : List ℕ) (cs ds : List (List ℕ)) (a : AreChildren At key cs) (b : AreChildren At key ds) (s : ℕ) →
      Contains a.labels s → Contains b.labels s
  labels_within key cs ds a b s m = let c = child_of_label At key a.labels cs a.at s m in b.each s c.0 c.2

  pub same_children : (key : List ℕ) (cs ds : List (List ℕ)) → AreChildren At key cs → AreChildren At key ds → cs ≡ ds
  same_children key cs ds x y =
      same_at key x.labels cs ds x.at (subst (λ labels. AreAt At key labels ds) (sym same) y.at)
    where
      same : x.labels ≡ y.labels
      same = ascending_is_one x.labels y.labels x.ascending y.ascending (labels_within key cs ds x y)
          (labels_within key ds cs y x)

  module _ (Deep : List ℕ → Type 0) (most : ℕ) where
    -- none is visited and given back
    not_both : (n : ℕ) (k l : List ℕ) → k ≡ l → n < most → (Deep k → ⊥) → (most ≤ n) ⊎ Deep l → ⊥
    not_both n k l e few high (inl m) = omega (arith, few, m)
    not_both n k l e few high (inr d) = high (subst Deep (sym e) d)

    pub one_run : (n : ℕ) (waiting : List (List ℕ)) (a b : List Met) → Meets At Deep most n waiting a →
        Meets At Deep most n waiting b → a ≡ b
    one_run n ws [] [] x y = refl
    one_run n ws [] (visited k ∷ b) x (rest, e, few, high, cs, c, y) = absurd (no_first k rest (sym x ∙ e))
    one_run n ws [] (given_back k ∷ b) x (rest, e, stop, y) = absurd (no_first k rest (sym x ∙ e))
    one_run n ws (visited k ∷ a) [] (rest, e, few, high, cs, c, x) y = absurd (no_first k rest (sym y ∙ e))
    one_run n ws (given_back k ∷ a) [] (rest, e, stop, x) y = absurd (no_first k rest (sym y ∙ e))
    one_run n ws (visited k ∷ a) (given_back l ∷ b) (rest, e, few, high, cs, c, x) (rest', e', stop, y) =
        absurd (not_both n k l (same_first k l rest rest' (sym e ∙ e')) few high stop)
    one_run n ws (given_back k ∷ a) (visited l ∷ b) (rest, e, stop, x) (rest', e', few, high, cs, c, y) =
        absurd (not_both n l k (same_first l k rest' rest (sym e' ∙ e)) few high stop)
    one_run n ws (given_back k ∷ a) (given_back l ∷ b) (rest, e, stop, x) (rest', e', stop', y) =
        let same = same_first k l rest rest' (sym e ∙ e') in
        let others = same_others k l rest rest' (sym e ∙ e') in
        ap (λ m. given_back m ∷ a) same
        ∙ ap (λ m. given_back l ∷ m) (one_run n rest a b x (subst (λ ks. Meets At Deep most n ks b) (sym others) y))
    one_run n ws (visited k ∷ a) (visited l ∷ b) (rest, e, few, high, cs, c, x) (rest', e', few', high', ds, d, y) =
        let same = same_first k l rest rest' (sym e ∙ e') in
        let others = same_others k l rest rest' (sym e ∙ e') in
        let children : ds ≡ cs = same_children k ds cs (subst (λ m. AreChildren At m ds) (sym same) d) c in
        ap (λ m. visited m ∷ a) same
        ∙ ap (λ m. visited l ∷ m) (one_run (suc n) (cs ++ rest) a b x
        (subst (λ ks. Meets At Deep most (suc n) (cs ++ ks) b) (sym others)
        (subst (λ ks. Meets At Deep most (suc n) (ks ++ rest') b) children y)))
