-- The keys of the work by subsets branch: a child is the list with one label more.
use Rattle.std.proofs.Common.{◌≡◌, ◌⊎◌, inl, inr, ℕ, List, [], ◌∷◌, ◌++◌, length, length-append, append_assoc, append-nil, refl, sym, ap, subst, ◌∙◌, arith}
use Rattle.std.specs.List.{Contains}
use Rattle.std.proofs.lemmas.List.{append_cancel_left}
use Rattle.std.proofs.lemmas.List.Elements.{All-contains, Contains-append_left}
use Rattle.poly_model.specs.Systems.{Polyhedron}
use Rattle.linear_laws.proofs.Members.{same_first}
use Rattle.work_core.specs.Meanings.{StandsUnder}
use Rattle.work_core.specs.Searches.{by_subsets}
use Rattle.work_core.specs.Subsets.{plain_labels, IsSubsetKey, IsSubsetChildAt}
use Rattle.work_core.proofs.SubsetShares as shares
use Rattle.job_laws.specs.Branches.{HasBranches}

-- the front of a key is one
key_front : (p : Polyhedron) (front rest : List ℕ) → IsSubsetKey p (front ++ rest) → IsSubsetKey p front
key_front p front rest k =
    shares.is_key p front k.dimension k.reduced (shares.ascending_front front rest k.ascending.ascending)
    (let l = length-append front rest in let r = k.ascending.room in omega (arith, l, r))
    (λ j m. All-contains (Contains (plain_labels p)) (front ++ rest) j k.rows (Contains-append_left front rest j m))
    (let l = length-append front rest in let r = k.short in omega (arith, l, r))

-- lists that are equal have one label behind their common front
label_behind : (key : List ℕ) (s r : ℕ) (m n : List ℕ) → (key ++ s ∷ []) ++ m ≡ (key ++ r ∷ []) ++ n → s ≡ r
label_behind key s r m n e =
    same_first s r m n
    (append_cancel_left key (s ∷ m) (r ∷ n) (sym (append_assoc key (s ∷ []) m) ∙ e ∙ append_assoc key (r ∷ []) n))

pub subsets_branch : (p : Polyhedron) → HasBranches (by_subsets p)
subsets_branch p = record {
  child_key = λ key s c is x. x.is_key;
  child_under = λ key s c x. record { more = s ∷ []; begins = x.longer; count = refl };
  deeper = λ key s c above d x u. record {
    more = u.more ++ s ∷ [];
    begins = x.longer ∙ ap (λ k. k ++ s ∷ []) u.begins ∙ append_assoc above u.more (s ∷ []);
    count = let l = length-append u.more (s ∷ []) in let e = u.count in omega (arith, l, e);
  };
  parts = λ key one is u. by key one u.0 u.1.1.more u.1.1.begins;
  one_child = λ key s r b c one is x y u v.
      x.longer ∙ ap (λ l. key ++ l ∷ [])
      (label_behind key s r u.1.more v.1.more
      (ap (λ k. k ++ u.1.more) (sym x.longer) ∙ sym u.1.begins ∙ v.1.begins ∙ ap (λ k. k ++ v.1.more) y.longer))
      ∙ sym y.longer;
  not_itself = λ key s c is x u.
      let e = ap length (u.1.begins ∙ ap (λ k. k ++ u.1.more) x.longer) in
      let l = length-append (key ++ s ∷ []) u.1.more in
      let m = length-append key (s ∷ []) in
      omega (arith, e, l, m);
  one_at = λ key s a c x y. x.longer ∙ sym y.longer;
  one_label = λ key s r c x y. label_behind key s r [] [] (ap (λ k. k ++ []) (sym x.longer ∙ y.longer));
}
  where
    by : (key one : List ℕ) → IsSubsetKey p one → (more : List ℕ) → one ≡ key ++ more →
        (one ≡ key) ⊎ ((s : ℕ) × (c : List ℕ) × IsSubsetChildAt p key s c × StandsUnder (by_subsets p) one c)
    by key one k [] e = inl (e ∙ append-nil key)
    by key one k (s ∷ more) e =
        let split : one ≡ (key ++ s ∷ []) ++ more = e ∙ sym (append_assoc key (s ∷ []) more) in
        inr (
          s,
          key ++ s ∷ [],
          record { longer = refl; is_key = key_front p (key ++ s ∷ []) more (subst (IsSubsetKey p) split k) },
          (length more, record { more = more; begins = split; count = refl }),
        )
