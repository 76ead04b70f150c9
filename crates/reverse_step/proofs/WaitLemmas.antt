-- What waits after a step down and after a step up.
use Rattle.std.proofs.Common.{◌≡◌, ◌≢◌, inl, inr, ℕ, zero, suc, ◌≤◌, ◌<◌, List, [], ◌∷◌, ◌++◌, length, drop, get_or, refl, sym, ap, subst, ◌∙◌, arith, drop-cons}
use Rattle.std.proofs.lemmas.List.{drop_all}
use Rattle.dictionary_laws.specs.Keys.{place_in}
use Rattle.reverse_step.specs.Waiting.{AreAlong, Wait}

module _ (IsChildAt : List ℕ → ℕ → List ℕ → Type 0) where
  along_skip : (key : List ℕ) (s : ℕ) (ss : List ℕ) (cs : List (List ℕ)) →
      ((child : List ℕ) → IsChildAt key s child → ⊥) → AreAlong IsChildAt key (s ∷ ss) cs → AreAlong IsChildAt key ss cs
  along_skip key s ss cs n (inl (m, a)) = a
  along_skip key s ss cs n (inr (child, rest, c, a, e)) = absurd (n child c)

  -- the child in the first column, and those in the others
  along_child : (key : List ℕ) (s : ℕ) (ss : List ℕ) (cs : List (List ℕ)) (one : List ℕ) → IsChildAt key s one →
      ((child : List ℕ) → IsChildAt key s child → child ≡ one) → AreAlong IsChildAt key (s ∷ ss) cs →
      (rest : List (List ℕ)) × AreAlong IsChildAt key ss rest × (cs ≡ one ∷ rest)
  along_child key s ss cs one c same (inl (m, a)) = absurd (m one c)
  along_child key s ss cs one c same (inr (child, rest, d, a, e)) =
      (rest, a, e ∙ ap (λ k. k ∷ rest) (same child d))

  next_column : (key : List ℕ) (at : ℕ) → at < length key → drop at key ≡ get_or key at 0 ∷ drop (suc at) key
  next_column key at l = drop-cons key at 0 l

  pub wait_skip : (job : List ℕ) (depth : ℕ) (key : List ℕ) (at : ℕ) (ws : List (List ℕ)) → at < length key →
      ((child : List ℕ) → IsChildAt key (get_or key at 0) child → ⊥) → Wait IsChildAt job depth key at ws →
      Wait IsChildAt job depth key (suc at) ws
  wait_skip job zero key at ws l n (e, a) = (
    e,
    along_skip key (get_or key at 0) (drop (suc at) key) ws n
        (subst (λ ss. AreAlong IsChildAt key ss ws) (next_column key at l) a),
  )
  wait_skip job (suc depth) key at ws l n (m, cs, parent, s, rest, a, c, w, e) = (
    m,
    cs,
    parent,
    s,
    rest,
    along_skip key (get_or key at 0) (drop (suc at) key) cs n
        (subst (λ ss. AreAlong IsChildAt key ss cs) (next_column key at l) a),
    c,
    w,
    e,
  )

  no_column : (key : List ℕ) → AreAlong IsChildAt key (drop (length key) key) []
  no_column key = subst (λ ss. AreAlong IsChildAt key ss []) (sym (drop_all (length key) key (omega arith))) refl

  -- at the child, its own children wait and then what is left
  pub record WaitsAtChild (job : List ℕ) (depth : ℕ) (one : List ℕ) (ws cs : List (List ℕ)) : Type 0 where
    pub rest : List (List ℕ)
    pub first : ws ≡ one ∷ rest
    pub waits : Wait IsChildAt job (suc depth) one 0 (cs ++ rest)
    pub passed : Wait IsChildAt job (suc depth) one (length one) rest

  pub wait_child : (job : List ℕ) (depth : ℕ) (key : List ℕ) (at : ℕ) (ws : List (List ℕ)) (one : List ℕ)
      (cs : List (List ℕ)) → at < length key → place_in key (get_or key at 0) ≡ at → IsChildAt key (get_or key at 0) one →
      ((child : List ℕ) → IsChildAt key (get_or key at 0) child → child ≡ one) → one ≢ job →
      AreAlong IsChildAt one one cs → Wait IsChildAt job depth key at ws → WaitsAtChild job depth one ws cs
  wait_child job zero key at ws one cs l p c same n b (e, a) =
      let s = get_or key at 0 in
      let w = along_child key s (drop (suc at) key) ws one c same
      (subst (λ ss. AreAlong IsChildAt key ss ws) (next_column key at l) a) in
      record {
        rest = w.0;
        first = w.2;
        waits = (
          n,
          cs,
          key,
          s,
          w.0,
          b,
          c,
          (e, subst (λ i. AreAlong IsChildAt key (drop (suc i) key) w.0) (sym p) w.1),
          refl,
        );
        passed = (
          n,
          [],
          key,
          s,
          w.0,
          no_column one,
          c,
          (e, subst (λ i. AreAlong IsChildAt key (drop (suc i) key) w.0) (sym p) w.1),
          refl,
        );
      }
  wait_child job (suc depth) key at ws one cs l p c same n b (m, ks, parent, q, rest, a, d, u, e) =
      let s = get_or key at 0 in
      let w = along_child key s (drop (suc at) key) ks one c same
      (subst (λ ss. AreAlong IsChildAt key ss ks) (next_column key at l) a) in
      record {
        rest = w.0 ++ rest;
        first = e ∙ ap (λ xs. xs ++ rest) w.2;
        waits = (
          n,
          cs,
          key,
          s,
          w.0 ++ rest,
          b,
          c,
          (m, w.0, parent, q, rest, subst (λ i. AreAlong IsChildAt key (drop (suc i) key) w.0) (sym p) w.1, d, u, refl),
          refl,
        );
        passed = (
          n,
          [],
          key,
          s,
          w.0 ++ rest,
          no_column one,
          c,
          (m, w.0, parent, q, rest, subst (λ i. AreAlong IsChildAt key (drop (suc i) key) w.0) (sym p) w.1, d, u, refl),
          refl,
        );
      }

  -- all columns are tried
  pub wait_end : (job : List ℕ) (key : List ℕ) (at : ℕ) (ws : List (List ℕ)) → length key ≤ at →
      Wait IsChildAt job zero key at ws → ws ≡ []
  wait_end job key at ws l (e, a) = subst (λ ss. AreAlong IsChildAt key ss ws) (drop_all at key l) a

  pub record WaitsAtParent (job : List ℕ) (depth : ℕ) (key : List ℕ) (ws : List (List ℕ)) : Type 0 where
    pub other : key ≢ job
    pub parent : List ℕ
    pub column : ℕ
    pub child : IsChildAt parent column key
    pub waits : Wait IsChildAt job depth parent (suc (place_in parent column)) ws

  pub wait_parent : (job : List ℕ) (depth : ℕ) (key : List ℕ) (at : ℕ) (ws : List (List ℕ)) → length key ≤ at →
      Wait IsChildAt job (suc depth) key at ws → WaitsAtParent job depth key ws
  wait_parent job depth key at ws l (m, cs, parent, s, rest, a, c, w, e) =
      let none : cs ≡ [] = subst (λ ss. AreAlong IsChildAt key ss cs) (drop_all at key l) a in
      record {
        other = m;
        parent = parent;
        column = s;
        child = c;
        waits = subst (λ xs. Wait IsChildAt job depth parent (suc (place_in parent s)) xs)
            (sym (e ∙ ap (λ xs. xs ++ rest) none)) w;
      }
