-- The least row so far, and the row that leaves.
use Rattle.std.proofs.Common.{◌≡◌, ◌≢◌, ◌⊎◌, inl, inr, ⊎_elim, ℕ, zero, suc, ◌+◌, ◌-◌, ◌<◌, ◌≤◌, ℤ, pos, neg_ℤ, ◌<ℤ◌, List, [], ◌∷◌, ◌++◌, map, length, take, get_or, refl, sym, ap, subst, ◌∙◌, arith, add-one, Option, Some, None}
use Rattle.std.specs.Prelude.{IfSome}
use Rattle.std.specs.List.{Contains}
use Rattle.std.specs.Option.{MatchOption}
use Rattle.std.specs.declared.cmp.Ordering.TheVariants.{Less}
use Rattle.std.proofs.Math.Seq.{take-suc}
use Rattle.std.proofs.lemmas.Int.{by_lt_z}
use Rattle.std.proofs.lemmas.List.Elements.{Contains-append_left, Contains-append_right, Contains-append_cases, Contains-get_or}
use Rattle.poly_num.proofs.Ring.{lin}
use Rattle.poly_num.specs.Signs.{lex_sign_of}
use Rattle.poly_model.specs.Dictionaries.{Table}
use Rattle.poly_model.specs.LexOrder.{IsNonnegative, gaps, list_of}
use Rattle.poly_model.specs.Tree.{ratio_gaps, Leaves}
use Rattle.linear_laws.specs.Distinct.{AreDistinct}
use Rattle.linear_laws.proofs.Members.{Contains-nil, Contains-first, Contains-cons_cases}
use Rattle.tree_laws.proofs.LexLemmas.{zero_is_nonnegative, positive_is_nonnegative}
use Rattle.tree_laws.proofs.GapLemmas.{gaps_turned, gaps_of_itself}
use Rattle.tree_laws.proofs.Least.{at_most_transitive, length_lists}
use Rattle.dictionary_laws.specs.Keys.{place_in}
use Rattle.dictionary.proofs.PlaceLemmas.{place_within, at_place}
use Rattle.dictionary.specs.Cobases.{AreOutside}
use Rattle.dictionary.specs.Positions.{IsCellColumn}
use Rattle.dictionary.specs.Views.{Dictionary, table_of}
use Rattle.lex_pivot.specs.declared.candidates.Candidate.{Candidate}
use Rattle.lex_pivot.specs.Pairs.{IsPlaced, pair_gaps}
use Rattle.lex_pivot.specs.Places.{IsRowAt}
use Rattle.lex_pivot.specs.Ratios.{NoneLeaves, IsCandidate, IsCandidateAt, IsLeastOf, IsBest, IsBestAt, IsBetter, IsLess, candidate_row}
use Rattle.lex_pivot.proofs.EarlierLemmas.{space_of, row_only}
use Rattle.lex_pivot.proofs.FirstSigns.{less, not_less}

-- ---- the rows so far
-- those in front of a label of distinct ones are others
pub taken_other : (xs : List ℕ) → AreDistinct xs → (n q : ℕ) → n < length xs → q ≡ get_or xs n 0 → (k : ℕ) →
    Contains (take n xs) k → k ≢ q
taken_other [] d n q l e k c = absurd (omega arith)
taken_other (x ∷ xs) d zero q l e k c = absurd (Contains-nil k c)
taken_other (x ∷ xs) d (suc n) q l e k c =
    ⊎_elim
    (λ (f : x ≡ k). λ (g : k ≡ q). d.0 (subst (Contains xs) (sym (f ∙ g ∙ e)) (Contains-get_or xs n 0 (omega arith))))
    (λ (m : Contains (take n xs) k). taken_other xs d.1 n q (omega arith) e k m)
    (Contains-cons_cases k x (take n xs) c)

pub one_more : (xs : List ℕ) (n q : ℕ) → n < length xs → q ≡ get_or xs n 0 → take n xs ++ q ∷ [] ≡ take (n + 1) xs
one_more xs n q l e =
    subst (λ z. take n xs ++ z ∷ [] ≡ take (n + 1) xs) (sym e)
    (subst (λ m. take n xs ++ get_or xs n 0 ∷ [] ≡ take m xs) (sym (add-one n)) (sym (take-suc xs n 0 l)))

module _ (d : Dictionary) (root : List ℕ) (s : ℕ) where
  abbrev Over : ℕ → ℕ → Type 0
  Over r i = IsNonnegative (ratio_gaps d.labels root d.key (table_of d) s r i)

  itself : (i : ℕ) → Over i i
  itself i =
      zero_is_nonnegative (ratio_gaps d.labels root d.key (table_of d) s i i)
      (gaps_of_itself (neg_ℤ (Table.entry (table_of d) i s)) (list_of d.labels root d.key (table_of d) i))

  pub positive : (i : ℕ) → IsCandidate d s i → pos 0 <ℤ neg_ℤ (Table.entry (table_of d) i s)
  positive i c = let n = c.negative in omega (arith, lin)

  through : (i r j : ℕ) → IsCandidate d s i → IsCandidate d s r → IsCandidate d s j → Over i r → Over r j → Over i j
  through i r j a b c h k =
      at_most_transitive (λ q. neg_ℤ (Table.entry (table_of d) q s)) (λ q. list_of d.labels root d.key (table_of d) q)
      (length_lists (space_of d.labels) root d.key (table_of d)) i r j (positive i a) (positive r b) (positive j c) h k

  lesser : (i r : ℕ) → lex_sign_of (ratio_gaps d.labels root d.key (table_of d) s r i) ≡ Less → Over i r
  lesser i r e =
      subst IsNonnegative
      (gaps_turned (neg_ℤ (Table.entry (table_of d) r s)) (list_of d.labels root d.key (table_of d) i)
      (neg_ℤ (Table.entry (table_of d) i s)) (list_of d.labels root d.key (table_of d) r))
      (positive_is_nonnegative (map neg_ℤ (ratio_gaps d.labels root d.key (table_of d) s r i))
      ((less (ratio_gaps d.labels root d.key (table_of d) s r i)).0 e))

  module _ (rows : List ℕ) (q : ℕ) where
    among : (i : ℕ) → Contains (rows ++ q ∷ []) i → Contains rows i ⊎ (i ≡ q)
    among i c =
        ⊎_elim
        (λ (m : Contains rows i). inl m)
        (λ (m : Contains (q ∷ []) i). ⊎_elim
        (λ (e : q ≡ i). inr (sym e)) (λ (n : Contains [] i). absurd (Contains-nil i n))
        (Contains-cons_cases i q [] m))
        (Contains-append_cases rows (q ∷ []) i c)

    last : Contains (rows ++ q ∷ []) q
    last = Contains-append_right rows (q ∷ []) q (Contains-first q [])

    pub best_kept : (best : Option ℕ) → IsBest d root s rows best → (IsCandidate d s q → ⊥) →
        IsBest d root s (rows ++ q ∷ []) best
    best_kept None h n = λ i c m.
        ⊎_elim (λ (x : Contains rows i). h i x m) (λ (e : i ≡ q). n (subst (λ k. IsCandidate d s k) e m)) (among i c)
    best_kept (Some r) h n = record {
      member = Contains-append_left rows (q ∷ []) r h.member;
      candidate = h.candidate;
      least = λ i c m. ⊎_elim (λ (x : Contains rows i). h.least i x m)
          (λ (e : i ≡ q). absurd (n (subst (λ k. IsCandidate d s k) e m))) (among i c);
    }

    pub best_first : IsBest d root s rows None → IsCandidate d s q → IsLeastOf d root s (rows ++ q ∷ []) q
    best_first none m = record {
      member = last;
      candidate = m;
      least = λ i c k. ⊎_elim (λ (x : Contains rows i). absurd (none i x k))
          (λ (e : i ≡ q). subst (λ z. Over q z) (sym e) (itself q)) (among i c);
    }

    pub best_new : (r : ℕ) → IsLeastOf d root s rows r → IsCandidate d s q →
        lex_sign_of (ratio_gaps d.labels root d.key (table_of d) s r q) ≡ Less → IsLeastOf d root s (rows ++ q ∷ []) q
    best_new r h m e = record {
      member = last;
      candidate = m;
      least = λ i c k. ⊎_elim
          (λ (x : Contains rows i). through q r i m h.candidate k (lesser q r e) (h.least i x k))
          (λ (f : i ≡ q). subst (λ z. Over q z) (sym f) (itself q)) (among i c);
    }

    pub best_old : (r : ℕ) → IsLeastOf d root s rows r →
        (lex_sign_of (ratio_gaps d.labels root d.key (table_of d) s r q) ≢ Less) → IsLeastOf d root s (rows ++ q ∷ []) r
    best_old r h n = record {
      member = Contains-append_left rows (q ∷ []) r h.member;
      candidate = h.candidate;
      least = λ i c k. ⊎_elim (λ (x : Contains rows i). h.least i x k)
          (λ (f : i ≡ q). subst (λ z. Over r z) (sym f)
          (not_less (ratio_gaps d.labels root d.key (table_of d) s r q) n)) (among i c);
    }

  -- ---- all rows
  pub best_leaves : (rows : List ℕ) (best : Option ℕ) → AreOutside d rows → IsBest d root s rows best →
      MatchOption best (NoneLeaves d s) (λ r. Leaves d.labels root d.key (table_of d) s r)
  best_leaves rows None all h = λ i o.
      by_lt_z (Table.entry (table_of d) i s) (pos 0)
      (λ n. absurd (h i (all.there i (row_only d.labels i o.row).0 o.outside) (record { row = o; negative = n })))
      (λ m. m)
  best_leaves rows (Some r) all h = record {
    row = h.candidate.row;
    negative = h.candidate.negative;
    least = λ i o n. h.least i (all.there i (row_only d.labels i o.row).0 o.outside) (record { row = o; negative = n });
  }

-- ---- candidates at their places
module _ (d : Dictionary) (root : List ℕ) (s : ℕ) where
  -- the row at a place where the cell of the column is negative
  pub candidate_here : (i q : ℕ) (cells : List ℤ) (over : ℤ) → IsCellColumn d (suc (place_in d.columns s)) cells →
      IsRowAt d i q → get_or cells i (pos 0) <ℤ pos 0 → over ≡ neg_ℤ (get_or cells i (pos 0)) →
      IsCandidateAt d s (record { row = q; place = i; over = over })
  candidate_here i q cells over h at n o =
      let same : get_or cells i (pos 0) ≡ Table.entry (table_of d) q s =
      h.numbers i at.place_is.within ∙ ap (λ z. Table.entry (table_of d) z s) at.place_is.label_is in
      record { at = at; negative = subst (λ z. z <ℤ pos 0) same n; over = o ∙ ap neg_ℤ same }

  -- a row at a place that is negative
  pub candidate_at : (place row : ℕ) (over : ℤ) → IsRowAt d place row →
      Table.entry (table_of d) (get_or d.rows place 0) s <ℤ pos 0 →
      over ≡ neg_ℤ (Table.entry (table_of d) (get_or d.rows place 0) s) →
      IsCandidateAt d s (record { row = row; place = place; over = over })
  candidate_at place row over at n e =
      let same = at.place_is.label_is in
      record {
        at = at;
        negative = subst (λ k. Table.entry (table_of d) k s <ℤ pos 0) same n;
        over = e ∙ ap (λ k. neg_ℤ (Table.entry (table_of d) k s)) same;
      }

  candidate : (c : Candidate ℤ) → IsCandidateAt d s c → IsCandidate d s c.row
  candidate c h = record { row = h.at.row; negative = h.negative }

  -- it can be compared with others
  pub placed : (c : Candidate ℤ) → IsCandidateAt d s c → IsPlaced d c
  placed c h = record {
    at = h.at;
    over = subst (λ z. pos 0 <ℤ z) (sym h.over) (positive d root s c.row (candidate c h));
  }

  pub placed_if : (best : Option (Candidate ℤ)) → IfSome best (λ c. IsCandidateAt d s c) → IfSome best (λ c. IsPlaced d c)
  placed_if None h = tt
  placed_if (Some c) h = placed c h

  same_gaps : (one other : Candidate ℤ) → IsCandidateAt d s one → IsCandidateAt d s other →
      pair_gaps d root (record { one = one; other = other }) ≡ ratio_gaps d.labels root d.key (table_of d) s other.row one.row
  same_gaps one other h k =
      ap (λ p. gaps p (list_of d.labels root d.key (table_of d) one.row) one.over (list_of d.labels root d.key (table_of d) other.row)) k.over
      ∙ ap (λ p. gaps (neg_ℤ (Table.entry (table_of d) other.row s)) (list_of d.labels root d.key (table_of d) one.row) p (list_of d.labels root d.key (table_of d) other.row)) h.over

  module _ (rows : List ℕ) (next : Candidate ℤ) (here : IsCandidateAt d s next)
      (fresh : (k : ℕ) → Contains rows k → k ≢ next.row) where
    -- the better one is the best of the rows so far with the next one
    pub better_is_best : (best : Option (Candidate ℤ)) (c : Candidate ℤ) → IsBestAt d root s rows best →
        IsBetter d root best next c → IsBestAt d root s (rows ++ next.row ∷ []) (Some c)
    better_is_best None c h e = record {
      at_place = subst (λ x. IsCandidateAt d s x) (sym e) here;
      least = subst (λ (x : Candidate ℤ). IsLeastOf d root s (rows ++ next.row ∷ []) x.row) (sym e)
          (best_first d root s rows next.row h.least (candidate next here));
    }
    better_is_best (Some before) c h e =
        ⊎_elim
        (λ (w : IsLess d root next before × (c ≡ next)). record {
          at_place = subst (λ x. IsCandidateAt d s x) (sym w.1) here;
          least = subst (λ (x : Candidate ℤ). IsLeastOf d root s (rows ++ next.row ∷ []) x.row) (sym w.1)
              (best_new d root s rows next.row before.row h.least (candidate next here)
              (subst (λ v. lex_sign_of v ≡ Less) (same_gaps next before here h.at_place) w.0));
        })
        (λ (w : (IsLess d root next before → ⊥) × (c ≡ before)). record {
          at_place = subst (λ x. IsCandidateAt d s x) (sym w.1) h.at_place;
          least = subst (λ (x : Candidate ℤ). IsLeastOf d root s (rows ++ next.row ∷ []) x.row) (sym w.1)
              (best_old d root s rows next.row before.row h.least
              (λ l. w.0 (subst (λ v. lex_sign_of v ≡ Less) (sym (same_gaps next before here h.at_place)) l)));
        })
        (e (λ f. fresh before.row h.least.member (sym f)))

  -- one row more that is none
  pub kept_best : (rows : List ℕ) (q : ℕ) (best : Option (Candidate ℤ)) → IsBestAt d root s rows best →
      (IsCandidate d s q → ⊥) → IsBestAt d root s (rows ++ q ∷ []) best
  kept_best rows q best h n = record {
    at_place = h.at_place;
    least = best_kept d root s rows q (candidate_row best) h.least n;
  }

-- rows are passed over that are no candidates
module _ (d : Dictionary) (root : List ℕ) (s : ℕ) (best : Option (Candidate ℤ)) where
  pub kept_to : (m a b : ℕ) → b ≡ a + m → b ≤ length d.rows → IsBestAt d root s (take a d.rows) best →
      ((i : ℕ) → a ≤ i → i < b → IsCandidate d s (get_or d.rows i 0) → ⊥) → IsBestAt d root s (take b d.rows) best
  kept_to zero a b e l h n = subst (λ k. IsBestAt d root s (take k d.rows) best) (sym (omega (arith, e))) h
  kept_to (suc m) a b e l h n =
      subst (λ k. IsBestAt d root s (take k d.rows) best) (last a m b e)
      (subst (λ ks. IsBestAt d root s ks best)
      (one_more d.rows (a + m) (get_or d.rows (a + m) 0) (omega (arith, e, l)) refl)
      (kept_best d root s (take (a + m) d.rows) (get_or d.rows (a + m) 0) best
      (kept_to m a (a + m) refl (omega (arith, e, l)) h (λ i f g. n i f (omega (arith, e, g))))
      (n (a + m) (omega arith) (omega (arith, e)))))
    where
      last : (a m b : ℕ) → b ≡ a + suc m → a + m + 1 ≡ b
      last a m b e = omega (arith, e)

  -- no row between two places is negative
  pub passed : (a b : ℕ) → a ≤ b → b ≤ length d.rows → IsBestAt d root s (take a d.rows) best →
      ((i : ℕ) → a ≤ i → i < b → Table.entry (table_of d) (get_or d.rows i 0) s <ℤ pos 0 → ⊥) →
      IsBestAt d root s (take b d.rows) best
  passed a b k l best_so n = kept_to (b - a) a b (omega (arith, k)) l best_so (λ i f g c. n i f g c.negative)

  -- the cells of the column say so
  pub passed_over : (cells : List ℤ) → IsCellColumn d (suc (place_in d.columns s)) cells → (a b : ℕ) → a ≤ b →
      b ≤ length d.rows → IsBestAt d root s (take a d.rows) best →
      ((i : ℕ) → a ≤ i → i < b → get_or cells i (pos 0) <ℤ pos 0 → ⊥) → IsBestAt d root s (take b d.rows) best
  passed_over cells h a b k l best_so n =
      kept_to (b - a) a b (omega (arith, k)) l best_so
      (λ i f g c. n i f g (subst (λ z. z <ℤ pos 0) (sym (h.numbers i (omega (arith, g, l)))) c.negative))

-- no row leaves where none of the rows of cells is a candidate
pub none_everywhere : (d : Dictionary) (s : ℕ) → AreOutside d d.rows →
    ((i : ℕ) → i < length d.rows → IsCandidate d s (get_or d.rows i 0) → ⊥) → NoneLeaves d s
none_everywhere d s all none =
    best_leaves d [] s d.rows None all
    (λ i c m. none (place_in d.rows i) (place_within d.rows i c)
    (subst (λ k. IsCandidate d s k) (sym (at_place d.rows i 0 c)) m))
