-- One cell more of a column, and one column more.
use Rattle.std.proofs.Common.{◌≡◌, ◌≢◌, ℕ, ℤ, ◌+◌, ◌<◌, ◌≤◌, ◌*ℤ◌, ◌+ℤ◌, ◌-ℤ◌, neg_ℤ, ◌*◌, pos, List, length, get_or, set, arith, ◌∙◌, sym, subst, refl, ap, get_or-set_same, get_or-set_other, below_more, ⊎_elim, mul_comm as nat_mul_comm}
use Rattle.std.specs.Prelude.{unsigned_abs, ◌<ℤ◌}
use Rattle.std.proofs.lemmas.Bool.{cases_eq}
use Rattle.std.proofs.lemmas.Nat.{mul-add-lt}
use Rattle.std.proofs.lemmas.Nat.Gcd.{dvd_refl, dvd_trans}
use Rattle.std.proofs.lemmas.List.{length-set}
use Rattle.poly_num.specs.Divisors.{IsGcdOf}
use Rattle.poly_num.proofs.Ring.{expand, lin, mul_comm, mul_assoc, zero_mul}
use Rattle.columns.specs.declared.exchange.Exchange.{Exchange}
use Rattle.columns.specs.declared.parts.Parts.{Parts}
use Rattle.columns.specs.Cells.{cell_at}
use Rattle.columns.specs.Steps.{IsOtherColumn, IsNumerator, IsColumnWritten, DividesColumn, AreKept, IsLeftOfRow, IsLeftOfColumn, IsColumnDone, IsShrunk, IsScaled, IsRescaled}
use Rattle.columns.proofs.DivisorLemmas.{positive_gcd}

-- a number is written behind those that are kept
pub kept_more : (n : ℕ) (old new : List ℤ) (k : ℕ) (q : ℤ) → n ≤ k → AreKept n old new → AreKept n old (set new k q)
kept_more n old new k q le u = record {
  same_length = length-set new k q ∙ u.same_length;
  kept = λ a h. get_or-set_other new k a q (pos 0) (λ e. omega arith) ∙ u.kept a h;
}

pub kept_twice : (n : ℕ) (old mid new : List ℤ) → AreKept n old mid → AreKept n mid new → AreKept n old new
kept_twice n old mid new u v = record {
  same_length = v.same_length ∙ u.same_length;
  kept = λ k l. v.kept k l ∙ u.kept k l;
}

-- a row of a column that is written is one of the numbers there
pub place_there : (x : Exchange) (j i : ℕ) (old new : List ℤ) → IsOtherColumn x j old → AreKept (j * x.height) old new →
    i < x.height → j * x.height + i < length new
place_there x j i old new inside kept lt =
    let l = mul-add-lt j x.height i x.width inside.within lt in
    rw (kept.same_length ∙ inside.room, nat_mul_comm x.width x.height) l

-- what is true of the cells of a column down to row i is true of one more
pub column_more : (x : Exchange) (j : ℕ) (P : ℕ → ℤ → Type 0) (i : ℕ) (new : List ℤ) (q : ℤ) →
    j * x.height + i < length new → P i q → ((k : ℕ) → k < i → P k (cell_at x.height new k j)) →
    (k : ℕ) → k < i + 1 → P k (cell_at x.height (set new (j * x.height + i) q) k j)
column_more x j P i new q lt h u =
    below_more _ _
    (λ k l.
    let ne : j * x.height + k ≢ j * x.height + i = omega arith in
    subst (P k) (sym (get_or-set_other new (j * x.height + i) (j * x.height + k) q (pos 0) ne)) (u k l))
    (subst (P i) (sym (get_or-set_same new (j * x.height + i) q (pos 0) lt)) h)

-- what is to be divided in a cell is one number
one_numerator : (cells : List ℤ) (parts : Parts ℤ) (j i : ℕ) (y z : ℤ) → IsNumerator cells parts j i y →
    IsNumerator cells parts j i z → y ≡ z
one_numerator cells parts j i y z p q =
    ⊎_elim
    (λ (e : j ≡ parts.x.now.column).
    ⊎_elim
    (λ (r : i ≡ parts.x.now.row). p.corner e r ∙ sym (q.corner e r))
    (λ (r : i ≢ parts.x.now.row). p.column e r ∙ sym (q.column e r))
    (cases_eq i parts.x.now.row))
    (λ (n : j ≢ parts.x.now.column).
    ⊎_elim
    (λ (r : i ≡ parts.x.now.row). p.leaving n r ∙ sym (q.leaving n r))
    (λ (r : i ≢ parts.x.now.row). p.inside n r ∙ sym (q.inside n r))
    (cases_eq i parts.x.now.row))
    (cases_eq j parts.x.now.column)

module _ (cells : List ℤ) (parts : Parts ℤ) (j : ℕ) where
  pub row_left : (i : ℕ) (h n c : ℤ) → pos 0 <ℤ h → IsNumerator cells parts j i n → IsGcdOf h n c →
      IsLeftOfRow cells parts j i h c
  row_left i h n c lt is d = record {
    positive = positive_gcd h n c lt d;
    divides = d.1.0;
    in_row = λ _ m im. rw (one_numerator cells parts j i m n im is) (d.1.1);
    greatest = λ k kh all. d.1.2 k kh (all n is);
  }

  pub divides_more : (i : ℕ) (h c : ℤ) → IsLeftOfRow cells parts j i h c → DividesColumn cells parts j i h →
      DividesColumn cells parts j (i + 1) c
  divides_more i h c r u = below_more _ _ (λ k l ne n is. dvd_trans _ r.divides (u k l ne n is)) r.in_row

  module _ (g : ℤ) where
    pub written_more : (i : ℕ) (new : List ℤ) (q n : ℤ) → j * parts.x.now.height + i < length new → q *ℤ g ≡ n →
        IsNumerator cells parts j i n → IsColumnWritten cells parts j i g new →
        IsColumnWritten cells parts j (i + 1) g (set new (j * parts.x.now.height + i) q)
    written_more i new q n lt e is u =
        column_more parts.x.now j (λ k z. IsNumerator cells parts j k (z *ℤ g)) i new q lt
        (subst (λ (z : ℤ). IsNumerator cells parts j i z) (sym e) is) u

    -- the next cell is written, behind what is kept
    pub cell_written : (i : ℕ) (old new : List ℤ) (q n : ℤ) → IsOtherColumn parts.x.now j old → i < parts.x.now.height →
        q *ℤ g ≡ n → IsNumerator cells parts j i n → IsColumnWritten cells parts j i g new →
        AreKept (j * parts.x.now.height) old new →
        IsColumnWritten cells parts j (i + 1) g (set new (j * parts.x.now.height + i) q)
        × AreKept (j * parts.x.now.height) old (set new (j * parts.x.now.height + i) q)
    cell_written i old new q n inside lt e is written kept = (
      written_more i new q n (place_there parts.x.now j i old new inside kept lt) e is written,
      kept_more (j * parts.x.now.height) old new (j * parts.x.now.height + i) q (omega arith) kept,
    )

    pub left_start : pos 0 <ℤ g → IsLeftOfColumn cells parts j 0 g g
    left_start lt = record { positive = lt; divides = dvd_refl (unsigned_abs g); greatest = λ k d _. d }

    pub left_more : (i : ℕ) (h c : ℤ) → IsLeftOfRow cells parts j i h c → IsLeftOfColumn cells parts j i g h →
        IsLeftOfColumn cells parts j (i + 1) g c
    left_more i h c r u = record {
      positive = r.positive;
      divides = dvd_trans _ r.divides u.divides;
      greatest = λ k kg all.
          r.greatest k (u.greatest k kg (λ a l m im. all a (omega arith) m im)) (λ n is. all i (omega arith) n is);
    }

    -- what is left where one row is to be divided is left where all are
    pub left_by_row : (i m : ℕ) (h : ℤ) → i < m → IsLeftOfRow cells parts j i g h → IsLeftOfColumn cells parts j m g h
    left_by_row i m h lt r = record {
      positive = r.positive;
      divides = r.divides;
      greatest = λ k kg all. r.greatest k kg (λ n is. all i lt n is);
    }

    -- the divisor has not shrunk yet
    pub shrunk_start : (old : List ℤ) → pos 0 <ℤ g → IsShrunk cells parts j g g old old
    shrunk_start old lt = record {
      left = record { positive = lt; divides = dvd_refl (unsigned_abs g); greatest = λ k d _. d };
      rescaled = record { same_length = refl; scaled = λ k l. refl };
    }

    -- it shrinks once more, when the column was written anew
    pub shrunk_more : (h e : ℤ) (old now mid new : List ℤ) → IsShrunk cells parts j g h old now →
        AreKept (j * parts.x.now.height) now mid → IsShrunk cells parts j h e mid new →
        IsShrunk cells parts j g e old new
    shrunk_more h e old now mid new u kept v = record {
      left = record {
        positive = v.left.positive;
        divides = dvd_trans _ v.left.divides u.left.divides;
        greatest = λ k kg all. v.left.greatest k (u.left.greatest k kg all) all;
      };
      rescaled = record {
        same_length = v.rescaled.same_length ∙ kept.same_length ∙ u.rescaled.same_length;
        scaled = λ k l.
            v.rescaled.scaled k l ∙ ap (λ (z : ℤ). z *ℤ h) (kept.kept k l) ∙ u.rescaled.scaled k l;
      };
    }

    -- the divisor divides the whole column
    pub done_same : (old new : List ℤ) → pos 0 <ℤ g → AreKept (j * parts.x.now.height) old new →
        IsColumnWritten cells parts j parts.x.now.height g new → IsColumnDone cells parts j g g old new
    done_same old new lt kept w = record {
      same_length = kept.same_length;
      left = record { positive = lt; divides = dvd_refl (unsigned_abs g); greatest = λ k d _. d };
      written = w;
      rescaled = λ k l. ap (λ (z : ℤ). z *ℤ g) (kept.kept k l);
    }

    -- what comes before the column was kept first
    pub done_kept : (h : ℤ) (old mid new : List ℤ) → AreKept (j * parts.x.now.height) old mid →
        IsColumnDone cells parts j g h mid new → IsColumnDone cells parts j g h old new
    done_kept h old mid new kept d = record {
      same_length = d.same_length ∙ kept.same_length;
      left = d.left;
      written = d.written;
      rescaled = λ k l. d.rescaled k l ∙ ap (λ (z : ℤ). z *ℤ g) (kept.kept k l);
    }

    -- it does not, and has shrunk
    pub done_less : (h : ℤ) (old mid new : List ℤ) → IsLeftOfColumn cells parts j parts.x.now.height g h →
        IsRescaled (j * parts.x.now.height) g h old mid → AreKept (j * parts.x.now.height) mid new →
        IsColumnWritten cells parts j parts.x.now.height h new → IsColumnDone cells parts j g h old new
    done_less h old mid new left r kept w = record {
      same_length = kept.same_length ∙ r.same_length;
      left = left;
      written = w;
      rescaled = λ k l. ap (λ (z : ℤ). z *ℤ h) (kept.kept k l) ∙ r.scaled k l;
    }

    -- the column is written over what is left
    pub shrunk_done : (h : ℤ) (old now new : List ℤ) → IsShrunk cells parts j g h old now →
        AreKept (j * parts.x.now.height) now new → IsColumnWritten cells parts j parts.x.now.height h new →
        IsColumnDone cells parts j g h old new
    shrunk_done h old now new u kept w = done_less h old now new u.left u.rescaled kept w

-- in the exchange's row, where the exchange's column has p + u
leaving_equation : (p u r : ℤ) → r *ℤ p -ℤ (p +ℤ u) *ℤ r ≡ neg_ℤ (u *ℤ r)
leaving_equation p u r = simp expand (omega (arith, lin))

-- in the exchange's row, where the exchange's column has u
nothing_taken : (p u r : ℤ) → pos 0 *ℤ p -ℤ u *ℤ r ≡ neg_ℤ (u *ℤ r)
nothing_taken p u r = let k : pos 0 *ℤ p ≡ pos 0 = zero_mul p in omega (arith, lin)

-- a cell of which nothing is taken, over what it is multiplied by
stays_equation : (g e p c b : ℤ) → b ≡ pos 0 → p ≡ g → e *ℤ g ≡ e *ℤ p -ℤ c *ℤ b
stays_equation g e p c b none same =
    let k : c *ℤ b ≡ pos 0 = mul_comm c b ∙ rw none (zero_mul c) in
    rw same (omega (arith, lin))

zero_equation : (g e u b : ℤ) → e ≡ pos 0 → b ≡ pos 0 → e *ℤ g ≡ neg_ℤ (u *ℤ b)
zero_equation g e u b ee eb =
    let k : u *ℤ b ≡ pos 0 = mul_comm u b ∙ rw eb (zero_mul u) in
    let l : e *ℤ g ≡ pos 0 = rw ee (zero_mul g) in
    omega (arith, lin)

module _ (cells : List ℤ) (parts : Parts ℤ) (j : ℕ) where
  -- another column than the exchange's, where its own has p + u in the exchange's row
  pub inside_is : get_or parts.own.now parts.x.now.row (pos 0) ≡ parts.p +ℤ parts.u → j ≢ parts.x.now.column →
      (i : ℕ) (a c b n : ℤ) → a ≡ cell_at parts.x.now.height cells i j → c ≡ get_or parts.own.now i (pos 0) →
      b ≡ cell_at parts.x.now.height cells parts.x.now.row j → n ≡ a *ℤ parts.p -ℤ c *ℤ b → IsNumerator cells parts j i n
  inside_is sum ne i a c b n ea ec eb en = record {
    column = λ e. absurd (ne e);
    corner = λ e. absurd (ne e);
    inside = λ _ _. en ∙ rw (ea, ec, eb) refl;
    leaving = λ _ r.
        en ∙ rw (ea, ec, eb, r, sum)
        (leaving_equation parts.p parts.u (cell_at parts.x.now.height cells parts.x.now.row j));
  }

  -- the same, where its own has u in the exchange's row, and 0 is taken for the cell there
  pub beside_is : get_or parts.own.now parts.x.now.row (pos 0) ≡ parts.u → j ≢ parts.x.now.column → (i : ℕ) (a c b n : ℤ) →
      (i ≡ parts.x.now.row → a ≡ pos 0) → (i ≢ parts.x.now.row → a ≡ cell_at parts.x.now.height cells i j) →
      c ≡ get_or parts.own.now i (pos 0) → b ≡ cell_at parts.x.now.height cells parts.x.now.row j →
      n ≡ a *ℤ parts.p -ℤ c *ℤ b → IsNumerator cells parts j i n
  beside_is own ne i a c b n here other ec eb en = record {
    column = λ e. absurd (ne e);
    corner = λ e. absurd (ne e);
    inside = λ _ nr. en ∙ rw (other nr, ec, eb) refl;
    leaving = λ _ r.
        en ∙ rw (here r, ec, eb, r, own)
        (nothing_taken parts.p parts.u (cell_at parts.x.now.height cells parts.x.now.row j));
  }

  -- another column and another row than the exchange's
  pub elsewhere_is : j ≢ parts.x.now.column → (i : ℕ) → i ≢ parts.x.now.row → (a c b n : ℤ) →
      a ≡ cell_at parts.x.now.height cells i j → c ≡ get_or parts.own.now i (pos 0) →
      b ≡ cell_at parts.x.now.height cells parts.x.now.row j → n ≡ a *ℤ parts.p -ℤ c *ℤ b → IsNumerator cells parts j i n
  elsewhere_is ne i nr a c b n ea ec eb en = record {
    column = λ e. absurd (ne e);
    corner = λ e. absurd (ne e);
    inside = λ _ _. en ∙ rw (ea, ec, eb) refl;
    leaving = λ _ r. absurd (nr r);
  }

  -- a column that stays
  pub stays_is : j ≢ parts.x.now.column → (g : ℤ) → cell_at parts.x.now.height cells parts.x.now.row j ≡ pos 0 →
      parts.p ≡ g → (i : ℕ) (e : ℤ) → e ≡ cell_at parts.x.now.height cells i j → IsNumerator cells parts j i (e *ℤ g)
  stays_is ne g none same i e ea = record {
    column = λ q. absurd (ne q);
    corner = λ q. absurd (ne q);
    inside = λ _ _.
        stays_equation g e parts.p (get_or parts.own.now i (pos 0))
        (cell_at parts.x.now.height cells parts.x.now.row j) none same
        ∙ ap (λ (z : ℤ). z *ℤ parts.p -ℤ get_or parts.own.now i (pos 0)
        *ℤ cell_at parts.x.now.height cells parts.x.now.row j) ea;
    leaving = λ _ r.
        zero_equation g e parts.u (cell_at parts.x.now.height cells parts.x.now.row j)
        (ea ∙ ap (λ (k : ℕ). cell_at parts.x.now.height cells k j) r ∙ none) none;
  }

  -- the exchange's column
  pub own_is : j ≡ parts.x.now.column → (i : ℕ) (c n : ℤ) → (i ≢ parts.x.now.row → c ≡ get_or parts.own.now i (pos 0)) →
      (i ≡ parts.x.now.row → c ≡ parts.u) → n ≡ c *ℤ parts.x.now.denominator → IsNumerator cells parts j i n
  own_is e i c n other here en = record {
    column = λ _ nr. en ∙ ap (λ (z : ℤ). z *ℤ parts.x.now.denominator) (other nr);
    corner = λ _ r. en ∙ ap (λ (z : ℤ). z *ℤ parts.x.now.denominator) (here r);
    inside = λ ne. absurd (ne e);
    leaving = λ ne. absurd (ne e);
  }

-- numbers that were over g, times g over h, are over h
pub rescaled : (place : ℕ) (g h factor : ℤ) → factor *ℤ h ≡ g → (old new : List ℤ) → IsScaled place factor old new →
    IsRescaled place g h old new
rescaled place g h factor e old new u = record {
  same_length = u.same_length;
  scaled = λ k l.
      let z = get_or old k (pos 0) in
      ap (λ (y : ℤ). y *ℤ h) (u.scaled k l) ∙ mul_assoc z factor h ∙ ap (λ (y : ℤ). z *ℤ y) e;
}
