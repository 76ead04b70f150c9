-- A product that passes in the exchange of the cells is one that the pivot needs, at labels.
use Rattle.std.proofs.Common.{◌≡◌, ◌≢◌, ◌⊎◌, ℕ, zero, suc, ◌<◌, ℤ, cond, length, get_or, arith, refl, sym, ap, subst, ◌∙◌, inl, inr, ⊎_elim}
use Rattle.std.specs.List.{Contains}
use Rattle.std.specs.Prelude.{◌*ℤ◌, ◌-ℤ◌}
use Rattle.std.proofs.lemmas.Bool.{cases_eq, eq-eqb, ne_eqb}
use Rattle.std.proofs.lemmas.List.Elements.{Contains-get_or}
use Rattle.poly_num.specs.Numbers.{IsNum, Crosses}
use Rattle.poly_num.proofs.Ring.{mul_comm}
use Rattle.poly_model.specs.Labels.{constant_label}
use Rattle.poly_model.specs.declared.overflow.Overflow.{Overflow}
use Rattle.poly_model.specs.declared.overflow.Place.{Place}
use Rattle.poly_model.specs.Dictionaries.{Table}
use Rattle.poly_model.specs.Overflows.{IsPlace, number_at}
use Rattle.dictionary_laws.specs.Keys.{place_in}
use Rattle.dictionary_laws.proofs.Sizes.{crosses_along}
use Rattle.columns.specs.Cells.{cell_at, pivot_of, CellPasses}
use Rattle.dictionary.specs.Views.{Dictionary, number, table_of, exchange_at, column_label, CanPivot, IsWhole, IsOverflow}
use Rattle.dictionary.proofs.Numbers.{own_number, row_number}
use Rattle.dictionary.proofs.PlaceLemmas.{place_within, place_at, at_place}

-- a place of the overflow is one that was made
pub same_place : {p q : Place} {i j : ℕ} → p ≡ q → IsPlace q i j → IsPlace p i j
same_place same place = (ap (λ (p : Place). p.row) same ∙ place.0, ap (λ (p : Place). p.col) same ∙ place.1)

crosses_turned : (a b c d : ℤ) → Crosses a b c d → Crosses b a c d
crosses_turned a b c d h =
    (subst IsNum (mul_comm a b) h.0, h.1, subst (λ (z : ℤ). IsNum (z -ℤ c *ℤ d)) (mul_comm a b) h.2)

-- the number at a place whose column is a label
at_entry : (t : Table) (p : Place) → p.col ≢ constant_label → number_at t p ≡ t.entry p.row p.col
at_entry t p n = ap (λ b. cond b (t.constant p.row) (t.entry p.row p.col)) (ne_eqb p.col constant_label n)

at_constant : (t : Table) (p : Place) → p.col ≡ constant_label → number_at t p ≡ t.constant p.row
at_constant t p e = ap (λ b. cond b (t.constant p.row) (t.entry p.row p.col)) (eq-eqb p.col constant_label e)

module _ (d : Dictionary) (r s : ℕ) (whole : IsWhole d) (inside : Contains d.key s) where
  abbrev width : ℕ
  width = suc (length d.columns)

  abbrev column : ℕ
  column = suc (place_in d.columns s)

  has_column : Contains d.columns s
  has_column = whole.same.there s inside

  column_of_s : column < width
  column_of_s = let l = place_within d.columns s has_column in omega arith

  label_of_s : s ≡ column_label d column
  label_of_s = sym (at_place d.columns s 0 has_column)

  key_below : (k : ℕ) → Contains d.columns k → k ≢ constant_label
  key_below k m e = let l = whole.below k (whole.inside k m) in omega arith

  -- a label of a column, or that of the constants
  column_there : (j : ℕ) → j < width → Contains d.key (column_label d j) ⊎ (column_label d j ≡ constant_label)
  column_there zero h = inr refl
  column_there (suc j) h = inl (whole.same.back (get_or d.columns j 0) (Contains-get_or d.columns j 0 (omega arith)))

  other_label : (j : ℕ) → j < width → j ≢ column → column_label d j ≢ s
  other_label zero h n e = key_below s has_column (sym e)
  other_label (suc j) h n e =
      n (ap suc (sym (place_at d.columns j 0 whole.distinct (omega arith)) ∙ ap (λ k. place_in d.columns k) e))

  -- the number at a place, by the label of its row and a column
  number_is : (p : Place) (k j : ℕ) → IsPlace p k (column_label d j) → j < width → number_at (table_of d) p ≡ number d k j
  number_is p k zero at h = at_constant (table_of d) p at.1 ∙ ap (λ i. number d i 0) at.0
  number_is p k (suc j) at h =
      let m = Contains-get_or d.columns j 0 (omega arith) in
      at_entry (table_of d) p (λ e. key_below (get_or d.columns j 0) m (sym at.1 ∙ e))
      ∙ ap (λ i. number d i (suc (place_in d.columns p.col))) at.0
      ∙ ap (λ c. number d k (suc (place_in d.columns c))) at.1
      ∙ ap (λ q. number d k (suc q)) (place_at d.columns j 0 whole.distinct (omega arith))

  in_column : (p : Place) (k : ℕ) → IsPlace p k s → number_at (table_of d) p ≡ number d k column
  in_column p k at = number_is p k column (at.0, at.1 ∙ label_of_s) column_of_s

  -- a product of two numbers, or the difference of two, passes
  pub inner : (o : Overflow) (i j : ℕ) → o.phase ≡ d.phase → o.key ≡ d.key → Contains d.labels i → i ≢ r → j < width →
      j ≢ column → IsPlace o.a r s → IsPlace o.b i (column_label d j) → IsPlace o.c i s →
      IsPlace o.d r (column_label d j) →
      ¬ (Crosses (number d r column) (number d i j) (number d i column) (number d r j)) → IsOverflow d r s o
  inner o i j phase key label other lt n a b c e passes = record {
    phase = phase;
    key = key;
    passes = record {
      places = inl (record {
        i = i;
        j = column_label d j;
        row = label;
        other_row = other;
        column = column_there j lt;
        other_column = other_label j lt n;
        a = a;
        b = b;
        c = c;
        d = e;
      });
      passes = λ fits. passes
          (crosses_along (number_at (table_of d) o.a) (number_at (table_of d) o.b) (number_at (table_of d) o.c)
          (number_at (table_of d) o.d) (number d r column) (number d i j) (number d i column) (number d r j)
          (in_column o.a r a) (number_is o.b i j b lt) (in_column o.c i c) (number_is o.d r j e lt) fits);
    };
  }

  -- the product with the denominator passes
  pub outer : (o : Overflow) (i : ℕ) → o.phase ≡ d.phase → o.key ≡ d.key → Contains d.labels i → IsPlace o.a i s →
      IsPlace o.b s s → IsPlace o.c i s → IsPlace o.d s s → ¬ (IsNum (number d i column *ℤ d.denominator)) →
      IsOverflow d r s o
  outer o i phase key label a b c e passes = record {
    phase = phase;
    key = key;
    passes = record {
      places = inr (record { i = i; row = label; a = a; b = b; c = c; d = e });
      passes = λ fits. passes (subst IsNum
          (ap (λ z. z *ℤ number_at (table_of d) o.b) (in_column o.a i a)
          ∙ ap (λ z. number d i column *ℤ z) (in_column o.b s b ∙ own_number d s column has_column refl))
          fits.0);
    };
  }

-- the product of the entry of k and the denominator passes, or in another column than that of s a product of two
-- numbers or the difference of the two products
pub record PassesAtLabel (d : Dictionary) (r s k j : ℕ) : Type 0 where
  pub label : Contains d.labels k
  pub own : j ≡ suc (place_in d.columns s) → ¬ (IsNum (number d k (suc (place_in d.columns s)) *ℤ d.denominator))
  pub other : j ≢ suc (place_in d.columns s) → k ≢ r
  pub cross : j ≢ suc (place_in d.columns s) → ¬ (Crosses (number d r (suc (place_in d.columns s))) (number d k j)
      (number d k (suc (place_in d.columns s))) (number d r j))

-- what passes in the exchange of the cells passes at labels: the exchange's row has the label that leaves
module _ (d : Dictionary) (r s : ℕ) (whole : IsWhole d) (can : CanPivot d r s) where
  abbrev of_s : ℕ
  of_s = suc (place_in d.columns s)

  no_column_r : Contains d.columns r → ⊥
  no_column_r m = can.outside (whole.same.back r m)

  s_there : Contains d.columns s
  s_there = whole.same.there s can.inside

  pub denominator_passes : ¬ (IsNum (pivot_of (exchange_at d r s) d.cells *ℤ d.denominator)) →
      ¬ (IsNum (number d r of_s *ℤ d.denominator))
  denominator_passes passes fits =
      passes (subst (λ (z : ℤ). IsNum (z *ℤ d.denominator)) (row_number d r of_s no_column_r) fits)

  module _ (i j : ℕ) (passes : CellPasses (exchange_at d r s) d.cells i j) where
    leaving : i ≡ place_in d.rows r → PassesAtLabel d r s s j
    leaving here = record {
      label = whole.inside s s_there;
      own = λ e fits.
          passes.corner e here (subst (λ (z : ℤ). IsNum (z *ℤ d.denominator)) (own_number d s of_s s_there refl) fits);
      other = λ n e. no_column_r (subst (λ (k : ℕ). Contains d.columns k) e s_there);
      cross = λ n fits.
          passes.leaving n here
          (subst IsNum
          (ap (λ z. z *ℤ number d r j) (own_number d s of_s s_there refl)
          ∙ ap (λ z. d.denominator *ℤ z) (row_number d r j no_column_r))
          fits.1);
    }

    -- in the row of another label
    module _ (k : ℕ) (at : k ≡ get_or d.rows i 0) (apart : i ≢ place_in d.rows r) where
      has_row : Contains d.rows k
      has_row = subst (λ (l : ℕ). Contains d.rows l) (sym at) (Contains-get_or d.rows i 0 passes.row)

      place_is : place_in d.rows k ≡ i
      place_is = ap (λ l. place_in d.rows l) at ∙ place_at d.rows i 0 whole.distinct_rows passes.row

      cell : (b : ℕ) → number d k b ≡ cell_at (length d.rows) d.cells i b
      cell b =
          row_number d k b (whole.row_back k has_row).1
          ∙ ap (λ a. cell_at (length d.rows) d.cells a b) place_is

      beside : PassesAtLabel d r s k j
      beside = record {
        label = (whole.row_back k has_row).0;
        own = λ e fits. passes.column e apart (subst (λ (z : ℤ). IsNum (z *ℤ d.denominator)) (cell of_s) fits);
        other = λ n e. apart (sym place_is ∙ ap (λ l. place_in d.rows l) e);
        cross = λ n fits.
            passes.inside n apart
            (crosses_turned (pivot_of (exchange_at d r s) d.cells) (cell_at (length d.rows) d.cells i j)
            (cell_at (length d.rows) d.cells i of_s) (cell_at (length d.rows) d.cells (place_in d.rows r) j)
            (crosses_along (number d r of_s) (number d k j) (number d k of_s) (number d r j)
            (pivot_of (exchange_at d r s) d.cells) (cell_at (length d.rows) d.cells i j)
            (cell_at (length d.rows) d.cells i of_s) (cell_at (length d.rows) d.cells (place_in d.rows r) j)
            (row_number d r of_s no_column_r) (cell j) (cell of_s) (row_number d r j no_column_r) fits));
      }

    pub passes_at_label : (k : ℕ) → (i ≡ place_in d.rows r → k ≡ s) → (i ≢ place_in d.rows r → k ≡ get_or d.rows i 0) →
        PassesAtLabel d r s k j
    passes_at_label k here other =
        ⊎_elim (λ (e : i ≡ place_in d.rows r). rw (here e) (leaving e))
        (λ (n : i ≢ place_in d.rows r). beside k (other n) n)
        (cases_eq i (place_in d.rows r))
