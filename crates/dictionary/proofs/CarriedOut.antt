-- What the fields of a `Dict` hold after a pivot is the pivot of what they held.
use Rattle.std.proofs.Common.{◌≡◌, ℕ, suc, ◌-◌, ◌<◌, ℤ, List, length, set, remove, arith, ap, subst, ◌∙◌}
use Rattle.std.specs.List.{Contains}
use Rattle.poly_model.specs.declared.overflow.Phase.{Phase}
use Rattle.poly_model.specs.Keys.{with_label}
use Rattle.dictionary_laws.specs.Keys.{place_in}
use Rattle.dictionary_laws.specs.Laws.{IsExchangedKey}
use Rattle.dictionary_laws.proofs.KeyExchange.{exchanged_key}
use Rattle.columns.specs.declared.exchange.Exchange.{Exchange}
use Rattle.columns.specs.Cells.{AllowsExchange, IsTableAfter}
use Rattle.dictionary.specs.Views.{Dictionary, exchange_at, CanPivot, IsPivot, IsWhole}
use Rattle.dictionary.proofs.Numbers.{row_number}
use Rattle.dictionary.proofs.PlaceLemmas.{place_within, at_place}
use Rattle.dictionary.proofs.Pivots.{pivot_is, whole_new}

module _ (d : Dictionary) (r s : ℕ) (whole : IsWhole d) (can : CanPivot d r s) where
  pub has_row : Contains d.rows r
  has_row = whole.row_there r can.label (λ m. can.outside (whole.same.back r m))

  pub has_column : Contains d.columns s
  has_column = whole.same.there s can.inside

  pub allows_exchange : AllowsExchange (exchange_at d r s) d.cells
  allows_exchange = record {
    size = whole.size;
    row = place_within d.rows r has_row;
    column = let l = place_within d.columns s has_column in omega arith;
    denominator = whole.positive;
    nonzero = λ e.
        can.nonzero
        (row_number d r (suc (place_in d.columns s)) (λ m. can.outside (whole.same.back r m)) ∙ e);
  }

  pub column_bound : (x : Exchange) → x ≡ exchange_at d r s → (n : ℕ) → length d.columns ≡ n → x.column - 1 < n
  column_bound x e n same = rw e (let l = place_within d.columns s has_column in omega (arith, same))

  pub row_bound : (x : Exchange) → x ≡ exchange_at d r s → (n : ℕ) → length d.rows ≡ n → x.row < n
  row_bound x e n same = rw e (let l = place_within d.rows r has_row in omega (arith, same))

  new_key : IsExchangedKey d.key (with_label r (remove d.key (place_in d.key s))) r s
  new_key =
      let l = place_within d.key s can.inside in
      subst (λ (i : ℕ). IsExchangedKey d.key (with_label r (remove d.key (place_in d.key s))) r i)
      (at_place d.key s 0 can.inside)
      (exchanged_key d.key r (place_in d.key s) whole.key can.outside l)

  -- the fields of what was made, each by what the exchange and the old fields say of it
  module _ (x : Exchange) (at : x ≡ exchange_at d r s) (old news : List ℤ) (same : old ≡ d.cells) (least : ℤ)
      (after : IsTableAfter x old least news) where
    after_at : IsTableAfter (exchange_at d r s) d.cells least news
    after_at = subst (λ (y : Exchange). IsTableAfter y d.cells least news) at
        (subst (λ (v : List ℤ). IsTableAfter x v least news) same after)

    abbrev pub made : Phase → List ℕ → List ℕ → List ℕ → List ℕ → List ℤ → Dictionary
    made phase labels key columns rows cells = record {
      phase = phase;
      labels = labels;
      key = key;
      columns = columns;
      rows = rows;
      denominator = least;
      cells = cells;
    }

    pub carried_out : (phase : Phase) (labels key columns rows : List ℕ) (cells : List ℤ) → phase ≡ d.phase →
        labels ≡ d.labels → key ≡ with_label r (remove d.key (place_in d.key s)) →
        columns ≡ set d.columns (x.column - 1) r → rows ≡ set d.rows x.row s → cells ≡ news →
        IsPivot d r s (made phase labels key columns rows cells) × IsWhole (made phase labels key columns rows cells)
    carried_out phase labels key columns rows cells ephase elabels ekey ecolumns erows ecells =
        let column = ap (λ (y : Exchange). y.column) at in
        let row : x.row ≡ place_in d.rows r = ap (λ (y : Exchange). y.row) at in
        let place : x.column - 1 ≡ place_in d.columns s = omega arith in
        rw (ephase, elabels, ecells, erows, ecolumns, place, row, ekey) (
          pivot_is d r s whole can least news after_at (with_label r (remove d.key (place_in d.key s))) new_key,
          whole_new d r s whole can least news after_at (with_label r (remove d.key (place_in d.key s))) new_key,
        )
