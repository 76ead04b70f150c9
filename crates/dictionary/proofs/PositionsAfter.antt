-- The positions after a pivot: those of the two labels that are exchanged are exchanged, the others stay.
use Rattle.std.proofs.Common.{◌≡◌, ◌≢◌, ℕ, suc, ◌-◌, List, set, arith, sym, ap, subst, ◌∙◌, ⊎_elim}
use Rattle.std.specs.List.{Contains}
use Rattle.std.proofs.lemmas.List.{length-set, get_or-set_same, get_or-set_other}
use Rattle.dictionary_laws.specs.Keys.{place_in}
use Rattle.columns.specs.declared.exchange.Exchange.{Exchange}
use Rattle.dictionary.specs.declared.positions.Position.{Position}
use Rattle.dictionary.specs.declared.positions.Position.TheVariants.{Row, Column}
use Rattle.dictionary.specs.Views.{Dictionary, CanPivot, IsWhole, exchange_at}
use Rattle.dictionary.specs.Positions.{label_count, position_at, AreBelow, ArePositions}
use Rattle.dictionary.proofs.CarriedOut.{has_row, has_column}
use Rattle.dictionary.proofs.PlaceLemmas.{set_members, place_entering, place_staying}

module _ (d : Dictionary) (r s : ℕ) (whole : IsWhole d) (can : CanPivot d r s) (ps : List Position)
    (are : ArePositions d.rows d.columns ps) (below : AreBelow d.labels label_count) where
  abbrev row : ℕ
  row = place_in d.rows r

  abbrev column : ℕ
  column = place_in d.columns s

  abbrev rows : List ℕ
  rows = set d.rows row s

  abbrev columns : List ℕ
  columns = set d.columns column r

  abbrev after : List Position
  after = set (set ps s (Row row)) r (Column (suc column))

  in_row : Contains d.rows r
  in_row = has_row d r s whole can

  in_column : Contains d.columns s
  in_column = has_column d r s whole can

  no_column : Contains d.columns r → ⊥
  no_column c = can.outside (whole.same.back r c)

  no_row : Contains d.rows s → ⊥
  no_row c = (whole.row_back s c).1 in_column

  apart : s ≢ r
  apart e = can.outside (subst (λ (k : ℕ). Contains d.key k) e can.inside)

  of_leaving : position_at after s ≡ Row row
  of_leaving =
      get_or-set_other (set ps s (Row row)) r s (Column (suc column)) (Row 0) apart
      ∙ get_or-set_same ps s (Row row) (Row 0)
      (let l = below s (whole.inside s in_column) in omega (arith, l, are.room))

  of_entering : position_at after r ≡ Column (suc column)
  of_entering =
      get_or-set_same (set ps s (Row row)) r (Column (suc column)) (Row 0)
      (let l = below r can.label in
      let e = length-set ps s (Row row) in
      omega (arith, l, e, are.room))

  of_other : (k : ℕ) → k ≢ r → k ≢ s → position_at after k ≡ position_at ps k
  of_other k m n =
      get_or-set_other (set ps s (Row row)) r k (Column (suc column)) (Row 0) m
      ∙ get_or-set_other ps s k (Row row) (Row 0) n

  in_rows : (k : ℕ) → Contains rows k → position_at after k ≡ Row (place_in rows k)
  in_rows k c =
      ⊎_elim
      (λ (e : k ≡ s).
      ap (λ j. position_at after j) e ∙ of_leaving
      ∙ ap (λ j. Row j) (sym (place_entering s r d.rows in_row no_row))
      ∙ ap (λ j. Row (place_in rows j)) (sym e))
      (λ (p : Contains d.rows k × (k ≢ r)).
      let n : k ≢ s = λ e. no_row (subst (λ (j : ℕ). Contains d.rows j) e p.0) in
      of_other k p.1 n ∙ are.in_row k p.0 ∙ ap (λ j. Row j) (sym (place_staying s r d.rows in_row k n p.1)))
      (set_members s r d.rows whole.distinct_rows in_row k c)

  in_columns : (k : ℕ) → Contains columns k → position_at after k ≡ Column (suc (place_in columns k))
  in_columns k c =
      ⊎_elim
      (λ (e : k ≡ r).
      ap (λ j. position_at after j) e ∙ of_entering
      ∙ ap (λ j. Column (suc j)) (sym (place_entering r s d.columns in_column no_column))
      ∙ ap (λ j. Column (suc (place_in columns j))) (sym e))
      (λ (p : Contains d.columns k × (k ≢ s)).
      let n : k ≢ r = λ e. no_column (subst (λ (j : ℕ). Contains d.columns j) e p.0) in
      of_other k n p.1 ∙ are.in_column k p.0
      ∙ ap (λ j. Column (suc j)) (sym (place_staying r s d.columns in_column k n p.1)))
      (set_members r s d.columns whole.distinct in_column k c)

  -- of the exchange of the cells
  pub positions_after : (x : Exchange) → x ≡ exchange_at d r s →
      ArePositions (set d.rows x.row s) (set d.columns (x.column - 1) r)
      (set (set ps s (Row x.row)) r (Column x.column))
  positions_after x at =
      let row_is : x.row ≡ row = ap (λ (y : Exchange). y.row) at in
      let column_is : x.column ≡ suc column = ap (λ (y : Exchange). y.column) at in
      let place : x.column - 1 ≡ column = omega (arith, column_is) in
      rw (row_is, place, column_is) (record {
        room = length-set (set ps s (Row row)) r (Column (suc column)) ∙ length-set ps s (Row row) ∙ are.room;
        in_row = in_rows;
        in_column = in_columns;
      })
