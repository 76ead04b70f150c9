-- What a `Dict` is seen as, when that is the dictionary of its cobasis, and what a pivot makes of it.
use Rattle.std.specs.Prelude.{◌≡◌, ◌≢◌, ℕ, zero, suc, ◌<◌, ◌*◌, ◌==◌, ℤ, pos, ◌<ℤ◌, if◌then◌else◌, List, length, map}
use Rattle.std.specs.List.{Contains, slice_index_or, flat_map}
use Rattle.poly_model.specs.Labels.{constant_label}
use Rattle.poly_model.specs.declared.overflow.Phase.{Phase}
use Rattle.poly_model.specs.declared.overflow.Overflow.{Overflow}
use Rattle.poly_model.specs.Keys.{IsAscending, IsKey}
use Rattle.poly_model.specs.Spaces.{Space, HasPoints, is_member}
use Rattle.poly_model.specs.Dictionaries.{Table, IsDictionary}
use Rattle.poly_model.specs.Overflows.{IsPassing}
use Rattle.linear_laws.specs.Distinct.{AreDistinct}
use Rattle.dictionary_laws.specs.Keys.{place_in, HaveSameLabels}
use Rattle.dictionary_laws.specs.Laws.{IsExchangedKey}
use Rattle.columns.specs.declared.exchange.Exchange.{Exchange}
use Rattle.columns.specs.Cells.{cell_at}
use Rattle.dictionary.specs.declared.passing.PassingProducts.{PassingProducts}

-- the labels of a phase over a cobasis: for each label outside the cobasis a row of cells, a constant and an entry for
-- each label of the cobasis
pub record Dictionary : Type 0 where
  pub phase : Phase
  pub labels : List ℕ
  -- the cobasis, ascending, and the same labels as their columns stand
  pub key : List ℕ
  pub columns : List ℕ
  -- the labels outside the cobasis, as their rows stand
  pub rows : List ℕ
  pub denominator : ℤ
  -- one column after the other, the constants first
  pub cells : List ℤ

-- the number of label i in column j, where column 0 has the constants. A label of the cobasis has no cells: it is the
-- denominator in its own column, and 0 in the others
unfoldable pub number : Dictionary → ℕ → ℕ → ℤ
number d i j =
    if is_member i d.columns then (if j == suc (place_in d.columns i) then d.denominator else pos 0)
    else cell_at (length d.rows) d.cells (place_in d.rows i) j

-- its numbers by their labels
abbrev pub table_of : Dictionary → Table
table_of d = record {
  denominator = d.denominator;
  constant = λ i. number d i 0;
  entry = λ i k. number d i (suc (place_in d.columns k));
}

-- the numbers of these rows in these columns, one column after the other
abbrev pub by_columns : (ℕ → ℕ → ℤ) → List ℕ → List ℕ → List ℤ
by_columns f rows columns = flat_map (λ j. map (λ i. f i j) rows) columns

-- d is the dictionary of its cobasis in the space
pub record IsDictionaryIn (space : Space) (d : Dictionary) : Type 0 where
  pub labels : d.labels ≡ space.labels
  pub dictionary : IsDictionary space d.key (table_of d)

-- r is a label outside the cobasis, s is in it, and the entry at the two is not 0
pub record CanPivot (d : Dictionary) (r s : ℕ) : Type 0 where
  pub label : Contains d.labels r
  pub outside : Contains d.key r → ⊥
  pub inside : Contains d.key s
  pub nonzero : Table.entry (table_of d) r s ≢ pos 0

-- r has taken the place of s in the cobasis, and wherever the old one is the dictionary of its
-- cobasis, the new one is that of its own
pub record IsPivot (old : Dictionary) (r s : ℕ) (new : Dictionary) : Type 0 where
  pub phase : new.phase ≡ old.phase
  pub labels : new.labels ≡ old.labels
  pub width : length new.columns ≡ length old.columns
  pub key : IsExchangedKey old.key new.key r s
  pub dictionary : (space : Space) → HasPoints space → IsDictionaryIn space old → IsDictionaryIn space new

-- a product that the pivot of r and s needs, or a difference of two, passes at the four places
pub record IsOverflow (d : Dictionary) (r s : ℕ) (o : Overflow) : Type 0 where
  pub phase : o.phase ≡ d.phase
  pub key : o.key ≡ d.key
  pub passes : IsPassing d.labels d.key (table_of d) r s o

-- the overflow of products that a pivot at d needs
abbrev pub overflow_of : Dictionary → PassingProducts → Overflow
overflow_of d p = record { phase = d.phase; key = d.key; a = p.a; b = p.b; c = p.c; d = p.d }

-- no product and no difference passes
abbrev pub NothingPasses : Dictionary → ℕ → ℕ → Type 0
NothingPasses d r s = (o : Overflow) → IsOverflow d r s o → ⊥

-- the exchange of the row of r and the column of s
abbrev pub exchange_at : Dictionary → ℕ → ℕ → Exchange
exchange_at d r s = record {
  width = suc (length d.columns);
  height = length d.rows;
  row = place_in d.rows r;
  column = suc (place_in d.columns s);
  denominator = d.denominator;
}

-- the label of a column of cells; the first has the constants
abbrev pub column_label : Dictionary → ℕ → ℕ
column_label d zero = constant_label
column_label d (suc j) = slice_index_or d.columns j 0

-- what holds of every `Dict`: the cells fill its rows and columns, the denominator is positive, the columns have the
-- labels of the key, each once, and the rows all other labels, each once; none is that of the constants
pub record IsWhole (d : Dictionary) : Type 0 where
  pub size : length d.cells ≡ suc (length d.columns) * length d.rows
  pub positive : pos 0 <ℤ d.denominator
  pub labels : IsAscending d.labels
  pub below : (i : ℕ) → Contains d.labels i → i < constant_label
  pub key : IsKey d.key
  pub same : HaveSameLabels d.key d.columns
  pub distinct : AreDistinct d.columns
  pub inside : (k : ℕ) → Contains d.columns k → Contains d.labels k
  pub distinct_rows : AreDistinct d.rows
  pub row_there : (i : ℕ) → Contains d.labels i → (Contains d.columns i → ⊥) → Contains d.rows i
  pub row_back : (i : ℕ) → Contains d.rows i → Contains d.labels i × (Contains d.columns i → ⊥)
