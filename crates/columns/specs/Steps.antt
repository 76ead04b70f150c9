-- The exchange column by column, over a divisor that shrinks where it does not divide a column.
use Rattle.std.specs.Prelude.{◌≡◌, ◌≢◌, ℕ, ℤ, ◌<◌, ◌≤◌, ◌*◌, ◌*ℤ◌, ◌+ℤ◌, ◌-ℤ◌, ◌<ℤ◌, neg_ℤ, pos, List, length, unsigned_abs}
use Rattle.std.specs.List.{slice_index_or}
use Prim.Native.Nat.{◌∣◌}
use Rattle.poly_num.specs.Numbers.{IsNum}
use Rattle.words.specs.Limits.{AreUpTo}
use Rattle.columns.specs.declared.exchange.Exchange.{Exchange}
use Rattle.columns.specs.declared.parts.Factors.{Factors}
use Rattle.columns.specs.declared.parts.Parts.{Parts}
use Rattle.columns.specs.Cells.{cell_at, pivot_of, AllowsExchange, IsNewCell}
use Rattle.columns.specs.Sizes.{AreOf}

-- d divides k times the denominator, the pivot's cell, the first m cells of the exchange's column and the first n
-- cells of its row
pub record DividesTimes (x : Exchange) (cells : List ℤ) (m n d k : ℕ) : Type 0 where
  pub denominator : d ∣ k * unsigned_abs x.denominator
  pub pivot : d ∣ k * unsigned_abs (pivot_of x cells)
  pub column : (i : ℕ) → i < m → d ∣ k * unsigned_abs (cell_at x.height cells i x.column)
  pub row : (j : ℕ) → j < n → d ∣ k * unsigned_abs (cell_at x.height cells x.row j)

-- h divides the denominator, the first m cells of the exchange's column and the first n cells of its row; and what
-- divides a multiple of each of them and of the pivot's cell divides that of h
pub record IsCommonFactor (x : Exchange) (cells : List ℤ) (m n : ℕ) (h : ℤ) : Type 0 where
  pub positive : pos 0 <ℤ h
  pub denominator : unsigned_abs h ∣ unsigned_abs x.denominator
  pub in_column : (i : ℕ) → i < m → unsigned_abs h ∣ unsigned_abs (cell_at x.height cells i x.column)
  pub in_row : (j : ℕ) → j < n → unsigned_abs h ∣ unsigned_abs (cell_at x.height cells x.row j)
  pub greatest : (d k : ℕ) → DividesTimes x cells m n d k → d ∣ k * unsigned_abs h

-- t is 1 or -1, as z is positive or negative
pub record IsSignOf (z t : ℤ) : Type 0 where
  pub size : unsigned_abs t ≡ 1
  pub square : t *ℤ t ≡ pos 1
  pub positive : z ≢ pos 0 → pos 0 <ℤ (t *ℤ z)

-- the common factor, the sign of the pivot's cell, and over the factor with the sign that cell and the denominator
pub record AreFactors (x : Exchange) (cells : List ℤ) (factors : Factors) : Type 0 where
  pub greatest : IsCommonFactor x cells x.height x.width factors.common
  pub turned : IsSignOf (pivot_of x cells) factors.sign
  pub pivot : factors.p *ℤ factors.common ≡ factors.sign *ℤ pivot_of x cells
  pub denominator : factors.u *ℤ factors.common ≡ factors.sign *ℤ x.denominator

-- the first n numbers of `own` are those of the exchange's column over the common factor, with the sign
abbrev pub IsColumnOver : Exchange → List ℤ → Factors → ℕ → List ℤ → Type 0
IsColumnOver x cells factors n own = (i : ℕ) → i < n →
    slice_index_or own i (pos 0) *ℤ factors.common ≡ factors.sign *ℤ cell_at x.height cells i x.column

-- `own` has the cells of the exchange's column over the common factor with the sign, but in the exchange's row z
pub record IsOwnColumn (x : Exchange) (cells : List ℤ) (factors : Factors) (z : ℤ) (own : List ℤ) : Type 0 where
  pub height : length own ≡ x.height
  pub same : (i : ℕ) → i < x.height → i ≢ x.row →
      slice_index_or own i (pos 0) *ℤ factors.common ≡ factors.sign *ℤ cell_at x.height cells i x.column
  pub leaving : slice_index_or own x.row (pos 0) ≡ z

-- the parts are those of an exchange that can be carried out, with z in its row
pub record AreParts (cells : List ℤ) (parts : Parts ℤ) (z : ℤ) : Type 0 where
  pub can : AllowsExchange parts.x.now cells
  pub factors : AreFactors parts.x.now cells parts.factors.now
  pub own : IsOwnColumn parts.x.now cells parts.factors.now z parts.own.now
  pub p : parts.p ≡ parts.factors.now.p
  pub u : parts.u ≡ parts.factors.now.u

-- the parts of an exchange in words, so that its row needs no case: e p - (p + u) e is - u e. All cells and the
-- exchange's column have the size, and no number of that column passes the limit
pub record AreWordParts (cells : List ℤ) (parts : Parts ℤ) : Type 0 where
  pub are : AreParts cells parts (parts.p +ℤ parts.u)
  pub cells_size : AreOf parts.size (parts.x.now.width * parts.x.now.height) cells
  pub own_size : AreOf parts.size parts.x.now.height parts.own.now
  pub own_limit : AreUpTo parts.own_limit 0 parts.x.now.height parts.own.now

-- the parts of an exchange in wide numbers
abbrev pub AreWideParts : List ℤ → Parts ℤ → Type 0
AreWideParts cells parts = AreParts cells parts parts.u

-- what is to be divided is the new cell over this: the sign of the pivot's cell times the common factor
abbrev pub factor_of : Parts ℤ → ℤ
factor_of parts = parts.factors.now.sign *ℤ parts.factors.now.common

-- column j is one of the table, for which there is room, and another than the exchange's
pub record IsOtherColumn (x : Exchange) (j : ℕ) (new : List ℤ) : Type 0 where
  pub room : length new ≡ x.width * x.height
  pub within : j < x.width
  pub other : j ≢ x.column

-- the divisor is positive, and with the factor it is the denominator
pub record IsScale (x : Exchange) (divisor factor : ℤ) : Type 0 where
  pub positive : pos 0 <ℤ divisor
  pub whole : factor *ℤ divisor ≡ x.denominator

-- what is to be divided for row i in column j
pub record IsNumerator (cells : List ℤ) (parts : Parts ℤ) (j i : ℕ) (n : ℤ) : Type 0 where
  pub column : j ≡ parts.x.now.column → i ≢ parts.x.now.row →
      n ≡ slice_index_or parts.own.now i (pos 0) *ℤ parts.x.now.denominator
  pub corner : j ≡ parts.x.now.column → i ≡ parts.x.now.row → n ≡ parts.u *ℤ parts.x.now.denominator
  pub inside : j ≢ parts.x.now.column → i ≢ parts.x.now.row →
      n ≡ cell_at parts.x.now.height cells i j *ℤ parts.p
      -ℤ slice_index_or parts.own.now i (pos 0) *ℤ cell_at parts.x.now.height cells parts.x.now.row j
  pub leaving : j ≢ parts.x.now.column → i ≡ parts.x.now.row →
      n ≡ neg_ℤ (parts.u *ℤ cell_at parts.x.now.height cells parts.x.now.row j)

-- the first n cells of column j are over g what is to be divided
abbrev pub IsColumnWritten : List ℤ → Parts ℤ → ℕ → ℕ → ℤ → List ℤ → Type 0
IsColumnWritten cells parts j n g new =
    (i : ℕ) → i < n → IsNumerator cells parts j i (cell_at parts.x.now.height new i j *ℤ g)

-- h divides what is to be divided in the first m rows of column j, but for the exchange's
abbrev pub DividesColumn : List ℤ → Parts ℤ → ℕ → ℕ → ℤ → Type 0
DividesColumn cells parts j m h = (i : ℕ) → i < m → i ≢ parts.x.now.row → (n : ℤ) → IsNumerator cells parts j i n →
    unsigned_abs h ∣ unsigned_abs n

-- the first n numbers are as they were
pub record AreKept (n : ℕ) (old new : List ℤ) : Type 0 where
  pub same_length : length new ≡ length old
  pub kept : (k : ℕ) → k < n → slice_index_or new k (pos 0) ≡ slice_index_or old k (pos 0)

-- the numbers before the place are `factor` times as large, the others as before
pub record IsScaled (place : ℕ) (factor : ℤ) (old new : List ℤ) : Type 0 where
  pub same_length : length new ≡ length old
  pub scaled : (k : ℕ) → k < place → slice_index_or new k (pos 0) ≡ slice_index_or old k (pos 0) *ℤ factor
  pub rest : (k : ℕ) → place ≤ k → slice_index_or new k (pos 0) ≡ slice_index_or old k (pos 0)

-- k is one of the first n places, and the number there times the factor passes
pub record PassesScaled (n : ℕ) (factor : ℤ) (old : List ℤ) (k : ℕ) : Type 0 where
  pub within : k < n
  pub passes : ¬ (IsNum (slice_index_or old k (pos 0) *ℤ factor))

-- the numbers before the place, which were over g, are over h
pub record IsRescaled (place : ℕ) (g h : ℤ) (old new : List ℤ) : Type 0 where
  pub same_length : length new ≡ length old
  pub scaled : (k : ℕ) → k < place →
      slice_index_or new k (pos 0) *ℤ h ≡ slice_index_or old k (pos 0) *ℤ g

-- k is one of the first n places, and the number there, which was over g, passes over h
pub record PassesRescaled (n : ℕ) (g h : ℤ) (old : List ℤ) (k : ℕ) : Type 0 where
  pub within : k < n
  pub number : ℤ
  pub same : number *ℤ h ≡ slice_index_or old k (pos 0) *ℤ g
  pub passes : ¬ (IsNum number)

-- h is what is left of the divisor g where it is to divide row i of column j, if that is not the exchange's
pub record IsLeftOfRow (cells : List ℤ) (parts : Parts ℤ) (j i : ℕ) (g h : ℤ) : Type 0 where
  pub positive : pos 0 <ℤ h
  pub divides : unsigned_abs h ∣ unsigned_abs g
  pub in_row : i ≢ parts.x.now.row → (n : ℤ) → IsNumerator cells parts j i n → unsigned_abs h ∣ unsigned_abs n
  pub greatest : (k : ℕ) → k ∣ unsigned_abs g →
      ((n : ℤ) → IsNumerator cells parts j i n → k ∣ unsigned_abs n) → k ∣ unsigned_abs h

-- h is what is left of the divisor g where it is to divide column j down to row m
pub record IsLeftOfColumn (cells : List ℤ) (parts : Parts ℤ) (j m : ℕ) (g h : ℤ) : Type 0 where
  pub positive : pos 0 <ℤ h
  pub divides : unsigned_abs h ∣ unsigned_abs g
  pub greatest : (k : ℕ) → k ∣ unsigned_abs g →
      ((i : ℕ) → i < m → (n : ℤ) → IsNumerator cells parts j i n → k ∣ unsigned_abs n) → k ∣ unsigned_abs h

-- h is what is left of the divisor g where it is to divide column j too, and the columns before it, which were over g,
-- are over h
pub record IsShrunk (cells : List ℤ) (parts : Parts ℤ) (j : ℕ) (g h : ℤ) (old new : List ℤ) : Type 0 where
  pub left : IsLeftOfColumn cells parts j parts.x.now.height g h
  pub rescaled : IsRescaled (j * parts.x.now.height) g h old new

-- column j is written over h, and the columns before it, which were over g, are over h too
pub record IsColumnDone (cells : List ℤ) (parts : Parts ℤ) (j : ℕ) (g h : ℤ) (old new : List ℤ) : Type 0 where
  pub same_length : length new ≡ length old
  pub left : IsLeftOfColumn cells parts j parts.x.now.height g h
  pub written : IsColumnWritten cells parts j parts.x.now.height h new
  pub rescaled : (k : ℕ) → k < j * parts.x.now.height →
      slice_index_or new k (pos 0) *ℤ h ≡ slice_index_or old k (pos 0) *ℤ g

-- the columns before column n are the new ones over f g; g divides the denominator, and no greater number divides it
-- and, with f, what stands in all of these columns
pub record IsOver (x : Exchange) (old : List ℤ) (f : ℤ) (n : ℕ) (g : ℤ) (now : List ℤ) : Type 0 where
  pub same_length : length now ≡ length old
  pub positive : pos 0 <ℤ g
  pub divides : unsigned_abs g ∣ unsigned_abs x.denominator
  pub done : (i j : ℕ) → i < x.height → j < n → IsNewCell x old i j (f *ℤ (g *ℤ cell_at x.height now i j))
  pub greatest : (k : ℕ) → k ∣ unsigned_abs x.denominator →
      ((i j : ℕ) → i < x.height → j < n → (q : ℤ) × IsNewCell x old i j (f *ℤ (pos k *ℤ q))) → k ∣ unsigned_abs g

-- the columns before column j are the new ones over what the divisor g and the factor f make of the denominator, and
-- column j is the next
pub record IsReached (old : List ℤ) (parts : Parts ℤ) (j : ℕ) (g f : ℤ) (now : List ℤ) : Type 0 where
  pub from_parts : AreWideParts old parts
  pub room : length now ≡ parts.x.now.width * parts.x.now.height
  pub within : j < parts.x.now.width
  pub scale : IsScale parts.x.now g f
  pub over : IsOver parts.x.now old (factor_of parts) j g now
