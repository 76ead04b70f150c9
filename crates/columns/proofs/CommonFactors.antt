-- The greatest common divisor of the exchange's column and row, taken cell by cell.
use Rattle.std.proofs.Common.{◌≡◌, ℕ, ◌+◌, ◌<◌, ◌≤◌, ℤ, pos, List, arith, below_more}
use Prim.Native.Nat.{◌∣◌}
use Rattle.std.specs.Prelude.{◌<ℤ◌, unsigned_abs}
use Rattle.std.proofs.lemmas.Nat.Gcd.{dvd_trans}
use Rattle.std.proofs.Math.Nat.{one-dvd}
use Rattle.poly_num.specs.Divisors.{IsGcdOf}
use Rattle.columns.proofs.DivisorLemmas.{divides_gcd, positive_gcd}
use Rattle.columns.specs.declared.exchange.Exchange.{Exchange}
use Rattle.columns.specs.Cells.{cell_at, pivot_of}
use Rattle.columns.specs.Steps.{DividesTimes, IsCommonFactor}

-- what divides more cells divides fewer
fewer : (x : Exchange) (cells : List ℤ) (a b m n d k : ℕ) → m ≤ a → n ≤ b → DividesTimes x cells a b d k →
    DividesTimes x cells m n d k
fewer x cells a b m n d k ma nb u = record {
  denominator = u.denominator;
  pivot = u.pivot;
  column = λ i l. u.column i (omega arith);
  row = λ j l. u.row j (omega arith);
}

module _ (x : Exchange) (cells : List ℤ) where
  pub factor_start : (g : ℤ) → pos 0 <ℤ x.denominator → IsGcdOf x.denominator (pivot_of x cells) g →
      IsCommonFactor x cells 0 0 g
  factor_start g lt is = record {
    positive = positive_gcd x.denominator (pivot_of x cells) g lt is;
    denominator = is.1.0;
    in_column = λ i l. absurd (omega arith);
    in_row = λ j l. absurd (omega arith);
    greatest = λ d k all. divides_gcd x.denominator (pivot_of x cells) g is d k all.denominator all.pivot;
  }

  -- once it is 1, no other cell changes it
  pub factor_one : (a b m n : ℕ) → m ≤ a → n ≤ b → IsCommonFactor x cells m n (pos 1) → IsCommonFactor x cells a b (pos 1)
  factor_one a b m n ma nb u = record {
    positive = u.positive;
    denominator = u.denominator;
    in_column = λ i l. one-dvd _;
    in_row = λ j l. one-dvd _;
    greatest = λ d k all. u.greatest d k (fewer x cells a b m n d k ma nb all);
  }

  module _ (m n : ℕ) (h c g : ℤ) (is : IsGcdOf h c g) (u : IsCommonFactor x cells m n h) where
    in_column_still : (i : ℕ) → i < m → unsigned_abs g ∣ unsigned_abs (cell_at x.height cells i x.column)
    in_column_still i l = dvd_trans _ is.1.0 (u.in_column i l)

    in_row_still : (j : ℕ) → j < n → unsigned_abs g ∣ unsigned_abs (cell_at x.height cells x.row j)
    in_row_still j l = dvd_trans _ is.1.0 (u.in_row j l)

    -- the cell of the column in row m too
    pub factor_column : c ≡ cell_at x.height cells m x.column → IsCommonFactor x cells (m + 1) n g
    factor_column e = record {
      positive = positive_gcd h c g u.positive is;
      denominator = dvd_trans _ is.1.0 u.denominator;
      in_column = below_more _ _ in_column_still (rw (← e) (is.1.1));
      in_row = in_row_still;
      greatest = λ d k all.
          divides_gcd h c g is d k
          (u.greatest d k (fewer x cells (m + 1) n m n d k (omega arith) (omega arith) all))
          (rw e (all.column m (omega arith)));
    }

    -- the cell of the row in column n too
    pub factor_row : c ≡ cell_at x.height cells x.row n → IsCommonFactor x cells m (n + 1) g
    factor_row e = record {
      positive = positive_gcd h c g u.positive is;
      denominator = dvd_trans _ is.1.0 u.denominator;
      in_column = in_column_still;
      in_row = below_more _ _ in_row_still (rw (← e) (is.1.1));
      greatest = λ d k all.
          divides_gcd h c g is d k
          (u.greatest d k (fewer x cells m (n + 1) m n d k (omega arith) (omega arith) all))
          (rw e (all.row n (omega arith)));
    }
