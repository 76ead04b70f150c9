-- The numbers of a table: those that a key gives, what divides them, and what is left of them.
use Rattle.std.specs.Prelude.{◌≡◌, ◌≢◌, ℕ, pos, List, unsigned_abs, int_div}
use Rattle.std.specs.List.{Contains}
use Prim.Native.Nat.{◌∣◌}
use Rattle.poly_model.specs.Spaces.{Space, HasPoints}
use Rattle.poly_model.specs.Dictionaries.{Table}

-- the row of a label of the key: the denominator in its own column, 0 in the others, the constant 0.
-- Where the space has no point, constants are taken times 0 only, and can be any numbers
pub record IsOwnRow (space : Space) (key : List ℕ) (t : Table) (k : ℕ) : Type 0 where
  pub here : t.entry k k ≡ t.denominator
  pub elsewhere : (j : ℕ) → Contains key j → j ≢ k → t.entry k j ≡ pos 0
  pub constant : HasPoints space → t.constant k ≡ pos 0

-- the tables have the same denominator, entries and, where the space has a point, constants
pub record Agree (space : Space) (key : List ℕ) (t u : Table) : Type 0 where
  pub denominator : t.denominator ≡ u.denominator
  pub entries : (i k : ℕ) → Contains space.labels i → Contains key k → t.entry i k ≡ u.entry i k
  pub constants : HasPoints space → (i : ℕ) → Contains space.labels i →
      t.constant i ≡ u.constant i

-- d divides the denominator, and each label's constant and its entries at the labels of the key
pub record DividesNumbers (space : Space) (key : List ℕ) (t : Table) (d : ℕ) : Type 0 where
  pub denominator : d ∣ unsigned_abs t.denominator
  pub constants : (i : ℕ) → Contains space.labels i → d ∣ unsigned_abs (t.constant i)
  pub entries : (i k : ℕ) → Contains space.labels i → Contains key k →
      d ∣ unsigned_abs (t.entry i k)

-- d divides the denominator, and the constant and entries of each label outside the key
pub record DividesOutside (space : Space) (key : List ℕ) (t : Table) (d : ℕ) : Type 0 where
  pub denominator : d ∣ unsigned_abs t.denominator
  pub constants : (i : ℕ) → Contains space.labels i → (Contains key i → ⊥) →
      d ∣ unsigned_abs (t.constant i)
  pub entries : (i k : ℕ) → Contains space.labels i → (Contains key i → ⊥) → Contains key k →
      d ∣ unsigned_abs (t.entry i k)

-- only 1 divides all the numbers
abbrev pub ArePrimitive : Space → List ℕ → Table → Type 0
ArePrimitive space key t = (d : ℕ) → DividesNumbers space key t d → d ≡ 1

-- g divides all the numbers, and each number that does divides g
pub record IsGcdOfNumbers (space : Space) (key : List ℕ) (t : Table) (g : ℕ) : Type 0 where
  pub divides : DividesNumbers space key t g
  pub greatest : (d : ℕ) → DividesNumbers space key t d → d ∣ g

-- each number divided by d, rounded toward zero
abbrev pub divided : Table → ℕ → Table
divided t d = record {
  denominator = int_div t.denominator (pos d);
  constant = λ i. int_div (t.constant i) (pos d);
  entry = λ i k. int_div (t.entry i k) (pos d);
}
