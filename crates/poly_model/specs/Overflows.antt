-- Products that a pivot needs and that do not fit.
use Rattle.std.specs.Prelude.{◌≡◌, ◌≢◌, ◌⊎◌, ℕ, ◌==◌, ℤ, pos, if◌then◌else◌, List}
use Rattle.std.specs.List.{Contains}
use Rattle.poly_num.specs.Numbers.{Crosses}
use Rattle.poly_model.specs.declared.overflow.Overflow.{Overflow}
use Rattle.poly_model.specs.declared.overflow.Place.{Place}
use Rattle.poly_model.specs.Labels.{constant_label}
use Rattle.poly_model.specs.Systems.{Polyhedron}
use Rattle.poly_model.specs.Spaces.{Space, HasPoints, IsSpaceOf}
use Rattle.poly_model.specs.Dictionaries.{Table, IsDictionary}

-- row i and column j
abbrev pub IsPlace : Place → ℕ → ℕ → Type 0
IsPlace place i j = (place.row ≡ i) × (place.col ≡ j)

-- the number at a place, which stands in the column of constants or in that of a label
abbrev pub number_at : Table → Place → ℤ
number_at t place =
    if place.col == constant_label then t.constant place.row else t.entry place.row place.col

-- the exchange of row r for column s multiplies the entries at (r, s) and (i, j), and those at (i, s) and (r, j)
pub record IsInner (labels key : List ℕ) (r s : ℕ) (o : Overflow) : Type 0 where
  pub i : ℕ
  pub j : ℕ
  pub row : Contains labels i
  pub other_row : i ≢ r
  pub column : Contains key j ⊎ (j ≡ constant_label)
  pub other_column : j ≢ s
  pub a : IsPlace o.a r s
  pub b : IsPlace o.b i j
  pub c : IsPlace o.c i s
  pub d : IsPlace o.d r j

-- it multiplies the entry at (i, s) and the denominator, which stands at (s, s)
pub record IsOuter (labels : List ℕ) (s : ℕ) (o : Overflow) : Type 0 where
  pub i : ℕ
  pub row : Contains labels i
  pub a : IsPlace o.a i s
  pub b : IsPlace o.b s s
  pub c : IsPlace o.c i s
  pub d : IsPlace o.d s s

-- the exchange of r and s at numbers of these labels and this key needs the products of the entries at
-- a and b and at c and d, and one of them or their difference is no number of 127 bits and a sign
pub record IsPassing (labels key : List ℕ) (t : Table) (r s : ℕ) (o : Overflow) : Type 0 where
  pub places : IsInner labels key r s o ⊎ IsOuter labels s o
  pub passes : ¬ (Crosses (number_at t o.a) (number_at t o.b) (number_at t o.c) (number_at t o.d))

-- in a space with P, a pivot at the dictionary of the overflow's key needs these products
pub record PassesIn (P : Space → Type 0) (o : Overflow) : Type 0 where
  pub space : Space
  pub is_space : P space
  -- without a point, any constants would do
  pub point : HasPoints space
  pub table : Table
  pub dictionary : IsDictionary space o.key table
  pub r : ℕ
  pub s : ℕ
  pub outside : Contains space.labels r × (Contains o.key r → ⊥)
  pub inside : Contains o.key s
  pub nonzero : table.entry r s ≢ pos 0
  pub passing : IsPassing space.labels o.key table r s o

-- it does so in the space of its phase
abbrev pub Passes : Polyhedron → Overflow → Type 0
Passes p o = PassesIn (IsSpaceOf p o.phase) o
