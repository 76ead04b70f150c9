-- The phase `first`: t, which is label 0, comes in front of the labels and into the cobasis, and leaves again.
use Rattle.std.specs.Prelude.{◌≡◌, ℕ, ◌<◌, ◌==◌, Bool, not, if◌then◌else◌, ℤ, pos, List, ◌∷◌, ◌++◌, map, length}
use Rattle.std.specs.List.{Contains}
use Rattle.poly_model.specs.Limits.{most_labels}
use Rattle.poly_model.specs.declared.overflow.Phase.TheVariants.{Main, First}
use Rattle.poly_model.specs.Labels.{is_row}
use Rattle.poly_model.specs.Spaces.{Space, HasPoints, lifted}
use Rattle.poly_model.specs.Dictionaries.{IsCobasis, Writes}
use Rattle.dictionary_laws.specs.Numbers.{Agree}
use Rattle.dictionary_laws.specs.WithT.{with_t}
use Rattle.dictionary.specs.Views.{Dictionary, number, by_columns, table_of, IsDictionaryIn}
use Rattle.dictionary.specs.MainPhase.{kept_columns}

-- no label is that of t, and the key has room for one more
pub record HasRoomForT (d : Dictionary) : Type 0 where
  pub none : Contains d.labels 0 → ⊥
  pub room : length d.key < most_labels

-- the entry of t at a label outside the cobasis: t is added to a row, and not to a coordinate
abbrev pub t_entry : Dictionary → ℕ → ℤ
t_entry d i = if is_row i then d.denominator else pos 0

-- the cells, and behind them the column of t
abbrev pub cells_with_t : Dictionary → List ℤ
cells_with_t d = by_columns (number d) d.rows (kept_columns d.columns d.columns) ++ map (λ i. t_entry d i) d.rows

-- t stands in front of the labels and is in the cobasis; in each space with these labels the numbers are those of the old
-- cobasis with t, which is added to the rows outside it
pub record AddsT (old new : Dictionary) : Type 0 where
  pub phase : new.phase ≡ First
  pub labels : new.labels ≡ 0 ∷ old.labels
  pub key : new.key ≡ 0 ∷ old.key
  pub numbers : (space : Space) → old.labels ≡ space.labels →
      Agree (lifted space old.key) (0 ∷ old.key) (with_t old.key (table_of old)) (table_of new)

-- any label but that of t
abbrev pub is_other : ℕ → Bool
is_other k = not (k == 0)

-- wherever the numbers write the labels of a space without t over the other labels of the key, and these are a cobasis
-- of it, the new one is the dictionary of that cobasis
pub record DropsT (old new : Dictionary) : Type 0 where
  pub phase : new.phase ≡ Main
  pub drops : (space : Space) (rest : List ℕ) → HasPoints space → old.labels ≡ 0 ∷ space.labels →
      old.key ≡ 0 ∷ rest → IsCobasis space rest → Writes space rest (table_of old) →
      (new.key ≡ rest) × IsDictionaryIn space new
