-- Labels and keys that have a text.
use Rattle.std.specs.Prelude.{◌≡◌, ◌⊎◌, ℕ, ◌*◌, ◌<◌, List}
use Rattle.std.specs.List.{AllByRecursion}
use Rattle.poly_model.specs.Labels.{coordinates_from, constant_label}
use Rattle.poly_model.specs.Keys.{IsKey}

-- a label that a key's text may have: t, a row's or a coordinate's
abbrev pub IsKeyLabel : ℕ → Type 0
IsKeyLabel l = l < 2 * coordinates_from

-- a label that a place's text may have: that of the constant column too
abbrev pub IsPlaceLabel : ℕ → Type 0
IsPlaceLabel l = IsKeyLabel l ⊎ (l ≡ constant_label)

-- a key that has a text: none of its labels is that of the constant column
pub record HasKeyText (key : List ℕ) : Type 0 where
  pub is_key : IsKey key
  pub labels : AllByRecursion IsKeyLabel key
