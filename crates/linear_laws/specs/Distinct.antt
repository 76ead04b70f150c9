-- Lists in which no member stands twice.
use Rattle.std.specs.Prelude.{List, [], ◌∷◌}
use Rattle.std.specs.List.{Contains}

module _ {X : Type 0} where
  abbrev pub AreDistinct : List X → Type 0
  AreDistinct [] = Unit {0}
  AreDistinct (x ∷ xs) = (Contains xs x → ⊥) × AreDistinct xs
