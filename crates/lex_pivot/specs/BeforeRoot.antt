-- The rows of a cobasis that are outside the root.
use Rattle.std.specs.Prelude.{ℕ, List}
use Rattle.std.specs.List.{filter}
use Rattle.dictionary.specs.Views.{Dictionary}
use Rattle.lex_pivot.specs.Earlier.{is_before_root}

-- the labels of the cobasis that are rows outside the root, ascending as the key is
abbrev pub before_root : Dictionary → List ℕ → List ℕ
before_root d root = filter (is_before_root root) d.key
