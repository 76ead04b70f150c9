-- The rows that are linear.
use Rattle.std.specs.Prelude.{◌≡◌, ℕ, ◌-◌, Bool, true, ◌==◌, ◌||◌, nat_lt, List, length, map, slice_set, Result, Ok, Err}
use Rattle.std.specs.List.{list_any, range_with_len, fold}
use Rattle.poly_reader.specs.declared.bad.BadFile.{BadFile}
use Rattle.poly_reader.specs.declared.bad.BadKind.TheVariants.{BadLinearity}
use Rattle.poly_reader.specs.Head.{Name}
use Rattle.poly_reader.specs.FirstFault.{◌>>=◌, Check, unless, each}

-- a name that is no row of m
unfoldable pub name_fault : ℕ → Name → Check
name_fault m name = unless (name.row == 0 || nat_lt m name.row) BadLinearity name.line

-- the row is named
abbrev pub is_named : List Name → ℕ → Bool
is_named names i = list_any (λ (x : Name). x.row == i) names

-- for each of m rows whether it is named
abbrev pub marks_of : ℕ → List Name → List Bool
marks_of m names = map (is_named names) (range_with_len 1 m)

-- the marks of m rows, or the first name that is no row
unfoldable pub checked_marks : ℕ → List Name → Result (List Bool) BadFile
checked_marks m names = do
  rows ← each (name_fault m) names
  Ok (marks_of m names)

-- marks with one more row
abbrev pub with_name : List Bool → Name → List Bool
with_name marks name = slice_set marks (name.row - 1) true

-- marks with these rows
unfoldable pub with_names : List Bool → List Name → List Bool
with_names marks names = fold with_name marks names

-- the rows of these names were marked, or one of them is no row
abbrev pub Marks : Result (Unit {0}) BadFile → List Bool → List Bool → List Name → Type 0
Marks (Ok done) old new names = (each (name_fault (length old)) names ≡ Ok tt) × (new ≡ with_names old names)
Marks (Err f) old new names = each (name_fault (length old)) names ≡ Err f
