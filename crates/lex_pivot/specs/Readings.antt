-- The numbers that are read off rows.
use Rattle.std.specs.Prelude.{ℕ, ℤ, pos, ◌+ℤ◌, ◌*ℤ◌, ◌<ℤ◌, ◌≢◌, if◌then◌else◌, List}
use Rattle.std.specs.List.{Contains}
use Rattle.std.specs.Ordering.{int_eq}
use Rattle.poly_model.specs.Dictionaries.{Table}
use Rattle.lex_pivot.specs.declared.reading.Reading.{Reading}
use Rattle.lex_pivot.specs.declared.reading.Reading.TheVariants.{Entry, Sum, Where}

-- the number of row q
abbrev pub reading_at : Table → Reading ℤ → ℕ → ℤ
reading_at t (Entry s) q = t.entry q s
reading_at t (Sum p j f s) q = p *ℤ t.entry q j +ℤ t.entry q s *ℤ f
reading_at t (Where j s) q = if int_eq (t.entry q s) (pos 0) then t.entry q j else pos 0

-- the columns that are read are two
abbrev pub AreApart : Reading ℤ → Type 0
AreApart (Entry s) = Unit {0}
AreApart (Sum p j f s) = j ≢ s
AreApart (Where j s) = j ≢ s

-- it is read in columns of the key, and its factor p is positive
abbrev pub IsReadable : List ℕ → Reading ℤ → Type 0
IsReadable key (Entry s) = Contains key s
IsReadable key (Sum p j f s) = (pos 0 <ℤ p) × Contains key j × Contains key s
IsReadable key (Where j s) = Contains key j × Contains key s
