use Rattle.std.proofs.Common.{◌≡◌, ◌<◌, ℕ}
use Rattle.std.specs.List.{Contains}
use Rattle.dictionary_laws.specs.Keys.{place_in}
use Rattle.dictionary.specs.declared.positions.Position.TheVariants.{Row}
use Rattle.dictionary.specs.Positions.{position_at}
use Rattle.dictionary.proofs.positions.write_rows.Given as goal

abbrev pub invariant-rows : goal.invariant-rows
invariant-rows l =
    (k : ℕ) → Contains l.rows k → place_in l.rows k < l.i → position_at l.positions k ≡ Row (place_in l.rows k)
