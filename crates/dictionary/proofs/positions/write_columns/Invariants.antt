use Rattle.std.proofs.Common.{◌≡◌, ◌<◌, ℕ, suc}
use Rattle.std.specs.List.{Contains}
use Rattle.dictionary_laws.specs.Keys.{place_in}
use Rattle.dictionary.specs.declared.positions.Position.TheVariants.{Column}
use Rattle.dictionary.specs.Positions.{position_at}
use Rattle.dictionary.proofs.positions.write_columns.Given as goal

abbrev pub invariant-columns : goal.invariant-columns
invariant-columns l = record {
  done :
      (k : ℕ) → Contains l.columns k → place_in l.columns k < l.j →
      position_at l.positions k ≡ Column (suc (place_in l.columns k));
  others : (k : ℕ) → (Contains l.columns k → ⊥) → position_at l.positions k ≡ position_at l.fn.positions k;
}
