-- Each cobasis has a point at which its labels are 0; where no row is negative there, it is a feasible root, and back.
use Rattle.std.proofs.Common.{ℕ, List, ℤ, pos, sym, subst}
use Rattle.std.specs.Prelude.{◌<ℤ◌, ◌≤ℤ◌}
use Rattle.std.specs.List.{Contains}
use Rattle.poly_num.specs.Vectors.{Vector, ◌·◌}
use Rattle.poly_model.specs.Spaces.{Space}
use Rattle.poly_model.specs.Dictionaries.{Table}
use Rattle.poly_model.specs.LexOrder.{rows_in}
use Rattle.poly_model.specs.Tree.{IsRowDictionary, IsFeasibleRoot}
use Rattle.dictionary_laws.proofs.Origins.{Origin, some_origin}
use Rattle.search_laws.specs.PhaseOne.{MeetsRows}
use Rattle.tree_laws.proofs.PointValues.{IsKeyPoint, nonnegative_constant, nonnegative_value}

module _ (space : Space) (key : List ℕ) (t : Table) (d : IsRowDictionary space key t) where
  pub key_point : (y : Vector) × IsKeyPoint space key y
  key_point = by (some_origin space key d.points d.dictionary.cobasis)
    where
      by : Origin space key → (y : Vector) × IsKeyPoint space key y
      by o = (
        o.vector,
        record {
          inside = o.inside;
          finite = subst (λ (x : ℤ). pos 0 <ℤ x) (sym o.is_level) o.positive;
          nothing = o.zero;
        },
      )

  module _ (y : Vector) (at : IsKeyPoint space key y) where
    pub root_from_point : ((i : ℕ) → Contains (rows_in space.labels) i → pos 0 ≤ℤ (space.form i · y)) →
        IsFeasibleRoot space key t
    root_from_point h =
        record { dictionary = d; constants = λ i l. nonnegative_constant space key t d y at i l (h i l) }

-- the point of a feasible root meets all rows
pub point_of_root : (space : Space) (key : List ℕ) (t : Table) → IsFeasibleRoot space key t → MeetsRows space
point_of_root space key t f = by (key_point space key t f.dictionary)
  where
    by : (y : Vector) × IsKeyPoint space key y → MeetsRows space
    by (y, at) = record {
      vector = y;
      inside = at.inside;
      finite = at.finite;
      rows = λ i l. nonnegative_value space key t f.dictionary y at i l (f.constants i l);
    }
