-- What phase one finds.
use Rattle.std.specs.Prelude.{◌≡◌, ◌⊎◌, ℕ, List, ◌∷◌}
use Rattle.poly_num.specs.Vectors.{Vector}
use Rattle.poly_model.specs.declared.overflow.Overflow.{Overflow}
use Rattle.poly_model.specs.declared.overflow.Phase.TheVariants.{First, Main}
use Rattle.poly_model.specs.Systems.{Polyhedron}
use Rattle.poly_model.specs.Spaces.{Space, lifted, main_space}
use Rattle.poly_model.specs.Tree.{IsLexFeasible, Leaves}
use Rattle.poly_model.specs.PhaseOne.{lowering_root, GivesByPhaseOne, IsSearchRoot}
use Rattle.dictionary.specs.Views.{Dictionary, table_of, CanPivot, IsDictionaryIn, IsOverflow}
use Rattle.linearity.specs.Prepared.{Preparation, IsPrepared}

-- what is prepared of a polyhedron
abbrev pub IsPreparationOf : Polyhedron → Preparation → Type 0
IsPreparationOf p x = IsPrepared p x.lines x.free x.dictionary

-- the dictionary of its start cobasis
abbrev pub IsStartOf : Polyhedron → List ℕ → Dictionary → Type 0
IsStartOf p free d = (lines : List Vector) × IsPrepared p lines free d

-- in the phase `main`, the dictionary of the root that phase one gives from the start cobasis
pub record IsGivenFrom (space : Space) (start : List ℕ) (d : Dictionary) : Type 0 where
  pub phase : d.phase ≡ Main
  pub dictionary : IsDictionaryIn space d
  pub given : GivesByPhaseOne space start d.key

-- the root of the search of the polyhedron, with its dictionary in the main space
pub record IsFound (p : Polyhedron) (free : List ℕ) (root : List ℕ) (d : Dictionary) : Type 0 where
  pub phase : d.phase ≡ Main
  pub key : d.key ≡ root
  pub dictionary : IsDictionaryIn (main_space p free) d
  pub search_root : IsSearchRoot p root

-- from a start cobasis whose worst row is `worst`, a pivot of phase one cannot be carried out, since a number passes: the
-- first exchange, or that of a row of the ratio test or of t
pub record StopsPhaseOne (space : Space) (start : List ℕ) (worst : ℕ) (o : Overflow) : Type 0 where
  pub at : Dictionary
  pub phase : at.phase ≡ First
  pub dictionary : IsDictionaryIn (lifted space start) at
  pub r : ℕ
  pub s : ℕ
  pub can : CanPivot at r s
  pub overflow : IsOverflow at r s o
  pub pivot : ((at.key ≡ 0 ∷ start) × (r ≡ worst) × (s ≡ 0))
      ⊎ (IsLexFeasible (lifted space start) (lowering_root start worst) at.key (table_of at)
      × ((r ≡ 0)
      ⊎ Leaves (lifted space start).labels (lowering_root start worst) at.key (table_of at) s r))
