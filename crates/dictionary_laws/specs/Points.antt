-- Points of spaces, settled equations, and rows that determine a direction.
use Rattle.std.specs.Prelude.{◌≡◌, ℕ, ◌<◌, pos, List}
use Rattle.std.specs.List.{AllByRecursion, Contains, filter}
use Rattle.poly_num.specs.Vectors.{Vector, ◌·◌, IsZero}
use Rattle.poly_model.specs.declared.kind.Kind.TheVariants.{V}
use Rattle.poly_model.specs.Systems.{Polyhedron}
use Rattle.poly_model.specs.Spaces.{Space, IsDirection, cone_space, prepare_space, main_space, lifted, HasPoints}
use Rattle.poly_model.specs.Labels.{is_row}
use Rattle.poly_model.specs.Dictionaries.{Table}

-- no equation can enter the key for a label that is none: its entries at those are 0
abbrev pub AreSettled : List ℕ → Table → List ℕ → Type 0
AreSettled key t equations =
    (i k : ℕ) → Contains equations i → Contains key k → (Contains equations k → ⊥) →
    t.entry i k ≡ pos 0

-- no direction but 0 is 0 on all rows
abbrev pub RowsDetermine : Space → Type 0
RowsDetermine space = (z : Vector) → IsDirection space z →
    AllByRecursion (λ k. space.form k · z ≡ pos 0) (filter is_row space.labels) → IsZero z

-- spaces of the phases that have a point whatever the rows are: only the main space of an H file may
-- have none
pub record ArePhasePoints (p : Polyhedron) : Type 0 where
  pub cone : HasPoints (cone_space p)
  pub prepare : 0 < p.n → HasPoints (prepare_space p)
  pub main : (free : List ℕ) → p.kind ≡ V → HasPoints (main_space p free)
  pub lifted : (space : Space) (start : List ℕ) → HasPoints space → HasPoints (lifted space start)
