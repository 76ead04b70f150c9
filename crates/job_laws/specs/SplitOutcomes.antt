-- What a reply may be follows from what an outcome is: its rows and keys part the share of its key, within its budget.
use Rattle.std.specs.Prelude.{ℕ, ◌≤◌, List}
use Rattle.poly_num.specs.Vectors.{Vector}
use Rattle.poly_model.specs.Limits.{most_labels}
use Rattle.work_core.specs.declared.budget.Budget.{Budget}
use Rattle.work_core.specs.Meanings.{Meaning}
use Rattle.work_core.specs.Outcomes.{IsOutcome}
use Rattle.work_core.specs.Searches.{Search, MayBegin, meaning_of}
use Rattle.work_core.specs.Splits.{IsBudget, IsWithinBudget, Splits}

-- of a search of no more columns than a key may have labels
abbrev pub OutcomesSplit : Type 0
OutcomesSplit =
    (s : Search) → MayBegin s → s.polyhedron.n ≤ most_labels → (key : List ℕ) (budget : Budget) (rows : List Vector)
    (keys : List (List ℕ)) (bases : ℕ) → Meaning.is_key (meaning_of s) key → IsBudget budget →
    IsOutcome (meaning_of s) key budget rows keys bases →
    Splits (meaning_of s) key rows keys × IsWithinBudget (meaning_of s) key budget keys bases
