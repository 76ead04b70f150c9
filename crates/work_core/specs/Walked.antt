-- What a walk has written and counted.
use Rattle.std.specs.Prelude.{◌≡◌, ◌⊎◌, ℕ, ◌+◌, List, length, Option}
use Rattle.std.specs.List.{Contains}
use Rattle.poly_num.specs.Vectors.{Vector}
use Rattle.poly_model.specs.declared.listed.Count.{Count}
use Rattle.work_core.specs.ReplyLines.{ReplyLine, WritesLines, rows_in_lines, keys_in_lines}
use Rattle.work_core.specs.Meanings.{Meaning}
use Rattle.work_core.specs.Walks.{IsWalk}

-- where a walk gives keys back: all once so many bases are visited, and before that the deepest ones; it gives none back
-- that is not within its depth
pub record Bound : Type 1 where
  pub most : ℕ
  pub is_deepest : List ℕ → Type 0
  pub is_within : List ℕ → Type 0

-- of the keys in question some were visited and the others given back, within the bound; its lines were written, and are
-- counted
pub record HasWalked (work : Meaning) (Shows : List ℕ → Vector → Type 0) (bound : Bound) (in_question : List ℕ → Type 0)
    (old new : Option (List ℕ)) (before after : Count) : Type 0 where
  pub lines : List ReplyLine
  pub visited : List (List ℕ)
  pub written : WritesLines old new lines
  pub walk : IsWalk work Shows in_question visited (keys_in_lines lines) (rows_in_lines lines)
  pub rows : after.rows ≡ before.rows + length (rows_in_lines lines)
  pub jobs : after.jobs ≡ before.jobs + length (keys_in_lines lines)
  pub bases : after.bases ≡ before.bases + length visited
  pub back : (k : List ℕ) → Contains (keys_in_lines lines) k → (after.bases ≡ bound.most) ⊎ bound.is_deepest k
  pub no_deeper : (k : List ℕ) → Contains (keys_in_lines lines) k → bound.is_within k
