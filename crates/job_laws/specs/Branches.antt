-- How the keys of a work branch: a key has its children at labels, and what lies under it is the key or lies under one of
-- them.
use Rattle.std.specs.Prelude.{◌≡◌, ◌⊎◌, ℕ, ◌+◌, List}
use Rattle.work_core.specs.Meanings.{Meaning, StandsUnder, IsKeyBelow}
use Rattle.work_core.specs.Searches.{Search, MayBegin, meaning_of}

pub record HasBranches (work : Meaning) : Type 0 where
  -- a child is a key, one deeper
  pub child_key : (key : List ℕ) (s : ℕ) (child : List ℕ) → work.is_key key → work.is_child_at key s child → work.is_key child
  pub child_under : (key : List ℕ) (s : ℕ) (child : List ℕ) → work.is_child_at key s child → work.is_depth child key 1
  pub deeper : (key : List ℕ) (s : ℕ) (child above : List ℕ) (depth : ℕ) → work.is_child_at key s child →
      work.is_depth key above depth → work.is_depth child above (depth + 1)
  -- what lies under a key is the key, or lies under a child
  pub parts : (key one : List ℕ) → work.is_key key → IsKeyBelow work key one →
      (one ≡ key) ⊎ ((s : ℕ) × (child : List ℕ) × work.is_child_at key s child × StandsUnder work one child)
  -- and under no other; no key lies under its child
  pub one_child : (key : List ℕ) (s r : ℕ) (b c one : List ℕ) → work.is_key one → work.is_child_at key s b →
      work.is_child_at key r c → StandsUnder work one b → StandsUnder work one c → b ≡ c
  pub not_itself : (key : List ℕ) (s : ℕ) (child : List ℕ) → work.is_key key → work.is_child_at key s child →
      StandsUnder work key child → ⊥
  -- there is one child at a label, and a child has one label
  pub one_at : (key : List ℕ) (s : ℕ) (b c : List ℕ) → work.is_child_at key s b → work.is_child_at key s c → b ≡ c
  pub one_label : (key : List ℕ) (s r : ℕ) (child : List ℕ) → work.is_child_at key s child → work.is_child_at key r child →
      s ≡ r

-- so it is with both works
abbrev pub WorksHaveBranches : Type 0
WorksHaveBranches = (s : Search) → MayBegin s → HasBranches (meaning_of s)
