-- What a walk under a list has met, written and counted.
use Rattle.std.specs.Prelude.{◌≡◌, ℕ, ◌+◌, ◌≤◌, ◌<◌, List, [], ◌∷◌, ◌++◌, length, Option, Result, IfOk, OnOk, OnErr, IsErrOf}
use Rattle.std.specs.List.{Contains}
use Rattle.std.specs.Io.KnownBytes.{Appends}
use Rattle.poly_num.specs.Vectors.{Vector}
use Rattle.poly_io.specs.Written.{AppendsPart}
use Rattle.poly_model.specs.declared.listed.Count.{Count}
use Rattle.poly_model.specs.declared.overflow.Overflow.{Overflow}
use Rattle.poly_model.specs.Keys.{IsAscending}
use Rattle.poly_model.specs.Systems.{Polyhedron}
use Rattle.search_laws.specs.Shares.{ListsAll}
use Rattle.plain_enum.specs.Plain.{PassesInCone}
use Rattle.work_core.specs.declared.stops.WorkStop.{WorkStop}
use Rattle.work_core.specs.Orders.{Met, AreAt, keys_visited, keys_given_back}
use Rattle.work_core.specs.Searches.{by_subsets}
use Rattle.work_core.specs.ReplyLines.{ReplyLine, WritesLines, job_line_text, rows_in_lines, keys_in_lines, IsCutRun, IsTornRun}
use Rattle.work_core.specs.Splits.{AreWithin}
use Rattle.work_core.specs.Subsets.{IsSubsetChildAt, IsShownAtList}
use Rattle.job_laws.specs.Parts.{IsPart}
use Rattle.subset_work.specs.Counts.{IsOneBase}

-- a list of so many labels is given back
abbrev pub IsFar : ℕ → List ℕ → Type 0
IsFar longest key = longest ≤ length key

-- the rows are those shown at these keys, key by key
abbrev pub AreShownAt : Polyhedron → List (List ℕ) → List Vector → Type 0
AreShownAt p [] rows = rows ≡ []
AreShownAt p (key ∷ keys) rows =
    (here : List Vector) × (rest : List Vector) × (rows ≡ here ++ rest) × ListsAll (IsShownAtList p key) here
    × AreShownAt p keys rest

-- these keys, which lie under a key, and what lies under them were met as in a run; what was met was written, and is counted
pub record HasWalked (p : Polyhedron) (key : List ℕ) (most longest : ℕ) (keys : List (List ℕ)) (old new : Option (List ℕ))
    (before after : Count) : Type 0 where
  pub lines : List ReplyLine
  pub written : WritesLines old new lines
  pub within : AreWithin (by_subsets p) key (rows_in_lines lines) (keys_in_lines lines)
  pub met : List Met
  pub part : IsPart (IsSubsetChildAt p) (IsFar longest) most before.bases keys met after.bases
  pub shown : AreShownAt p (keys_visited met) (rows_in_lines lines)
  pub given : keys_in_lines lines ≡ keys_given_back met
  pub rows : after.rows ≡ before.rows + length (rows_in_lines lines)
  pub jobs : after.jobs ≡ before.jobs + length (keys_in_lines lines)

-- these are the children of a list whose last label comes before i
pub record AreChildrenBefore (p : Polyhedron) (key : List ℕ) (i : ℕ) (children : List (List ℕ)) : Type 0 where
  pub labels : List ℕ
  pub ascending : IsAscending labels
  pub before : (s : ℕ) → Contains labels s → s < i
  pub at : AreAt (IsSubsetChildAt p) key labels children
  pub each : (s : ℕ) (child : List ℕ) → IsSubsetChildAt p key s child → s < i → Contains labels s

-- a list was visited, and then its children whose last label comes before i were met
pub record HasWalkedTo (p : Polyhedron) (key : List ℕ) (i most longest : ℕ) (old new : Option (List ℕ))
    (before after : Count) : Type 0 where
  pub base : Count
  pub visits : IsOneBase before base
  pub children : List (List ℕ)
  pub are : AreChildrenBefore p key i children
  pub walked : HasWalked p key most longest children old new base after

-- a walk over a list and those under it, to its end or up to where it stops
pub record WalksUnder (p : Polyhedron) (key : List ℕ) (most longest : ℕ) (old new : Option (List ℕ)) (before : Count)
    (result : Result Count WorkStop) : Type 0 where
  pub whole : IfOk result (λ after. HasWalked p key most longest (key ∷ []) old new before after)
  pub torn : OnErr result (IsTornRun (by_subsets p) key old new)
  pub cut : (o : Overflow) → IsErrOf result (WorkStop.Overflow o) → PassesInCone p o × IsCutRun (by_subsets p) key old new

-- a key was given back, or the sink failed within its line
pub record GivesBack (key : List ℕ) (before : Count) (old new : Option (List ℕ)) (result : Result Count WorkStop) :
    Type 0 where
  pub whole : OnOk result (Appends old new (job_line_text key))
  pub part : OnErr result (AppendsPart old new (job_line_text key))
  pub rows : IfOk result (λ after. after.rows ≡ before.rows)
  pub jobs : IfOk result (λ after. after.jobs ≡ before.jobs + 1)
  pub bases : IfOk result (λ after. after.bases ≡ before.bases)
