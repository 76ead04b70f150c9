-- The lines of the rows that are shown at a cobasis.
use Rattle.std.specs.Prelude.{◌≡◌, ℕ, ◌+◌, ◌≤◌, List, map, length, Option}
use Rattle.std.specs.List.{Contains}
use Rattle.poly_num.specs.Vectors.{Vector}
use Rattle.poly_model.specs.declared.listed.Count.{Count}
use Rattle.poly_model.specs.Labels.{coordinates_from}
use Rattle.poly_model.specs.Limits.{most_columns}
use Rattle.poly_model.specs.Systems.{System}
use Rattle.linear_laws.specs.Distinct.{AreDistinct}
use Rattle.dictionary.specs.Views.{Dictionary}
use Rattle.search_laws.specs.Shares.{ListsAll}
use Rattle.lex_pivot.specs.Leads.{AreLeads}
use Rattle.convert_core.specs.declared.rows.Basis.{Basis}
use Rattle.convert_core.specs.Rows.{CanTest, IsColumnShown, column_rows}
use Rattle.work_core.specs.ReplyLines.{ReplyLine, row_line, WritesLines, WritesPartOfLines}

abbrev pub lines_of_rows : List Vector → List ReplyLine
lines_of_rows ys = map row_line ys

-- the vectors of the columns can be shown: their tests can be made, they are no longer than a row of a file may be, and they
-- are no more than there can be rows
pub record CanShow (at : Basis) : Type 0 where
  pub tests : CanTest at.cone.now at.dict.now at.rays
  pub leads : AreLeads at.dict.now at.order.now at.leads.now
  pub narrow : at.cone.now.n ≤ most_columns
  pub few : length at.dict.now.key ≤ coordinates_from

module _ (sys : System) (root : List ℕ) (d : Dictionary) (columns : List ℕ) where
  abbrev pub IsShownOf : ℕ → Type 0
  IsShownOf c = Contains columns c × IsColumnShown sys root d c

  -- the rows of those of the columns that are shown were written, and are counted
  pub record ShowsRows (old new : Option (List ℕ)) (before after : Count) : Type 0 where
    pub shown : List ℕ
    pub all : ListsAll IsShownOf shown
    pub written : WritesLines old new (lines_of_rows (column_rows sys d shown))
    pub rows : after.rows ≡ before.rows + length shown
    pub jobs : after.jobs ≡ before.jobs
    pub bases : after.bases ≡ before.bases

  -- first bytes of the rows of some of them, each once
  pub record TearsRows (old new : Option (List ℕ)) : Type 0 where
    pub shown : List ℕ
    pub once : AreDistinct shown
    pub only : (c : ℕ) → Contains shown c → IsShownOf c
    pub written : WritesPartOfLines old new (lines_of_rows (column_rows sys d shown))
