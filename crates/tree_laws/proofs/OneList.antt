-- The free columns of a polyhedron are one list, so its main space is one.
use Rattle.std.proofs.Common.{◌≡◌, ℕ, List, sym, ◌∙◌}
use Rattle.poly_model.specs.Systems.{Polyhedron, cone_of}
use Rattle.poly_model.specs.FreeColumns.{AreFreeColumns}
use Rattle.cone_laws.proofs.ColumnLemmas.{one_list_of_columns}

pub same_columns : (p : Polyhedron) (free other : List ℕ) → AreFreeColumns (cone_of p) free →
    AreFreeColumns (cone_of p) other → other ≡ free
same_columns p free other f g =
    let columns = one_list_of_columns (cone_of p) in columns.only other g ∙ sym (columns.only free f)
