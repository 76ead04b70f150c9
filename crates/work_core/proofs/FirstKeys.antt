-- The share of the first key is the extreme vectors, for both works.
use Rattle.std.specs.Prelude.{◌↔◌, ℕ, List, [], length, map, refl}
use Rattle.poly_num.specs.Vectors.{Vector}
use Rattle.poly_model.specs.declared.kind.WorkKind.{WorkKind}
use Rattle.poly_model.specs.declared.kind.WorkKind.TheVariants.{Subsets, Subtrees}
use Rattle.poly_model.specs.Labels.{IsRow}
use Rattle.poly_model.specs.Systems.{row_of, Polyhedron, cone_of}
use Rattle.poly_model.specs.Extreme.{IsExtreme}
use Rattle.poly_model.specs.Spaces.{marked}
use Rattle.linear_laws.proofs.FirstBases.{first_basis}
use Rattle.cone_laws.proofs.ColumnLemmas.{one_list_of_columns}
use Rattle.search_laws.proofs.SubtreeShares.{root_share}
use Rattle.cone_laws.specs.Faces.{fixed_rows}
use Rattle.work_core.specs.Subsets.{InSubset, tight_labels}
use Rattle.work_core.specs.Searches.{IsRootBy, meaning_by}
use Rattle.work_core.specs.Laws.{FirstKeyHasAll}

subsets_have_all : (p : Polyhedron) (y : Vector) → InSubset p [] y ↔ IsExtreme (cone_of p) y
subsets_have_all p y = (λ m. m.extreme, back)
  where
    back : IsExtreme (cone_of p) y → InSubset p [] y
    back e =
        let columns = one_list_of_columns (cone_of p) in
        let rows = map (λ i. (row_of (cone_of p).rows i).entries) (tight_labels p y) in
        let basis = first_basis p.n (fixed_rows columns.one (cone_of p)) rows in
        record {
          extreme = e;
          rest = marked (tight_labels p y) basis.0;
          list = record { free = columns.one; columns = columns.has; marks = basis.0; first = basis.1; taken = refl };
        }

by_work : (kind : WorkKind) (p : Polyhedron) (root : List ℕ) → IsRow (length (cone_of p).rows) → IsRootBy kind p root →
    (y : Vector) →
    (meaning_by kind p root).in_share (meaning_by kind p root).first_key y ↔ IsExtreme (cone_of p) y
by_work Subsets p root few h y = subsets_have_all p y
by_work Subtrees p root few h y = root_share p root h few y

pub first_key_has_all : FirstKeyHasAll
first_key_has_all s few h y = by_work s.work s.polyhedron s.root few h y
