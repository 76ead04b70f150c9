-- A file that is not listed: nothing is written, and no pivot is counted; and one that is.
use Rattle.std.specs.Prelude.{Result}
use Rattle.std.specs.Result.{IsErrOf}
use Rattle.std.proofs.Common.{◌≡◌, inl, inr, ℕ, ◌≤◌, List, [], ◌∷◌, length, Option, Err, refl, arith}
use Rattle.std.specs.List.{Contains}
use Rattle.poly_model.specs.declared.overflow.Overflow.{Overflow as Passed}
use Rattle.poly_num.specs.Vectors.{Vector}
use Rattle.poly_model.specs.declared.listed.Listed.{Listed}
use Rattle.poly_model.specs.Due.{IsDue, IsAskedInMain}
use Rattle.poly_model.specs.Extreme.{IsFeasible}
use Rattle.poly_model.specs.Spaces.{main_space}
use Rattle.poly_model.specs.Subtrees.{IsSubtreeKey}
use Rattle.poly_model.specs.Systems.{System, Polyhedron, cone_of}
use Rattle.linear_laws.proofs.Members.{Contains-nil}
use Rattle.cone_laws.proofs.ColumnLemmas.{one_list_of_columns, line_of_column}
use Rattle.cone_laws.proofs.LineLists.{one_list_of_lines}
use Rattle.tree_laws.proofs.Roots.{root_is_feasible}
use Rattle.listing_laws.proofs.Completions.{some_extremes}
use Rattle.listing_laws.proofs.ListingLemmas.{are_extreme}
use Rattle.search_laws.proofs.FeasibleFiles.{main_has_no_row_zero}
use Rattle.search_laws.proofs.GivenRoots.{given_feasible}
use Rattle.search_laws.proofs.SearchRoots.{has_search_root}
use Rattle.linearity.proofs.Errors.{one_error}
use Rattle.reverse_step.specs.Walks.{Walk}
use Rattle.row_printer.specs.declared.stop.ListStop.{ListStop}
use Rattle.row_printer.specs.declared.stop.ListStop.TheVariants.{Infeasible, Overflow}
use Rattle.row_printer.specs.Listings.{WritesListing, ListsIfFeasible}
use Rattle.row_printer.proofs.ListingParts.{stops_at_once}
use Rattle.convert_core.specs.declared.rays.Rays.{Rays}
use Rattle.convert_core.specs.Searches.{IsSearch, IsAtRoot}
use Rattle.convert_core.specs.Listed.{TakesSteps, IsDueInSearch}

pub not_listed : (p : Polyhedron) (old : Option (List ℕ)) (Unwritten : Type 0) (Passes : Passed → Type 0) → Unwritten →
    (stop : ListStop) → (stop ≡ Infeasible → ¬ (IsFeasible (cone_of p))) → ((o : Passed) → stop ≡ Overflow o → Passes o) →
    ListsIfFeasible p old old Unwritten Passes (Err stop)
not_listed p old Unwritten Passes unwritten stop infeasible overflow =
    let lines = one_list_of_lines (cone_of p) (line_of_column (cone_of p)) (one_list_of_columns (cone_of p)) in
    let (all, l) = some_extremes p in
    record {
      written = stops_at_once p lines.one lines.has old (Err stop) refl all (are_extreme (cone_of p) all l);
      feasible = λ e. absurd (cc);
      infeasible = λ e. infeasible (one_error (Err stop) Infeasible stop e refl);
      overflow = λ o e. overflow o (one_error (Err stop) (Overflow o) stop e refl);
      printed = inl unwritten;
    }

-- ---- the steps
some_member : {X : Type 0} (xs : List X) (x : X) → Contains xs x → 1 ≤ length xs
some_member [] x c = absurd (Contains-nil x c)
some_member (y ∷ xs) x c = omega arith

-- the root is one of the lexicographically feasible cobases
pub no_steps : (p : Polyhedron) (before : ℕ) → TakesSteps p before before
no_steps p before root bases r (ones, l, count) =
    let (home, h) = given_feasible (main_space p r.free) r.start (main_has_no_row_zero p r.free) root r.given in
    let key : IsSubtreeKey p root root = record {
      free = r.free;
      columns = r.columns;
      table = home;
      feasible = root_is_feasible (main_space p r.free) root home h;
    } in
    let some = some_member ones root
    (l.each root (key, (0, record { free = r.free; columns = r.columns; above = refl }))) in
    omega (arith, some, count)

-- ---- a file that is listed
pub is_listed : (p : Polyhedron) (cone : System) (rays : Rays) (walk : Walk) (vector : Vector) →
    IsSearch p cone rays walk vector → IsAtRoot p walk → (old new : Option (List ℕ)) (Unwritten : Type 0)
    (result : Result Listed ListStop) →
    WritesListing p old new result → (IsErrOf result Infeasible → ⊥) →
    ((o : Passed) → IsErrOf result (Overflow o) → IsDue p o (IsAskedInMain p walk.root o)) →
    ListsIfFeasible p old new Unwritten (IsDueInSearch p) result
is_listed p cone rays walk vector x a old new Unwritten result w never due =
    let feasible = (has_search_root p x.few).exactly.0 (walk.root, a.search_root) in
    record {
      written = w;
      feasible = λ e. feasible;
      infeasible = λ e. absurd (never e);
      overflow = λ o e. inr (inr (walk.root, a.search_root, due o e));
      printed = inr feasible;
    }
