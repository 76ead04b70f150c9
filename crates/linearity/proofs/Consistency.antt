-- Whether the equations of a file have a common point, once the linear rows have been tried; and what is prepared once
-- all rows have been.
use Rattle.std.proofs.Common.{◌≡◌, ◌↔◌, inr, refl, ℕ, ◌+◌, ◌<◌, ◌≤◌, List, [], length, sym, ap, subst, ◌∙◌, arith}
use Rattle.std.specs.List.{Contains, filter}
use Rattle.poly_num.specs.Vectors.{Vector}
use Rattle.poly_model.specs.Labels.{IsRow}
use Rattle.poly_model.specs.declared.overflow.Phase.TheVariants.{Prepare}
use Rattle.poly_model.specs.Limits.{most_columns, most_cone_rows}
use Rattle.poly_model.specs.Keys.{IsAscending}
use Rattle.poly_model.specs.Systems.{System, Polyhedron, cone_of}
use Rattle.poly_model.specs.FreeColumns.{AreFreeColumns, AreLinesOf}
use Rattle.poly_model.specs.Spaces.{IsSpaceOf, HasPoints, IsStartCobasis, prepare_space, main_space}
use Rattle.dictionary_laws.specs.Points.{AreSettled}
use Rattle.poly_model.specs.Equations.{equation_labels, AreConsistent}
use Rattle.dictionary_laws.specs.MainSpace.{stays, CanEnterMain, EntersMain}
use Rattle.dictionary_laws.proofs.Equations.{constants_where_point, point_where_constants}
use Rattle.dictionary_laws.proofs.MainRows.{equation_only}
use Rattle.dictionary_laws.proofs.MainSpace.{equation_in}
use Rattle.dictionary_laws.proofs.Origins.{some_origin}
use Rattle.dictionary.specs.New.{IsCoordinateDictionary}
use Rattle.dictionary.specs.MainPhase.{EntersMainPhase}
use Rattle.dictionary.specs.Views.{Dictionary, IsDictionaryIn, table_of}
use Rattle.linearity.specs.declared.eliminate.Pass.TheVariants.{Linear}
use Rattle.linearity.specs.Columns.{columns_in, coordinate_vectors}
use Rattle.linearity.specs.Elimination.{IsDictionaryOf, IsEliminated}
use Rattle.linearity.specs.Prepared.{HasNoConstants, BeginsElimination, EndsElimination, IsPrepared}
use Rattle.linearity.proofs.Beginnings.{begins_new}
use Rattle.linearity.proofs.KeyColumns.{column_only}
use Rattle.linearity.proofs.LeftLines.{elimination_leaves_lines}
use Rattle.linearity.proofs.MainStart.{few_in_file, row_within, row_is_equation, linear_equation, equations_settled, can_enter, enters, is_start_of_main}

-- a dictionary of the file's rows
pub in_prepare : (p : Polyhedron) (d : Dictionary) → IsDictionaryOf p d → d.phase ≡ Prepare →
    IsDictionaryIn (prepare_space p) d
in_prepare p d of e = subst (λ s. IsDictionaryIn s d) (subst (λ f. IsSpaceOf p f of.space) e of.is_space) of.dictionary

prepare_points : (p : Polyhedron) (d : Dictionary) → IsDictionaryOf p d → d.phase ≡ Prepare →
    HasPoints (prepare_space p)
prepare_points p d of e = subst HasPoints (subst (λ f. IsSpaceOf p f of.space) e of.is_space) of.points

module _ (p : Polyhedron) (d : Dictionary) (of : IsDictionaryOf p d) (e : d.phase ≡ Prepare) where
  -- ---- once the linear rows have been tried
  module _ (tried : IsEliminated (cone_of p).rows Linear (length (cone_of p).rows + 1) d) where
    is : IsDictionaryIn (prepare_space p) d
    is = in_prepare p d of e

    settled : AreSettled d.key (table_of d) (equation_labels p)
    settled =
        equations_settled p of.few d is
        (λ i c l linear. tried.settled i c l (linear, row_within p of.few d is i c l))

    labels : (i : ℕ) → Contains (equation_labels p) i → Contains (prepare_space p).labels i
    labels i c = equation_in p (few_in_file p of.few d is) [] p.kind i (equation_only p i c)

    constants_are_zero : AreConsistent p → HasNoConstants (cone_of p) d
    constants_are_zero point i from_one within c linear =
        constants_where_point (prepare_space p) d.key (equation_labels p) (table_of d) is.dictionary.writes
        labels settled point i
        (row_is_equation p of.few d is i c (let few = of.few in omega arith) linear)

    consistent_by_constants : HasNoConstants (cone_of p) d → AreConsistent p
    consistent_by_constants zero =
        point_where_constants (prepare_space p) d.key (equation_labels p) (table_of d) is.dictionary.writes labels
        (some_origin (prepare_space p) d.key (prepare_points p d of e) is.dictionary.cobasis)
        (λ i c.
        let q = equation_only p i c in
        let some = q.some in
        let l = subst (λ ks. Contains ks i) (sym is.labels) (labels i c) in
        let low : IsRow i = let within = q.within in omega (arith, few_in_file p of.few d is) in
        zero i some (let within = row_within p of.few d is i l low in
        omega arith) l (linear_equation p of.few d is i c))

-- the equations have a common point exactly where all their constants are 0
pub consistent_exactly : (p : Polyhedron) (sys : System) (d : Dictionary) → sys ≡ cone_of p → IsDictionaryOf p d →
    d.phase ≡ Prepare → IsEliminated sys.rows Linear (length sys.rows + 1) d → AreConsistent p ↔ HasNoConstants sys d
consistent_exactly p sys d file of e tried =
    let there = subst (λ (s : System). IsEliminated s.rows Linear (length s.rows + 1) d) file tried in (
      λ point. subst (λ s. HasNoConstants s d) (sym file) (constants_are_zero p d of e there point),
      λ zero. consistent_by_constants p d of e there (subst (λ s. HasNoConstants s d) file zero),
    )

-- ---- once all rows have been tried
-- the answer: free columns, lines and dictionary of a dictionary at which the main space is entered
pub is_prepared : (p : Polyhedron) (sys : System) (d new : Dictionary) (lines : List Vector) (free : List ℕ) →
    sys ≡ cone_of p →
    IsAscending d.key → EndsElimination p d → free ≡ columns_in d.key → lines ≡ coordinate_vectors d sys.n →
    EntersMainPhase d sys free new → IsPrepared p lines free new
is_prepared p sys d new lines free file ascending ended columns vectors main =
    let is = in_prepare p d ended.of ended.phase in
    let leaves = elimination_leaves_lines p d ended.of ascending ended.tried in
    let can = can_enter p ended.of.few d is (columns_in d.key) leaves.free (column_only d.key) ended.consistent
    (length (cone_of p).rows + 1) ended.tried in
    let entered = main.enters p file is (subst (λ js. CanEnterMain p js d.key (table_of d)) (sym columns) can) in
    let same = vectors ∙ ap (λ (s : System). coordinate_vectors d s.n) file in
    record {
      few = ended.of.few;
      narrow = ended.of.narrow;
      consistent = ended.consistent;
      points = subst (λ js. HasPoints (main_space p js)) (sym columns)
          (EntersMain.points (enters p ended.of.few d is (columns_in d.key) leaves.free (column_only d.key)
          ended.consistent (length (cone_of p).rows + 1) ended.tried));
      columns = subst (AreFreeColumns (cone_of p)) (sym columns) leaves.free;
      are_lines = subst (λ js. AreLinesOf (cone_of p) js lines) (sym columns)
          (subst (AreLinesOf (cone_of p) (columns_in d.key)) (sym same) leaves.lines);
      phase = main.phase;
      dictionary = entered.dictionary;
      start = subst (λ js. IsStartCobasis (main_space p js) new.key) (sym columns)
          (subst (IsStartCobasis (main_space p (columns_in d.key)))
          (sym (entered.key ∙ ap (λ js. filter (stays p js) d.key) columns))
          (is_start_of_main p ended.of.few d is ascending leaves.free ended.consistent ended.tried));
    }

-- ---- before any row has been tried
-- the numbers of rows and of coordinates are those that a system tells
pub begins_elimination : (sys : System) (d : Dictionary) (p : Polyhedron) → sys ≡ cone_of p → {n rows : ℕ} → n ≡ sys.n →
    0 < n → n ≤ most_columns → rows ≡ length sys.rows → rows ≤ most_cone_rows → IsCoordinateDictionary sys Prepare d →
    BeginsElimination p d
begins_elimination sys d p file same some narrow count few new =
    let width = same ∙ ap (λ (s : System). s.n) file in
    let begun = begins_new sys Prepare d p (inr refl) file (omega arith) (omega arith) (omega arith) new in
    record {
      phase = new.phase_is;
      of = begun.0;
      untried = subst (λ (s : System). IsEliminated s.rows Linear 1 d) file begun.1;
    }
