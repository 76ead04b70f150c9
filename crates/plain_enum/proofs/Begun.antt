-- How a listing begins: the two passes of elimination, from the dictionary of the coordinates.
use Rattle.std.proofs.Common.{◌≡◌, Err, inl, ℕ, ◌+◌, ◌<◌, ◌≤◌, List, length, refl, sym, ap, subst, ◌∙◌, arith}
use Rattle.std.specs.List.{Contains, range_with_len}
use Rattle.std.specs.Result.{IsErrOf}
use Rattle.std.proofs.lemmas.List.Elements.{Contains-append_left}
use Rattle.poly_model.specs.Labels.{IsCoordinate}
use Rattle.poly_model.specs.Limits.{most_columns, most_cone_rows}
use Rattle.poly_model.specs.declared.overflow.Overflow.{Overflow as Passed}
use Rattle.poly_model.specs.declared.overflow.Phase.TheVariants.{Cone}
use Rattle.poly_model.specs.Keys.{IsAscending}
use Rattle.poly_model.specs.Systems.{System, Polyhedron, cone_of}
use Rattle.dictionary_laws.proofs.Filters.{range_has}
use Rattle.dictionary.specs.New.{IsCoordinateDictionary}
use Rattle.dictionary.specs.Views.{Dictionary}
use Rattle.linearity.specs.declared.eliminate.Pass.{Pass}
use Rattle.linearity.specs.declared.eliminate.Pass.TheVariants.{Linear, Others}
use Rattle.linearity.specs.Columns.{columns_in}
use Rattle.linearity.specs.Elimination.{IsDictionaryOf, IsEliminated}
use Rattle.linearity.proofs.Beginnings.{begins_new, second_pass}
use Rattle.plain_enum.specs.declared.answers.FeasibleStop.{FeasibleStop}
use Rattle.plain_enum.specs.declared.answers.FeasibleStop.TheVariants.{Overflow}
use Rattle.plain_enum.specs.Begin.{IsBegun}
use Rattle.plain_enum.specs.Columns.{HasRows}

-- the overflow that is handed on
pub same_overflow : {T : Type 0} (x o : Passed) → IsErrOf {T = T} {E = FeasibleStop} (Err (Overflow x)) (Overflow o) →
    x ≡ o
same_overflow x o h = cc

-- a pass over all rows: what it finds and what it leaves
abbrev pub TriesAll : System → Polyhedron → (pass : Pass) → Dictionary → Dictionary → Type 0
TriesAll sys p pass old new =
    IsDictionaryOf p old → IsEliminated sys.rows pass 1 old →
    IsDictionaryOf p new × IsEliminated sys.rows pass (length sys.rows + 1) new

-- the dictionary of the coordinates has a row for each row of the system
pub new_rows : (sys : System) (d : Dictionary) → IsCoordinateDictionary sys Cone d → HasRows (length sys.rows) d
new_rows sys d new i a b =
    subst (λ (ks : List ℕ). Contains ks i) (sym new.labels)
    (Contains-append_left (range_with_len 1 (length sys.rows)) d.key i
    (range_has 1 (length sys.rows) i a (omega (arith, b))))

-- the numbers of rows and of coordinates are those that a system tells
module _ (sys : System) (new : Dictionary) (is_new : IsCoordinateDictionary sys Cone new) {n rows : ℕ} (width : n ≡ sys.n) (some : 0 < n)
    (narrow : n ≤ most_columns) (count : rows ≡ length sys.rows) (few : rows ≤ most_cone_rows) (p : Polyhedron)
    (file : sys ≡ cone_of p) where
  begun : IsDictionaryOf p new × IsEliminated sys.rows Linear 1 new
  begun =
      let same = width ∙ ap (λ (s : System). s.n) file in
      begins_new sys Cone new p (inl refl) file (omega arith) (omega arith) (omega arith) is_new

  -- the first pass begins at a dictionary of the polyhedron, and so does the second
  pub first_of : IsDictionaryOf p new
  first_of = begun.0

  pub second_of : (at : Dictionary) → TriesAll sys p Linear new at → IsDictionaryOf p at
  second_of at first = (first begun.0 begun.1).0

  -- both have passed
  pub is_begun : (at last : Dictionary) (free : List ℕ) → TriesAll sys p Linear new at → TriesAll sys p Others at last →
      at.phase ≡ new.phase → ((k : ℕ) → Contains last.key k → IsCoordinate k → Contains at.key k) → IsAscending last.key →
      free ≡ columns_in last.key → IsBegun p at last free
  is_begun at last free first second phase later ascending columns =
      let linear = first begun.0 begun.1 in
      let there = subst (λ (s : System). IsEliminated s.rows Linear (length s.rows + 1) at) file linear.1 in
      let next = subst (λ (s : System). IsEliminated s.rows Others 1 at) (sym file) (second_pass p at linear.0 there) in
      let all = second linear.0 next in
      record {
        phase = phase ∙ is_new.phase_is;
        at_of = linear.0;
        linear = there;
        last_of = all.0;
        all = subst (λ (s : System). IsEliminated s.rows Others (length s.rows + 1) last) file all.1;
        later = later;
        ascending = ascending;
        columns = columns;
      }
