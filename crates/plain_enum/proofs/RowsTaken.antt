-- The rows taken by their labels, and what has the value 0 at a vector there.
use Rattle.std.proofs.Common.{◌≡◌, ◌↔◌, Bool, true, false, ℕ, suc, ◌+◌, ◌-◌, ◌<◌, ◌≤◌, pos, List, [], ◌∷◌, length, sym, ap, ◌∙◌, subst, arith, get_or, map}
use Rattle.std.proofs.lemmas.List.{get_or-map, length-map}
use Rattle.std.proofs.lemmas.List.Elements.{Contains-append_left}
use Rattle.std.proofs.lemmas.Bool.{lt-ltb, cond-true}
use Rattle.std.specs.List.{Contains, range_with_len}
use Rattle.poly_num.specs.Vectors.{Vector, ◌·◌}
use Rattle.poly_model.specs.Independence.{Vanish, taken}
use Rattle.poly_model.specs.Systems.{Row, row_of, no_row, Polyhedron, cone_of}
use Rattle.poly_model.specs.Cones.{coordinate}
use Rattle.poly_model.specs.Spaces.{cone_space}
use Rattle.poly_model.specs.Labels.{coordinates_from, IsRow, is_row, coordinate_label, coordinate_index}
use Rattle.poly_model.proofs.RowLemmas.{row_from_one}
use Rattle.linear_laws.proofs.Members.{Contains-nil, Contains-first, Contains-later}
use Rattle.dictionary_laws.proofs.Filters.{range_has}
use Rattle.dictionary_laws.proofs.Members.{by_cases}
use Rattle.listing_laws.specs.ListedCone.{ListedCone, row_at}
use Rattle.listing_laws.specs.Prefixes.{taken_at, next_row, labels_from, marked_labels}
use Rattle.listing_laws.proofs.FirstLists.{taken-nil}
use Rattle.listing_laws.proofs.StandingLemmas.{AreRowsFrom, rows_by_label}
use Rattle.listing_laws.proofs.PrefixLemmas.{next_label}
use Rattle.plain_enum.specs.Standing.{form_of, HasRowsOf}

-- ---- a vector at which the rows taken are 0
abbrev ZeroFrom : ListedCone → ℕ → List Bool → Vector → Type 0
ZeroFrom cone j ms w = (k : ℕ) → Contains (labels_from j ms) k → row_at cone k · w ≡ pos 0

taken_zero : (cone : ListedCone) (w : Vector) (j : ℕ) (before gs : List Vector) (ms : List Bool) →
    AreRowsFrom cone j gs →
    length ms ≤ length gs → Vanish (taken before gs ms) w ↔ (Vanish before w × ZeroFrom cone j ms w)
taken_zero cone w j before gs [] r l = (
  λ v. (subst (λ t. Vanish t w) (taken-nil before gs) v, λ k c. absurd (Contains-nil k c)),
  λ h. subst (λ t. Vanish t w) (sym (taken-nil before gs)) h.0,
)
taken_zero cone w j before [] (m ∷ ms) r l = absurd (omega arith)
taken_zero cone w j before (g ∷ gs) (true ∷ ms) r l =
    let go = taken_zero cone w (suc j) (g ∷ before) gs ms r.1 (omega arith) in (
      λ v. let h = go.0 v in (
        h.0.1,
        by_cases (λ k. row_at cone k · w ≡ pos 0) j (labels_from (suc j) ms)
            (ap (λ t. t · w) r.0 ∙ h.0.0) h.1,
      ),
      λ h. go.1 (
        (sym (ap (λ t. t · w) r.0) ∙ h.1 j (Contains-first j (labels_from (suc j) ms)), h.0),
        λ k c. h.1 k (Contains-later k j (labels_from (suc j) ms) c),
      ),
    )
taken_zero cone w j before (g ∷ gs) (false ∷ ms) r l = taken_zero cone w (suc j) before gs ms r.1 (omega arith)

pub vanish_at_taken : (cone : ListedCone) (marks : List Bool) (w : Vector) → length marks ≤ length cone.rows →
    Vanish (taken_at cone marks) w
    ↔ (Vanish cone.base w × ((k : ℕ) → Contains (marked_labels marks) k → row_at cone k · w ≡ pos 0))
vanish_at_taken cone marks w l = taken_zero cone w 1 cone.base cone.rows marks (rows_by_label cone) l

-- ---- rows of the polyhedron's cone
module _ (p : Polyhedron) (cone : ListedCone) (over : HasRowsOf p cone) where
  pub as_many : length cone.rows ≡ length (cone_of p).rows
  as_many = ap length over.rows ∙ length-map (cone_of p).rows (λ row. row.entries)

  pub row_form : (i : ℕ) → 0 < i → i ≤ length cone.rows → row_at cone i ≡ form_of p i
  row_form i a b =
      let within : i - 1 < length (cone_of p).rows = omega (arith, as_many) in
      let below : IsRow i = omega (arith, as_many, over.few) in
      ap (λ gs. get_or gs (i - 1) []) over.rows
      ∙ get_or-map (λ (row : Row). row.entries) (cone_of p).rows (i - 1) no_row [] within
      ∙ ap (λ (row : Row). row.entries) (sym (row_from_one (cone_of p).rows i a))
      ∙ sym (cond-true (is_row i) (row_of (cone_of p).rows i).entries (coordinate (coordinate_index i)) (lt-ltb i coordinates_from below))

  pub next_form : (marks : List Bool) → length marks < length cone.rows →
      next_row cone marks ≡ form_of p (length marks + 1)
  next_form marks l = sym (next_label cone marks) ∙ row_form (length marks + 1) (omega arith) (omega arith)

  pub row_is_label : (i : ℕ) → 0 < i → i ≤ length cone.rows → Contains (cone_space p).labels i
  row_is_label i a b =
      Contains-append_left (range_with_len 1 (length (cone_of p).rows))
      (map coordinate_label (range_with_len 0 (p.n - 0))) i
      (range_has 1 (length (cone_of p).rows) i (omega arith) (omega (arith, as_many)))
