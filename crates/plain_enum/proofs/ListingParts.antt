-- A listing written piece by piece, whose rows are the corners under the empty prefix.
use Rattle.std.specs.Prelude.{Result}
use Rattle.std.specs.Result.{IsErr}
use Rattle.std.proofs.Common.{◌≡◌, ℕ, List, [], ◌++◌, Option, Ok, ap, subst, length}
use Rattle.std.specs.List.{flat_map}
use Rattle.std.specs.Io.KnownBytes.{Appends}
use Rattle.poly_num.specs.Vectors.{Vector}
use Rattle.poly_model.specs.declared.listed.Listed.{Listed}
use Rattle.poly_model.specs.Systems.{System, Polyhedron, cone_of}
use Rattle.poly_model.specs.Extreme.{AreExtreme}
use Rattle.poly_model.specs.FreeColumns.{AreLines}
use Rattle.poly_model.specs.ListingText.{row_text, end_text}
use Rattle.cone_laws.proofs.ColumnLemmas.{one_list_of_columns, line_of_column}
use Rattle.cone_laws.proofs.LineLists.{one_list_of_lines}
use Rattle.poly_io.specs.Written.{AppendsPart}
use Rattle.listing_laws.specs.ListedCone.{ListedCone, IsConeOf}
use Rattle.listing_laws.specs.Lists.{Lists, Begins}
use Rattle.listing_laws.specs.Prefixes.{IsCornerUnder}
use Rattle.listing_laws.proofs.Completions.{some_extremes}
use Rattle.listing_laws.proofs.ListingLemmas.{are_extreme, whole_listing}
use Rattle.row_printer.specs.declared.tally.Tally.{Tally}
use Rattle.row_printer.specs.Rows.{HasWritten}
use Rattle.row_printer.specs.Listings.{WritesListing}
use Rattle.row_printer.proofs.ListingParts as parts

module _ (sys : System) (p : Polyhedron) (cone : ListedCone) (file : sys ≡ cone_of p) (is_cone : IsConeOf sys cone)
    (vectors : List Vector) (lines : AreLines (cone_of p) vectors) where
  same_kind : sys.kind ≡ p.kind
  same_kind = ap (λ (s : System). s.kind) file

  extreme : (shown : List Vector) → Lists (IsCornerUnder cone []) shown → AreExtreme (cone_of p) shown
  extreme shown l = whole_listing (cone_of p) cone (subst (λ s. IsConeOf s cone) file is_cone) shown l

  -- what stands before the rows
  abbrev text_before : List ℕ
  text_before = parts.text_before p vectors lines

  -- ---- where it stops
  pub stops_in_head : {E : Type 0} (old new : Option (List ℕ)) (result : Result Listed E) → IsErr result →
      AppendsPart old new text_before → WritesListing p old new result
  stops_in_head old new result r a =
      let (all, l) = some_extremes p in
      parts.stops_in_head p vectors lines old new result r all (are_extreme (cone_of p) all l) a

  pub stops_in_rows : {E : Type 0} (old mid new : Option (List ℕ)) (result : Result Listed E) → IsErr result →
      Appends old mid text_before →
      (shown : List Vector) × Begins (IsCornerUnder cone []) shown × AppendsPart mid new
      (flat_map (row_text sys.kind) shown) →
      WritesListing p old new result
  stops_in_rows old mid new result r head (shown, (rest, l), a) =
      parts.stops_in_rows p vectors lines old mid new result r head shown rest (extreme (shown ++ rest) l)
      (subst (λ k. AppendsPart mid new (flat_map (row_text k) shown)) same_kind a)

  pub stops_in_end : {E : Type 0} (old mid then new : Option (List ℕ)) (result : Result Listed E) → IsErr result →
      Appends old mid text_before → (shown : List Vector) → Lists (IsCornerUnder cone []) shown →
      Appends mid then (flat_map (row_text sys.kind) shown) → AppendsPart then new end_text →
      WritesListing p old new result
  stops_in_end old mid then new result r head shown l rows a =
      parts.stops_in_end p vectors lines old mid then new result r head shown (extreme shown l)
      (subst (λ k. Appends mid then (flat_map (row_text k) shown)) same_kind rows) a

  -- ---- where it ends
  pub ends_whole : {E : Type 0} (old mid then new : Option (List ℕ)) (listed : Listed) → listed.lines ≡ length vectors →
      Appends old mid text_before → (before now : Tally) → before.rows ≡ 0 → now.rows ≡ listed.rows →
      (shown : List Vector) × Lists (IsCornerUnder cone []) shown × HasWritten sys.kind mid then before now shown →
      Appends then new end_text → WritesListing {E = E} p old new (Ok listed)
  ends_whole old mid then new listed count head before now none all (shown, l, h) a =
      parts.ends_whole p vectors lines old mid then new listed count head shown (extreme shown l) before now none all
      (subst (λ k. HasWritten k mid then before now shown) same_kind h) a

-- ---- nothing is the beginning of a listing
pub nothing_written : {E : Type 0} (p : Polyhedron) (old : Option (List ℕ)) (result : Result Listed E) → IsErr result →
    WritesListing p old old result
nothing_written p old result r =
    let lines = one_list_of_lines (cone_of p) (line_of_column (cone_of p)) (one_list_of_columns (cone_of p)) in
    let (all, l) = some_extremes p in
    parts.stops_at_once p lines.one lines.has old result r all (are_extreme (cone_of p) all l)
