-- A listing written piece by piece: its head with the lines, its rows, its end.
use Rattle.std.specs.Prelude.{Result}
use Rattle.std.specs.Result.{IsErr}
use Rattle.std.proofs.Common.{◌≡◌, true, false, ℕ, List, [], ◌++◌, Option, Ok, Err, refl, sym, ap, subst, ◌∙◌, length, append_assoc}
use Rattle.std.specs.List.{flat_map}
use Rattle.std.specs.Io.KnownBytes.{Appends}
use Rattle.std.proofs.KnownBytes.{Appends-nil, Appends-trans}
use Rattle.std.proofs.lemmas.List.Concat.{flat_map-append}
use Rattle.poly_num.specs.Vectors.{Vector}
use Rattle.poly_model.specs.declared.kind.Kind.{Kind}
use Rattle.poly_model.specs.declared.listed.Listed.{Listed}
use Rattle.poly_model.specs.Systems.{Polyhedron, cone_of}
use Rattle.poly_model.specs.Extreme.{AreExtreme}
use Rattle.poly_model.specs.FreeColumns.{AreLines}
use Rattle.poly_model.specs.Listing.{IsListing}
use Rattle.poly_model.specs.ListingText.{head_text, vector_text, row_text, end_text}
use Rattle.poly_io.specs.Written.{AppendsPart}
use Rattle.poly_io.proofs.Parts.{part_before, part_after}
use Rattle.row_printer.specs.declared.tally.Tally.{Tally}
use Rattle.row_printer.specs.Rows.{counted, HasWritten}
use Rattle.row_printer.specs.Listings.{WritesListing}

module _ (p : Polyhedron) (vectors : List Vector) (lines : AreLines (cone_of p) vectors) where
  -- what stands before the rows
  abbrev pub text_before : List ℕ
  text_before = head_text p.kind p.n (length vectors) ++ flat_map vector_text vectors

  -- it is so of the kind and the width that a file tells
  pub same_before : (kind : Kind) (n : ℕ) → kind ≡ p.kind → n ≡ p.n →
      head_text kind n (length vectors) ++ flat_map vector_text vectors ≡ text_before
  same_before kind n e f =
      ap (λ k. head_text k n (length vectors) ++ flat_map vector_text vectors) e
      ∙ ap (λ m. head_text p.kind m (length vectors) ++ flat_map vector_text vectors) f

  abbrev text_of : List Vector → List ℕ
  text_of shown = text_before ++ (flat_map (row_text p.kind) shown ++ end_text)

  is_listing : (shown : List Vector) → AreExtreme (cone_of p) shown → IsListing p (text_of shown)
  is_listing shown e = record {
    lines = vectors;
    shown = shown;
    are_lines = lines;
    are_extreme = e;
    is_text = append_assoc (head_text p.kind p.n (length vectors)) (flat_map vector_text vectors)
        (flat_map (row_text p.kind) shown ++ end_text);
  }

  part_of : {E : Type 0} (old new : Option (List ℕ)) (result : Result Listed E) → IsErr result → (shown : List Vector) →
      AreExtreme (cone_of p) shown → AppendsPart old new (text_of shown) → WritesListing p old new result
  part_of old new (Ok x) r shown e a = absurd (let e : false ≡ true = r in cc)
  part_of old new (Err y) r shown e a = record { whole = tt; part = (text_of shown, is_listing shown e, a) }

  -- ---- where it stops
  pub stops_at_once : {E : Type 0} (old : Option (List ℕ)) (result : Result Listed E) → IsErr result →
      (shown : List Vector) → AreExtreme (cone_of p) shown → WritesListing p old old result
  stops_at_once old result r shown e =
      part_of old old result r shown e
      (record { sent = []; unsent = text_of shown; split = refl; bytes = Appends-nil old })

  pub stops_in_head : {E : Type 0} (old new : Option (List ℕ)) (result : Result Listed E) → IsErr result →
      (shown : List Vector) → AreExtreme (cone_of p) shown → AppendsPart old new text_before →
      WritesListing p old new result
  stops_in_head old new result r shown e a =
      part_of old new result r shown e (part_before (flat_map (row_text p.kind) shown ++ end_text) a)

  pub stops_in_rows : {E : Type 0} (old mid new : Option (List ℕ)) (result : Result Listed E) → IsErr result →
      Appends old mid text_before → (shown rest : List Vector) → AreExtreme (cone_of p) (shown ++ rest) →
      AppendsPart mid new (flat_map (row_text p.kind) shown) → WritesListing p old new result
  stops_in_rows old mid new result r head shown rest e a =
      let rows = flat_map (row_text p.kind) in
      let split = flat_map-append (row_text p.kind) shown rest in
      part_of old new result r (shown ++ rest) e
      (part_after old mid new text_before (rows (shown ++ rest) ++ end_text) head
      (part_before end_text (subst (λ t. AppendsPart mid new t) (sym split) (part_before (rows rest) a))))

  pub stops_in_end : {E : Type 0} (old mid then new : Option (List ℕ)) (result : Result Listed E) → IsErr result →
      Appends old mid text_before → (shown : List Vector) → AreExtreme (cone_of p) shown →
      Appends mid then (flat_map (row_text p.kind) shown) → AppendsPart then new end_text →
      WritesListing p old new result
  stops_in_end old mid then new result r head shown e rows a =
      part_of old new result r shown e
      (part_after old mid new text_before (flat_map (row_text p.kind) shown ++ end_text) head
      (part_after mid then new (flat_map (row_text p.kind) shown) end_text rows a))

  -- ---- where it ends
  pub ends_whole : {E : Type 0} (old mid then new : Option (List ℕ)) (listed : Listed) → listed.lines ≡ length vectors →
      Appends old mid text_before → (shown : List Vector) → AreExtreme (cone_of p) shown → (before now : Tally) →
      before.rows ≡ 0 → now.rows ≡ listed.rows → HasWritten p.kind mid then before now shown → Appends then new end_text →
      WritesListing {E = E} p old new (Ok listed)
  unfolding is_listing
  ends_whole old mid then new listed count head shown e before now none all h a = record {
    whole = (
      text_of shown,
      record {
        listing = is_listing shown e;
        rows = sym all ∙ h.counts.rows ∙ ap (λ n. counted n (length shown)) none;
        lines = count;
      },
      Appends-trans old mid new text_before (flat_map (row_text p.kind) shown ++ end_text) head
          (Appends-trans mid then new (flat_map (row_text p.kind) shown) end_text h.bytes a),
    );
    part = tt;
  }
