-- A run printed piece by piece: the head with the lines, the rows of the records, the end.
use Rattle.std.proofs.Common.{◌≡◌, ℕ, List, ◌++◌, Option, Result, Ok, Err, IsErr, sym, ap, subst, ◌∙◌, length, append_assoc}
use Rattle.std.specs.List.{flat_map}
use Rattle.std.specs.Io.KnownBytes.{Appends}
use Rattle.std.proofs.KnownBytes.{Appends-trans}
use Rattle.poly_num.specs.Vectors.{Vector}
use Rattle.poly_model.specs.declared.kind.Kind.{Kind}
use Rattle.poly_model.specs.declared.listed.Listed.{Listed}
use Rattle.poly_model.specs.FreeColumns.{AreLines}
use Rattle.poly_model.specs.ListingText.{head_text, vector_text, row_text, end_text}
use Rattle.poly_model.specs.Systems.{Polyhedron, cone_of}
use Rattle.poly_io.specs.Written.{AppendsPart}
use Rattle.poly_io.proofs.Parts.{part_after, part_before}
use Rattle.row_printer.specs.Rows.{counted}
use Rattle.work_core.specs.Searches.{Search}
use Rattle.job_text.specs.declared.reply.Reply.{Reply}
use Rattle.run_state.specs.Runs.{recorded_rows}
use Rattle.run_ledger.specs.Printing.{IsRunListing, WritesRun}

-- the polyhedron that is printed is that of the search, the lines are its lines, and the head has its kind and its dimension
module _ (s : Search) (replies : List Reply) (p : Polyhedron) (lines : List Vector) (same : s.polyhedron ≡ p)
    (are_lines : AreLines (cone_of p) lines) (kind : Kind) (n : ℕ) (kind_is : kind ≡ p.kind) (n_is : n ≡ p.n) where
  -- what stands before the rows
  abbrev front : List ℕ
  front = head_text kind n (length lines) ++ flat_map vector_text lines

  abbrev rows_text : Kind → List ℕ
  rows_text k = flat_map (row_text k) (recorded_rows replies)

  abbrev whole_text : List ℕ
  whole_text = front ++ (rows_text kind ++ end_text)

  abbrev listing_text : Kind → ℕ → List ℕ
  listing_text k m = head_text k m (length lines) ++ (flat_map vector_text lines ++ (rows_text k ++ end_text))

  is_listing : IsRunListing s replies whole_text
  is_listing = record {
    lines = lines;
    are_lines = subst (λ (q : Polyhedron). AreLines (cone_of q) lines) (sym same) are_lines;
    is_text = append_assoc (head_text kind n (length lines)) (flat_map vector_text lines) (rows_text kind ++ end_text)
        ∙ ap (λ k. listing_text k n) kind_is
        ∙ ap (λ m. listing_text p.kind m) n_is
        ∙ ap (λ (q : Polyhedron). listing_text q.kind q.n) (sym same);
  }

  part_of : {E : Type 0} (old new : Option (List ℕ)) (result : Result Listed E) → IsErr result →
      AppendsPart old new whole_text → WritesRun s replies old new result
  part_of old new (Ok x) bad a = let h : ⊥ = cc in absurd h
  part_of old new (Err e) bad a = record { whole = tt; part = (whole_text, is_listing, a) }

  -- ---- where it stops
  pub stops_in_front : {E : Type 0} (old new : Option (List ℕ)) (result : Result Listed E) → IsErr result →
      AppendsPart old new front → WritesRun s replies old new result
  stops_in_front old new result bad a = part_of old new result bad (part_before (rows_text kind ++ end_text) a)

  -- the rows are printed as those of the kind that the head has told
  module _ (old mid : Option (List ℕ)) (head : Appends old mid front) (k : Kind) (k_is : k ≡ kind) where
    pub stops_in_rows : {E : Type 0} (new : Option (List ℕ)) (result : Result Listed E) → IsErr result →
        AppendsPart mid new (rows_text k) → WritesRun s replies old new result
    stops_in_rows new result bad rows =
        let a = subst (λ l. AppendsPart mid new (rows_text l)) k_is rows in
        part_of old new result bad (part_after old mid new front (rows_text kind ++ end_text) head (part_before end_text a))

    module _ (then new : Option (List ℕ)) (rows : Appends mid then (rows_text k)) where
      rows_out : Appends mid then (rows_text kind)
      rows_out = subst (λ l. Appends mid then (rows_text l)) k_is rows

      pub stops_in_end : {E : Type 0} (result : Result Listed E) → IsErr result → AppendsPart then new end_text →
          WritesRun s replies old new result
      stops_in_end result bad a =
          part_of old new result bad
          (part_after old mid new front (rows_text kind ++ end_text) head
          (part_after mid then new (rows_text kind) end_text rows_out a))

      -- ---- where it ends
      pub ends_whole : {E : Type 0} (listed : Listed) → listed.lines ≡ length lines →
          listed.rows ≡ counted 0 (length (recorded_rows replies)) → Appends then new end_text →
          WritesRun {E = E} s replies old new (Ok listed)
      unfolding is_listing
      ends_whole listed lines_are rows_are a = record {
        whole = (
          whole_text,
          record {
            listing = is_listing;
            rows = rows_are;
            lines = lines_are;
          },
          Appends-trans old mid new front (rows_text kind ++ end_text) head
              (Appends-trans mid then new (rows_text kind) end_text rows_out a),
        );
        part = tt;
      }
