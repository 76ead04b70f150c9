-- Rows written column by column: of those that are shown.
use Rattle.std.specs.Prelude.{Result, IfOk}
use Rattle.std.proofs.Common.{◌≡◌, ℕ, ◌≤◌, List, [], ◌∷◌, ◌++◌, Option, Ok, Err, refl, sym, subst, ◌∙◌, append-nil}
use Rattle.std.specs.List.{Contains, flat_map}
use Rattle.std.specs.Io.KnownBytes.{Appends}
use Rattle.std.proofs.KnownBytes.{Appends-nil, Appends-trans}
use Rattle.std.proofs.lemmas.List.{map-append}
use Rattle.std.proofs.lemmas.List.Concat.{flat_map-cons, flat_map-append}
use Rattle.poly_num.specs.Vectors.{Vector}
use Rattle.poly_model.specs.declared.kind.Kind.{Kind}
use Rattle.poly_model.specs.ListingText.{row_text}
use Rattle.poly_model.specs.Systems.{System}
use Rattle.dictionary.specs.Views.{Dictionary}
use Rattle.hull_lift.specs.Facets.{primitive_column}
use Rattle.poly_io.specs.declared.sink.Sink.{Ghosts as Sink}
use Rattle.poly_io.specs.Causes.{Rose}
use Rattle.poly_io.specs.Written.{AppendsPart, Prints}
use Rattle.poly_io.proofs.Parts.{part_after}
use Rattle.row_printer.specs.declared.shown.Shown.{Shown}
use Rattle.row_printer.specs.declared.tally.Tally.{Tally}
use Rattle.row_printer.specs.Rows.{Counts, HasWritten}
use Rattle.row_printer.proofs.Tallies.{counts_none, counts_more}
use Rattle.convert_core.specs.Rows.{IsColumnShown, WritesShown, FailsShown, ShowsColumns, column_rows}
use Rattle.convert_core.proofs.RowLists.{none_of_one, that_one, once_more, lists_more, only_more}

-- ---- rows, and more rows
pub has_more : (kind : Kind) (a b c : Option (List ℕ)) (before mid now : Tally) (xs ys : List Vector) →
    HasWritten kind a b before mid xs → HasWritten kind b c mid now ys → HasWritten kind a c before now (xs ++ ys)
has_more kind a b c before mid now xs ys f g = record {
  bytes = subst (λ t. Appends a c t) (sym (flat_map-append (row_text kind) xs ys))
      (Appends-trans a b c (flat_map (row_text kind) xs) (flat_map (row_text kind) ys) f.bytes g.bytes);
  counts = counts_more before mid now xs ys f.counts g.counts;
}

pub has_none : (kind : Kind) (a : Option (List ℕ)) (tally : Tally) → HasWritten kind a a tally tally []
has_none kind a tally = record { bytes = Appends-nil a; counts = counts_none tally }

-- first bytes of more rows
pub part_more : (kind : Kind) (a b c : Option (List ℕ)) (xs ys : List Vector) → Appends a b (flat_map (row_text kind) xs) →
    AppendsPart b c (flat_map (row_text kind) ys) → AppendsPart a c (flat_map (row_text kind) (xs ++ ys))
part_more kind a b c xs ys f g =
    subst (λ t. AppendsPart a c t) (sym (flat_map-append (row_text kind) xs ys))
    (part_after a b c (flat_map (row_text kind) xs) (flat_map (row_text kind) ys) f g)

-- all of some rows
pub part_all : (kind : Kind) (a b : Option (List ℕ)) (xs : List Vector) → Appends a b (flat_map (row_text kind) xs) →
    AppendsPart a b (flat_map (row_text kind) xs)
part_all kind a b xs f = record {
  sent = flat_map (row_text kind) xs;
  unsent = [];
  split = sym (append-nil (flat_map (row_text kind) xs));
  bytes = f;
}

one_text : (kind : Kind) (y : Vector) → flat_map (row_text kind) (y ∷ []) ≡ row_text kind y
one_text kind y = flat_map-cons (row_text kind) y [] ∙ append-nil (row_text kind y)

module _ {O : Type 0} (sink : Sink O) (sys : System) (root : List ℕ) (d : Dictionary) where
  abbrev Writes : List ℕ → Shown → O → Shown → O → Type 0
  Writes = WritesShown sink.written sink.faults sys root d

  abbrev Fails : List ℕ → Shown → O → O → Type 0
  Fails = FailsShown sink.written sink.faults sys root d

  abbrev row : ℕ → Vector
  row c = primitive_column d c sys.n

  -- ---- one column
  pub not_shown : (c : ℕ) (s : Shown) (o : O) → (IsColumnShown sys root d c → ⊥) → Writes (c ∷ []) s o s o
  not_shown c s o n = record {
    kind = refl;
    shown = [];
    all = none_of_one (IsColumnShown sys root d) c n;
    rows = has_none s.listing (sink.written o) s.tally;
    same = refl;
  }

  pub is_shown : {E : Type 0} (c : ℕ) (s : Shown) (o q : O) (result : Result Shown E) → IsColumnShown sys root d c →
      Prints sink o q result (row_text s.listing (row c)) → IfOk result (λ t. t.listing ≡ s.listing) →
      IfOk result (λ t. Counts s.tally t.tally (row c ∷ [])) →
      ShowsColumns sink.written sink.faults sys root d (c ∷ []) s o q result
  is_shown c s o q (Ok t) x p kind counts = record {
    kind = kind;
    shown = c ∷ [];
    all = that_one (IsColumnShown sys root d) c x;
    rows = record {
      bytes = subst (λ t. Appends (sink.written o) (sink.written q) t) (sym (one_text s.listing (row c))) p.whole;
      counts = counts;
    };
    same = p.cause.same;
  }
  is_shown c s o q (Err e) x p kind counts = record {
    shown = c ∷ [];
    once = (that_one (IsColumnShown sys root d) c x).once;
    only = (that_one (IsColumnShown sys root d) c x).only;
    bytes = subst (λ t. AppendsPart (sink.written o) (sink.written q) t) (sym (one_text s.listing (row c))) p.part;
    later = p.cause.later;
    rose = p.cause.failed;
  }

  -- ---- one column more
  module _ (columns : List ℕ) (c : ℕ) (new : Contains columns c → ⊥) (s : Shown) (o : O) (t : Shown) (m : O)
      (w : Writes columns s o t m) where
    pub shows_more : (u : Shown) (q : O) → Writes (c ∷ []) t m u q → Writes (columns ++ c ∷ []) s o u q
    shows_more u q v = record {
      kind = v.kind ∙ w.kind;
      shown = w.shown ++ v.shown;
      all = lists_more (IsColumnShown sys root d) columns c new w.shown v.shown w.all v.all;
      rows = subst (λ ys. HasWritten s.listing (sink.written o) (sink.written q) s.tally u.tally ys)
          (sym (map-append row w.shown v.shown))
          (has_more s.listing (sink.written o) (sink.written m) (sink.written q) s.tally t.tally u.tally
          (column_rows sys d w.shown) (column_rows sys d v.shown) w.rows
          (subst (λ k. HasWritten k (sink.written m) (sink.written q) t.tally u.tally (column_rows sys d v.shown)) w.kind v.rows));
      same = v.same ∙ w.same;
    }

    pub fails_more : (q : O) (all : List ℕ) → ((x : ℕ) → Contains columns x → Contains all x) → Contains all c →
        Fails (c ∷ []) t m q → Fails all s o q
    fails_more q all within here v = record {
      shown = w.shown ++ v.shown;
      once = once_more (IsColumnShown sys root d) columns c new w.shown v.shown w.all v.once v.only;
      only = only_more (IsColumnShown sys root d) columns c new w.shown v.shown w.all all within here v.only;
      bytes = subst (λ ys. AppendsPart (sink.written o) (sink.written q) (flat_map (row_text s.listing) ys))
          (sym (map-append row w.shown v.shown))
          (part_more s.listing (sink.written o) (sink.written m) (sink.written q) (column_rows sys d w.shown)
          (column_rows sys d v.shown) w.rows.bytes
          (subst (λ k. AppendsPart (sink.written m) (sink.written q) (flat_map (row_text k) (column_rows sys d v.shown))) w.kind
          v.bytes));
      later = subst (λ n. n ≤ sink.faults q) w.same v.later;
      rose = subst (λ n. Rose n (sink.faults q)) w.same v.rose;
    }

  -- the columns among more
  pub fails_within : (columns all : List ℕ) (s : Shown) (o q : O) → ((x : ℕ) → Contains columns x → Contains all x) →
      Fails columns s o q → Fails all s o q
  fails_within columns all s o q within v = record {
    shown = v.shown;
    once = v.once;
    only = λ x k. (within x (v.only x k).0, (v.only x k).1);
    bytes = v.bytes;
    later = v.later;
    rose = v.rose;
  }
