-- Rows written one after the other, those of the vectors that were visited; and why a listing stopped.
use Rattle.std.specs.Prelude.{Result}
use Rattle.std.specs.Result.{IsErrOf}
use Rattle.std.proofs.Common.{◌≡◌, ℕ, ◌≤◌, List, [], ◌∷◌, ◌++◌, Option, Ok, Err, refl, sym, ap, subst, ◌∙◌, append-nil, arith}
use Rattle.std.specs.List.{flat_map}
use Rattle.std.specs.Io.KnownBytes.{Appends}
use Rattle.std.proofs.KnownBytes.{Appends-nil, Appends-trans}
use Rattle.std.proofs.lemmas.List.Concat.{flat_map-cons, flat_map-append}
use Rattle.poly_num.specs.Vectors.{Vector}
use Rattle.poly_model.specs.declared.kind.Kind.{Kind}
use Rattle.poly_model.specs.ListingText.{row_text}
use Rattle.poly_io.specs.Causes.{Rose}
use Rattle.poly_io.specs.Written.{AppendsPart}
use Rattle.poly_io.proofs.Parts.{part_after}
use Rattle.row_printer.specs.declared.shown.Shown.{Shown}
use Rattle.row_printer.specs.Rows.{HasWritten}
use Rattle.row_printer.proofs.Tallies.{counts_none, counts_more}
use Rattle.plain_enum.specs.declared.prefix.Ended.{Ended}
use Rattle.plain_enum.specs.declared.prefix.Ended.TheVariants.{Overflow, Stopped}
use Rattle.plain_enum.specs.Listed.{HasStopCause, WritesRow, FailsAtRow, WritesRows}
use Rattle.plain_enum.specs.Visits.{Visited, EndedAtLast, VisitsEach, VisitsSome}

-- ---- why a listing stopped
pub not_stopped : {T E : Type 0} (before now : ℕ) (result : Result T (Ended E)) → now ≡ before →
    ((e : E) → ¬ (IsErrOf result (Stopped e))) → HasStopCause before now result
not_stopped before now result same no_stop = record {
  later = omega (arith, same);
  failed = λ e h. absurd (no_stop e h);
  same = λ n. same;
}

pub stopped : {T E : Type 0} (before now : ℕ) (e : E) → before ≤ now → Rose before now →
    HasStopCause {T = T} before now (Err (Stopped e))
stopped before now e later rose = record {
  later = later;
  failed = λ x h. rose;
  same = λ n. absurd (n e refl);
}

-- of an error that is handed on, where nothing has failed before
pub cause_after : {T U E : Type 0} (before mid now : ℕ) (e : Ended E) (result : Result U (Ended E)) → mid ≡ before →
    result ≡ Err e → HasStopCause {T = T} mid now (Err e) → HasStopCause before now result
cause_after before mid now (Overflow x) result same is c =
    subst (λ r. HasStopCause before now r) (sym is)
    (not_stopped before now (Err (Overflow x)) (c.same (λ e h. absurd (cc)) ∙ same) (λ e h. absurd (cc)))
cause_after before mid now (Stopped y) result same is c =
    subst (λ r. HasStopCause before now r) (sym is)
    (stopped before now y (subst (λ n. n ≤ now) same c.later) (subst (λ n. Rose n now) same (c.failed y refl)))

module _ {O : Type 0} (written : O → Option (List ℕ)) (faults : O → ℕ) where
  -- what is done at a vector, and where a write fails
  abbrev pub goes_on : Shown → O → Vector → Shown → O → Type 0
  goes_on = WritesRow written faults

  abbrev pub ends : {E : Type 0} → Shown → O → Vector → E → O → Type 0
  ends s o y e q = FailsAtRow written faults s o y q

  -- the rows of the vectors were written, of one kind, and are counted; no write has failed
  pub record HasRows (s : Shown) (o : O) (xs : List Vector) (t : Shown) (q : O) : Type 0 where
    pub kind : t.listing ≡ s.listing
    pub rows : HasWritten s.listing (written o) (written q) s.tally t.tally xs
    pub same : faults q ≡ faults o

  has_no_rows : (s : Shown) (o : O) → HasRows s o [] s o
  has_no_rows s o = record {
    kind = refl;
    rows = record { bytes = Appends-nil (written o); counts = counts_none s.tally };
    same = refl;
  }

  bytes_after : (kind : Kind) (a b c : Option (List ℕ)) (y : Vector) (ys : List Vector) →
      Appends a b (row_text kind y) →
      Appends b c (flat_map (row_text kind) ys) → Appends a c (flat_map (row_text kind) (y ∷ ys))
  bytes_after kind a b c y ys f g =
      subst (λ t. Appends a c t) (sym (flat_map-cons (row_text kind) y ys))
      (Appends-trans a b c (row_text kind y) (flat_map (row_text kind) ys) f g)

  pub has_rows : (s : Shown) (o : O) (xs : List Vector) (t : Shown) (q : O) → Visited goes_on s o xs t q →
      HasRows s o xs t q
  has_rows s o [] t q (e, f) =
      subst (λ x. HasRows s o [] x q) e (subst (λ x. HasRows s o [] s x) f (has_no_rows s o))
  has_rows s o (y ∷ ys) t q (u, m, h, r) =
      let rest = has_rows u m ys t q r in
      record {
        kind = rest.kind ∙ h.kind;
        rows = record {
          bytes = bytes_after s.listing (written o) (written m) (written q) y ys h.bytes
              (subst (λ k. Appends (written m) (written q) (flat_map (row_text k) ys)) h.kind rest.rows.bytes);
          counts = counts_more s.tally u.tally t.tally (y ∷ []) ys h.counts rest.rows.counts;
        };
        same = rest.same ∙ h.same;
      }

  -- ---- where a write fails
  pub record HasFailed (s : Shown) (o : O) (xs : List Vector) (q : O) : Type 0 where
    pub bytes : AppendsPart (written o) (written q) (flat_map (row_text s.listing) xs)
    pub later : faults o ≤ faults q
    pub rose : Rose (faults o) (faults q)

  one_text : (kind : Kind) (y : Vector) → flat_map (row_text kind) (y ∷ []) ≡ row_text kind y
  one_text kind y = flat_map-cons (row_text kind) y [] ∙ append-nil (row_text kind y)

  rows_part : (kind : Kind) (a b c : Option (List ℕ)) (xs : List Vector) (y : Vector) →
      Appends a b (flat_map (row_text kind) xs) → AppendsPart b c (row_text kind y) →
      AppendsPart a c (flat_map (row_text kind) (xs ++ y ∷ []))
  rows_part kind a b c xs y f g =
      subst (λ t. AppendsPart a c t)
      (ap (λ t. flat_map (row_text kind) xs ++ t) (sym (one_text kind y))
      ∙ sym (flat_map-append (row_text kind) xs (y ∷ [])))
      (part_after a b c (flat_map (row_text kind) xs) (row_text kind y) f g)

  pub has_failed : {E : Type 0} (s : Shown) (o : O) (xs : List Vector) (e : E) (q : O) →
      EndedAtLast goes_on ends s o xs e q →
      HasFailed s o xs q
  has_failed s o xs e q h =
      let rows = has_rows s o h.before h.visitor h.middle h.visited in
      let bytes = subst (λ k. AppendsPart (written h.middle) (written q) (row_text k h.last)) rows.kind h.ended.bytes in
      record {
        bytes = subst (λ ys. AppendsPart (written o) (written q) (flat_map (row_text s.listing) ys)) (sym h.split)
            (rows_part s.listing (written o) (written h.middle) (written q) h.before h.last rows.rows.bytes bytes);
        later = subst (λ n. n ≤ faults q) rows.same h.ended.later;
        rose = subst (λ n. Rose n (faults q)) rows.same h.ended.rose;
      }

  -- ---- of a list, and of the beginning of one
  rows_all : (kind : Kind) (a b : Option (List ℕ)) (xs : List Vector) → Appends a b (flat_map (row_text kind) xs) →
      AppendsPart a b (flat_map (row_text kind) xs)
  rows_all kind a b xs f = record {
    sent = flat_map (row_text kind) xs;
    unsent = [];
    split = sym (append-nil (flat_map (row_text kind) xs));
    bytes = f;
  }

  pub writes_rows : {E : Type 0} (kind : Kind) (s : Shown) → s.listing ≡ kind → (o q : O) (P : Vector → Type 0)
      (result : Result Shown (Ended E)) → VisitsEach goes_on ends s o q result P →
      WritesRows kind s.tally (written o) (written q) result P
  writes_rows kind s is o q P (Ok t) v =
      let (xs, l, h) = v.whole in
      record {
        whole = (
          xs,
          l,
          subst (λ k. HasWritten k (written o) (written q) s.tally t.tally xs) is (has_rows s o xs t q h).rows,
        );
        part = tt;
      }
  writes_rows kind s is o q P (Err (Overflow x)) v =
      let (xs, l, (t, h)) = v.part in
      record {
        whole = tt;
        part = (
          xs,
          l,
          subst (λ k. AppendsPart (written o) (written q) (flat_map (row_text k) xs)) is
              (rows_all s.listing (written o) (written q) xs (has_rows s o xs t q h).rows.bytes),
        );
      }
  writes_rows kind s is o q P (Err (Stopped e)) v =
      let (xs, l, h) = v.part in
      record {
        whole = tt;
        part = (
          xs,
          l,
          subst (λ k. AppendsPart (written o) (written q) (flat_map (row_text k) xs)) is
              (has_failed s o xs e q h).bytes,
        );
      }

  -- ---- the faults
  pub has_cause : {E : Type 0} (s : Shown) (o q : O) (result : Result Shown (Ended E)) →
      VisitsSome goes_on ends s o q result → HasStopCause (faults o) (faults q) result
  has_cause s o q (Ok t) v =
      let rows = has_rows s o v.whole.0 t q v.whole.1 in
      not_stopped (faults o) (faults q) (Ok t) rows.same (λ e h. absurd (cc))
  has_cause s o q (Err (Overflow x)) v =
      let rows = has_rows s o v.part.0 v.part.1.0 q v.part.1.1 in
      not_stopped (faults o) (faults q) (Err (Overflow x)) rows.same (λ e h. absurd (cc))
  has_cause s o q (Err (Stopped e)) v =
      let failed = has_failed s o v.part.0 e q v.part.1 in
      stopped (faults o) (faults q) e failed.later failed.rose
