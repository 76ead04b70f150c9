-- Rows that are printed one after the other: what was written and counted of them, and what is owed.
use Rattle.std.proofs.Common.{◌≡◌, ℕ, List, [], ◌++◌, Result, Ok, Err, IsErr, refl, sym, ap, subst, ◌∙◌, append_assoc, append-nil, length, length-append}
use Rattle.std.specs.List.{flat_map}
use Rattle.std.specs.Io.KnownBytes.{Appends}
use Rattle.std.proofs.KnownBytes.{Appends-nil, Appends-trans}
use Rattle.std.proofs.lemmas.List.Concat.{flat_map-append}
use Rattle.poly_num.specs.Vectors.{Vector}
use Rattle.poly_model.specs.ListingText.{row_text}
use Rattle.poly_io.specs.declared.sink.Sink.{Ghosts as Sink}
use Rattle.poly_io.specs.Written.{AppendsPart}
use Rattle.poly_io.proofs.Parts.{part_after, part_before}
use Rattle.row_printer.specs.Rows.{counted}
use Rattle.row_printer.proofs.Tallies.{counted_none, counted_more}
use Rattle.run_ledger.specs.declared.printed.Printed.{Printed}
use Rattle.run_ledger.specs.Printing.{PrintsRows}

-- since a sink was as `old`, all of the rows but the rest were written and counted, and no write has failed
pub record OwesRows {O : Type 0} (sink : Sink O) (rows : List Vector) (before : Printed) (old : O) (rest : List Vector)
    (now : Printed) (new : O) : Type 0 where
  pub kind : now.listing ≡ before.listing
  pub sent : List Vector
  pub split : rows ≡ sent ++ rest
  pub bytes : Appends (sink.written old) (sink.written new) (flat_map (row_text before.listing) sent)
  pub count : now.rows ≡ counted before.rows (length sent)
  pub same : sink.faults new ≡ sink.faults old

module _ {O : Type 0} (sink : Sink O) where
  -- at first all are owed
  pub owes_all : (rows : List Vector) (s : Printed) (o : O) → OwesRows sink rows s o rows s o
  owes_all rows s o = record {
    kind = refl;
    sent = [];
    split = refl;
    bytes = Appends-nil (sink.written o);
    count = counted_none s.rows s.few;
    same = refl;
  }

  -- it stops before the first
  pub stops_at_once : {E : Type 0} (rows : List Vector) (s : Printed) (o : O) (r : Result Printed E) → IsErr r →
      PrintsRows rows s (sink.written o) (sink.written o) r
  stops_at_once rows s o (Ok x) bad = let h : ⊥ = cc in absurd h
  stops_at_once rows s o (Err e) bad = record {
    count = tt;
    whole = tt;
    part = record {
      sent = [];
      unsent = flat_map (row_text s.listing) rows;
      split = refl;
      bytes = Appends-nil (sink.written o);
    };
  }

  module _ (rows : List Vector) (s : Printed) (o : O) (rest : List Vector) (t : Printed) (m : O)
      (owes : OwesRows sink rows s o rest t m) where
    -- more of them
    pub owes_fewer : (more rest' : List Vector) → rest ≡ more ++ rest' → (u : Printed) (q : O) →
        Appends (sink.written m) (sink.written q) (flat_map (row_text t.listing) more) → u.listing ≡ t.listing →
        u.rows ≡ counted t.rows (length more) → sink.faults q ≡ sink.faults m → OwesRows sink rows s o rest' u q
    owes_fewer more rest' e u q written kind count same = record {
      kind = kind ∙ owes.kind;
      sent = owes.sent ++ more;
      split = owes.split ∙ ap (λ l. owes.sent ++ l) e ∙ sym (append_assoc owes.sent more rest');
      bytes = subst (λ l. Appends (sink.written o) (sink.written q) l)
          (sym (flat_map-append (row_text s.listing) owes.sent more))
          (Appends-trans (sink.written o) (sink.written m) (sink.written q) (flat_map (row_text s.listing) owes.sent)
          (flat_map (row_text s.listing) more) owes.bytes
          (subst (λ k. Appends (sink.written m) (sink.written q) (flat_map (row_text k) more)) owes.kind written));
      count = count ∙ ap (λ (k : ℕ). counted k (length more)) owes.count ∙ counted_more s.rows (length owes.sent) (length more)
          ∙ ap (counted s.rows) (sym (length-append owes.sent more));
      same = same ∙ owes.same;
    }

    -- it stops within more of them
    pub stops_within : {E : Type 0} (more rest' : List Vector) → rest ≡ more ++ rest' → (q : O) →
        AppendsPart (sink.written m) (sink.written q) (flat_map (row_text t.listing) more) → (r : Result Printed E) →
        IsErr r → PrintsRows rows s (sink.written o) (sink.written q) r
    stops_within more rest' e q part (Ok x) bad = let h : ⊥ = cc in absurd h
    stops_within more rest' e q part (Err x) bad =
        let Part = AppendsPart (sink.written m) (sink.written q) in
        let text = flat_map (row_text s.listing) in
        let within : Part (text more) = subst (λ k. Part (flat_map (row_text k) more)) owes.kind part in
        let behind : Part (text (more ++ rest')) = subst Part (sym (flat_map-append (row_text s.listing) more rest'))
        (part_before (text rest') within) in
        record {
          count = tt;
          whole = tt;
          part = subst (λ l. AppendsPart (sink.written o) (sink.written q) (text l))
              (sym (owes.split ∙ ap (λ l. owes.sent ++ l) e))
              (subst (λ l. AppendsPart (sink.written o) (sink.written q) l)
              (sym (flat_map-append (row_text s.listing) owes.sent (more ++ rest')))
              (part_after (sink.written o) (sink.written m) (sink.written q) (text owes.sent) (text (more ++ rest'))
              owes.bytes behind));
        }

    -- nothing is owed
    pub owes_nothing : {E : Type 0} → rest ≡ [] → PrintsRows {E = E} rows s (sink.written o) (sink.written m) (Ok t)
    owes_nothing e =
        let all : rows ≡ owes.sent = owes.split ∙ ap (λ l. owes.sent ++ l) e ∙ append-nil owes.sent in
        record {
          count = owes.count ∙ ap (λ (l : List Vector). counted s.rows (length l)) (sym all);
          whole = subst (λ l. Appends (sink.written o) (sink.written m) (flat_map (row_text s.listing) l)) (sym all)
              owes.bytes;
          part = tt;
        }
