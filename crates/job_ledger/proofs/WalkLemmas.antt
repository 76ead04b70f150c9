-- One record more on a walk through a file, and the ends of a walk.
use Rattle.std.proofs.Common.{◌≡◌, ◌<◌, ◌+◌, ◌-◌, ℕ, ◌∙◌, ap, ap₂, List, [], ◌∷◌, ◌++◌, length, drop, get_or, refl, sym, subst, arith, length-append, length-drop, take}
use Rattle.std.proofs.lemmas.List.{drop_at, length-map, map-append}
use Rattle.std.proofs.lemmas.List.Elements.{All-push}
use Rattle.job_ledger.specs.Entries.{IsEntry}
use Rattle.job_ledger.specs.Ledgers.{end_of, payload_sizes}
use Rattle.job_ledger.specs.Records.{HasNoRun, IsBrokenAt, IsShort, frame, layout}
use Rattle.job_ledger.specs.Spans.{ArePlaced, sizes_in, spans_of}
use Rattle.job_ledger.specs.Walks.{HasSpans, HasReached}
use Rattle.job_ledger.specs.declared.entry.Entry.{Entry}
use Rattle.job_ledger.specs.declared.entry.Entry.TheVariants.{Broken, Closed, Record}
use Rattle.job_ledger.specs.declared.span.Span.{Span}
use Rattle.job_ledger.proofs.FrameLemmas.{length-frame, layout-push, length-layout-push}

-- places

end_push : (sizes : List ℕ) (n : ℕ) → end_of (sizes ++ n ∷ []) ≡ end_of sizes + 15 + n
end_push [] n = omega arith
end_push (m ∷ sizes) n = omega (arith, end_push sizes n)

spans_push : (at : ℕ) (sizes : List ℕ) (s : Span) → s.at ≡ at + end_of sizes + 15 → spans_of at (sizes ++ s.len ∷ []) ≡ spans_of at sizes ++ s ∷ []
spans_push at [] s e = ap (λ (k : ℕ). record { at = k; len = s.len } ∷ []) (omega (arith, e))
spans_push at (n ∷ sizes) s e = ap (λ (l : List Span). record { at = at + 15; len = n } ∷ l) (spans_push (at + 15 + n) sizes s (omega (arith, e)))

sizes_push : (spans : List Span) (s : Span) → sizes_in (spans ++ s ∷ []) ≡ sizes_in spans ++ s.len ∷ []
sizes_push spans s = map-append (λ (t : Span). t.len) spans (s ∷ [])

pub placed_none : ArePlaced [] 0
placed_none = record { each = refl; last = refl }

pub placed_more : (spans : List Span) (end next : ℕ) (s : Span) → ArePlaced spans end → s.at ≡ end + 15 → next ≡ end + 15 + s.len → ArePlaced (spans ++ s ∷ []) next
placed_more spans end next s placed at is = record {
  each = ap (λ (l : List Span). l ++ s ∷ []) placed.each ∙ sym (spans_push 0 (sizes_in spans) s (omega (arith, at, placed.last))) ∙ ap (spans_of 0) (sym (sizes_push spans s));
  last = is ∙ omega (arith, placed.last, end_push (sizes_in spans) s.len) ∙ ap end_of (sym (sizes_push spans s));
}

-- where the closed gate of records stands
pub length-layout : (ps : List (List ℕ)) → length (layout ps) ≡ end_of (payload_sizes ps)
length-layout [] = refl
length-layout (p ∷ ps) = omega (arith, length-layout ps, length-append (frame p) (layout ps), length-frame p)

-- the walk

-- what stands at a gate, by its head
pub entry_at : (entry : Entry) (head f : List ℕ) (at size : ℕ) → at < size → size ≡ length f → head ≡ take 15 (drop at f)
    → ((text : List ℕ) → head ≡ take 15 text → 0 < length text → length text ≡ size - at → IsEntry entry text) → IsEntry entry (drop at f)
entry_at entry head f at size within is same of = of (drop at f) same (omega (arith, within, is, length-drop at f)) (omega (arith, is, length-drop at f))

pub reached_first : (f : List ℕ) → HasReached [] 0 f
reached_first f = record { payloads = []; short = λ i d lt. absurd (omega (arith, lt)); split = refl; place = refl; sizes = refl }

pub reached_more : (spans : List Span) (at next len : ℕ) (s : Span) (f : List ℕ) → HasReached spans at f → IsEntry (Record len) (drop at f) → s.len ≡ len → next ≡ at + 15 + len → HasReached (spans ++ s ∷ []) next f
reached_more spans at next len s f r (behind, gate, (payload, rest, framed, some, size, short)) same is =
    let more = r.payloads ++ payload ∷ [] in
    let split : f ≡ layout more ++ rest = r.split ∙ ap (λ (l : List ℕ). layout r.payloads ++ l) (gate ∙ ap (λ (l : List ℕ). 245 ∷ l) framed) ∙ sym (layout-push r.payloads payload rest) in
    let place : next ≡ length (layout more) = omega (arith, is, size, r.place, length-layout-push r.payloads payload) in
    let behind_it : drop next f ≡ rest = ap (drop next) split ∙ drop_at (layout more) rest next (sym place) in
    record {
      payloads = more;
      short = All-push IsShort r.payloads payload r.short short;
      split = split ∙ ap (λ (l : List ℕ). layout more ++ l) (sym behind_it);
      place = place;
      sizes = sizes_push spans s ∙ ap₂ (λ (l : List ℕ) (n : ℕ). l ++ n ∷ []) r.sizes (same ∙ size) ∙ sym (map-append length r.payloads (payload ∷ []));
    }

as_many : (spans : List Span) (at : ℕ) (f : List ℕ) (r : HasReached spans at f) → length spans ≡ length r.payloads
as_many spans at f r = sym (length-map spans (λ (t : Span). t.len)) ∙ ap length r.sizes ∙ length-map r.payloads length

-- a closed gate behind some records
pub closed_here : (spans : List Span) (at : ℕ) (f : List ℕ) → HasReached spans at f → IsEntry Closed (drop at f) → 0 < length spans → HasSpans spans f
closed_here spans at f r (gate, rest, here, closed) some = record {
  payloads = r.payloads;
  some = omega (arith, some, as_many spans at f r);
  has = record { short = r.short; gate = gate; rest = rest; split = r.split ∙ ap (λ (l : List ℕ). layout r.payloads ++ l) here; closed = closed };
  sizes = r.sizes;
}

closed_first : (gate : ℕ) (rest : List ℕ) → (gate ≡ 245 → ⊥) → HasNoRun (gate ∷ rest)
closed_first gate rest closed (more, is) = closed (ap (λ (l : List ℕ). get_or l 0 0) is)

-- and behind none
pub closed_at_first : (spans : List Span) (at : ℕ) (f : List ℕ) → HasReached spans at f → IsEntry Closed (drop at f) → length spans ≡ 0 → HasNoRun f
closed_at_first spans at f r (gate, rest, here, closed) none =
    let no_payload : length r.payloads ≡ 0 = omega (arith, none, as_many spans at f r) in
    subst HasNoRun (sym (r.split ∙ empty r.payloads (drop at f) no_payload ∙ here)) (closed_first gate rest closed)
  where
    empty : (ps : List (List ℕ)) (l : List ℕ) → length ps ≡ 0 → layout ps ++ l ≡ l
    empty [] l e = refl
    empty (p ∷ ps) l e = absurd (omega (arith, e))

-- an open gate with no record behind it
pub broken_here : (spans : List Span) (at : ℕ) (f : List ℕ) → HasReached spans at f → IsEntry Broken (drop at f) → IsBrokenAt (length spans + 1) f
broken_here spans at f r (behind, gate, none) = record {
  payloads = r.payloads;
  short = r.short;
  behind = behind;
  split = r.split ∙ ap (λ (l : List ℕ). layout r.payloads ++ l) gate;
  none = none;
  count = omega (arith, as_many spans at f r);
}
