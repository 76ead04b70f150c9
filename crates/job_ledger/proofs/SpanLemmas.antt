-- Where a payload lies, and what stands there.
use Rattle.std.proofs.Common.{◌≡◌, ◌<◌, ◌≤◌, ◌+◌, ℕ, zero, suc, ◌∙◌, ap, List, [], ◌∷◌, ◌++◌, length, take, drop, get_or, refl, sym, subst, arith, append_assoc}
use Rattle.std.proofs.lemmas.List.{take_at, drop_at, get_or-map, length-map}
use Rattle.std.proofs.lemmas.Option.{slice_get-get_or}
use Rattle.std.specs.Prelude.{slice_get, Some}
use lib.Seq.{drop-append-add}
use Rattle.job_ledger.specs.Ledgers.{end_of, payload_sizes}
use Rattle.job_ledger.specs.Records.{Records, frame, header, layout}
use Rattle.job_ledger.specs.Spans.{ArePlaced, sizes_in, spans_of}
use Rattle.job_ledger.specs.declared.span.Span.{Span}
use Rattle.job_ledger.proofs.FrameLemmas.{length-frame}
use Rattle.job_ledger.proofs.HeaderLemmas.{length-header}

-- a span lies where the sizes before it say, and ends before the closed gate
pub record Lies (s : Span) (at : ℕ) (sizes : List ℕ) (i : ℕ) : Type 0 where
  pub start : s.at ≡ at + end_of (take i sizes) + 15
  pub size : s.len ≡ get_or sizes i 0
  pub within : s.at + s.len ≤ at + end_of sizes

pub lies : (at : ℕ) (sizes : List ℕ) (i : ℕ) (d : Span) → i < length sizes → Lies (get_or (spans_of at sizes) i d) at sizes i
lies at [] i d lt = absurd (omega (arith, lt))
lies at (n ∷ sizes) zero d lt = record { start = omega arith; size = refl; within = omega arith }
lies at (n ∷ sizes) (suc i) d lt =
    let more = lies (at + 15 + n) sizes i d (omega (arith, lt)) in
    record { start = omega (arith, more.start); size = more.size; within = omega (arith, more.within) }

pub span_lies : (spans : List Span) (end i : ℕ) (sizes : List ℕ) (s : Span) → ArePlaced spans end → sizes_in spans ≡ sizes → i < length sizes → s ≡ get_or spans i s → Lies s 0 sizes i
span_lies spans end i sizes s placed same lt is =
    let less : i < length (sizes_in spans) = subst (λ (l : List ℕ). i < length l) (sym same) lt in
    let there : Lies (get_or spans i s) 0 (sizes_in spans) i = subst (λ (l : List Span). Lies (get_or l i s) 0 (sizes_in spans) i) (sym placed.each) (lies 0 (sizes_in spans) i s less) in
    subst (λ (l : List ℕ). Lies s 0 l i) same (subst (λ (t : Span). Lies t 0 (sizes_in spans) i) (sym is) there)

-- the payload that stands there
after_first : (p more : List ℕ) (k : ℕ) → drop ((15 + length p + k) + 15) (245 ∷ (frame p ++ more)) ≡ drop (k + 15) more
after_first p more k =
    let far : (15 + length p + k) + 15 ≡ suc (length (frame p) + (k + 15)) = omega (arith, length-frame p) in
    ap (λ n. drop n (245 ∷ (frame p ++ more))) far ∙ drop-append-add (frame p) more (k + 15)

pub payload_there : (ps : List (List ℕ)) (rest : List ℕ) (i : ℕ) → i < length ps → take (length (get_or ps i [])) (drop (end_of (take i (payload_sizes ps)) + 15) (layout ps ++ rest)) ≡ get_or ps i []
payload_there [] rest i lt = absurd (omega (arith, lt))
payload_there (p ∷ ps) rest zero lt =
    let shape : layout (p ∷ ps) ++ rest ≡ (245 ∷ header (length p)) ++ (p ++ (layout ps ++ rest))
    = ap (λ (l : List ℕ). 245 ∷ l) (append_assoc (frame p) (layout ps) rest ∙ append_assoc (header (length p)) p (layout ps ++ rest)) in
    ap (λ l. take (length p) (drop 15 l)) shape ∙ ap (take (length p)) (drop_at (245 ∷ header (length p)) (p ++ (layout ps ++ rest)) 15 (omega (arith, length-header (length p)))) ∙ take_at p (layout ps ++ rest) (length p) refl
payload_there (p ∷ ps) rest (suc i) lt =
    let shape : layout (p ∷ ps) ++ rest ≡ 245 ∷ (frame p ++ (layout ps ++ rest)) = ap (λ (l : List ℕ). 245 ∷ l) (append_assoc (frame p) (layout ps) rest) in
    ap (λ l. take (length (get_or ps i [])) (drop ((15 + length p + end_of (take i (payload_sizes ps))) + 15) l)) shape
    ∙ ap (take (length (get_or ps i []))) (after_first p (layout ps ++ rest) (end_of (take i (payload_sizes ps)))) ∙ payload_there ps rest i (omega (arith, lt))

-- as a ledger reads it
pub payload_read : (ps : List (List ℕ)) (sizes file b : List ℕ) (i : ℕ) → Records ps file → sizes ≡ payload_sizes ps → i < length sizes
    → b ≡ take (get_or sizes i 0) (drop (end_of (take i sizes) + 15) file) → slice_get ps i ≡ Some b
payload_read ps sizes file b i r is lt read =
    let less : i < length ps = omega (arith, lt, ap length is, length-map ps length) in
    let size : get_or (payload_sizes ps) i 0 ≡ length (get_or ps i []) = get_or-map length ps i [] 0 less in
    let there : b ≡ get_or ps i [] = read ∙ ap (λ (l : List ℕ). take (get_or l i 0) (drop (end_of (take i l) + 15) file)) is
    ∙ ap (λ n. take n (drop (end_of (take i (payload_sizes ps)) + 15) file)) size ∙ ap (λ l. take (length (get_or ps i [])) (drop (end_of (take i (payload_sizes ps)) + 15) l)) r.split
    ∙ payload_there ps (r.gate ∷ r.rest) i less in
    slice_get-get_or ps i [] less ∙ ap Some (sym there)
