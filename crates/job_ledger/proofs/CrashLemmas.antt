-- What a crash leaves in each of the two steps of an append.
use Rattle.std.proofs.Common.{◌≡◌, inl, inr, ℕ, ◌+◌, ◌≤◌, List, [], ◌∷◌, ◌++◌, length, get_or, take, drop, refl, sym, ◌∙◌, ap, subst, arith, append_assoc, length-append, take-append-drop}
use Rattle.std.specs.List.{All}
use Rattle.std.proofs.lemmas.List.{take_at, drop_at, drop_more}
use Rattle.std.proofs.lemmas.List.Elements.{All-push}
use Rattle.std.proofs.lemmas.Bool.{cases_eq}
use Rattle.disk_core.specs.Contents.{Holds, Torn}
use Rattle.job_ledger.specs.Records.{IsShort, Records, RecordsOldOrNew, frame, layout}
use Rattle.job_ledger.specs.Walks.{Stand}
use Rattle.job_ledger.proofs.FrameLemmas.{layout-push}

-- the first step, behind the closed gate
module _ (ps : List (List ℕ)) (f : List ℕ) (end : ℕ) (s : Stand ps f end) where
  front : take (end + 1) f ≡ layout ps ++ s.has.gate ∷ []
  front = ap (take (end + 1)) (s.has.split ∙ sym (append_assoc (layout ps) (s.has.gate ∷ []) s.has.rest))
      ∙ take_at (layout ps ++ s.has.gate ∷ []) s.has.rest (end + 1) (omega (arith, s.place, length-append (layout ps) (s.has.gate ∷ [])))

  pub long : end + 1 ≤ length f
  long = omega (arith, s.place, ap length s.has.split, length-append (layout ps) (s.has.gate ∷ s.has.rest))

  -- the closed gate stands in each outcome
  pub torn_behind : (n : ℕ) (c : List ℕ) → Torn (end + 1) n f c → Records ps c
  torn_behind n c torn = record {
    short = s.has.short;
    gate = s.has.gate;
    rest = drop (end + 1) c;
    split = sym (take-append-drop (end + 1) c) ∙ ap (λ (l : List ℕ). l ++ drop (end + 1) c) (torn.before ∙ front) ∙ append_assoc (layout ps) (s.has.gate ∷ []) (drop (end + 1) c);
    closed = s.has.closed;
  }

  -- the file once the record stands there
  pub written_behind : (p bytes c : List ℕ) → bytes ≡ frame p ++ 0 ∷ [] → Holds f (end + 1) bytes c → (rest : List ℕ) × (c ≡ layout ps ++ s.has.gate ∷ (frame p ++ 0 ∷ rest))
  written_behind p bytes c is holds =
      let rest = drop (end + 1 + length bytes) f in
      let tail : bytes ++ rest ≡ frame p ++ 0 ∷ rest = ap (λ (l : List ℕ). l ++ rest) is ∙ append_assoc (frame p) (0 ∷ []) rest in
      (rest, holds ∙ ap (λ (l : List ℕ). l ++ (bytes ++ rest)) front ∙ append_assoc (layout ps) (s.has.gate ∷ []) (bytes ++ rest) ∙ ap (λ (l : List ℕ). layout ps ++ s.has.gate ∷ l) tail)

-- the second step, at the gate
module _ (ps : List (List ℕ)) (p rest : List ℕ) (gate end : ℕ) (place : end ≡ length (layout ps)) (short : All IsShort ps) (its : IsShort p) where
  abbrev pub staged : List ℕ
  staged = layout ps ++ gate ∷ (frame p ++ 0 ∷ rest)

  before : take end staged ≡ layout ps
  before = take_at (layout ps) (gate ∷ (frame p ++ 0 ∷ rest)) end (sym place)

  behind : drop (end + 1) staged ≡ frame p ++ 0 ∷ rest
  behind = ap (drop (end + 1)) (sym (append_assoc (layout ps) (gate ∷ []) (frame p ++ 0 ∷ rest)))
      ∙ drop_at (layout ps ++ gate ∷ []) (frame p ++ 0 ∷ rest) (end + 1) (omega (arith, place, length-append (layout ps) (gate ∷ [])))

  closed_there : (g : ℕ) → (g ≡ 245 → ⊥) → Records ps (layout ps ++ g ∷ (frame p ++ 0 ∷ rest))
  closed_there g closed = record { short = short; gate = g; rest = frame p ++ 0 ∷ rest; split = refl; closed = closed }

  shut : (k : ℕ) → k ≡ 0 → k ≡ 245 → ⊥
  shut k z e = omega (arith, z, e)

  pub opened : Records (ps ++ p ∷ []) (layout ps ++ 245 ∷ (frame p ++ 0 ∷ rest))
  opened = record { short = All-push IsShort ps p short its; gate = 0; rest = rest; split = sym (layout-push ps p (0 ∷ rest)); closed = shut 0 refl }

  -- the record stands whole in each outcome, and the gate before it is open or closed
  pub torn_gate : (c : List ℕ) → Torn end 1 staged c → RecordsOldOrNew ps p c
  torn_gate c torn =
      let g = get_or c end 0 in
      let size : end + 1 ≤ length staged = omega (arith, place, length-append (layout ps) (gate ∷ (frame p ++ 0 ∷ rest))) in
      let after : drop end c ≡ g ∷ (frame p ++ 0 ∷ rest) = drop_more c end 0 (omega (arith, torn.no_shorter, size)) ∙ ap (λ (l : List ℕ). g ∷ l) (torn.after ∙ behind) in
      let all : c ≡ layout ps ++ g ∷ (frame p ++ 0 ∷ rest) = sym (take-append-drop end c) ∙ ap (λ (l : List ℕ). l ++ drop end c) (torn.before ∙ before) ∙ ap (λ (l : List ℕ). layout ps ++ l) after in
      subst (RecordsOldOrNew ps p) (sym all) (elim (cases_eq g 245) [
        | inl is ↦ inr (subst (λ k. Records (ps ++ p ∷ []) (layout ps ++ k ∷ (frame p ++ 0 ∷ rest))) (sym is) opened)
        | inr not ↦ inl (closed_there g not)
      ])

  pub written_gate : (c : List ℕ) → Holds staged end (245 ∷ []) c → Records (ps ++ p ∷ []) c
  written_gate c holds =
      subst (Records (ps ++ p ∷ [])) (sym (holds ∙ ap (λ (l : List ℕ). l ++ (245 ∷ drop (end + 1) staged)) before ∙ ap (λ (l : List ℕ). layout ps ++ 245 ∷ l) behind)) opened

  pub length-staged : end ≤ length staged
  length-staged = omega (arith, place, length-append (layout ps) (gate ∷ (frame p ++ 0 ∷ rest)))
