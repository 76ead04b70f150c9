-- Each file has one layout.
use Rattle.std.proofs.Common.{◌≡◌, ◌⊎◌, inl, inr, ◌<◌, ◌≤◌, ◌+◌, ◌^◌, ℕ, zero, suc, Bool, true, false, ◌∙◌, ap, ap₂, List, [], ◌∷◌, ◌++◌, length, take, drop, get_or, refl, sym, arith, length-append, append_assoc, drop-cons, length-drop, true≢false}
use Rattle.std.specs.List.{All}
use Rattle.std.specs.Prelude.{◌==◌, ◌&&◌}
use Rattle.std.proofs.lemmas.Bool.{cases_eq, cases_lt, eqb-true, eq-eqb}
use Rattle.std.proofs.lemmas.List.{take_at, drop_at, length-take-le}
use Rattle.job_ledger.specs.Records.{HasNoFrame, HasOneLayout, IsBrokenAt, IsShort, Records, frame, header, layout}
use Rattle.job_ledger.specs.Values.{decimal_value}
use Rattle.job_ledger.proofs.FrameLemmas.{front, no_frame_header, no_frame_past, some_frame}
use Rattle.job_ledger.proofs.HeaderLemmas.{length-header, value-header}

-- a text begins with one record at most
back : (p rest : List ℕ) → drop 14 (frame p ++ rest) ≡ p ++ rest
back p rest = ap (drop 14) (append_assoc (header (length p)) p rest) ∙ drop_at (header (length p)) (p ++ rest) 14 (length-header (length p))

same_size : (p q x y : List ℕ) → IsShort p → IsShort q → frame p ++ x ≡ frame q ++ y → length p ≡ length q
same_size p q x y small less e =
    let same : header (length p) ≡ header (length q) = sym (front p x) ∙ ap (take 14) e ∙ front q y in
    sym (value-header (header (length p)) (length p) small refl) ∙ value-header (header (length p)) (length q) less same

same_payload : (p q x y : List ℕ) → IsShort p → IsShort q → frame p ++ x ≡ frame q ++ y → (p ≡ q) × (x ≡ y)
same_payload p q x y small less e =
    let size : length p ≡ length q = same_size p q x y small less e in
    let rest : p ++ x ≡ q ++ y = sym (back p x) ∙ ap (drop 14) e ∙ back q y in (
      sym (take_at p x (length p) refl) ∙ ap (take (length p)) rest ∙ take_at q y (length p) (sym size),
      sym (drop_at p x (length p) refl) ∙ ap (drop (length p)) rest ∙ drop_at q y (length p) (sym size),
    )

-- what stands behind the last record: something, and no record
record Ends (tail : List ℕ) : Type 0 where
  some : 0 < length tail
  none : (p : List ℕ) (g : ℕ) (r : List ℕ) → IsShort p → tail ≡ 245 ∷ (frame p ++ g ∷ r) → ⊥

head_of : (a b : ℕ) (xs ys : List ℕ) → a ∷ xs ≡ b ∷ ys → a ≡ b
head_of a b xs ys e = ap (λ (l : List ℕ). get_or l 0 0) e

tail_of : (a b : ℕ) (xs ys : List ℕ) → a ∷ xs ≡ b ∷ ys → xs ≡ ys
tail_of a b xs ys e = ap (drop 1) e

ends_closed : (g : ℕ) (r : List ℕ) → (g ≡ 245 → ⊥) → Ends (g ∷ r)
ends_closed g r closed = record { some = omega arith; none = λ p h t small e. closed (head_of g 245 r (frame p ++ h ∷ t) e) }

ends_broken : (behind : List ℕ) → HasNoFrame behind → Ends (245 ∷ behind)
ends_broken behind none = record { some = omega arith; none = λ p g r small e. none p g r small (tail_of 245 245 behind (frame p ++ g ∷ r) e) }

-- no record more stands where the layout ends
more : (p : List ℕ) (a : List (List ℕ)) (x y : List ℕ) → IsShort p → Ends x → Ends y → layout (p ∷ a) ++ x ≡ y → ⊥
more p a x y small ends other e =
    let rest = layout a ++ x in
    let some : 0 < length rest = omega (arith, ends.some, length-append (layout a) x) in
    other.none p (get_or rest 0 0) (drop 1 rest) small (sym e ∙ ap (λ (l : List ℕ). 245 ∷ l) (append_assoc (frame p) (layout a) x ∙ ap (λ (l : List ℕ). frame p ++ l) (drop-cons rest 0 0 some)))

unique : (a b : List (List ℕ)) (x y : List ℕ) → All IsShort a → All IsShort b → Ends x → Ends y → layout a ++ x ≡ layout b ++ y → (a ≡ b) × (x ≡ y)
unique [] [] x y sa sb ex ey e = (refl, e)
unique (p ∷ a) [] x y sa sb ex ey e = absurd (more p a x y (sa 0 [] (omega arith)) ex ey e)
unique [] (q ∷ b) x y sa sb ex ey e = absurd (more q b y x (sb 0 [] (omega arith)) ey ex (sym e))
unique (p ∷ a) (q ∷ b) x y sa sb ex ey e =
    let (first, rest) = same_payload p q (layout a ++ x) (layout b ++ y) (sa 0 [] (omega arith)) (sb 0 [] (omega arith))
    (sym (append_assoc (frame p) (layout a) x) ∙ tail_of 245 245 _ _ e ∙ append_assoc (frame q) (layout b) y) in
    let (others, tails) = unique a b x y (λ k d lt. sa (suc k) d (omega (arith, lt))) (λ k d lt. sb (suc k) d (omega (arith, lt))) ex ey rest in
    (ap₂ (λ (l : List ℕ) (m : List (List ℕ)). l ∷ m) first others, tails)

-- whether two texts are equal
abbrev is_text : List ℕ → List ℕ → Bool
is_text [] [] = true
is_text (a ∷ xs) (b ∷ ys) = a == b && is_text xs ys
is_text _ _ = false

both : (a b : Bool) → (a && b) ≡ true → (a ≡ true) × (b ≡ true)
both true b e = (refl, e)
both false b e = absurd cc

is_text-true : (xs ys : List ℕ) → is_text xs ys ≡ true → xs ≡ ys
is_text-true [] [] e = refl
is_text-true [] (y ∷ ys) e = absurd cc
is_text-true (x ∷ xs) [] e = absurd cc
is_text-true (x ∷ xs) (y ∷ ys) e = let (a, b) = both (x == y) (is_text xs ys) e in ap₂ (λ (v : ℕ) (l : List ℕ). v ∷ l) (eqb-true x y a) (is_text-true xs ys b)

is_text-same : (xs : List ℕ) → is_text xs xs ≡ true
is_text-same [] = refl
is_text-same (x ∷ xs) = rw (eq-eqb x x refl, is_text-same xs) refl

same_or_not : (xs ys : List ℕ) → (xs ≡ ys) ⊎ (xs ≡ ys → ⊥)
same_or_not xs ys = decide (is_text xs ys) refl
  where
    decide : (b : Bool) → is_text xs ys ≡ b → (xs ≡ ys) ⊎ (xs ≡ ys → ⊥)
    decide true e = inl (is_text-true xs ys e)
    decide false e = inr (λ s. absurd (no_true (sym (ap (is_text xs) (sym s) ∙ is_text-same xs) ∙ e)))
      where
        no_true : true ≡ false → ⊥
        no_true h = true≢false h

-- a record stands there with a gate behind it, or none does
record Framed (text : List ℕ) : Type 0 where
  payload : List ℕ
  gate : ℕ
  rest : List ℕ
  short : IsShort payload
  split : text ≡ frame payload ++ gate ∷ rest

framed_or_not : (text : List ℕ) → Framed text ⊎ HasNoFrame text
framed_or_not text = elim (same_or_not (take 14 text) (header n)) [
  | inr not ↦ inr (no_frame_header text (λ m small h. not (h ∙ ap header (sym (size m small h)))))
  | inl here ↦ elim (cases_lt n (10 ^ 13)) [
    | inr long ↦ inr (no_frame_header text (λ m small h. omega (arith, long, small, size m small h)))
    | inl small ↦ elim (cases_lt (14 + n) (length text)) [
      | inr past ↦ inr (no_frame_past text n small here past)
      | inl within ↦ inl (found here small within)
    ]
  ]
]
  where
    n : ℕ
    n = decimal_value (take 13 (take 14 text))

    size : (m : ℕ) → m < 10 ^ 13 → take 14 text ≡ header m → n ≡ m
    size m small h = value-header (take 14 text) m small h

    found : take 14 text ≡ header n → n < 10 ^ 13 → 14 + n < length text → Framed text
    found here small within =
        let p = take n (drop 14 text) in
        let long : length p ≡ n = length-take-le n (drop 14 text) (omega (arith, within, length-drop 14 text)) in
        record {
          payload = p;
          gate = get_or text (14 + n) 0;
          rest = drop (suc (14 + n)) text;
          short = omega (arith, long, small);
          split = some_frame text n here (omega (arith, within)) ∙ ap (λ l. frame p ++ l) (drop-cons text (14 + n) 0 within);
        }

-- the layout of a text that is not empty
record Laid (text : List ℕ) : Type 0 where
  payloads : List (List ℕ)
  short : All IsShort payloads
  tail : List ℕ
  split : text ≡ layout payloads ++ tail
  last : ((gate : ℕ) × (rest : List ℕ) × (tail ≡ gate ∷ rest) × (gate ≡ 245 → ⊥)) ⊎ ((behind : List ℕ) × (tail ≡ 245 ∷ behind) × HasNoFrame behind)

nothing_short : All IsShort []
nothing_short i d lt = absurd (omega (arith, lt))

laid_more : (p : List ℕ) (text rest : List ℕ) → IsShort p → text ≡ 245 ∷ (frame p ++ rest) → Laid rest → Laid text
laid_more p text rest small is l = record {
  payloads = p ∷ l.payloads;
  short = shorts;
  tail = l.tail;
  split = is ∙ ap (λ (k : List ℕ). 245 ∷ (frame p ++ k)) l.split ∙ ap (λ (k : List ℕ). 245 ∷ k) (sym (append_assoc (frame p) (layout l.payloads) l.tail));
  last = l.last;
}
  where
    shorts : All IsShort (p ∷ l.payloads)
    shorts zero d lt = small
    shorts (suc i) d lt = l.short i d (omega (arith, lt))

laid : (fuel : ℕ) (text : List ℕ) → length text ≤ fuel → 0 < length text → Laid text
laid fuel [] le some = absurd (omega (arith, some))
laid zero (b ∷ text) le some = absurd (omega (arith, le))
laid (suc fuel) (b ∷ text) le some = elim (cases_eq b 245) [
  | inr not ↦ record { payloads = []; short = nothing_short; tail = b ∷ text; split = refl; last = inl (b, text, refl, not) }
  | inl opens ↦ elim (framed_or_not text) [
    | inr none ↦ record { payloads = []; short = nothing_short; tail = b ∷ text; split = refl; last = inr (text, ap (λ (g : ℕ). g ∷ text) opens, none) }
    | inl f ↦ laid_more f.payload (b ∷ text) (f.gate ∷ f.rest) f.short (ap₂ (λ (g : ℕ) (l : List ℕ). g ∷ l) opens f.split)
        (laid fuel (f.gate ∷ f.rest) (omega (arith, le, ap length f.split, length-append (frame f.payload) (f.gate ∷ f.rest))) (omega arith))
  ]
]

found_layout : (file : List ℕ) → Laid file → ((payloads : List (List ℕ)) × Records payloads file) ⊎ ((number : ℕ) × IsBrokenAt number file)
found_layout file l = elim l.last [
  | inl closed ↦ inl (l.payloads, record { short = l.short; gate = closed.0; rest = closed.1; split = l.split ∙ ap (λ (k : List ℕ). layout l.payloads ++ k) closed.2; closed = closed.3 })
  | inr broken ↦ inr (length l.payloads + 1, record { payloads = l.payloads; short = l.short; behind = broken.0; split = l.split ∙ ap (λ (k : List ℕ). layout l.payloads ++ k) broken.1; none = broken.2; count = refl })
]

some_layout : (file : List ℕ) → (file ≡ []) ⊎ (((payloads : List (List ℕ)) × Records payloads file) ⊎ ((number : ℕ) × IsBrokenAt number file))
some_layout [] = inl refl
some_layout (b ∷ file) = inr (found_layout (b ∷ file) (laid (length (b ∷ file)) (b ∷ file) (omega arith) (omega arith)))

pub one_layout : (file : List ℕ) → HasOneLayout file
one_layout file = record {
  some = some_layout file;
  one = λ a b ra rb. (unique a b (ra.gate ∷ ra.rest) (rb.gate ∷ rb.rest) ra.short rb.short (ends_closed ra.gate ra.rest ra.closed) (ends_closed rb.gate rb.rest rb.closed) (sym ra.split ∙ rb.split)).0;
  one_break = λ m n bm bn.
      let same = (unique bm.payloads bn.payloads (245 ∷ bm.behind) (245 ∷ bn.behind) bm.short bn.short (ends_broken bm.behind bm.none) (ends_broken bn.behind bn.none) (sym bm.split ∙ bn.split)).0 in
      bm.count ∙ ap (λ (l : List (List ℕ)). length l + 1) same ∙ sym bn.count;
  not_both = λ a n r b.
      let tails = (unique a b.payloads (r.gate ∷ r.rest) (245 ∷ b.behind) r.short b.short (ends_closed r.gate r.rest r.closed) (ends_broken b.behind b.none) (sym r.split ∙ b.split)).1 in
      r.closed (head_of r.gate 245 r.rest b.behind tails);
}
