-- A record in a text: that none stands there, that one does, and open records one after the other.
use Rattle.std.proofs.Common.{◌≡◌, ◌<◌, ◌≤◌, ◌+◌, ◌^◌, ℕ, ◌∙◌, ap, List, [], ◌∷◌, ◌++◌, length, take, drop, refl, sym, arith, length-append, append_assoc, take-append-drop, length-drop}
use Rattle.std.proofs.lemmas.List.{take_at, drop-drop, length-take-le, append-nil}
use Rattle.job_ledger.specs.Records.{HasNoFrame, frame, header, layout}
use Rattle.job_ledger.proofs.HeaderLemmas.{length-header, value-header}

-- the header of a record stands first
pub front : (p rest : List ℕ) → take 14 (frame p ++ rest) ≡ header (length p)
front p rest = ap (take 14) (append_assoc (header (length p)) p rest) ∙ take_at (header (length p)) (p ++ rest) 14 (length-header (length p))

pub length-frame : (p : List ℕ) → length (frame p) ≡ 14 + length p
length-frame p = omega (arith, length-append (header (length p)) p, length-header (length p))

size : (p : List ℕ) (g : ℕ) (rest : List ℕ) → length (frame p ++ g ∷ rest) ≡ 15 + length p + length rest
size p g rest = omega (arith, length-append (frame p) (g ∷ rest), length-frame p)

-- no length is said there
pub no_frame_header : (text : List ℕ) → ((n : ℕ) → n < 10 ^ 13 → take 14 text ≡ header n → ⊥) → HasNoFrame text
no_frame_header text none p g rest small e = none (length p) small (ap (take 14) e ∙ front p (g ∷ rest))

-- one is, and the payload would reach the end of the text
pub no_frame_past : (text : List ℕ) (n : ℕ) → n < 10 ^ 13 → take 14 text ≡ header n → length text ≤ 14 + n → HasNoFrame text
no_frame_past text n lt h past p g rest small e =
    let same : header n ≡ header (length p) = sym h ∙ ap (take 14) e ∙ front p (g ∷ rest) in
    let eq : n ≡ length p = sym (value-header (header n) n lt refl) ∙ value-header (header n) (length p) small same in
    omega (arith, past, eq, ap length e, size p g rest)

-- one is, and the payload lies in the text
pub some_frame : (text : List ℕ) (n : ℕ) → take 14 text ≡ header n → 14 + n ≤ length text → text ≡ frame (take n (drop 14 text)) ++ drop (14 + n) text
some_frame text n h le =
    let p = take n (drop 14 text) in
    let len : length p ≡ n = length-take-le n (drop 14 text) (omega (arith, le, length-drop 14 text)) in
    let rest : drop 14 text ≡ p ++ drop (14 + n) text = sym (take-append-drop n (drop 14 text)) ∙ ap (λ l. p ++ l) (drop-drop n 14 text) in
    sym (take-append-drop 14 text) ∙ ap (λ l. l ++ drop 14 text) (h ∙ ap header (sym len)) ∙ ap (λ l. header (length p) ++ l) rest ∙ sym (append_assoc (header (length p)) p (drop (14 + n) text))

-- one record more
pub layout-push : (ps : List (List ℕ)) (p rest : List ℕ) → layout (ps ++ p ∷ []) ++ rest ≡ layout ps ++ 245 ∷ (frame p ++ rest)
layout-push [] p rest = ap (λ (l : List ℕ). 245 ∷ (l ++ rest)) (append-nil (frame p))
layout-push (q ∷ ps) p rest =
    ap (λ (l : List ℕ). 245 ∷ l) (append_assoc (frame q) (layout (ps ++ p ∷ [])) rest ∙ ap (λ (l : List ℕ). frame q ++ l) (layout-push ps p rest) ∙ sym (append_assoc (frame q) (layout ps) (245 ∷ (frame p ++ rest))))

pub length-layout-push : (ps : List (List ℕ)) (p : List ℕ) → length (layout (ps ++ p ∷ [])) ≡ length (layout ps) + 15 + length p
length-layout-push ps p =
    let whole : length (layout (ps ++ p ∷ []) ++ []) ≡ length (layout ps ++ 245 ∷ (frame p ++ [])) = ap length (layout-push ps p []) in
    omega (arith, whole, length-append (layout (ps ++ p ∷ [])) [], length-append (layout ps) (245 ∷ (frame p ++ [])), length-append (frame p) [], length-frame p)
