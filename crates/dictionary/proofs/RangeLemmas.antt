-- Lists over a range of numbers, one number further.
use Rattle.std.proofs.Common.{◌≡◌, ℕ, zero, suc, ◌+◌, ◌++◌, ℤ, List, [], ◌∷◌, map, arith, sym, ap, ◌∙◌, append_assoc, subst}
use Rattle.std.specs.List.{flat_map, range_with_len}
use Rattle.std.proofs.lemmas.List.{flat_map_more}
use Rattle.std.proofs.lemmas.List.FromFn.{map-range_with_len_more}

pub range_more : (a n : ℕ) → range_with_len a (n + 1) ≡ range_with_len a n ++ (a + n) ∷ []
range_more a zero = ap (λ i. i ∷ []) (omega arith)
range_more a (suc n) =
    let e : suc n + 1 ≡ suc (n + 1) = omega arith in
    rw e (ap (λ ks. a ∷ ks)
    (range_more (a + 1) n ∙ ap (λ i. range_with_len (a + 1) n ++ i ∷ []) (omega arith)))

pub flat_range_more : (f : ℕ → List ℤ) (cells old : List ℤ) (a n k : ℕ) → a + n ≡ k →
    cells ≡ old ++ flat_map f (range_with_len a n) → cells ++ f k ≡ old ++ flat_map f (range_with_len a (n + 1))
flat_range_more f cells old a n k e h =
    ap (λ cs. cs ++ f k) h ∙ flat_map_more f old (range_with_len a n) k
    ∙ ap (λ ks. old ++ flat_map f ks) (subst (λ (i : ℕ). range_with_len a n ++ i ∷ [] ≡ range_with_len a (n + 1)) e (sym (range_more a n)))

pub map_range_more : (f : ℕ → ℤ) (cells old : List ℤ) (a n k : ℕ) → a + n ≡ k →
    cells ≡ old ++ map f (range_with_len a n) → cells ++ f k ∷ [] ≡ old ++ map f (range_with_len a (n + 1))
map_range_more f cells old a n k e h = rw (map-range_with_len_more f a n k e, h) (append_assoc old (map f (range_with_len a n)) (f k ∷ []))
