-- Lists of rows, and their cells, that grow by what one turn of a loop puts behind them.
use Rattle.std.proofs.Common.{◌≡◌, ℕ, zero, suc, ◌+◌, ℤ, List, [], ◌∷◌, ◌++◌, map, replicate, sym, ap, ◌∙◌, append-nil, append_assoc, add-one, arith}
use Rattle.std.specs.List.{flat_map, range_with_len}
use Rattle.std.proofs.lemmas.List.{map-id, replicate-append-replicate}
use Rattle.std.proofs.lemmas.List.FromFn.{map-range_with_len_more}
use Rattle.std.proofs.lemmas.Grind.{flat_map-append}
use Rattle.poly_num.specs.Vectors.{Vector}
use Rattle.example_polys.specs.Cells.{end_to_end}

pub replicate_more : {X : Type 0} (n : ℕ) (x : X) → replicate (n + 1) x ≡ replicate n x ++ x ∷ []
replicate_more n x = sym (replicate-append-replicate n 1 x)

range_grows : (n : ℕ) → range_with_len 0 (n + 1) ≡ range_with_len 0 n ++ n ∷ []
range_grows n =
    sym (map-id (range_with_len 0 (n + 1))) ∙ map-range_with_len_more (λ k. k) 0 n n (omega arith)
    ∙ ap (λ l. l ++ n ∷ []) (map-id (range_with_len 0 n))

pub end_to_end-append : (rows more : List Vector) → end_to_end (rows ++ more) ≡ end_to_end rows ++ end_to_end more
end_to_end-append rows more = flat_map-append (λ row. row) rows more

-- one more row
pub rows_more : (f : ℕ → Vector) (n : ℕ) →
    end_to_end (map f (range_with_len 0 (n + 1))) ≡ end_to_end (map f (range_with_len 0 n)) ++ f n
rows_more f n =
    let here = map f (range_with_len 0 n) in
    ap end_to_end (map-range_with_len_more f 0 n n (omega arith)) ∙
    end_to_end-append here (f n ∷ []) ∙ ap (λ l. end_to_end here ++ l) (append-nil (f n))

-- one more group of rows
pub groups_more : (f : ℕ → List Vector) (n : ℕ) →
    end_to_end (flat_map f (range_with_len 0 (n + 1)))
    ≡ end_to_end (flat_map f (range_with_len 0 n)) ++ end_to_end (f n)
groups_more f n =
    let here = flat_map f (range_with_len 0 n) in
    ap (λ l. end_to_end (flat_map f l)) (range_grows n) ∙ ap end_to_end (flat_map-append f (range_with_len 0 n) (n ∷ [])) ∙
    end_to_end-append here (f n ++ []) ∙ ap (λ l. end_to_end here ++ end_to_end l) (append-nil (f n))

-- a list that grew twice
pub two_behind : (old now mid new here s t : Vector) → now ≡ old ++ here → mid ≡ now ++ s → new ≡ mid ++ t →
    new ≡ old ++ (here ++ (s ++ (t ++ [])))
two_behind old now mid new here s t first second third =
    third ∙ ap (λ l. l ++ t) (second ∙ ap (λ l. l ++ s) first) ∙ append_assoc (old ++ here) s t ∙
    append_assoc old here (s ++ t) ∙ ap (λ l. old ++ (here ++ (s ++ l))) (sym (append-nil t))

-- a list that grew by one number, and by others
pub one_behind : (old now mid new here : Vector) (x : ℤ) (t : Vector) → now ≡ old ++ here → mid ≡ now ++ x ∷ [] →
    new ≡ mid ++ t → new ≡ old ++ (here ++ x ∷ t)
one_behind old now mid new here x t first second third =
    third ∙ ap (λ l. l ++ t) (second ∙ ap (λ l. l ++ x ∷ []) first) ∙ append_assoc (old ++ here) (x ∷ []) t ∙
    append_assoc old here (x ∷ t)
