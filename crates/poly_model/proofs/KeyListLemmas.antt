-- Keys whose labels lie one behind the other: what one key more comes to, and how many there are.
use Rattle.std.proofs.Common.{◌≡◌, ℕ, suc, List, [], ◌∷◌, ◌++◌, length, take, drop, refl, ap, arith, length-append}
use Rattle.std.proofs.lemmas.List.{take-append-le, drop-append-le, take_all, drop_all}
use Rattle.poly_model.specs.Keys.{IsKey}
use Rattle.poly_model.specs.KeyRoom.{keys_by_count, AreKeysIn}

-- the labels of a key behind those of others are the key behind the others
pub keys_and_one : (counts labels key : List ℕ) → AreKeysIn counts labels →
    keys_by_count (counts ++ length key ∷ []) (labels ++ key) ≡ keys_by_count counts labels ++ key ∷ []
keys_and_one [] labels key h = rw (h, take_all (length key) key (omega arith)) refl
keys_and_one (count ∷ counts) labels key h =
    let within = h.0 in
    rw (take-append-le count labels key within, drop-append-le count labels key within)
    (ap (λ (rest : List (List ℕ)). take count labels ∷ rest) (keys_and_one counts (drop count labels) key h.2))

-- and all of them are keys, where this one is
pub are_keys_and_one : (counts labels key : List ℕ) → AreKeysIn counts labels → IsKey key →
    AreKeysIn (counts ++ length key ∷ []) (labels ++ key)
are_keys_and_one [] labels key h k =
    rw (h, take_all (length key) key (omega arith), drop_all (length key) key (omega arith)) (omega arith, k, refl)
are_keys_and_one (count ∷ counts) labels key h k =
    let within = h.0 in
    rw (take-append-le count labels key within, drop-append-le count labels key within)
    (omega (arith, within, length-append labels key), h.1, are_keys_and_one counts (drop count labels) key h.2 k)

-- there are as many as there are counts
pub key_count : (counts labels : List ℕ) → length (keys_by_count counts labels) ≡ length counts
key_count [] labels = refl
key_count (count ∷ counts) labels = ap suc (key_count counts (drop count labels))
