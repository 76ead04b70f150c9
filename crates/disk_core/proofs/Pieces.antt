-- A buffer that is filled piece by piece.
use Rattle.std.proofs.Common.{◌≡◌, ◌≤◌, ◌∙◌, ◌+◌, ◌-◌, ◌++◌, ℕ, List, length, take, drop, ap, ap₂, sym, length-take-le, take-add, take_at, drop-drop, rules}
use Rattle.std.proofs.lemmas.List.{drop_at}
use Rattle.std.proofs.lemmas.Slice.{overwrites}
use borrow.Rule.Slice.PartMut.{put_mid}

-- a part behind what is done takes its place
pub put_behind : (buf new : List ℕ) (done : ℕ) → done ≤ length buf → length new ≡ length buf - done → put_mid done (length buf - done) buf new ≡ take done buf ++ new
put_behind buf new done le long = search (rules, overwrites)

-- the front of the buffer, once a piece more of the file stands there
pub piece_more : (buf new f : List ℕ) (at done count : ℕ) → done ≤ length buf → take done buf ≡ take done (drop at f) → take count new ≡ take count (drop (at + done) f)
    → take (done + count) (take done buf ++ new) ≡ take (done + count) (drop at f)
piece_more buf new f at done count le front piece =
    let long : length (take done buf) ≡ done = length-take-le done buf le in
    let xs = take done buf ++ new in
    let first : take done xs ≡ take done (drop at f) = take_at (take done buf) new done long ∙ front in
    let second : take count (drop done xs) ≡ take count (drop done (drop at f)) = ap (take count) (drop_at (take done buf) new done long) ∙ piece ∙ ap (take count) (sym (drop-drop done at f)) in
    take-add done count xs ∙ ap₂ (λ (x y : List ℕ). x ++ y) first second ∙ sym (take-add done count (drop at f))
