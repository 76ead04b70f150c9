-- What becomes of the bytes that are held, as lists.
use Rattle.std.proofs.Common.{◌≡◌, ◌≤◌, ℕ, ◌+◌, List, ◌++◌, length, take, drop, sym, ap, ◌∙◌, arith}
use Rattle.std.proofs.lemmas.List.{drop-append-le, length-take}
use Rattle.std.proofs.lemmas.Slice.{take-put_mid}
use borrow.Rule.Slice.PartMut.{put_mid}

-- a piece that is put behind them follows them
pub held_grows : (room new bytes : List ℕ) (start end k : ℕ) → start ≤ end → end ≤ length room → new ≡ bytes →
    drop start (take (end + length bytes) (put_mid end k room new)) ≡ drop start (take end room) ++ bytes
held_grows room new bytes start end k low high same =
    let count : end + length bytes ≡ end + length new = ap (λ l. end + length l) (sym same) in
    let within : start ≤ length (take end room) = omega (arith, low, high, length-take {A = ℕ}) in
    ap (drop start) (take-put_mid end k room new _ count high) ∙ drop-append-le start (take end room) new within ∙
    ap (λ l. drop start (take end room) ++ l) same
