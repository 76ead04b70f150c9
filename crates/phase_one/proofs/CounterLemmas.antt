-- A full counter outlasts the steps of phase one.
use Rattle.std.proofs.Common.{ℕ, ◌^◌, ◌≤◌, le_trans, lit≤}
use Rattle.poly_model.specs.Labels.{coordinates_from}
use Rattle.countdown.specs.Digits.{enough}

pub within_counter : (n m : ℕ) → n ≤ 2 ^ coordinates_from → enough ≤ m → n ≤ m
unfolding enough
within_counter n m h l = le_trans h (le_trans (lit≤ tt) l)
