use Rattle.std.proofs.Common.{◌≡◌, drop}
use Rattle.poly_num.specs.Signs.{lex_sign_of}
use Rattle.poly_num.proofs.signs.lex_sign.Given as goal

abbrev pub invariant-loop-x : goal.invariant-loop-x
invariant-loop-x l = lex_sign_of (drop l.x-index l.v) ≡ lex_sign_of l.v
