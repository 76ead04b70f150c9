use Rattle.std.proofs.Common.{◌≡◌, ◌+ℤ◌, ◌+◌, ◌<◌, pos, length, take, arith}
use Rattle.std.proofs.lemmas.List.{get_or_read}
use Rattle.poly_num.specs.Signs.{DotFits}
use Rattle.poly_num.specs.Vectors.{◌·◌}
use Rattle.poly_num.proofs.VectorLemmas.{dot_more}
use Rattle.poly_num.proofs.signs.dot_sign.Goals as goal

pub returns-in_err-sum : goal.returns-in_err-sum
returns-in_err-sum c =
    let a = c.args.a.now in let b = c.args.b.now in let i = c.loop-i.i in
    let la : i < length a = omega arith in let lb : i < length b = omega arith in
    let more = dot_more i a b la lb in
    let ra = get_or_read a i _ la c.index-a-i.is (pos 0) in
    let rb = get_or_read b i _ lb c.index-b-i.is (pos 0) in
    let sum : c.loop-i.sum +ℤ c.in_ok-p.p ≡ take (i + 1) a · take (i + 1) b = cc (c.in_ok-p.ensures.1) in
    rw c.from_residual-in_err-sum.ensures (λ (h : DotFits a b). c.in_err-sum.ensures (rw sum (h i la).1))
