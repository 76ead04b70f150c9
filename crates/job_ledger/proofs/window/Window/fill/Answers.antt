use Rattle.std.proofs.Common.{arith, ◌≡◌, ◌∙◌, length, drop, length-drop}
use Rattle.std.specs.Prelude.{min}
use Rattle.job_ledger.proofs.WindowLemmas.{block_is}
use Rattle.job_ledger.proofs.window.Window.fill.Goals as goal

pub returns-clause-block : goal.returns-clause-block
returns-clause-block g c f told size =
    let n = c.min.result in
    let most : n ≡ min (length (drop c.args.at f)) 65536 = grind (arith, c.min.ensures, size, length-drop c.args.at f) in
    c.in_ok-read_into.ensures.bytes f told ∙ block_is (drop c.args.at f) n most
