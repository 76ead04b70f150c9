use Rattle.std.proofs.Common.{map, List, ℕ, Bor}
use Rattle.clap.specs.Words.{app_of, fault_of}
use Rattle.command_line.specs.Lines.{lrs_app}
use Rattle.command_line.proofs.LrsParses.{faulty, has_kind, no_fault, rows_found}
use Rattle.command_line.proofs.lines.matches_in.Goals as goal

pub returns-in-Ok-try_get_matches_from-clause-faultless : goal.returns-in-Ok-try_get_matches_from-clause-faultless
returns-in-Ok-try_get_matches_from-clause-faultless c =
    no_fault (app_of c.in-Ok.command) c.in-Ok.ensures (map (λ (w : Bor (List ℕ)). w.now) c.args.words.now)
    c.in-Ok-try_get_matches_from.ensures.kinds

pub returns-in-Ok-try_get_matches_from-clause-rows : goal.returns-in-Ok-try_get_matches_from-clause-rows
returns-in-Ok-try_get_matches_from-clause-rows c =
    rows_found (app_of c.in-Ok.command) c.in-Ok.ensures (map (λ (w : Bor (List ℕ)). w.now) c.args.words.now)
    c.in-Ok-try_get_matches_from.matches c.in-Ok-try_get_matches_from.ensures.matches

pub returns-in-Err-clause-usage : goal.returns-in-Err-clause-usage
returns-in-Err-clause-usage c =
    let words : List (List ℕ) = map (λ (w : Bor (List ℕ)). w.now) c.args.words.now in
    faulty c.stop_of.result c.in-Err.error (fault_of lrs_app words) c.stop_of.ensures.1
    (has_kind (app_of c.in-Ok.command) c.in-Ok.ensures words c.in-Err.error c.in-Err.ensures.kinds)
