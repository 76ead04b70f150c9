use Rattle.std.proofs.Common.{List, length, ◌≤◌, sym, subst}
use Rattle.poly_num.specs.Vectors.{Vector}
use Rattle.poly_model.specs.FreeColumns.{AreLines}
use Rattle.poly_model.specs.Limits.{most_columns}
use Rattle.poly_model.specs.Systems.{cone_of}
use Rattle.convert_core.proofs.begin.begin.Goals as goal

pub returns-in-Ok-search_from-clause-lines : goal.returns-in-Ok-search_from-clause-lines
returns-in-Ok-search_from-clause-lines c =
    subst (λ (lines : List Vector). AreLines (cone_of c.args.poly.now) lines) (sym c.in-Ok-search_from.ensures.lines)
    (c.in_ok-found.ensures.found c.args.poly.now c.in-Ok.ensures).are_lines

pub returns-in-Ok-search_from-clause-few : goal.returns-in-Ok-search_from-clause-few
returns-in-Ok-search_from-clause-few c =
    subst (λ (lines : List Vector). length lines ≤ most_columns) (sym c.in-Ok-search_from.ensures.lines)
    (c.in_ok-found.ensures.found c.args.poly.now c.in-Ok.ensures).some
