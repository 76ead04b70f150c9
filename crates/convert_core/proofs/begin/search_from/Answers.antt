use Rattle.std.proofs.Common.{sym, ◌∙◌}
use Rattle.convert_core.proofs.Beginnings.{is_at_root, is_search}
use Rattle.convert_core.proofs.begin.search_from.Goals as goal

pub returns-clause-search : goal.returns-clause-search
returns-clause-search c =
    is_search c.args.poly.now c.args.found.root.key c.args.found.dict c.args.found.lines c.requires.root c.args.cone
    c.rays_of-rays.result c.in_ok-walker.walker c.in_ok-vector.vector.items c.in_ok-walker.ensures c.requires.cone
    c.rays_of-rays.ensures (sym c.in_ok-vector.vector.ok.0 ∙ c.in_ok-vector.ensures.len ∙ c.n.ensures.value)

pub returns-clause-at_root : goal.returns-clause-at_root
returns-clause-at_root c =
    is_at_root c.args.poly.now c.args.found.root.key c.args.found.dict c.args.found.lines c.requires.root
    c.in_ok-walker.walker c.in_ok-walker.ensures
