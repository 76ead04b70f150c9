use Rattle.std.proofs.Common.{List, ℕ, sym, ap, subst, ◌∙◌}
use Rattle.std.specs.List.{All, Contains}
use Rattle.dictionary.specs.Views.{Dictionary, IsWhole}
use Rattle.dictionary.proofs.KeptNumbers.{all_of}
use Rattle.dictionary.proofs.dict.Dict.cells_with_t.Goals as goal

pub kept_cells-requires-clause-rows : goal.kept_cells-requires-clause-rows
kept_cells-requires-clause-rows c =
    let now = c.args.self.now in
    let whole = subst (λ (d : Dictionary). IsWhole d) c.self.view_is c.self.invariant.2 in
    subst (λ (ks : List ℕ). All (λ l. Contains now.labels l) ks)
    (sym (c.deref.ensures.value ∙ ap (λ (d : Dictionary). d.rows) c.self.view_is))
    (all_of (λ l. Contains now.labels l) now.rows (λ i m. (whole.row_back i m).0))

pub kept_cells-requires-clause-staying : goal.kept_cells-requires-clause-staying
kept_cells-requires-clause-staying c =
    let now = c.args.self.now in
    let whole = subst (λ (d : Dictionary). IsWhole d) c.self.view_is c.self.invariant.2 in
    subst (λ (ks : List ℕ). All (λ k. Contains now.key k) ks)
    (sym (c.deref-2.ensures.value ∙ ap (λ (d : Dictionary). d.columns) c.self.view_is))
    (all_of (λ k. Contains now.key k) now.columns whole.same.back)
