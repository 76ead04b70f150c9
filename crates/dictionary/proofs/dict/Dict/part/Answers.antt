use Rattle.std.proofs.Common.{◌≡◌, List, ℤ, ap, subst, ◌∙◌}
use Rattle.dictionary.specs.Views.{Dictionary, number, by_columns}
use Rattle.dictionary.specs.MainPhase.{kept_columns, IsDividedOut}
use Rattle.dictionary.specs.Arrangements.{part_of}
use Rattle.dictionary.proofs.DividedOut.{whole_divided}
use Rattle.dictionary.proofs.dict.Dict.part.Goals as goal

pub arranged-requires-clause-whole : goal.arranged-requires-clause-whole
arranged-requires-clause-whole c =
    let now = c.args.self.now in
    let a = c.args.arrangement in
    let least = c.in_ok-denominator.denominator in
    let cells = c.divide_out.new.cells.items in
    let same : c.in_ok-cells.cells.items ≡ (part_of now a).cells =
    c.in_ok-cells.ensures
    ∙ ap (λ is. by_columns (number now) is (kept_columns now.columns c.deref-2.result.now)) c.deref.ensures.value
    ∙ ap (λ ks. by_columns (number now) a.rows.items (kept_columns now.columns ks)) c.deref-2.ensures.value in
    let h : IsDividedOut (part_of now a).cells now.denominator cells least =
    subst (λ (z : ℤ). IsDividedOut (part_of now a).cells z cells least) (ap (λ (d : Dictionary). d.denominator) c.self.view_is)
    (subst (λ (v : List ℤ). IsDividedOut v c.self.inside.denominator cells least) same c.in_ok-denominator.ensures) in
    whole_divided (part_of now a) least cells h c.requires.whole
