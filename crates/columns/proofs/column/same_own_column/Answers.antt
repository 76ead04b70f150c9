use Rattle.std.proofs.Common.{refl, rules, arith, ◌<◌, ◌+◌, ◌*◌, length, ◌≡◌, ◌≢◌, ⊎_elim, subst, sym}
use Rattle.std.proofs.lemmas.Bool.{cases_eq}
use Rattle.columns.specs.Sizes.{IsOf}
use Rattle.columns.proofs.ColumnLemmas.{column_more, written_more, kept_more, own_is}
use Rattle.columns.proofs.column.same_own_column.Goals as goal

pub cells-preserved : goal.cells-preserved
cells-preserved c =
    let parts = c.args.parts.now in
    let x = parts.x.now in
    let j = x.column in
    let i = c.cells.i in
    let lt : j * x.height + i < length c.cells.new = search rules in
    let here : i < x.height = search rules in
    let own = c.own_number-c.result in
    let s = c.common_size-size.result in
    let is = c.own_number-c.ensures in
    record {
      written = λ cells.
          written_more cells parts j x.denominator i c.cells.new own _ lt refl
          (own_is cells parts j refl i own _ is.other is.here refl) (c.cells.invariant.written cells);
      kept = kept_more _ c.args.new.now c.cells.new _ own (omega arith) c.cells.invariant.kept;
      size =
          let one : IsOf s own =
          ⊎_elim
          (λ (e : i ≡ x.row). subst (IsOf s) (sym (is.here e)) (c.common_size-size.ensures.second parts.u c.size_of.ensures))
          (λ (n : i ≢ x.row).
          subst (IsOf s) (sym (is.other n)) (c.common_size-size.ensures.first _ (c.requires.size i here)))
          (cases_eq i x.row) in
          column_more x j (λ _ z. IsOf s z) i c.cells.new own lt one c.cells.invariant.size;
    }
