use Rattle.std.proofs.Common.{◌≡◌, ◌∙◌, sym, ap, subst, true≢false, get_or, List, ℕ}
use Rattle.std.specs.List.{Contains}
use Rattle.std.proofs.lemmas.List.Elements.{Contains-get_or}
use Rattle.dictionary.specs.Cobases.{AreOutside}
use Rattle.poly_model.specs.Labels.{is_row}
use Rattle.lex_pivot.proofs.EarlierLemmas.{row_has, row_only, read_at}
use Rattle.lex_pivot.proofs.rows.row_at.Goals.{After-is_row}
use Rattle.lex_pivot.proofs.rows.row_at.Goals as goal

-- what is read at the place
row_is : (c : After-is_row) → c.index-rows-place.result ≡ get_or c.args.dict.now.rows c.args.place 0
row_is c =
    read_at c.rows.result.now c.args.dict.now.rows c.rows.ensures.value c.args.place c.index-rows-place.result c.requires
    c.index-rows-place.is

pub returns-then-is_row : goal.returns-then-is_row
returns-then-is_row c =
    let e = row_is (goal.at.returns-then-is_row c).After-is_row in
    let all = subst (λ (ks : List ℕ). AreOutside c.args.dict.now ks) c.rows.ensures.value c.rows.ensures.outside in
    let m = subst (Contains c.args.dict.now.rows) (sym e) (Contains-get_or c.args.dict.now.rows c.args.place 0 c.requires) in
    let o = all.outside c.index-rows-place.result m in record {
      row = record {
        row = row_has c.args.dict.now.labels c.index-rows-place.result (all.label c.index-rows-place.result m)
            (sym c.is_row.ensures.value ∙ c.if-is_row.true);
        outside = o;
      };
      place_is = record { within = c.requires; label_is = sym e; outside = o };
    }

pub returns-else-is_row : goal.returns-else-is_row
returns-else-is_row c = λ o.
    true≢false (sym (row_only c.args.dict.now.labels (get_or c.args.dict.now.rows c.args.place 0) o.row).1
    ∙ ap is_row (sym (row_is (goal.at.returns-else-is_row c).After-is_row)) ∙ sym c.is_row.ensures.value ∙ c.if-is_row.false)
