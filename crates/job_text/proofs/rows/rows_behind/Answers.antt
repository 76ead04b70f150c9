use Rattle.poly_model.specs.LabelText.{key_text}
use Rattle.job_text.proofs.LeftRowLemmas.{head_behind, leaves_rows, some_head}
use Rattle.job_text.proofs.rows.rows_behind.Goals as goal

pub returns-in_err-_key-clause-none : goal.returns-in_err-_key-clause-none
returns-in_err-_key-clause-none c none n r whole =
    c.in_err-_key.ensures (key_text r.key)
    (head_behind n r c.args.text.now whole c.in_ok-line.line.now c.in_ok-line.left.now c.in_ok-line.ensures).0

pub returns-in_err-line-clause-none : goal.returns-in_err-line-clause-none
returns-in_err-line-clause-none c none n r whole = some_head n r c.args.text.now whole c.in_err-line.ensures

pub returns-clause-some : goal.returns-clause-some
returns-clause-some c n r count whole ends =
    leaves_rows n r c.args.text.now whole c.in_ok-line.line.now c.in_ok-line.left.now c.in_ok-line.ensures count ends
