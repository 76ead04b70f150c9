use Rattle.std.proofs.Common.{◌++◌, sym, ◌∙◌}
use Rattle.poly_model.specs.LabelText.{key_text}
use Rattle.plain_text.proofs.ReadLemmas.{none_line_read, line_is, no_line, read_none}
use Rattle.job_text.proofs.JobLineLemmas.{word_and_key_lack, same_behind}
use Rattle.job_text.proofs.lines.key_behind.Goals as goal

pub returns-in_err-line : goal.returns-in_err-line
returns-in_err-line c =
    rw c.from_residual.ensures
    (none_line_read (λ key rest may is. no_line c.args.text.now (c.args.word.now ++ key_text key) rest c.in_err-line.ensures is))

pub returns-in_err-written : goal.returns-in_err-written
returns-in_err-written c =
    rw c.from_residual-in_err-written.ensures (none_line_read (λ key rest may is.
    c.in_err-written.ensures (key_text key)
    (line_is (c.args.word.now ++ key_text key) rest c.in_ok-line.ensures
    (word_and_key_lack c.args.word.now key c.requires may) is).0))

pub returns-in_err-key : goal.returns-in_err-key
returns-in_err-key c =
    rw c.from_residual-in_err-key.ensures (none_line_read (λ key rest may is.
    read_none c.in_err-key.was c.read_key.ensures key may
    (same_behind c.args.word.now c.in_ok-written.written.now (key_text key) (sym c.in_ok-written.ensures
    ∙ (line_is (c.args.word.now ++ key_text key) rest c.in_ok-line.ensures
    (word_and_key_lack c.args.word.now key c.requires may) is).0))))
