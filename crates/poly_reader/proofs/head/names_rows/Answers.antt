use Rattle.poly_reader.specs.Lines.{word}
use Rattle.poly_reader.proofs.NameLemmas.{names_counted, names_uncounted}
use Rattle.poly_reader.proofs.head.names_rows.Goals as goal

pub returns-in-Some-count : goal.returns-in-Some-count
returns-in-Some-count c =
    rw c.are_counts.ensures (names_counted c.in-Some-count.k (word c.in-Some.w) c.args.words.now c.in-Some.rest
    c.in-Some.ensures.word c.in-Some.ensures.few c.in-Some-count.ensures)

pub returns-in-None-count : goal.returns-in-None-count
returns-in-None-count c =
    names_uncounted (word c.in-Some.w) c.args.words.now c.in-Some.rest c.in-Some.ensures.word c.in-None-count.ensures
