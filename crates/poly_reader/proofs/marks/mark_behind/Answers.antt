use Rattle.poly_reader.specs.Lines.{word}
use Rattle.plain_text.specs.Digits.{value_of}
use Rattle.poly_reader.proofs.NameLemmas.{take_capped, fewer}
use Rattle.poly_reader.proofs.MarkLemmas.{nothing}
use Rattle.poly_reader.proofs.marks.mark_behind.Goals as goal

pub returns-in-Some : goal.returns-in-Some
returns-in-Some c =
    rw (
      c.in-Some.ensures.word,
      ← take_capped (value_of c.in-Some.w.text.now) c.in-Some.rest
          (fewer (word c.in-Some.w) c.args.words.now c.in-Some.rest c.in-Some.ensures.few c.in-Some.ensures.word),
      ← c.value.ensures,
    ) c.mark_words.ensures

pub returns-in-None : goal.returns-in-None
returns-in-None c = rw c.in-None.ensures.word (nothing c.args.marks.now _)
