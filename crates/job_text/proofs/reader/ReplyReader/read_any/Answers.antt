use Rattle.std.proofs.Common.{Result, Err, ap}
use Rattle.job_text.specs.declared.reply.Reply.{Reply}
use Rattle.job_text.specs.declared.stops.ReplyStop.{ReplyStop}
use Rattle.job_text.proofs.NotWholeLemmas.{head_is, other_head}
use Rattle.job_text.proofs.reader.ReplyReader.read_any.Goals as goal

abbrev as_error : ReplyStop → Result Reply ReplyStop
as_error stop = Err stop

pub returns-in-Err-NotWhole-clause-bad : goal.returns-in-Err-NotWhole-clause-bad
returns-in-Err-NotWhole-clause-bad c e reply whole =
    let key = c.in-Some.ensures.some in
    let none = c.in-Err-NotWhole.ensures.not_whole c.in-Err-NotWhole.field-0-0 (ap as_error c.in-Err-NotWhole.field-0-is) in
    none.not_whole reply
    (other_head reply.key c.in-Some.found.0 _ _ whole.key key.0 (head_is reply.key _ whole.is_text) key.1) whole
