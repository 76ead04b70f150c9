-- What a sink has, once what is held for it was handed on.
use Rattle.std.proofs.Common.{◌≡◌, ℕ, List, [], ◌++◌, None, Some, Option, Result, Ok, Err, refl, sym, ap, ◌∙◌, append_assoc, length, drop}
use Rattle.std.proofs.lemmas.List.{append_cancel_left}
use Rattle.std.proofs.KnownBytes.{starts_with_rest}
use Rattle.std.specs.Io.KnownBytes.{append_known}
use Rattle.poly_io.specs.declared.sink.Sink.{Ghosts as Sink}
use Rattle.poly_io.specs.Written.{AppendsPart, Prints}
use Rattle.poly_io.proofs.Parts.{part_of_all}
use Rattle.buffered_sink.specs.Growth.{HasGrown}

-- whatever the end is, first bytes of what was held went on
pub part_went_on : {I T E : Type 0} {sink : Sink I} {a b : I} {r : Result T E} {held : List ℕ} →
    Prints sink a b r held → AppendsPart (sink.written a) (sink.written b) held
part_went_on {r = Err e} p = p.part
part_went_on {sink = sink} {a = a} {b = b} {r = Ok x} {held = held} p =
    part_of_all (sink.written a) (sink.written b) held p.whole

-- the sink has first bytes of what was told
pub first_bytes : (base a b : Option (List ℕ)) (held text : List ℕ) → HasGrown base b → AppendsPart a b held →
    AppendsPart base (append_known a held) text → AppendsPart base b text
first_bytes None a b held text g p q = record { sent = []; unsent = text; split = refl; bytes = tt }
first_bytes (Some xs) None b held text g p q = absurd q.bytes
first_bytes (Some xs) (Some ys) None held text g p q = absurd g
first_bytes (Some xs) (Some ys) (Some zs) held text g p q =
    let more = drop (length xs) zs in
    let grown : zs ≡ xs ++ more = starts_with_rest zs xs g in
    let all : ys ++ held ≡ xs ++ q.sent = q.bytes in
    let same : xs ++ (more ++ p.unsent) ≡ xs ++ q.sent =
    sym (append_assoc xs more p.unsent) ∙ ap (λ l. l ++ p.unsent) (sym grown ∙ p.bytes) ∙
    append_assoc ys p.sent p.unsent ∙ ap (λ l. ys ++ l) (sym p.split) ∙ all in
    record {
      sent = more;
      unsent = p.unsent ++ q.unsent;
      split =
          q.split ∙ ap (λ l. l ++ q.unsent) (sym (append_cancel_left xs _ _ same)) ∙
          append_assoc more p.unsent q.unsent;
      bytes = grown;
    }
