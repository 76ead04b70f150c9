use Rattle.std.proofs.Common.{◌≡◌, arith, refl, inr, ap, ◌∙◌, Result, Err}
use Rattle.poly_model.specs.Systems.{Polyhedron}
use Rattle.poly_reader.specs.declared.bad.BadFile.{BadFile}
use Rattle.poly_reader.specs.declared.bad.BadKind.TheVariants.{TooLong}
use Rattle.poly_reader.proofs.LongTexts.{too_long}
use Rattle.poly_reader.proofs.read.read_poly.Goals as goal

abbrev refused : BadFile → Result Polyhedron BadFile
refused f = Err f

pub returns-in-Err-TooLong-clause-bad : goal.returns-in-Err-TooLong-clause-bad
returns-in-Err-TooLong-clause-bad g c = λ f e.
    let t = c.in-Err-TooLong.ensures.long (rw c.in-Err-TooLong.field-0-is refl) in
    let same : record { kind = TooLong; line = 0 } ≡ f = cc (c.bad.ensures, e) in
    record {
      text = t.taken;
      taken = t.bytes;
      enough = inr t.count;
      read = too_long t.taken (omega (arith, t.count)) ∙ ap refused same;
    }

pub returns-in-Ok-poly_with-clause-ok : goal.returns-in-Ok-poly_with-clause-ok
returns-in-Ok-poly_with-clause-ok g c =
    let same : c.in-Ok-poly_with.poly.text ≡ c.in-Ok.text = c.in-Ok-poly_with.ensures.text ∙ c.into_vec.ensures in
    record {
      taken = rw same c.in-Ok.ensures.bytes;
      ends = c.in-Ok.ensures.end;
      read = c.in-Ok-poly_with.ensures.own_text;
    }
