use Rattle.std.proofs.Common.{◌≡◌, ◌∙◌, sym, refl, true, false}
use Rattle.job_text.proofs.FirstPayloadLemmas.{same_work, same_root, same_file, no_fault, root_of_work, root_text, file_is_small, of_parts}
use Rattle.job_text.proofs.first_payload.read_first_payload.Goals as goal

pub returns-in-None-clause-bad : goal.returns-in-None-clause-bad
returns-in-None-clause-bad c e s h = c.in-None.ensures.none refl s.work _ tt h.is_text

pub returns-in-None-key_behind-clause-bad : goal.returns-in-None-key_behind-clause-bad
returns-in-None-key_behind-clause-bad c e s h =
    let w = same_work s c.args.payload.now h c.in-Some.found.0 c.in-Some.found.1.now c.in-Some.ensures.some.1 in
    c.in-None-key_behind.ensures.none refl s.root _ (root_text s.work s.root h.root) w.1

pub returns-then-not-is_root_of-clause-bad : goal.returns-then-not-is_root_of-clause-bad
returns-then-not-is_root_of-clause-bad c e s h =
    let k = c.in-Some-key_behind.ensures.some in
    let w = same_work s c.args.payload.now h c.in-Some.found.0 c.in-Some.found.1.now c.in-Some.ensures.some.1 in
    let r = same_root s c.args.payload.now h _ c.in-Some-key_behind.found.0 c.in-Some-key_behind.found.1.now w.1 k.0 k.1 in
    let holds = c.is_root_of.ensures.1 (root_of_work s c.args.payload.now h _ _ w.0 r.0) in
    let no : true ≡ false = sym holds ∙ c.if-not-is_root_of.true in absurd cc

pub returns-in-None-file_behind-clause-bad : goal.returns-in-None-file_behind-clause-bad
returns-in-None-file_behind-clause-bad c e s h =
    let k = c.in-Some-key_behind.ensures.some in
    let w = same_work s c.args.payload.now h c.in-Some.found.0 c.in-Some.found.1.now c.in-Some.ensures.some.1 in
    let r = same_root s c.args.payload.now h _ c.in-Some-key_behind.found.0 c.in-Some-key_behind.found.1.now w.1 k.0 k.1 in
    c.in-None-file_behind.ensures.none refl s.polyhedron.text (file_is_small s.polyhedron h.file) r.1

pub returns-in-Ok-clause-ok : goal.returns-in-Ok-clause-ok
returns-in-Ok-clause-ok c =
    of_parts (record { work = c.in-Some.found.0; polyhedron = c.in-Ok.poly; root = c.new.result.key }) c.args.payload.now
    c.in-Some.found.1.now c.in-Some-key_behind.found.0 c.in-Some-key_behind.found.1.now c.in-Some-file_behind.found.now
    c.in-Some.ensures.some.1 c.in-Some-key_behind.ensures.some.1 c.in-Some-file_behind.ensures.some c.new.ensures
    (c.is_root_of.ensures.0 c.if-not-is_root_of.false) c.in-Ok.ensures.text c.in-Ok.ensures.own_text

pub returns-in-Err-Bad-clause-bad : goal.returns-in-Err-Bad-clause-bad
returns-in-Err-Bad-clause-bad c e s h =
    let k = c.in-Some-key_behind.ensures.some in
    let w = same_work s c.args.payload.now h c.in-Some.found.0 c.in-Some.found.1.now c.in-Some.ensures.some.1 in
    let r = same_root s c.args.payload.now h _ c.in-Some-key_behind.found.0 c.in-Some-key_behind.found.1.now w.1 k.0 k.1 in
    let file = c.in-Some-file_behind.found.now in
    no_fault s c.args.payload.now h c.in-Err-Bad.field-0-0 file
    (same_file s c.args.payload.now h c.in-Some-key_behind.found.1.now file r.1 c.in-Some-file_behind.ensures.small
    c.in-Some-file_behind.ensures.some)
    (rw c.in-Err-Bad.field-0-is at c.in-Err-Bad.ensures.reads)
