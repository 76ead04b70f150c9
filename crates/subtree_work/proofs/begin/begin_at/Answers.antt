use Rattle.std.specs.Result.{IsErrOf}
use Rattle.std.proofs.Common.{◌≡◌, Err, refl, sym, ap, subst, ◌∙◌}
use Rattle.poly_model.specs.declared.overflow.Overflow.{Overflow as Passed}
use Rattle.poly_model.specs.Systems.{System}
use Rattle.subtree_work.specs.declared.stop.SubtreeStop.{SubtreeStop}
use Rattle.subtree_work.specs.Made.{IsDueOnWayToRoot}
use Rattle.subtree_work.proofs.Beginnings.{no_root, due_to_root, at_root, starts_at_root, starts_nowhere, stops_before}
use Rattle.subtree_work.proofs.begin.begin_at.Goals as goal

pub returns-in-Ok-true-clause-begins : goal.returns-in-Ok-true-clause-begins
returns-in-Ok-true-clause-begins g c =
    let root = c.args.root.now.key in
    let there = starts_at_root c.in-Ok.walker c.args.dict root c.key.result c.in-Ok-true.field-0 c.start.new.self c.in-Ok.ensures
    c.key.ensures c.in-Ok-true.field-0-test c.in-Ok-true.ensures.start in
    let width = sym c.in-Ok-from_elem.vector.ok.0 ∙ c.in-Ok-from_elem.ensures.len ∙ c.n.ensures.value in
    record {
      search = record {
        file = c.requires.file;
        each = λ p file.
            let x = c.requires.prepared p file in
            at_root p x.0 x.1 c.args.dict x.2 root c.start.new.self there c.args.sys.now c.rays_of.result
            c.in-Ok-from_elem.vector.items file c.rays_of.ensures (width ∙ ap (λ (s : System). s.n) file);
      };
      same_cone = refl;
      same_root = there.root;
    }

pub returns-in-Ok-false-clause-bad_root : goal.returns-in-Ok-false-clause-bad_root
returns-in-Ok-false-clause-bad_root g c h p file r =
    let root = c.args.root.now.key in
    let x = c.requires.prepared p file in
    no_root p x.0 x.1 c.args.dict x.2 root
    (starts_nowhere c.in-Ok.walker c.args.dict root c.key.result c.in-Ok-false.field-0 c.start.new.self c.in-Ok.ensures
    c.key.ensures c.in-Ok-false.field-0-test c.in-Ok-false.ensures.start) r

same_overflow : {T : Type 0} (a o : Passed) →
    IsErrOf {T = T} {E = SubtreeStop} (Err (SubtreeStop.Overflow a)) (SubtreeStop.Overflow o) → a ≡ o
same_overflow a o h = cc

pub returns-clause-overflow : goal.returns-clause-overflow
returns-clause-overflow g c o h p file =
    let root = c.args.root.now.key in
    let x = c.requires.prepared p file in
    subst (λ (y : Passed). IsDueOnWayToRoot p root y) (same_overflow c.in-Err.overflow o h)
    (due_to_root p x.0 x.1 c.args.dict x.2 root c.in-Err.overflow
    (stops_before c.in-Ok.walker c.args.dict root c.key.result c.in-Err.overflow c.in-Ok.ensures c.key.ensures
    c.in-Err.ensures.stops))
