use Rattle.std.proofs.Common.{Err, refl, sym, ap, subst, ◌∙◌}
use Rattle.std.specs.List.{Contains}
use Rattle.poly_model.specs.declared.overflow.Phase.TheVariants.{Cone}
use Rattle.dictionary.specs.Views.{Dictionary}
use Rattle.dictionary.specs.New.{IsCoordinateDictionary}
use Rattle.linearity.specs.declared.eliminate.Pass.TheVariants.{Others}
use Rattle.linearity.specs.Elimination.{IsDictionaryOf}
use Rattle.plain_enum.specs.Begin.{IsBegun, HasRoomForAll}
use Rattle.plain_enum.proofs.Begun.{same_overflow, TriesAll, new_rows, first_of, second_of, is_begun}
use Rattle.plain_enum.proofs.begin.begin.Goals as goal

pub returns-in-Err-clause-overflow : goal.returns-in-Err-clause-overflow
returns-in-Err-clause-overflow c o h p file =
    let is = ap (λ x. Err x) (same_overflow c.in-Err.overflow o h) in
    let first = subst (IsCoordinateDictionary c.args.sys.now Cone) (sym c.deref_mut.ensures.value) c.in-Ok.ensures in
    record {
      phase = c.in-Err.ensures.passing_phase o is ∙ first.phase_is;
      passes = c.in-Err.ensures.passes o is p file
          (first_of c.args.sys.now c.deref_mut.result.now first refl c.keeps_limits.ensures.some
          c.keeps_limits.ensures.narrow
          refl c.keeps_limits.ensures.few p file);
    }

pub returns-in-Err-enter_rows-clause-overflow : goal.returns-in-Err-enter_rows-clause-overflow
returns-in-Err-enter_rows-clause-overflow c o h p file =
    let is = ap (λ x. Err x) (same_overflow c.in-Err-enter_rows.overflow o h) in
    let first = subst (IsCoordinateDictionary c.args.sys.now Cone) (sym c.deref_mut.ensures.value) c.in-Ok.ensures in
    let copied = c.deref_mut-2.ensures.value ∙ c.in-Ok-copy_of.ensures ∙ c.deref.ensures in
    record {
      phase = c.in-Err-enter_rows.ensures.passing_phase o is ∙ ap (λ (d : Dictionary). d.phase) copied
          ∙ c.enter_rows.ensures.phase ∙ first.phase_is;
      passes = c.in-Err-enter_rows.ensures.passes o is p file
          (subst (IsDictionaryOf p) (sym copied)
          (second_of c.args.sys.now c.deref_mut.result.now first refl c.keeps_limits.ensures.some
          c.keeps_limits.ensures.narrow
          refl c.keeps_limits.ensures.few p file c.enter_rows.new.dict
          (c.in_default-enter_rows.ensures.entered p file)));
    }

pub returns-in-Ok-with_room-clause-begun : goal.returns-in-Ok-with_room-clause-begun
returns-in-Ok-with_room-clause-begun c p file =
    let at = c.enter_rows.new.dict in
    let last = c.enter_rows-2.new.dict in
    let room = c.in-Ok-with_room.ensures in
    let begun = c.in-Ok-with_room.begun in
    let first = subst (IsCoordinateDictionary c.args.sys.now Cone) (sym c.deref_mut.ensures.value) c.in-Ok.ensures in
    let copied = c.deref_mut-2.ensures.value ∙ c.in-Ok-copy_of.ensures ∙ c.deref.ensures in
    subst (λ d. IsBegun p d begun.last.value begun.free) (sym (ap (λ b. b.value) room.dict))
    (subst (λ d. IsBegun p at d begun.free) (sym (ap (λ b. b.value) room.last))
    (is_begun c.args.sys.now c.deref_mut.result.now first refl c.keeps_limits.ensures.some c.keeps_limits.ensures.narrow
    refl c.keeps_limits.ensures.few p file at last begun.free
    (c.in_default-enter_rows.ensures.entered p file)
    (subst (λ d. TriesAll c.args.sys.now p Others d last) copied
    (c.in_default-enter_rows-2.ensures.entered p file))
    c.enter_rows.ensures.phase
    (λ k m l. subst (λ d. Contains d.key k) copied (c.enter_rows-2.ensures.fewer k m l))
    room.ascending room.columns))

pub returns-in-Ok-with_room-clause-room : goal.returns-in-Ok-with_room-clause-room
returns-in-Ok-with_room-clause-room c =
    let at = c.enter_rows.new.dict in
    let begun = c.in-Ok-with_room.begun in
    let room = c.in-Ok-with_room.ensures in
    let first = subst (IsCoordinateDictionary c.args.sys.now Cone) (sym c.deref_mut.ensures.value) c.in-Ok.ensures in
    subst (λ d. HasRoomForAll c.args.sys.now begun.free d begun.room.deeper.items begun.room.vector.items)
    (sym (ap (λ b. b.value) room.dict))
    (record {
      room = record {
        rows = λ i a b. subst (λ ks. Contains ks i) (sym c.enter_rows.ensures.labels)
            (new_rows c.args.sys.now c.deref_mut.result.now first i a b);
        shapes = room.shapes;
        width = room.vector;
        some = c.keeps_limits.ensures.some;
        narrow = c.keeps_limits.ensures.narrow;
      };
      depth = room.depth;
    })
