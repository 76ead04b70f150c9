-- The laws of legal records.
use Rattle.std.proofs.Common.{[]}
use Rattle.poly_model.specs.Systems.{cone_of}
use Rattle.poly_model.specs.Extreme.{IsExtreme}
use Rattle.work_core.specs.Searches.{meaning_of}
use Rattle.work_core.proofs.FirstKeys.{first_key_has_all}
use Rattle.work_core.proofs.SubtreeShares.{shares_hold}
use Rattle.run_state.specs.Payloads.{first_keys, keys_of}
use Rattle.run_state.specs.Laws.{HonestKeysAreNew, LegalKeysLieSideBySide, LegalRecordsPart}
use Rattle.run_state.proofs.FileRows.{few_rows}
use Rattle.run_state.proofs.Followers.{follow_legal}
use Rattle.run_state.proofs.Partitions.{partition-first, partition-after}
use Rattle.run_state.proofs.SideBySide.{in_order-first, in_order-after, honest_fits}

pub legal_records_part : LegalRecordsPart
legal_records_part s replies payloads h =
    let few = few_rows s.polyhedron h.is_text.is_first.file in
    partition-after s (IsExtreme (cone_of s.polyhedron)) [] (first_keys s) replies
    (partition-first s (IsExtreme (cone_of s.polyhedron)) (meaning_of s).first_key (first_key_has_all s few h.root))
    (follow_legal s replies payloads h)

pub legal_keys_lie_side_by_side : LegalKeysLieSideBySide
legal_keys_lie_side_by_side s replies payloads h =
    let shares = shares_hold s h.root in
    (in_order-after s shares (first_keys s) replies (in_order-first s shares) (follow_legal s replies payloads h)).side_by_side

pub honest_keys_are_new : HonestKeysAreNew
honest_keys_are_new s replies payloads r h waits legal =
    let shares = shares_hold s h.root in
    honest_fits s shares (keys_of (first_keys s) replies)
    (in_order-after s shares (first_keys s) replies (in_order-first s shares) (follow_legal s replies payloads h)) r waits legal
