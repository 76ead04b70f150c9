-- What follows from the definitions of records.
use Rattle.std.specs.Prelude.{ℕ, List}
use Rattle.std.specs.List.{Contains}
use Rattle.poly_model.specs.Systems.{cone_of}
use Rattle.poly_model.specs.Extreme.{IsExtreme}
use Rattle.search_laws.specs.Partitions.{Partition}
use Rattle.work_core.specs.Searches.{Search, meaning_of}
use Rattle.job_text.specs.declared.reply.Reply.{Reply}
use Rattle.run_state.specs.Payloads.{AreShort, FitsIn, HaveOneMeaning, first_keys, keys_of}
use Rattle.run_state.specs.Runs.{recorded_rows}
use Rattle.run_state.specs.Legal.{AreLegal, AreSideBySide, IsLegalReply}

-- after legal records the recorded rows and the shares of the waiting keys are the extreme vectors, each in one place
abbrev pub LegalRecordsPart : Type 0
LegalRecordsPart =
    (s : Search) (replies : List Reply) (payloads : List (List ℕ)) → AreLegal s replies payloads →
    Partition (IsExtreme (cone_of s.polyhedron)) (meaning_of s).in_share (recorded_rows replies)
    (keys_of (first_keys s) replies).waiting

-- and the keys lie side by side
abbrev pub LegalKeysLieSideBySide : Type 0
LegalKeysLieSideBySide =
    (s : Search) (replies : List Reply) (payloads : List (List ℕ)) → AreLegal s replies payloads →
    AreSideBySide s (keys_of (first_keys s) replies)

-- so a reply that parts the share of a waiting key gives back new keys alone: honest workers cause no clash
abbrev pub HonestKeysAreNew : Type 0
HonestKeysAreNew =
    (s : Search) (replies : List Reply) (payloads : List (List ℕ)) (r : Reply) → AreLegal s replies payloads →
    Contains (keys_of (first_keys s) replies).waiting r.key → IsLegalReply s r →
    FitsIn (keys_of (first_keys s) replies) r

-- payloads of fewer than 2^64 bytes each have one meaning
abbrev pub PayloadsHaveOneMeaning : Type 0
PayloadsHaveOneMeaning = (payloads : List (List ℕ)) → AreShort payloads → HaveOneMeaning payloads
