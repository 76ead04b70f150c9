-- What a call that runs a work has printed and left, where its workers are honest and its records were legal.
use Rattle.std.specs.Prelude.{◌≡◌, ℕ, List, [], ◌∷◌, ◌++◌, Option, Some, None}
use Rattle.poly_model.specs.declared.listed.Listed.{Listed}
use Rattle.poly_model.specs.declared.overflow.Overflow.{Overflow as Passed}
use Rattle.poly_model.specs.Overflows.{Passes}
use Rattle.poly_model.specs.Systems.{cone_of}
use Rattle.poly_model.specs.Extreme.{IsFeasible}
use Rattle.row_printer.specs.Listings.{IsCountedListing}
use Rattle.work_core.specs.Searches.{MayBegin, Search}
use Rattle.job_text.specs.declared.reply.Reply.{Reply}
use Rattle.job_text.specs.FirstPayloads.{IsFirstPayload, first_payload}
use Rattle.job_text.specs.Rule.{IsReplyFor}
use Rattle.job_ledger.specs.Records.{Records}
use Rattle.run_state.specs.Payloads.{AreShort, IsLedgerText}
use Rattle.run_state.specs.Legal.{AreLegal, IsLegal}
use Rattle.workers_io.specs.History.{Happening, IsHonest}
use Rattle.coordinator_core.specs.declared.options.Options.{Options}
use Rattle.coordinator_core.specs.Machine.{AreOptions}
use Rattle.coordinator_laws.specs.Answered.{AreAnswered}
use Rattle.run_ledger.specs.Printing.{IsCountedRunListing}
use Rattle.coordinator.specs.Calls.{state_after}
use Rattle.coordinator.specs.Following.{EndsBy, Finishes, GivesUp, LeadsSomewhere}
use Rattle.coordinator.specs.Leaving.{HasFront}

-- the records of a file are a ledger text
pub record IsLedgerFile (file : List ℕ) : Type 0 where
  pub payloads : List (List ℕ)
  pub has : Records payloads file
  pub search : Search
  pub replies : List Reply
  pub is_text : IsLedgerText search replies payloads

-- a history is told, and each reply in it begins one that the rule of replies allows for the text of its start
abbrev pub TellsHonestly : Option (List Happening) → Type 0
TellsHonestly None = ⊥
TellsHonestly (Some happenings) = IsHonest IsReplyFor [] happenings

-- a call that goes on from legal records under honest workers, told up to there
pub record IsHonestCall (options : Options) (s : Search) (replies : List Reply) (payloads : List (List ℕ)) (told : Option (List Happening)) : Type 0 where
  pub in_range : AreOptions options
  pub legal : AreLegal s replies payloads
  pub honest : TellsHonestly told

-- where such a call is ended by an overflow that a reply tells, a product passes
abbrev pub OverflowsPass : Type 0
OverflowsPass =
    (options : Options) (s : Search) (replies : List Reply) (payloads texts : List (List ℕ)) (old new : Option (List Happening)) (o : Passed) →
    IsHonestCall options s replies payloads new → EndsBy (state_after options s replies) o old new texts → Passes s.polyhedron o

-- the workers tell all that they did in a call, and each attempt was answered in full
pub record TellsFullAnswers (old new : Option (List Happening)) : Type 0 where
  pub before : List Happening
  pub happenings : List Happening
  pub at_entry : old ≡ Some before
  pub at_exit : new ≡ Some (before ++ happenings)
  pub answered : AreAnswered [] happenings

-- a call that goes on from legal records, with such workers
pub record IsAnsweredCall (options : Options) (s : Search) (replies : List Reply) (payloads : List (List ℕ)) (old new : Option (List Happening)) : Type 0 where
  pub in_range : AreOptions options
  pub legal : AreLegal s replies payloads
  pub answered : TellsFullAnswers old new

-- such a call does not give up
abbrev pub AnsweredCallsGoOn : Type 0
AnsweredCallsGoOn =
    (options : Options) (s : Search) (replies : List Reply) (payloads texts : List (List ℕ)) (old new : Option (List Happening)) (lost strays : ℕ) →
    IsAnsweredCall options s replies payloads old new → GivesUp (state_after options s replies) lost strays old new texts → ⊥

-- and where it is ended by an overflow that a reply tells, a product passes
abbrev pub AnsweredOverflowsPass : Type 0
AnsweredOverflowsPass =
    (options : Options) (s : Search) (replies : List Reply) (payloads texts : List (List ℕ)) (old new : Option (List Happening)) (o : Passed) →
    IsAnsweredCall options s replies payloads old new → EndsBy (state_after options s replies) o old new texts → Passes s.polyhedron o

-- where a call under honest workers finishes, what its records list is the listing of the polyhedron
abbrev pub FinishedCallsList : Type 0
FinishedCallsList =
    (options : Options) (s : Search) (replies : List Reply) (payloads texts : List (List ℕ)) (old new : Option (List Happening)) →
    IsHonestCall options s replies payloads new → Finishes (state_after options s replies) old new texts → AreShort (payloads ++ texts) →
    (recorded : List Reply) (text : List ℕ) (listed : Listed) → IsLedgerText s recorded (payloads ++ texts) →
    IsCountedRunListing s recorded text listed → IsCountedListing s.polyhedron text listed

-- wherever such a call stops, a file that has its records and some first ones of what it accepted has legal records
abbrev pub FrontsStayLegal : Type 0
FrontsStayLegal =
    (options : Options) (s : Search) (replies : List Reply) (payloads texts : List (List ℕ)) (old new : Option (List Happening)) →
    IsHonestCall options s replies payloads new → LeadsSomewhere (state_after options s replies) old new texts →
    (file : List ℕ) → HasFront payloads texts file → (more : List (List ℕ)) × Records (payloads ++ more) file × IsLegal (payloads ++ more)

-- wherever a call stops, whatever its workers gave, a file that has its records and some first ones of what it accepted has
-- records that are a ledger text, if the records were one
abbrev pub FrontsStayText : Type 0
FrontsStayText =
    (options : Options) (s : Search) (replies : List Reply) (payloads texts : List (List ℕ)) (old new : Option (List Happening)) →
    IsLedgerText s replies payloads → LeadsSomewhere (state_after options s replies) old new texts →
    (file : List ℕ) → HasFront payloads texts file → IsLedgerFile file

-- the first record of a feasible polyhedron, at a root at which its search may begin, is legal
abbrev pub FirstRecordIsLegal : Type 0
FirstRecordIsLegal =
    (s : Search) → IsFirstPayload s (first_payload s) → IsFeasible (cone_of s.polyhedron) → MayBegin s → AreLegal s [] (first_payload s ∷ [])
