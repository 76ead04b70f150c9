-- The words of a command without words of its own: nothing but its name and one `--` is taken.
use Rattle.std.proofs.Common.{◌≡◌, ◌⊎◌, ◌∷◌, [], Bool, true, false, List, codes, refl, sym, ap, ap₂, ◌∙◌, subst, Option, Some, None, option_map, inl, inr}
use mathlib.Core.List.{cons≢nil}
use Rattle.std.specs.List.{fold}
use Rattle.std.specs.Str.{bytes_eq}
use Rattle.std.proofs.lemmas.Slice.Eq.{bytes_eq-Decides}
use Rattle.clap.specs.Words.{Row, Shape, Text, fault_of, subcommand_of}
use Rattle.clap.specs.Simple.{built_leaf, entered, inherited, names_of}
use Rattle.clap.specs.Walk.{Walk, after_step, idle, nothing_held, subcommand_met, walk_from, walked}
use Rattle.clap.specs.Faults.{entered_fault, level_fault}
use Rattle.clap.proofs.WalkLemmas.{walk_stopped}
use Rattle.clap.proofs.OnLiterals.{clap_on_literals}
use Rattle.command_line.specs.Laws.{ConvertIsExact, IsNameAlone, IsAskedAlone, JobIsExact}
use Rattle.command_line.specs.Lines.{AskFor, lrs_app, name_of, plain_app}
use Rattle.command_line.specs.declared.lines.Line.{Line}
use Rattle.command_line.specs.declared.lines.Line.TheVariants.{Convert, Job}
use Rattle.command_line.proofs.FaultlessLines.{faultless_passes, level_passes, program, stop_of}
use Rattle.command_line.proofs.FoundWords.{same_some}
use Rattle.command_line.proofs.KnownLines as known
use Rattle.command_line.proofs.WordlessCommands.{dashes, step_by, words_are_dashes}

abbrev convert : Text
convert = codes "convert"

abbrev job : Text
job = codes "job"

abbrev demo : Text
demo = codes "demo"

abbrev run : Text
run = codes "run"

abbrev resume : Text
resume = codes "resume"

abbrev status : Text
status = codes "status"

abbrev IsFaultless : List Text → Type 0
IsFaultless words = fault_of lrs_app words ≡ []

-- ---- the first word names the command

-- the name of the command that was entered
abbrev name_in : Option (Text × List Row) → Option Text
name_in = option_map (λ p. p.0)

-- the words ask for the command that the first of them names
abbrev FirstNames : Text → List Text → Type 0
FirstNames word rest = name_in (subcommand_of lrs_app (word ∷ rest)) ≡ Some word

-- where the walk stops after a word, by the command that the word names
abbrev stop_by : Text → List Text → Option Text → Option (Text × List Text)
stop_by word rest met = (fold (walked program.top.rules (names_of program))
    (after_step program.top.rules word (walk_from nothing_held) (step_by word met).0 (step_by word met).1) rest).stopped

module _ (name : Text) (met : subcommand_met (names_of program) idle name ≡ Some name) where
  -- at the name of a command the walk stops, and the words behind it are left to the command
  stop_at : (words : List Text) → stop_of (name ∷ words) ≡ Some (name, words)
  unfolding walked
  stop_at words = subst (λ m. stop_by name words m ≡ Some (name, words)) (sym met)
      (sym (ap (λ (w : Walk). w.stopped) (walk_stopped program.top.rules (names_of program) (walk_from nothing_held) name []
      words)))

  first_names : (word : Text) (words : List Text) → name_in (entered program (Some (name, words))) ≡ Some name →
      name ≡ word → FirstNames word words
  first_names word words named is_word =
      subst (λ w. FirstNames w words) is_word (ap (λ stop. name_in (entered program stop)) (stop_at words) ∙ named)

-- a first word that is the name of none names no command
unnamed : (word : Text) → bytes_eq convert word ≡ false → bytes_eq job word ≡ false → bytes_eq demo word ≡ false →
    bytes_eq run word ≡ false → bytes_eq resume word ≡ false → bytes_eq status word ≡ false →
    subcommand_met (names_of program) idle word ≡ None
unnamed word no_convert no_job no_demo no_run no_resume no_status =
    rw (no_convert, no_job, no_demo, no_run, no_resume, no_status) refl

-- no words, or `--` alone, name none
no_command : (words : List Text) → (words ≡ []) ⊎ (words ≡ dashes ∷ []) → IsFaultless words → ⊥
unfolding clap_on_literals
no_command words (inl none) faultless = cons≢nil (subst IsFaultless none faultless)
no_command words (inr alone) faultless = cons≢nil (subst IsFaultless alone faultless)

-- so words without a fault begin with the name of the command that they ask for
faultless_names : (word : Text) (rest : List Text) → IsFaultless (word ∷ rest) →
    (cs : Bool) → bytes_eq convert word ≡ cs → (js : Bool) → bytes_eq job word ≡ js →
    (ds : Bool) → bytes_eq demo word ≡ ds → (rs : Bool) → bytes_eq run word ≡ rs →
    (ms : Bool) → bytes_eq resume word ≡ ms → (ss : Bool) → bytes_eq status word ≡ ss → FirstNames word rest
faultless_names word rest faultless true c js j ds d rs r ms m ss s =
    first_names convert refl word rest refl ((bytes_eq-Decides convert word).0 c)
faultless_names word rest faultless false c true j ds d rs r ms m ss s =
    first_names job refl word rest refl ((bytes_eq-Decides job word).0 j)
faultless_names word rest faultless false c false j true d rs r ms m ss s =
    first_names demo refl word rest refl ((bytes_eq-Decides demo word).0 d)
faultless_names word rest faultless false c false j false d true r ms m ss s =
    first_names run refl word rest refl ((bytes_eq-Decides run word).0 r)
faultless_names word rest faultless false c false j false d false r true m ss s =
    first_names resume refl word rest refl ((bytes_eq-Decides resume word).0 m)
faultless_names word rest faultless false c false j false d false r false m true s =
    first_names status refl word rest refl ((bytes_eq-Decides status word).0 s)
faultless_names word rest faultless false c false j false d false r false m false s =
    let both = words_are_dashes program.top (names_of program) word rest (unnamed word c j d r m s)
    (faultless_passes (word ∷ rest) faultless).walked in
    absurd (no_command (word ∷ rest) (inr (ap₂ (λ (x : Text) (xs : List Text). x ∷ xs) both.0 both.1)) faultless)

-- it is the name of a command
first_is_name : (word : Text) (rest : List Text) → IsFaultless (word ∷ rest) → FirstNames word rest
first_is_name word rest faultless =
    faultless_names word rest faultless (bytes_eq convert word) refl (bytes_eq job word) refl (bytes_eq demo word) refl
    (bytes_eq run word) refl (bytes_eq resume word) refl (bytes_eq status word) refl

-- ---- a command without words of its own

-- such a command as it is built
abbrev leaf : Text → Shape
leaf name = built_leaf (inherited program.top (plain_app name).top)

-- the program has such a command with this name
record IsWordless (name : Text) : Type 0 where
  met : subcommand_met (names_of program) idle name ≡ Some name
  below : (words : List Text) →
      entered_fault program (Some (name, words)) ≡ level_fault (leaf name) [] nothing_held words false []

-- it takes no word, but for one `--`
words_of : (name : Text) (words : List Text) → level_fault (leaf name) [] nothing_held words false [] ≡ [] →
    (words ≡ []) ⊎ (words ≡ dashes ∷ [])
words_of name [] none = inl refl
words_of name (word ∷ rest) none =
    let passes = level_passes (leaf name) [] nothing_held (word ∷ rest) false [] none in
    let both = words_are_dashes (leaf name) [] word rest refl passes.walked in
    inr (ap₂ (λ (x : Text) (xs : List Text). x ∷ xs) both.0 both.1)

behind_name : (name : Text) → IsWordless name → (words : List Text) → IsFaultless (name ∷ words) →
    IsNameAlone name (name ∷ words)
behind_name name is words faultless =
    let below = (faultless_passes (name ∷ words) faultless).entered in
    let taken = words_of name words (sym (is.below words)
    ∙ subst (λ stop. entered_fault program stop ≡ []) (stop_at name is.met words) below) in
    elim taken [
      | inl none ↦ inl (ap (λ (xs : List Text). name ∷ xs) none)
      | inr one ↦ inr (ap (λ (xs : List Text). name ∷ xs) one)
    ]

-- what asks for its line is its name, or its name and `--`
alone_words : (line : Line) → IsWordless (name_of line) → (words : List Text) → AskFor words line →
    IsNameAlone (name_of line) words
alone_words line is [] asked = absurd (no_command [] (inl refl) asked.faultless)
alone_words line is (word ∷ rest) asked =
    let names = first_is_name word rest asked.faultless in
    let is_name : name_of line ≡ word = same_some (name_of line) word (sym (ap name_in asked.command) ∙ names) in
    subst (λ w. IsFaultless (w ∷ rest) → IsNameAlone (name_of line) (w ∷ rest)) is_name
    (behind_name (name_of line) is rest) asked.faultless

-- and these ask for it, where they do so written out
alone_is_line : (line : Line) → AskFor (name_of line ∷ []) line → AskFor (name_of line ∷ dashes ∷ []) line →
    (words : List Text) → IsNameAlone (name_of line) words → AskFor words line
alone_is_line line alone marked words (inl is) = subst (λ ws. AskFor ws line) (sym is) alone
alone_is_line line alone marked words (inr is) = subst (λ ws. AskFor ws line) (sym is) marked

asked_alone : (line : Line) → IsWordless (name_of line) → AskFor (name_of line ∷ []) line →
    AskFor (name_of line ∷ dashes ∷ []) line → IsAskedAlone line
asked_alone line is alone marked words = (alone_words line is words, alone_is_line line alone marked words)

-- ---- these commands

pub convert_alone : ConvertIsExact
convert_alone =
    asked_alone Convert (record { met = refl; below = λ words. refl }) known.convert known.convert_dashes

pub job_alone : JobIsExact
job_alone = asked_alone Job (record { met = refl; below = λ words. refl }) known.job known.job_dashes
