-- A command without words of its own takes no word but one `--`.
use Rattle.std.proofs.Common.{◌≡◌, ◌∷◌, [], ℕ, Bool, true, false, cond, List, codes, refl, subst, Option, Some, None, suc, zero, length}
use mathlib.Core.List.{cons≢nil}
use Rattle.std.specs.Prelude.{slice_get}
use Rattle.std.specs.Str.{bytes_eq, chars}
use Rattle.std.proofs.lemmas.Slice.Eq.{bytes_eq-Decides}
use Rattle.clap.specs.Lexer.{long_of, short_of}
use Rattle.clap.specs.Words.{Kinds, Shape, Text}
use Rattle.clap.specs.Walk.{Held, Names, Step, after_flag, after_step, bundle_met, bundle_step, idle, long_or_other, nothing_held, plain, short_or_plain, subcommand_met, subcommand_or_other, trailing, value, walk_from, walked}
use Rattle.clap.specs.Faults.{step_fault, stray_fault, turn_fault, walk_fault, word_fault}
use Rattle.command_line.proofs.FaultlessLines.{first_passes, next_passes}

-- a command like s that has no arguments
abbrev pub bare : Shape → Shape
bare s = record s { rules = [] }

abbrev pub dashes : Text
dashes = codes "--"

-- a bundle of short flags is no flag of it
bundle_is_value : (count : ℕ) (flags word : Text) (h after : Held)
    → (after_flag [] idle word after (bundle_met [] count flags 0 plain h).1).1 ≡ value
unfolding bundle_met
bundle_is_value zero flags word h after = refl
bundle_is_value (suc k) flags word h after = first (slice_get (chars flags) 0)
  where
    first : (c : Option ℕ)
        → (after_flag [] idle word after (bundle_step [] c flags 0 plain h (bundle_met [] k)).1).1 ≡ value
    first None = refl
    first (Some x) = refl

short_is_value : (word : Text) (flags : Option Text) → (short_or_plain [] idle word flags nothing_held).1 ≡ value
short_is_value word None = refl
short_is_value word (Some flags) = bundle_is_value (length flags) flags word nothing_held _

long_is_value : (word : Text) (long : Option (Text × Option Text))
    → (long_or_other [] idle word long nothing_held).1 ≡ value
long_is_value word None = short_is_value word (short_of word)
long_is_value word (Some p) = refl

-- a value is a stray word
value_is_stray : (s : Shape) (h : Held) (step : Step) → step ≡ value → step_fault (bare s) 1 h step ≡ [] → ⊥
value_is_stray s h step is_value none = go s.is_leaf (subst (λ x. step_fault (bare s) 1 h x ≡ []) is_value none)
  where
    go : (leaf : Bool) → stray_fault (record s { is_leaf = leaf }) ≡ [] → ⊥
    go true e = cons≢nil e
    go false e = cons≢nil e

-- what a first word is, by the command that it names
abbrev pub step_by : Text → Option Text → Held × Step
step_by word met = subcommand_or_other [] met idle 1 word nothing_held

-- what it is where it names none, by whether it is `--`
abbrev step_as : Text → Bool → Held × Step
step_as word is_dashes =
    cond is_dashes (nothing_held, trailing 1) (long_or_other [] idle word (long_of word) nothing_held)

-- clap finds no fault with that step
abbrev StepPasses : Shape → Held × Step → Type 0
StepPasses s step = step_fault (bare s) 1 step.0 step.1 ≡ []

passes_as_dashes : (s : Shape) (word : Text) (is_dashes : Bool) → StepPasses s (step_as word is_dashes)
    → is_dashes ≡ true
passes_as_dashes s word true none = refl
passes_as_dashes s word false none =
    let step = long_or_other [] idle word (long_of word) nothing_held in
    absurd (value_is_stray s step.0 step.1 (long_is_value word (long_of word)) none)

-- so a word that names no command is `--`
first_is_dashes : (s : Shape) (names : Names) (word : Text) → subcommand_met names idle word ≡ None
    → turn_fault (bare s) names (walk_from nothing_held) word ≡ [] → word ≡ dashes
first_is_dashes s names word unmet none =
    let met = step_by word (subcommand_met names idle word) in
    let passed : StepPasses s met = next_passes (word_fault (bare s) names false idle word nothing_held)
    (step_fault (bare s) 1 met.0 met.1) none in
    let unnamed : StepPasses s (step_by word None) = subst (λ m. StepPasses s (step_by word m)) unmet passed in
    (bytes_eq-Decides word dashes).0 (passes_as_dashes s word (bytes_eq word dashes) unnamed)

-- after `--` no word is taken
after_dashes : (s : Shape) (names : Names) (words : List Text) → subcommand_met names idle dashes ≡ None
    → walk_fault (bare s) names (walked [] names (walk_from nothing_held) dashes) words ≡ [] → words ≡ []
unfolding walk_fault walked
after_dashes s names [] unmet none = refl
after_dashes s names (word ∷ rest) unmet none =
    let walks : Option Text → Kinds = λ met. walk_fault (bare s) names
    (after_step [] dashes (walk_from nothing_held) (step_by dashes met).0 (step_by dashes met).1) (word ∷ rest) in
    let stands : walks None ≡ [] = subst (λ m. walks m ≡ []) unmet none in
    let turn = step_fault (bare s) 1 nothing_held value in
    absurd (value_is_stray s nothing_held value refl (first_passes turn _ stands))

-- so of words that name no command one `--` alone is taken
pub words_are_dashes : (s : Shape) (names : Names) (word : Text) (words : List Text)
    → subcommand_met names idle word ≡ None
    → walk_fault (bare s) names (walk_from nothing_held) (word ∷ words) ≡ [] → (word ≡ dashes) × (words ≡ [])
unfolding walk_fault
words_are_dashes s names word words unmet none =
    let turn = turn_fault (bare s) names (walk_from nothing_held) word in
    let after = walk_fault (bare s) names (walked [] names (walk_from nothing_held) word) words in
    let is_dashes = first_is_dashes s names word unmet (first_passes turn after none) in (
      is_dashes,
      after_dashes s names words (subst (λ w. subcommand_met names idle w ≡ None) is_dashes unmet)
          (subst (λ w. walk_fault (bare s) names (walked [] names (walk_from nothing_held) w) words ≡ []) is_dashes
          (next_passes turn after none)),
    )
