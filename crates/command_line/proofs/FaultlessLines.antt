-- Words with which clap finds no fault: no step of its walk over them fails.
use Rattle.std.proofs.Common.{◌≡◌, ◌∷◌, [], Bool, List, refl, Option, is_some}
use mathlib.Core.List.{cons≢nil}
use Rattle.clap.specs.Words.{App, Kinds, Shape, Text, fault_of}
use Rattle.clap.specs.Simple.{built, entered, names_of}
use Rattle.clap.specs.Walk.{Held, Names, finished, nothing_held, settled, stop_after, walk, walk_from}
use Rattle.clap.specs.Faults.{check_fault, defaults_fault, entered_fault, level_fault, settle_fault, walk_fault}
use Rattle.clap.specs.Kinds.{or_else}
use Rattle.command_line.specs.Lines.{lrs_app}

-- where no step fails, each of two does not
pub first_passes : (a b : Kinds) → or_else a b ≡ [] → a ≡ []
first_passes [] b none = refl
first_passes (k ∷ a) b none = absurd (cons≢nil none)

pub next_passes : (a b : Kinds) → or_else a b ≡ [] → b ≡ []
next_passes [] b none = none
next_passes (k ∷ a) b none = absurd (cons≢nil none)

-- no step of a level fails: the walk over its words, what is below it, its checks at the end
pub record Passes (s : Shape) (names : Names) (h : Held) (words : List Text) (is_met : Bool) (below : Kinds)
    : Type 0 where
  pub walked : walk_fault s names (walk_from h) words ≡ []
  pub entered : below ≡ []
  pub checked : check_fault s (finished s.rules (walk s.rules names h words).held) is_met ≡ []

pub level_passes : (s : Shape) (names : Names) (h : Held) (words : List Text) (is_met : Bool) (below : Kinds)
    → level_fault s names h words is_met below ≡ [] → Passes s names h words is_met below
level_passes s names h words is_met below none =
    let end = (walk s.rules names h words).held in
    let checks = check_fault s (finished s.rules end) is_met in
    let defaults = defaults_fault (settled s.rules end).rows s.rules in
    let settles = settle_fault s.rules s.args_override_self end in
    let walks = walk_fault s names (walk_from h) words in
    let past_walk = next_passes walks (or_else below (or_else settles (or_else defaults checks))) none in
    let past_below = next_passes below (or_else settles (or_else defaults checks)) past_walk in
    record {
      walked = first_passes walks (or_else below (or_else settles (or_else defaults checks))) none;
      entered = first_passes below (or_else settles (or_else defaults checks)) past_walk;
      checked = next_passes defaults checks (next_passes settles (or_else defaults checks) past_below);
    }

-- ---- the top level of this program

abbrev pub program : App
program = built lrs_app

-- where the walk over the words ends, and the command at which it stops with the words after it
abbrev pub end_of : List Text → Held
end_of words = (walk program.top.rules (names_of program) nothing_held words).held

abbrev pub stop_of : List Text → Option (Text × List Text)
stop_of words = stop_after program.top.rules (names_of program) words

abbrev pub is_met : List Text → Bool
is_met words = is_some (entered program (stop_of words))

pub faultless_passes : (words : List Text) → fault_of lrs_app words ≡ []
    → Passes program.top (names_of program) nothing_held words (is_met words) (entered_fault program (stop_of words))
faultless_passes words faultless = level_passes program.top (names_of program) nothing_held words (is_met words)
    (entered_fault program (stop_of words)) faultless
