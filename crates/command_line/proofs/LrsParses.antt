-- What a parse by a command that is this program's says, since its app is simple.
use Rattle.std.proofs.Common.{◌≡◌, [], List, ap, subst, ◌∙◌, inl, inr, Err, true, IsErrOf}
use Rattle.clap.specs.Words.{App, HasKind, HasMatchesOf, Kinds, Text, fault_of, is_simple, is_simple_and_free}
use Rattle.clap.specs.Words.{kind_of, subcommand_of, subcommand_rows_of}
use Rattle.clap.specs.declared.error.Error.{Error}
use Rattle.clap.specs.declared.error.kind.ErrorKind.TheVariants.{OutOfMemory}
use Rattle.clap.specs.declared.parser.matches.ArgMatches.{ArgMatches}
use Rattle.command_line.specs.Lines.{lrs_app}
use Rattle.command_line.specs.declared.lines.LineStop.{LineStop}
use Rattle.command_line.specs.declared.lines.LineStop.TheVariants.{Usage, Memory}

module _ (app : App) (is_lrs : app ≡ lrs_app) (words : List Text) where
  pub no_fault : (is_simple_and_free app ≡ true → fault_of app words ≡ []) → fault_of lrs_app words ≡ []
  no_fault none = subst (λ a. fault_of a words ≡ []) is_lrs (none (ap is_simple_and_free is_lrs))

  pub rows_found : (m : ArgMatches) → HasMatchesOf app words m → subcommand_rows_of m ≡ subcommand_of lrs_app words
  rows_found m has = (has (ap is_simple is_lrs)).1 ∙ ap (λ a. subcommand_of a words) is_lrs

  pub has_kind : (e : Error) → (is_simple_and_free app ≡ true → HasKind (fault_of app words) e) →
      HasKind (fault_of lrs_app words) e
  has_kind e has = subst (λ a. HasKind (fault_of a words) e) is_lrs (has (ap is_simple_and_free is_lrs))

usage_no_memory : {T : Type 0} (stop : LineStop) → IsErrOf {T = T} (Err stop) Usage → stop ≡ Memory → ⊥
usage_no_memory stop usage memory = absurd (cc)

-- where there is no fault the error is want of memory, and the answer is not `Usage`
pub faulty : {T : Type 0} (stop : LineStop) (e : Error) (kinds : Kinds) → (kind_of e ≡ OutOfMemory → stop ≡ Memory) →
    HasKind kinds e → IsErrOf {T = T} (Err stop) Usage → kinds ≡ [] → ⊥
faulty {T = T} stop e kinds memory has usage none = elim (subst (λ ks. HasKind ks e) none has) [
  | inl out ↦ usage_no_memory {T = T} stop usage (memory out)
  | inr bad ↦ absurd bad
]
