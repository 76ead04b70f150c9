-- What an answer of a call in a ledger says, carried over: to the ledger as it was before it was attached, or to the sink below
-- a buffer.
use Rattle.std.proofs.Common.{ℕ}
use Rattle.poly_model.specs.declared.overflow.Overflow.{Overflow as Passed}
use Rattle.lrs_cli.specs.declared.status.Status.{Status}
use Rattle.lrs_cli.specs.declared.status.Status.TheVariants.{Done, Usage, BadFile, BadJob, Infeasible, Overflow, ReadFault, WriteFault, DiskFault, Lost, NoRun, HasRun, BadLedger, LedgerLimit, OutOfMemory}
use Rattle.lrs_cli.specs.Ledgers.{EndsAs, LedgerEnds}

-- what each answer says in the one way it says in the other
pub record Carries (one other : LedgerEnds) : Type 0 where
  pub done : (n m : ℕ) → one.done n m → other.done n m
  pub lost : (n m : ℕ) → one.lost n m → other.lost n m
  pub overflow : (o : Passed) → one.overflow o → other.overflow o
  pub infeasible : one.infeasible → other.infeasible
  pub no_run : one.no_run → other.no_run
  pub has_run : one.has_run → other.has_run
  pub bad_ledger : (n : ℕ) → one.bad_ledger n → other.bad_ledger n
  pub ledger_limit : (n m : ℕ) → one.ledger_limit n m → other.ledger_limit n m

pub carried : (one other : LedgerEnds) → Carries one other → (answer : Status) → EndsAs one answer → EndsAs other answer
carried one other c (Done rows lines) e = c.done rows lines e
carried one other c (Lost lost strays) e = c.lost lost strays e
carried one other c (Overflow o) e = c.overflow o e
carried one other c Infeasible e = c.infeasible e
carried one other c NoRun e = c.no_run e
carried one other c HasRun e = c.has_run e
carried one other c (BadLedger place) e = c.bad_ledger place e
carried one other c (LedgerLimit need most) e = c.ledger_limit need most e
carried one other c DiskFault e = tt
carried one other c WriteFault e = tt
carried one other c OutOfMemory e = tt
carried one other c Usage e = e
carried one other c (BadFile f) e = e
carried one other c (BadJob place) e = e
carried one other c ReadFault e = e
