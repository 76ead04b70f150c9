-- Where nothing fails and no product passes, a listing ends.
use Rattle.std.specs.Prelude.{Result}
use Rattle.std.proofs.Common.{◌≡◌, ℕ, List, Option, Some, None, Ok, Err, refl, sym, subst, ◌∙◌}
use Rattle.poly_model.specs.declared.overflow.Overflow.{Overflow as Passed}
use Rattle.poly_model.specs.Systems.{Polyhedron}
use Rattle.poly_reader.specs.declared.bad.BadFile.{BadFile as Fault}
use Rattle.poly_reader.specs.Reading.{reading}
use Rattle.convert_core.specs.Listed.{IsDueInSearch}
use Rattle.disk_core.specs.Contents.{Told}
use Rattle.lrs_cli.specs.declared.status.Status.{Status}
use Rattle.lrs_cli.specs.declared.status.Status.TheVariants.{Done, Usage, BadFile, BadJob, Infeasible, Overflow, ReadFault, WriteFault, DiskFault, Lost, NoRun, HasRun, BadLedger, LedgerLimit, OutOfMemory}
use Rattle.lrs_cli.specs.Answers.{Describes, Knows, HasNoObstacle, IsBadFile, HasOverflow, ComesOfFile, ComesOfPolyhedron, Ends}

same_ok : (p q : Polyhedron) → ◌≡◌ {A = Result Polyhedron Fault} (Ok p) (Ok q) → p ≡ q
same_ok p q e = cc

not_both : (p : Polyhedron) (f : Fault) → ◌≡◌ {A = Result Polyhedron Fault} (Ok p) (Err f) → ⊥
not_both p f e = cc

-- a text describes one polyhedron
same_polyhedron : (text : List ℕ) (p q : Polyhedron) → reading text ≡ Ok p → reading text ≡ Ok q → p ≡ q
same_polyhedron text p q a b = same_ok p q (sym a ∙ b)

pub not_bad : (P : Polyhedron → Type 0) (source : Option (List ℕ)) → Knows source (Describes P) → (f : Fault) → Told source (IsBadFile f) → ⊥
not_bad P None k f t = k
not_bad P (Some text) k f t = not_both k.polyhedron f (sym k.read ∙ t text refl)

-- what is known of the polyhedron of a text, and what is told of it, is of one polyhedron
pub of_one : (P Q : Polyhedron → Type 0) (source : Option (List ℕ)) → Knows source (Describes P) → Told source (Describes Q) → (p : Polyhedron) × P p × Q p
of_one P Q None k t = absurd k
of_one P Q (Some text) k t =
    let q = t text refl in
    (k.polyhedron, k.holds, subst Q (same_polyhedron text q.polyhedron k.polyhedron q.read k.read) q.holds)

not_overflow : (source : Option (List ℕ)) → Knows source HasNoObstacle → (o : Passed) → Told source (HasOverflow o) → ⊥
not_overflow source k o t =
    let one = of_one (λ p. (o : Passed) → IsDueInSearch p o → ⊥) (λ p. IsDueInSearch p o) source k t in
    one.1 o one.2

-- of a polyhedron's answers those are left that end
module _ (source : Option (List ℕ)) (known : Knows source HasNoObstacle) where
  pub ends : (s : Status) → ComesOfPolyhedron s → (s ≡ WriteFault → ⊥) →
      ((o : Passed) → s ≡ Overflow o → Told source (HasOverflow o)) → Ends s
  ends (Done rows lines) l w d = tt
  ends Infeasible l w d = tt
  ends OutOfMemory l w d = tt
  ends (Overflow o) l w d = absurd (not_overflow source known o (d o refl))
  ends WriteFault l w d = absurd (w refl)
  ends Usage l w d = absurd l
  ends (BadFile x) l w d = absurd l
  ends (BadJob place) l w d = absurd l
  ends ReadFault l w d = absurd l
  ends DiskFault l w d = absurd l
  ends (Lost lost strays) l w d = absurd l
  ends NoRun l w d = absurd l
  ends HasRun l w d = absurd l
  ends (BadLedger place) l w d = absurd l
  ends (LedgerLimit need limit) l w d = absurd l

-- the answers to a polyhedron are answers to its file
pub of_file : (s : Status) → ComesOfPolyhedron s → ComesOfFile s
of_file (Done rows lines) l = tt
of_file Infeasible l = tt
of_file (Overflow o) l = tt
of_file WriteFault l = tt
of_file OutOfMemory l = tt
of_file Usage l = absurd l
of_file (BadFile f) l = absurd l
of_file (BadJob place) l = absurd l
of_file ReadFault l = absurd l
of_file DiskFault l = absurd l
of_file (Lost lost strays) l = absurd l
of_file NoRun l = absurd l
of_file HasRun l = absurd l
of_file (BadLedger place) l = absurd l
of_file (LedgerLimit need limit) l = absurd l
