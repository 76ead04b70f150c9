use Rattle.std.proofs.Common.{rules, ◌⊎◌, inl, inr, ℕ, List, [], ◌∷◌, length, refl, subst}
use Rattle.disk_core.proofs.Moments.{joined}
use Rattle.job_ledger.specs.Ledgers.{IsPastLimit, Known, new_ledger}
use Rattle.job_ledger.specs.Records.{HasNoRun, Records}
use Rattle.job_ledger.proofs.LedgerLemmas.{is_at_more}
use Rattle.job_ledger.proofs.ledger.Ledger.create.Goals as goal

pub returns-in_err-bytes-clause-past : goal.returns-in_err-bytes-clause-past
returns-in_err-bytes-clause-past g c need most is = (
  subst (λ (l : Known). IsPastLimit l (length c.args.payload.now) need most) c.empty-ledger.ensures (c.in_err-bytes.ensures.past need most (search rules)),
  λ f told. (c.in_ok-size.ensures.none f told).1,
)

-- no run yet, or the one record
abbrev IsCreated : List ℕ → List ℕ → Type 0
IsCreated p e = HasNoRun e ⊎ Records (p ∷ []) e

pub returns-in_err-write_first-clause-moments : goal.returns-in_err-write_first-clause-moments
returns-in_err-write_first-clause-moments g c f told =
    let d = g.D.Disk in let p = c.args.payload.now in
    let (size, none) = c.in_ok-size.ensures.none f told in let (now, only) = c.in_ok-size.ensures.same f told in
    joined d.moment d.since c.args.disk.now c.without_run.new.disk c.write_first.new.disk (d.images c.args.disk.now)
    (IsCreated p) (λ e. d.images c.args.disk.now e ⊎ IsCreated p e) c.in_ok-size.ensures.leaves
    (c.write_first.ensures.moments f now p size none c.in_ok-bytes.ensures.short only (search rules)) (λ e. inl) (λ e. inr)

pub returns-clause-moments : goal.returns-clause-moments
returns-clause-moments g c f told =
    let d = g.D.Disk in let p = c.args.payload.now in
    let (size, none) = c.in_ok-size.ensures.none f told in let (now, only) = c.in_ok-size.ensures.same f told in
    joined d.moment d.since c.args.disk.now c.without_run.new.disk c.write_first.new.disk (d.images c.args.disk.now)
    (IsCreated p) (λ e. d.images c.args.disk.now e ⊎ IsCreated p e) c.in_ok-size.ensures.leaves
    (c.write_first.ensures.moments f now p size none c.in_ok-bytes.ensures.short only (search rules)) (λ e. inl) (λ e. inr)

pub returns-clause-kept : goal.returns-clause-kept
returns-clause-kept g c f told =
    let p = c.args.payload.now in
    let (size, none) = c.in_ok-size.ensures.none f told in
    let (now, only) = c.in_ok-size.ensures.same f told in
    let (file, told_last, only_last, has) = c.in_ok-write_first.ensures.kept f now p size none c.in_ok-bytes.ensures.short only (search rules) in
    is_at_more (new_ledger c.args.limit) c.grow.new.self [] p file _ _ refl (search rules) told_last only_last has

pub returns-clause-fresh : goal.returns-clause-fresh
returns-clause-fresh g c f told = (c.in_ok-size.ensures.none f told).1
