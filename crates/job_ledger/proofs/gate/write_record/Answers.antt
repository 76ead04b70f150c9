use Rattle.std.proofs.Common.{◌≤◌, ◌+◌, inl, ℕ, List, [], ◌∷◌, length, sym, subst}
use Rattle.disk_core.specs.Contents.{Holds, Torn}
use Rattle.disk_core.proofs.Moments.{joined, weaker}
use Rattle.std.proofs.lemmas.Result.{on_ok_weaker}
use Rattle.job_ledger.specs.Records.{RecordsOldOrNew}
use Rattle.job_ledger.proofs.CrashLemmas.{length-staged, long, torn_behind, torn_gate, written_behind, written_gate}
use Rattle.job_ledger.proofs.gate.write_record.Goals as goal

pub returns-in_err-write_synced-clause-moments : goal.returns-in_err-write_synced-clause-moments
returns-in_err-write_synced-clause-moments g c f told ps p stand short only is =
    let d = g.D.Disk in
    let a = c.args in
    weaker d.moment d.since a.disk.now c.write_synced.new.disk (Torn (a.end + 1) (length a.bytes.now) f) (RecordsOldOrNew ps p)
    (c.write_synced.ensures.moments f told (long ps f a.end stand) only) (λ e torn. inl (torn_behind ps f a.end stand _ e torn))

pub returns-clause-moments : goal.returns-clause-moments
returns-clause-moments g c f told ps p stand short only is =
    let d = g.D.Disk in
    let a = c.args in
    let first = c.write_synced.ensures.moments f told (long ps f a.end stand) only in
    let (mid, told_mid, holds, only_mid) = c.in_ok-write_synced.ensures.done f told (long ps f a.end stand) in
    let (rest, shape) = written_behind ps f a.end stand p a.bytes.now mid is holds in
    let within : a.end ≤ length mid = subst (λ (l : List ℕ). a.end ≤ length l) (sym shape) (length-staged ps p rest stand.has.gate a.end stand.place stand.has.short short) in
    let second = c.write_synced-2.ensures.moments mid told_mid within only_mid in
    joined d.moment d.since a.disk.now c.write_synced.new.disk c.write_synced-2.new.disk (Torn (a.end + 1) (length a.bytes.now) f) (Torn a.end 1 mid) (RecordsOldOrNew ps p)
    first second (λ e torn. inl (torn_behind ps f a.end stand _ e torn))
    (λ e torn. torn_gate ps p rest stand.has.gate a.end stand.place stand.has.short short e (subst (λ (l : List ℕ). Torn a.end 1 l e) shape torn))

pub returns-clause-kept : goal.returns-clause-kept
returns-clause-kept g c = on_ok_weaker c.write_synced-2.result (λ done f told ps p stand short is.
    let a = c.args in
    let (mid, told_mid, holds, only_mid) = c.in_ok-write_synced.ensures.done f told (long ps f a.end stand) in
    let (rest, shape) = written_behind ps f a.end stand p a.bytes.now mid is holds in
    let within : a.end ≤ length mid = subst (λ (l : List ℕ). a.end ≤ length l) (sym shape) (length-staged ps p rest stand.has.gate a.end stand.place stand.has.short short) in
    let (last, told_last, holds_last, only_last) = done mid told_mid within in
    (last, told_last, only_last, written_gate ps p rest stand.has.gate a.end stand.place stand.has.short short last (subst (λ (l : List ℕ). Holds l a.end (245 ∷ []) last) shape holds_last))) c.write_synced-2.ensures.done
