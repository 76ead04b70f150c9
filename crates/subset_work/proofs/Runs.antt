-- From what a walk under the key of a job has written to a run of the work.
use Rattle.std.proofs.Common.{◌≡◌, ◌↔◌, ap₂, ℕ, ◌+◌, ◌≤◌, ◌<◌, List, [], length, Option, Some, None, Result, Ok, Err, ok_or, sym, ap, subst, ◌∙◌, arith}
use Rattle.std.specs.List.{Contains}
use Rattle.std.specs.Prelude.{IfOk, IfSome, OnErr, IsErrOf}
use Rattle.std.proofs.lemmas.List.Elements.{All-contains}
use Rattle.poly_model.specs.declared.kind.WorkKind.TheVariants.{Subsets}
use Rattle.poly_model.specs.declared.listed.Count.{Count}
use Rattle.poly_model.specs.Keys.{IsKey}
use Rattle.poly_model.specs.Limits.{most_labels}
use Rattle.poly_model.specs.Systems.{System, Polyhedron, row_of}
use Rattle.work_core.specs.declared.budget.Budget.{Budget}
use Rattle.work_core.specs.declared.stops.WorkStop.{WorkStop}
use Rattle.poly_model.specs.declared.overflow.Overflow.{Overflow}
use Rattle.subset_work.specs.declared.stop.SubsetStop.{SubsetStop}
use Rattle.subset_work.specs.declared.stop.SubsetStop.TheVariants.{Overflow as Passes}
use Rattle.work_core.specs.Meanings.{Meaning}
use Rattle.work_core.specs.Splits.{most_depth, IsBudget}
use Rattle.work_core.specs.Subsets.{plain_labels, IsSubsetKey, IsReducedDimension}
use Rattle.work_core.specs.Searches.{Search, by_subsets, meaning_of}
use Rattle.work_core.specs.ReplyLines.{IsWholeRun, IsCutRun, IsTornRun}
use Rattle.work_core.proofs.SubsetShares.{is_key}
use Rattle.work_core.proofs.Dimensions.{some_dimension}
use Rattle.subset_work.specs.Made.{BySubsets, IsBySubsets}
use Rattle.subset_work.specs.Counts.{CountsOn}
use Rattle.subset_work.specs.Standing.{IsPlainRow}
use Rattle.subset_work.specs.Walked.{WalksUnder}
use Rattle.subset_work.proofs.Outcomes.{subset_search, whole_run}
use Rattle.subset_work.proofs.ListTree.{is_plain, plain_label}
use Rattle.subset_work.proofs.Descents.{left_is_dimension}

-- ---- what a walk answers, where the trail has why it stopped
pub walks_from : (p : Polyhedron) (key at : List ℕ) (most longest : ℕ) (old new : Option (List ℕ)) (c : Count) (x : Option Count)
    (stop : WorkStop) (result : Result Count WorkStop) → at ≡ key → result ≡ ok_or x stop →
    WalksUnder p at most longest old new c (ok_or x stop) → WalksUnder p key most longest old new c result
walks_from p key at most longest old new c x stop result same is w =
    subst (λ ks. WalksUnder p ks most longest old new c result) same
    (subst (λ (r : Result Count WorkStop). WalksUnder p at most longest old new c r) (sym is) w)

counts : (most : ℕ) (c : Count) (x : Option Count) (stop : WorkStop) → IfSome x (CountsOn most c) →
    IfOk (ok_or x stop) (CountsOn most c)
counts most c (Some d) stop h = h
counts most c None stop h = tt

pub counts_from : (most : ℕ) (c : Count) (x : Option Count) (stop : WorkStop) (result : Result Count WorkStop) →
    result ≡ ok_or x stop → IfSome x (CountsOn most c) → IfOk result (CountsOn most c)
counts_from most c x stop result is h =
    subst (λ (r : Result Count WorkStop). IfOk r (CountsOn most c)) (sym is) (counts most c x stop h)

pub same_search : (s : Search) → s.work ≡ Subsets → s.root ≡ [] → s ≡ subset_search s.polyhedron
same_search s e f = ap₂ (λ w r. record { work = w; polyhedron = s.polyhedron; root = r }) e f

-- for each search of which the work is
pub run_is : (w : BySubsets) (s : Search) → IsBySubsets w s → w.sys.n ≤ most_labels → (key : List ℕ) (budget : Budget) →
    IsBudget budget → (most longest : ℕ) → most ≡ budget.bases → (0 < budget.depth → longest ≡ length key + budget.depth) →
    (budget.depth ≡ 0 → most_depth < longest) → (old new : Option (List ℕ)) (c d : Count) → c.rows ≡ 0 → c.jobs ≡ 0 →
    c.bases ≡ 0 → Meaning.is_key (meaning_of s) key → WalksUnder s.polyhedron key most longest old new c (Ok d) →
    IsWholeRun (meaning_of s) key budget old new d
run_is w s made narrow key budget range most longest same far near old new c d rows jobs bases is v =
    let e = same_search s made.work made.root in
    subst (λ t. IsWholeRun (meaning_of t) key budget old new d) (sym e)
    (whole_run s.polyhedron (subst (λ (t : System). t.n ≤ most_labels) made.file narrow) key
    (subst (λ t. Meaning.is_key (meaning_of t) key) e is) budget range most longest same far near old new c d v.whole rows
    jobs bases)

pub cut_is : (s : Search) → s.work ≡ Subsets → s.root ≡ [] → (key : List ℕ) (old new : Option (List ℕ)) →
    IsCutRun (by_subsets s.polyhedron) key old new → IsCutRun (meaning_of s) key old new
cut_is s e f key old new r = subst (λ t. IsCutRun (meaning_of t) key old new) (sym (same_search s e f)) r

pub torn_is : (s : Search) → s.work ≡ Subsets → s.root ≡ [] → (key : List ℕ) (old new : Option (List ℕ)) →
    IsTornRun (by_subsets s.polyhedron) key old new → IsTornRun (meaning_of s) key old new
torn_is s e f key old new r = subst (λ t. IsTornRun (meaning_of t) key old new) (sym (same_search s e f)) r

pub key_in : (s : Search) → s.work ≡ Subsets → s.root ≡ [] → (key : List ℕ) → Meaning.is_key (meaning_of s) key → IsSubsetKey s.polyhedron key
key_in s e f key is = subst (λ t. Meaning.is_key (meaning_of t) key) (same_search s e f) is

-- ---- which keys are of the work
pub key_yes : (w : BySubsets) (s : Search) → IsBySubsets w s → (key : List ℕ) → IsKey key → length key ≤ w.depth →
    ((k : ℕ) → Contains key k → IsPlainRow w.sys k) → Meaning.is_key (meaning_of s) key
key_yes w s made key k short plain = by (some_dimension s.polyhedron)
  where
    by : (r : ℕ) × IsReducedDimension s.polyhedron r → Meaning.is_key (meaning_of s) key
    by (r, d) =
        let l = left_is_dimension s.polyhedron w.dict made.last w.free made.begun r d in
        subst (λ t. Meaning.is_key (meaning_of t) key) (sym (same_search s made.work made.root))
        (is_key s.polyhedron key r d k.ascending k.room
        (λ j c. let h = plain j c in let a = h.some in let b = h.within in
        is_plain s.polyhedron j a (omega (arith, b, ap (λ (t : System). length t.rows) made.file))
        (ap (λ (t : System). (row_of t.rows j).linear) (sym made.file) ∙ h.plain))
        (omega (arith, short, made.depth, l)))

pub key_no_short : (w : BySubsets) (s : Search) → IsBySubsets w s → (key : List ℕ) → Meaning.is_key (meaning_of s) key → length key ≤ w.depth
key_no_short w s made key is =
    let k = key_in s made.work made.root key is in
    let l = left_is_dimension s.polyhedron w.dict made.last w.free made.begun k.dimension k.reduced in
    let m = k.short in omega (arith, l, made.depth, m)

pub key_no_plain : (w : BySubsets) (s : Search) → IsBySubsets w s → (key : List ℕ) → Meaning.is_key (meaning_of s) key → (j : ℕ) → Contains key j →
    IsPlainRow w.sys j
key_no_plain w s made key is j c =
    let k = key_in s made.work made.root key is in
    let h = plain_label s.polyhedron j (All-contains (Contains (plain_labels s.polyhedron)) key j k.rows c) in let b = h.1 in
    record {
      some = h.0;
      within = omega (arith, b, ap (λ (t : System). length t.rows) made.file);
      plain = ap (λ (t : System). (row_of t.rows j).linear) made.file ∙ h.2;
    }

-- ---- whatever it answers
module _ (w : BySubsets) (s : Search) (made : IsBySubsets w s) (narrow : w.sys.n ≤ most_labels) (key : List ℕ)
    (is : Meaning.is_key (meaning_of s) key) (budget : Budget) (range : IsBudget budget) (most longest : ℕ)
    (same : most ≡ budget.bases) (far : 0 < budget.depth → longest ≡ length key + budget.depth)
    (near : budget.depth ≡ 0 → most_depth < longest) (old new : Option (List ℕ)) (c : Count) (rows : c.rows ≡ 0)
    (jobs : c.jobs ≡ 0) (bases : c.bases ≡ 0) where
  pub ok_run : (result : Result Count WorkStop) → WalksUnder s.polyhedron key most longest old new c result →
      IfOk result (IsWholeRun (meaning_of s) key budget old new)
  ok_run (Ok d) v = run_is w s made narrow key budget range most longest same far near old new c d rows jobs bases is v
  ok_run (Err x) v = tt

pub torn_run : (s : Search) → s.work ≡ Subsets → s.root ≡ [] → (key : List ℕ) (most longest : ℕ) (old new : Option (List ℕ)) (c : Count) (result : Result Count WorkStop) →
    WalksUnder s.polyhedron key most longest old new c result → OnErr result (IsTornRun (meaning_of s) key old new)
torn_run s e f key most longest old new c (Ok d) v = tt
torn_run s e f key most longest old new c (Err x) v = torn_is s e f key old new v.torn

pub same_stop : {T : Type 0} (x o : Overflow) → IsErrOf {T = T} {E = SubsetStop} (Err (Passes x)) (Passes o) → x ≡ o
same_stop x o e = cc

-- a key of the work is a list of rows that are not linear, at most as long as a list may be
pub key_exactly : (w : BySubsets) (s : Search) → IsBySubsets w s → (key : List ℕ) → IsKey key →
    ((length key ≤ w.depth) × ((k : ℕ) → Contains key k → IsPlainRow w.sys k)) ↔ Meaning.is_key (meaning_of s) key
key_exactly w s made key k = (
  λ h. key_yes w s made key k h.0 h.1,
  λ is. (key_no_short w s made key is, key_no_plain w s made key is),
)
