-- How a run of calls of a disk goes on.
use Rattle.std.proofs.Common.{inl, inr, ⊎_elim, ℕ, List, arith, refl, subst}
use Rattle.disk_core.specs.Contents.{Torn}
use Rattle.disk_core.specs.Images.{ComesFrom, Images, Only}
use Rattle.disk_core.specs.Moments.{Elapses, LeavesOnly}

pub torn_not : (at n : ℕ) (f : List ℕ) → Torn at n f f
torn_not at n f = record { before = refl; after = refl; no_shorter = omega arith; no_longer = grind arith }

-- what a step may leave where only f stood
pub after_step : (step : List ℕ → List ℕ → Type 0) (f : List ℕ) (old new : Images) → Only f old → ComesFrom step old new → (c : List ℕ) → new c → step f c
after_step step f old new only follows c left =
    let from = follows c left in
    subst (λ d. step d c) (only from.0 from.1) from.2

module _ {D : Type 0} (moment : D → ℕ) (since : D → ℕ → Images) where
  -- before the first call
  pub started : (old : D) (P : List ℕ → Type 0) → ((c : List ℕ) → since old (moment old) c → P c) → LeavesOnly moment since old old P
  started old P here = record { later = omega arith; each = here; before = λ t c le left. inl left }

  -- one call more, after which a crash leaves what has P
  pub goes_on : (old mid new : D) (P : List ℕ → Type 0) (images : Images) → LeavesOnly moment since old mid P → Elapses (moment mid) (moment new) (since mid) (since new) images
      → ((c : List ℕ) → images c → P c) → LeavesOnly moment since old new P
  goes_on old mid new P images so_far time here = record {
    later = omega (arith, so_far.later, time.later);
    each = λ c left. ⊎_elim (so_far.each c) (here c) (time.nothing_else (moment old) c so_far.later left);
    before = λ t c le left. ⊎_elim (so_far.before t c le) (λ now. inr (here c now)) (time.nothing_else t c (omega (arith, le, so_far.later)) left);
  }

  -- two runs one after the other, each with a claim of its own
  pub joined : (old mid new : D) (P Q R : List ℕ → Type 0) → LeavesOnly moment since old mid P → LeavesOnly moment since mid new Q
      → ((c : List ℕ) → P c → R c) → ((c : List ℕ) → Q c → R c) → LeavesOnly moment since old new R
  joined old mid new P Q R first second of_first of_second = record {
    later = omega (arith, first.later, second.later);
    each = λ c left. ⊎_elim (λ l. of_first c (first.each c l)) (of_second c) (second.before (moment old) c first.later left);
    before = λ t c le left. ⊎_elim
        (λ l. ⊎_elim inl (λ p. inr (of_first c p)) (first.before t c le l))
        (λ q. inr (of_second c q))
        (second.before t c (omega (arith, le, first.later)) left);
  }

  -- a weaker claim
  pub weaker : (old new : D) (P Q : List ℕ → Type 0) → LeavesOnly moment since old new P → ((c : List ℕ) → P c → Q c) → LeavesOnly moment since old new Q
  weaker old new P Q run of = record {
    later = run.later;
    each = λ c left. of c (run.each c left);
    before = λ t c le left. ⊎_elim inl (λ p. inr (of c p)) (run.before t c le left);
  }
