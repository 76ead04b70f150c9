-- A child runs for each attempt that is out: what a start and a collect make of that.
use Rattle.std.proofs.Common.{◌≡◌, ◌<◌, ◌+◌, ◌++◌, ◌∷◌, [], inl, inr, ℕ, List, length, map, zero, suc, slice_index_or, slice_set, take, drop, refl, sym, ap, subst, ◌∙◌, arith}
use Rattle.std.proofs.lemmas.List.{map-append}
use Rattle.std.proofs.Math.Logic.{∥∥₁_elim, ∥∥₁_map}
use Rattle.std.proofs.Math.Seq.{take-append_seam}
use Rattle.workers_io.specs.Children.{AreRun, IsAmong}
use Rattle.workers_io.specs.Collects.{out_after}
use Rattle.workers_io.proofs.QueueLemmas.{all_after, all_append}

pub among_first : (xs ys : List ℕ) (a : ℕ) → IsAmong xs a → IsAmong (xs ++ ys) a
among_first [] ys a among = absurd among
among_first (b ∷ xs) ys a (inl e) = inl e
among_first (b ∷ xs) ys a (inr m) = inr (among_first xs ys a m)

pub among_last : (xs : List ℕ) (a : ℕ) → IsAmong (xs ++ a ∷ []) a
among_last [] a = inl refl
among_last (b ∷ xs) a = inr (among_last xs a)

pub all_among : (xs ys out : List ℕ) → AreRun xs out → AreRun (xs ++ ys) out
all_among xs ys [] all = tt
all_among xs ys (a ∷ out) all = (among_first xs ys a all.0, all_among xs ys out all.1)

-- a start
pub one_more_runs : (running out : List ℕ) (a : ℕ) → AreRun running out → AreRun (running ++ a ∷ []) (out ++ a ∷ [])
one_more_runs running out a all = all_append (IsAmong (running ++ a ∷ [])) out a (all_among running (a ∷ []) out all) (among_last running a)

-- a collect
others_run : (front back out : List ℕ) (b : ℕ) → AreRun (front ++ b ∷ back) out → AreRun (front ++ back) (out_after out b)
others_run front back out b all = all_after (IsAmong (front ++ b ∷ back)) (IsAmong (front ++ back)) out b (other front) all
  where
    other : (front : List ℕ) (a : ℕ) → (a ≡ b → ⊥) → IsAmong (front ++ b ∷ back) a → IsAmong (front ++ back) a
    other [] a not_b (inl e) = absurd (not_b (sym e))
    other [] a not_b (inr m) = m
    other (c ∷ front) a not_b (inl e) = inl e
    other (c ∷ front) a not_b (inr m) = inr (other front a not_b m)

-- the same of what is kept of the children, each with its number
pub same_runs : {X : Type 0} (items now : List X) (num : X → ℕ) (out out_now : List ℕ) → now ≡ items → out_now ≡ out → ∥ AreRun (map num items) out ∥₁ → ∥ AreRun (map num now) out_now ∥₁
same_runs items now num out out_now same same_out run = rw (same, same_out) run

pub start_runs : {X : Type 0} (items between now : List X) (x : X) (num : X → ℕ) (out out_between out_now : List ℕ) (a : ℕ) → between ≡ items → now ≡ between ++ x ∷ [] → out_between ≡ out → out_now ≡ out_between ++ a ∷ []
    → num x ≡ a → ∥ AreRun (map num items) out ∥₁ → ∥ AreRun (map num now) out_now ∥₁
start_runs items between now x num out out_between out_now a same more same_out more_out is run =
    ∥∥₁_map run (λ (h : AreRun (map num items) out). rw (more_out, same_out, more, same, map-append num items (x ∷ []), is) (one_more_runs (map num items) out a h))

-- one of them is taken out, at its place
split_at : {X : Type 0} (items : List X) (i : ℕ) (x : X) → i < length items → x ≡ slice_index_or items i x → items ≡ take i items ++ x ∷ drop (i + 1) items
split_at [] i x within is = absurd (omega (arith, within))
split_at (y ∷ items) zero x within is = ap (λ z. z ∷ items) (sym is)
split_at (y ∷ items) (suc i) x within is =
    let more : suc (i + 1) ≡ suc i + 1 = omega arith in
    subst (λ (n : ℕ). y ∷ items ≡ take (suc i) (y ∷ items) ++ x ∷ drop n (y ∷ items)) more (ap (λ l. y ∷ l) (split_at items i x (omega (arith, within)) is))

pub collect_runs : {X : Type 0} (items left : List X) (i : ℕ) (x : X) (num : X → ℕ) (out out_now : List ℕ) (b : ℕ) → i < length items → x ≡ slice_index_or items i x → left ≡ take i items ++ drop (i + 1) items → num x ≡ b → out_now ≡ out_after out b
    → ∥ AreRun (map num items) out ∥₁ → ∥ AreRun (map num left) out_now ∥₁
collect_runs items left i x num out out_now b within is split named less run =
    let front = take i items in
    let back = drop (i + 1) items in
    let all : map num items ≡ map num front ++ b ∷ map num back =
    ap (map num) (split_at items i x within is) ∙ map-append num front (x ∷ back) ∙ ap (λ n. map num front ++ n ∷ map num back) named in
    let others : map num left ≡ map num front ++ map num back = ap (map num) split ∙ map-append num front back in
    ∥∥₁_map run (λ (h : AreRun (map num items) out). rw (less, others) (others_run (map num front) (map num back) out b (subst (λ l. AreRun l out) all h)))

-- all of them were lent, and are written back
pub lent_back : {X : Type 0} (items lent : List X) (len : ℕ) → len ≡ length lent → take len (lent ++ drop (length lent) items) ≡ lent
lent_back items lent len size =
    subst (λ (n : ℕ). take n (lent ++ drop (length lent) items) ≡ lent) (sym size) (take-append_seam lent (drop (length lent) items))

pub lent_runs : {X : Type 0} (items lent : List X) (len : ℕ) (num : X → ℕ) (out : List ℕ) → len ≡ length lent → map num lent ≡ map num items
    → ∥ AreRun (map num items) out ∥₁ → ∥ AreRun (map num (take len (lent ++ drop (length lent) items))) out ∥₁
lent_runs items lent len num out size same run =
    subst (λ ns. ∥ AreRun ns out ∥₁) (sym (ap (map num) (lent_back items lent len size) ∙ same)) run

-- a place among those that were lent is one among those that are there now
pub lent_within : {X : Type 0} (items lent now : List X) (len i : ℕ) → len ≡ length lent
    → now ≡ take len (lent ++ drop (length lent) items) → i < length lent → i < length now
lent_within items lent now len i size is within =
    subst (λ l. i < length l) (sym (is ∙ lent_back items lent len size)) within

-- one of them has changed, and not its number
pub same_numbers : {X : Type 0} (items : List X) (num : X → ℕ) (i : ℕ) (x was : X) → num x ≡ num (slice_index_or items i was) → map num (slice_set items i x) ≡ map num items
same_numbers [] num i x was e = refl
same_numbers (y ∷ items) num zero x was e = ap (λ n. n ∷ map num items) e
same_numbers (y ∷ items) num (suc i) x was e = ap (λ ns. num y ∷ ns) (same_numbers items num i x was e)

-- where an attempt is out, a child runs
pub one_runs : {X : Type 0} (items : List X) (num : X → ℕ) (out : List ℕ) → ∥ AreRun (map num items) out ∥₁ → 0 < length out → 0 < length items
one_runs (x ∷ items) num out run some = omega arith
one_runs [] num out run some = absurd (∥∥₁_elim run (λ (x y : ⊥). absurd x) (λ (h : AreRun [] out). none out h some))
  where
    none : (out : List ℕ) → AreRun [] out → 0 < length out → ⊥
    none [] h some = absurd (omega (arith, some))
    none (a ∷ out) h some = h.0
