-- Cells that have a size, column by column; those of the exchange's column over a common factor.
use Rattle.std.proofs.Common.{◌≡◌, ◌≢◌, ℕ, ℤ, ◌+◌, ◌*◌, ◌-◌, ◌<◌, ◌≤◌, ◌*ℤ◌, ◌+ℤ◌, refl, pos, List, get_or, arith, sym, subst, ap, ◌∙◌, ⊎_elim}
use Rattle.std.specs.Prelude.{unsigned_abs}
use Rattle.std.proofs.lemmas.Bool.{cases_eq, cases_lt}
use Rattle.std.proofs.lemmas.Nat.{mul-add-lt}
use Rattle.words.specs.Limits.{AreUpTo}
use Rattle.columns.proofs.DivisorLemmas.{quotient_size, turned_size}
use Rattle.columns.specs.declared.exchange.Exchange.{Exchange}
use Rattle.columns.specs.declared.parts.Factors.{Factors}
use Rattle.columns.specs.declared.parts.Parts.{Parts}
use Rattle.columns.specs.declared.size.Size.{Size}
use Rattle.columns.specs.declared.size.Size.TheVariants.{Words, Halves, Small}
use Rattle.columns.specs.Cells.{cell_at, place, AllowsExchange}
use Rattle.columns.specs.Sizes.{IsOf, AreOf, IsColumnOfSize}
use Rattle.columns.specs.Steps.{AreFactors, IsOwnColumn, AreWordParts, AreKept}

-- a number that is no larger has the size too
pub size_of_less : (s : Size) (y z : ℤ) → unsigned_abs y ≤ unsigned_abs z → IsOf s z → IsOf s y
size_of_less Words y z le h = tt
size_of_less Halves y z le h = omega (arith, h)
size_of_less Small y z le h = omega (arith, h)

-- the columns before a column are kept, and it is written behind them
pub sizes_more : (before now all : Size) (height j : ℕ) (old new : List ℤ) → ((z : ℤ) → IsOf before z → IsOf all z) →
    ((z : ℤ) → IsOf now z → IsOf all z) → AreOf before (j * height) old → AreKept (j * height) old new →
    IsColumnOfSize now height j height new → AreOf all (j * height + height) new
sizes_more before now all height j old new wider other first kept column k l =
    ⊎_elim
    (λ (lt : k < j * height).
    wider (get_or new k (pos 0)) (subst (IsOf before) (sym (kept.kept k lt)) (first k lt)))
    (λ (ge : j * height ≤ k).
    let e : j * height + (k - j * height) ≡ k = omega arith in
    other (get_or new k (pos 0))
    (subst (λ (n : ℕ). IsOf now (get_or new n (pos 0))) e (column (k - j * height) (omega arith))))
    (cases_lt k (j * height))

-- the exchange's column keeps the size over what divides it, where the number of its own row has it
pub own_size : (s : Size) (x : Exchange) (cells : List ℤ) (f : Factors) (z : ℤ) (own : List ℤ) →
    AllowsExchange x cells → AreFactors x cells f → IsOwnColumn x cells f z own →
    AreOf s (x.width * x.height) cells → IsOf s z → AreOf s x.height own
own_size s x cells f z own can are u sizes here i l =
    ⊎_elim
    (λ (e : i ≡ x.row). subst (IsOf s) (sym (ap (λ (k : ℕ). get_or own k (pos 0)) e ∙ u.leaving)) here)
    (λ (n : i ≢ x.row).
    let a = cell_at x.height cells i x.column in
    let inside = mul-add-lt x.column x.height i x.width can.column l in
    let less =
    quotient_size (get_or own i (pos 0)) f.common (f.sign *ℤ a) are.greatest.positive (u.same i l n) in
    let same = turned_size f.sign a are.turned.size in
    size_of_less s (get_or own i (pos 0)) a (omega (arith, less, same))
    (sizes (place x.height i x.column) (omega (arith, inside))))
    (cases_eq i x.row)

-- the parts of an exchange in words
pub word_parts : (cells : List ℤ) (parts : Parts ℤ) → AllowsExchange parts.x.now cells →
    AreFactors parts.x.now cells parts.factors.now →
    IsOwnColumn parts.x.now cells parts.factors.now (parts.factors.now.p +ℤ parts.factors.now.u) parts.own.now →
    parts.p ≡ parts.factors.now.p → parts.u ≡ parts.factors.now.u →
    AreOf parts.size (parts.x.now.width * parts.x.now.height) cells →
    IsOf parts.size (get_or parts.own.now parts.x.now.row (pos 0)) →
    AreUpTo parts.own_limit 0 parts.x.now.height parts.own.now → AreWordParts cells parts
word_parts cells parts can are own ep eu sizes here limit = record {
  are = record {
    can = can;
    factors = are;
    own = subst (λ (z : ℤ). IsOwnColumn parts.x.now cells parts.factors.now z parts.own.now) (sym (rw (ep, eu) refl)) own;
    p = ep;
    u = eu;
  };
  cells_size = sizes;
  own_size =
      own_size parts.size parts.x.now cells parts.factors.now (parts.factors.now.p +ℤ parts.factors.now.u) parts.own.now
      can are own sizes (subst (IsOf parts.size) own.leaving here);
  own_limit = limit;
}
