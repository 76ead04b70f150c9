-- The signs of a gap, of a sum with a positive factor, and of a number of a list.
use Rattle.std.proofs.Common.{◌≡◌, ◌≢◌, ℕ, ℤ, pos, neg_ℤ, ◌+ℤ◌, ◌-ℤ◌, ◌*ℤ◌, ◌<ℤ◌, ◌≤ℤ◌, List, true, false, cond, true≢false, sym, ap, ◌∙◌, arith, Ordering}
use Rattle.std.specs.List.{Contains}
use Rattle.std.specs.Ordering.{int_cmp, MatchOrdering}
use Rattle.std.specs.Cmp.{int_ranks, int_cmp_is}
use Rattle.std.specs.declared.cmp.Ordering.TheVariants.{Less, Equal, Greater}
use Rattle.std.proofs.lemmas.Bool.{ne_eqb, false_from_ne_true}
use Rattle.poly_num.proofs.Ring.{expand, lin, mul_zero}
use Rattle.poly_num.proofs.Order.{keeps_order, keeps_at_most}
use Rattle.poly_num.specs.Signs.{sign_of}
use Rattle.poly_model.specs.Spaces.{is_member}
use Rattle.poly_model.specs.Dictionaries.{Table}
use Rattle.poly_model.specs.LexOrder.{listed_at}
use Rattle.dictionary_laws.proofs.Filters.{member_has, member_only}
use Rattle.tree_laws.proofs.LexLemmas.{by_sign}

pub sign_of_gap : (x y z : ℤ) → x -ℤ y ≡ z → int_cmp x y ≡ sign_of z
sign_of_gap x y z e = sym (int_cmp_is x y (int_cmp z (pos 0)) (by (int_cmp z (pos 0)) (int_ranks z (pos 0))))
  where
    by : (o : Ordering) → MatchOrdering o (z <ℤ pos 0) (z ≡ pos 0) (pos 0 <ℤ z) → MatchOrdering o (x <ℤ y) (x ≡ y) (y <ℤ x)
    by Less h = omega (arith, lin)
    by Equal h = omega (arith, lin)
    by Greater h = omega (arith, lin)

pub turned : (x y : ℤ) → x *ℤ y ≡ y *ℤ x
turned x y = simp expand (omega (arith, lin))

-- one positive factor for both keeps the order
pub same_over : (a c b d : ℤ) → pos 0 <ℤ d → b ≡ d → int_cmp a c ≡ int_cmp (a *ℤ d) (c *ℤ b)
same_over a c b d h e = int_cmp_is (a *ℤ d) (c *ℤ b) (int_cmp a c) (by (int_cmp a c) (int_ranks a c))
  where
    left : a *ℤ d ≡ d *ℤ a
    left = turned a d

    right : c *ℤ b ≡ d *ℤ c
    right = ap (λ z. c *ℤ z) e ∙ turned c d

    by : (o : Ordering) → MatchOrdering o (a <ℤ c) (a ≡ c) (c <ℤ a) →
        MatchOrdering o ((a *ℤ d) <ℤ (c *ℤ b)) (a *ℤ d ≡ c *ℤ b) ((c *ℤ b) <ℤ (a *ℤ d))
    by Less l = let k = keeps_order d a c h l in let x = left in let y = right in omega (arith, lin)
    by Equal l = left ∙ ap (λ z. d *ℤ z) l ∙ sym right
    by Greater l = let k = keeps_order d c a h l in let x = left in let y = right in omega (arith, lin)

-- where 0 lies between two numbers that are not both 0, it lies between their positive multiples too
pub apart : (a c d b : ℤ) → pos 0 <ℤ d → pos 0 <ℤ b → a ≤ℤ pos 0 → pos 0 ≤ℤ c → (a ≡ pos 0 → c ≡ pos 0 → ⊥) →
    (a *ℤ d) <ℤ (c *ℤ b)
apart a c d b h k l m n = by_sign ((a *ℤ d) <ℤ (c *ℤ b)) a above zero below
  where
    at_most : (d *ℤ a) ≤ℤ pos 0
    at_most = let x = keeps_at_most d a (pos 0) h l in let z = mul_zero d in omega (arith, lin)

    at_least : pos 0 ≤ℤ (b *ℤ c)
    at_least = let x = keeps_at_most b (pos 0) c k m in let z = mul_zero b in omega (arith, lin)

    below : a <ℤ pos 0 → (a *ℤ d) <ℤ (c *ℤ b)
    below s =
        let x = keeps_order d a (pos 0) h s in
        let z = mul_zero d in
        let t = turned a d in
        let u = turned c b in
        let v = at_least in
        omega (arith, lin)

    zero : a ≡ pos 0 → (a *ℤ d) <ℤ (c *ℤ b)
    zero e = by_sign ((a *ℤ d) <ℤ (c *ℤ b)) c positive (λ s. absurd (n e s)) (λ s. absurd (omega (arith, lin)))
      where
        positive : pos 0 <ℤ c → (a *ℤ d) <ℤ (c *ℤ b)
        positive s =
            let x = keeps_order b (pos 0) c k s in
            let z = mul_zero b in
            let t = turned a d in
            let u = turned c b in
            let v = at_most in
            omega (arith, lin)

    above : pos 0 <ℤ a → (a *ℤ d) <ℤ (c *ℤ b)
    above s = absurd (omega (arith, lin))

-- x over p and y over q
pub cross_sign : (p q x y : ℤ) → int_cmp (x *ℤ p) (y *ℤ q) ≡ sign_of (p *ℤ x -ℤ q *ℤ y)
cross_sign p q x y = sign_of_gap (x *ℤ p) (y *ℤ q) (p *ℤ x -ℤ q *ℤ y) (simp expand (omega (arith, lin)))

-- minus x over p and minus y over q
pub turned_sign : (p q x y : ℤ) → int_cmp (y *ℤ q) (x *ℤ p) ≡ sign_of (p *ℤ neg_ℤ x -ℤ q *ℤ neg_ℤ y)
turned_sign p q x y =
    sign_of_gap (y *ℤ q) (x *ℤ p) (p *ℤ neg_ℤ x -ℤ q *ℤ neg_ℤ y) (simp expand (omega (arith, lin)))

pub over_positive : (a b p f : ℤ) → int_cmp (a *ℤ p) (neg_ℤ b *ℤ f) ≡ sign_of (p *ℤ a +ℤ b *ℤ f)
over_positive a b p f = sign_of_gap (a *ℤ p) (neg_ℤ b *ℤ f) (p *ℤ a +ℤ b *ℤ f) (simp expand (omega (arith, lin)))

pub over_negative : (a b p f : ℤ) → int_cmp (a *ℤ p) (b *ℤ neg_ℤ f) ≡ sign_of (p *ℤ a +ℤ b *ℤ f)
over_negative a b p f = sign_of_gap (a *ℤ p) (b *ℤ neg_ℤ f) (p *ℤ a +ℤ b *ℤ f) (simp expand (omega (arith, lin)))

pub over_zero : (a b p f : ℤ) → pos 0 <ℤ p → f ≡ pos 0 → sign_of a ≡ sign_of (p *ℤ a +ℤ b *ℤ f)
over_zero a b p f h z = int_cmp_is (p *ℤ a +ℤ b *ℤ f) (pos 0) (sign_of a) (by (sign_of a) (int_ranks a (pos 0)))
  where
    none : b *ℤ f ≡ pos 0
    none = ap (λ x. b *ℤ x) z ∙ mul_zero b

    by : (o : Ordering) → MatchOrdering o (a <ℤ pos 0) (a ≡ pos 0) (pos 0 <ℤ a) →
        MatchOrdering o ((p *ℤ a +ℤ b *ℤ f) <ℤ pos 0) ((p *ℤ a +ℤ b *ℤ f) ≡ pos 0) (pos 0 <ℤ (p *ℤ a +ℤ b *ℤ f))
    by Less l = let k = keeps_order p a (pos 0) h l in let m = mul_zero p in let n = none in omega (arith, lin)
    by Equal l = let k = ap (λ x. p *ℤ x) l in let m = mul_zero p in let n = none in omega (arith, lin)
    by Greater l = let k = keeps_order p (pos 0) a h l in let m = mul_zero p in let n = none in omega (arith, lin)

swapped : (b f p a : ℤ) → b *ℤ f +ℤ p *ℤ a ≡ p *ℤ a +ℤ b *ℤ f
swapped b f p a = omega (arith, lin)

-- where one number is 0, the other decides
pub one_alone : (a b p f : ℤ) → pos 0 <ℤ p → b ≡ pos 0 → sign_of a ≡ sign_of (p *ℤ a +ℤ b *ℤ f)
one_alone a b p f h z = over_zero a f p b h z ∙ ap (λ x. sign_of (p *ℤ a +ℤ x)) (turned f b)

pub other_alone : (a b p f : ℤ) → pos 0 <ℤ b → a ≡ pos 0 → sign_of f ≡ sign_of (p *ℤ a +ℤ b *ℤ f)
other_alone a b p f h z = over_zero f p b a h z ∙ ap sign_of (swapped b f p a)

-- a number is 0 where two tests say that it is neither positive nor negative
pub zero_between : (v : ℤ) → (pos 0 <ℤ v → false ≡ true) → (v <ℤ pos 0 → false ≡ true) → v ≡ pos 0
zero_between v a b =
    by_sign (v ≡ pos 0) v (λ h. absurd (true≢false (sym (a h)))) (λ h. h) (λ h. absurd (true≢false (sym (b h))))

-- ---- the numbers of a list
pub listed_elsewhere : (key : List ℕ) (t : Table) (i k : ℕ) → k ≢ i → (Contains key k → ⊥) → listed_at key t i k ≡ pos 0
listed_elsewhere key t i k n c =
    ap (λ b. cond b t.denominator (cond (is_member k key) (neg_ℤ (t.entry i k)) (pos 0))) (ne_eqb k i n)
    ∙ ap (λ b. cond b (neg_ℤ (t.entry i k)) (pos 0)) (false_from_ne_true (is_member k key) (λ e. c (member_only k key e)))

pub listed_inside : (key : List ℕ) (t : Table) (i k : ℕ) → k ≢ i → Contains key k → listed_at key t i k ≡ neg_ℤ (t.entry i k)
listed_inside key t i k n c =
    ap (λ b. cond b t.denominator (cond (is_member k key) (neg_ℤ (t.entry i k)) (pos 0))) (ne_eqb k i n)
    ∙ ap (λ b. cond b (neg_ℤ (t.entry i k)) (pos 0)) (member_has k key c)
