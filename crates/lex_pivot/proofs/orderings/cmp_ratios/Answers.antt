use Rattle.std.proofs.Common.{◌∙◌, sym, ap, refl, true≢false, ◌*ℤ◌, ℤ}
use Rattle.std.specs.Cmp.{int_cmp_is}
use Rattle.std.specs.declared.cmp.Ordering.TheVariants.{Less, Equal, Greater}
use Rattle.poly_num.proofs.Ring.{zero_mul}
use Rattle.lex_pivot.proofs.SignLemmas.{apart, same_over}
use Rattle.lex_pivot.proofs.orderings.cmp_ratios.Goals as goal

pub returns-then-are_zero : goal.returns-then-are_zero
returns-then-are_zero c =
    let z = c.if-are_zero.ensures.0 refl in
    int_cmp_is (c.args.a *ℤ c.args.d) (c.args.c *ℤ c.args.b) Equal
    (ap (λ (x : ℤ). x *ℤ c.args.d) z.0 ∙ zero_mul c.args.d ∙ sym (zero_mul c.args.b)
    ∙ sym (ap (λ (x : ℤ). x *ℤ c.args.b) z.1))

pub returns-then-are_apart : goal.returns-then-are_apart
returns-then-are_apart c =
    let s = c.if-are_apart.ensures refl in
    int_cmp_is (c.args.a *ℤ c.args.d) (c.args.c *ℤ c.args.b) Less
    (apart c.args.a c.args.c c.args.d c.args.b c.requires.right c.requires.left s.0 s.1
    (λ x y. true≢false (sym (c.if-are_zero.ensures.1 (x, y)))))

pub returns-then-are_apart-2 : goal.returns-then-are_apart-2
returns-then-are_apart-2 c =
    let s = c.if-are_apart-2.ensures refl in
    int_cmp_is (c.args.a *ℤ c.args.d) (c.args.c *ℤ c.args.b) Greater
    (apart c.args.c c.args.a c.args.b c.args.d c.requires.left c.requires.right s.0 s.1
    (λ x y. true≢false (sym (c.if-are_zero.ensures.1 (y, x)))))

pub returns-then-is_same : goal.returns-then-is_same
returns-then-is_same c =
    c.order_of.ensures ∙ same_over c.args.a c.args.c c.args.b c.args.d c.requires.right (c.if-is_same.ensures refl)
