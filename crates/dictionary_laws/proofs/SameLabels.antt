-- Cobases and dictionaries go by the labels of the key and not by their order, and a cobasis has at
-- most one dictionary.
use Rattle.std.proofs.Common.{◌≡◌, ◌≢◌, ℕ, List, [], ℤ, pos, ◌+ℤ◌, ◌*ℤ◌, sym, ap, subst, ◌∙◌, ⊎_elim, arith}
use Rattle.std.specs.Prelude.{◌≤ℤ◌, ◌<ℤ◌}
use Rattle.std.specs.List.{Contains}
use Rattle.std.proofs.lemmas.List.Elements.{All-contains, All-from_recursion}
use Rattle.poly_num.specs.Vectors.{Vector, ◌·◌}
use Rattle.poly_num.proofs.Ring.{lin}
use Rattle.poly_num.proofs.Order.{cancel, positive_nonzero}
use Rattle.poly_model.specs.Spaces.{Space, IsInside}
use Rattle.poly_model.specs.Dictionaries.{Table, IsCobasis, Writes, IsDictionary, sum_over}
use Rattle.linear_laws.specs.Distinct.{AreDistinct}
use Rattle.dictionary_laws.specs.Keys.{HaveSameLabels}
use Rattle.dictionary_laws.specs.Numbers.{Agree}
use Rattle.linear_laws.proofs.Members.{all_at}
use Rattle.linear_laws.proofs.Signs.{zero_or}
use Rattle.dictionary_laws.proofs.Members.{all_from, sum_same, sum_members}
use Rattle.dictionary_laws.proofs.Directions.{times_zero}
use Rattle.dictionary_laws.proofs.Duals.{Dual, dual_of, distinct, independent}
use Rattle.dictionary_laws.proofs.Values.{terms, entries_proportional, constants_proportional}

pub turned_round : (key other : List ℕ) → HaveSameLabels key other → HaveSameLabels other key
turned_round key other m = record { there = m.back; back = m.there }

one_least : (d e : ℤ) → d ≤ℤ e → e ≤ℤ d → d ≡ e
one_least d e h k = omega (arith, lin)

along : (d e x y : ℤ) → pos 0 <ℤ d → d ≡ e → d *ℤ y ≡ e *ℤ x → x ≡ y
along d e x y h s f =
    cancel d x y (positive_nonzero d h) (let g = ap (λ (z : ℤ). z *ℤ x) s in omega (arith, lin))

-- another constant, and other terms of one sum
other_value : (d e v b c y s t : ℤ) → d ≡ e → b *ℤ y ≡ c *ℤ y → s ≡ t → d *ℤ v ≡ b *ℤ y +ℤ s →
    e *ℤ v ≡ c *ℤ y +ℤ t
other_value d e v b c y s t f g h k = let a = ap (λ (z : ℤ). z *ℤ v) f in omega (arith, lin)

module _ (space : Space) where
  -- tables that agree write the same
  agreeing_constant : (key : List ℕ) (t u : Table) → Agree space key t u → (i : ℕ) →
      Contains space.labels i →
      (y : Vector) → IsInside space y →
      t.constant i *ℤ (space.infinity · y) ≡ u.constant i *ℤ (space.infinity · y)
  agreeing_constant key t u a i l y h =
      ⊎_elim
      (λ (e : space.infinity · y ≡ pos 0).
      times_zero (t.constant i) (space.infinity · y) e
      ∙ sym (times_zero (u.constant i) (space.infinity · y) e))
      (λ (n : space.infinity · y ≢ pos 0).
      ap (λ (z : ℤ). z *ℤ (space.infinity · y))
      (a.constants (record { vector = y; inside = h; finite = n }) i l))
      (zero_or (space.infinity · y))

  agreeing_writes : (key : List ℕ) (t u : Table) → Agree space key t u → Writes space key t →
      Writes space key u
  agreeing_writes key t u a w = record {
    positive = subst (λ (z : ℤ). pos 0 <ℤ z) a.denominator w.positive;
    values = λ i l y h.
        other_value t.denominator u.denominator (space.form i · y) (t.constant i) (u.constant i)
        (space.infinity · y)
        (sum_over key (terms space t i y)) (sum_over key (terms space u i y))
        a.denominator (agreeing_constant key t u a i l y h)
        (sum_same key (terms space t i y) (terms space u i y)
        (λ k c. ap (λ (z : ℤ). z *ℤ (space.form k · y)) (a.entries i k l c)))
        (w.values i l y h);
  }

  pub agreeing_dictionary : (key : List ℕ) (t u : Table) → IsDictionary space key t →
      Agree space key t u →
      IsDictionary space key u
  agreeing_dictionary key t u d a = record {
    cobasis = d.cobasis;
    writes = agreeing_writes key t u a d.writes;
    least = λ v w. subst (λ (z : ℤ). z ≤ℤ v.denominator) a.denominator (d.least v w);
  }

  pub same_writes : (key other : List ℕ) (t : Table) → AreDistinct key → AreDistinct other →
      HaveSameLabels key other →
      Writes space key t → Writes space other t
  same_writes key other t h g m w = record {
    positive = w.positive;
    values = λ i l y inside. w.values i l y inside
        ∙ ap (λ (z : ℤ). t.constant i *ℤ (space.infinity · y) +ℤ z)
        (sum_members key other (terms space t i y) h g m);
  }

  pub same_cobasis : (key other : List ℕ) → AreDistinct other → HaveSameLabels key other →
      IsCobasis space key →
      IsCobasis space other
  same_cobasis key other g m c = record {
    labels = All-from_recursion (Contains space.labels) other
        (all_from (Contains space.labels) other
        (λ k i. All-contains (Contains space.labels) key k c.labels (m.back k i)));
    independent = independent space other g (λ k i. moved k (dual_of space key c k (m.back k i)));
    enough = λ z d v. c.enough z d
        (all_from (λ k. space.form k · z ≡ pos 0) key
        (λ k i. all_at (λ j. space.form j · z ≡ pos 0) other v k (m.there k i)));
  }
    where
      moved : (k : ℕ) → Dual space [] key k → Dual space [] other k
      moved k d = record {
        vector = d.vector;
        direction = d.direction;
        before = d.before;
        here = d.here;
        elsewhere = λ j i n. d.elsewhere j (m.back j i) n;
      }

  pub same_dictionary : (key other : List ℕ) (t : Table) → AreDistinct other →
      HaveSameLabels key other →
      IsDictionary space key t → IsDictionary space other t
  same_dictionary key other t g m d = record {
    cobasis = same_cobasis key other g m d.cobasis;
    writes = same_writes key other t (distinct space key d.cobasis) g m d.writes;
    least = λ u w. d.least u
        (same_writes other key u g (distinct space key d.cobasis) (turned_round key other m) w);
  }

  agree_at_one : (key : List ℕ) (t u : Table) → IsDictionary space key t → IsDictionary space key u →
      Agree space key t u
  agree_at_one key t u d e = record {
    denominator = same;
    entries = λ i k l c. along t.denominator u.denominator (t.entry i k)
        (u.entry i k) d.writes.positive same
        (entries_proportional space key d.cobasis t u d.writes e.writes i l k c);
    constants = λ p i l. along t.denominator u.denominator (t.constant i)
        (u.constant i) d.writes.positive same
        (constants_proportional space key d.cobasis t u d.writes e.writes p i l);
  }
    where
      same : t.denominator ≡ u.denominator
      same = one_least t.denominator u.denominator (d.least u e.writes) (e.least t d.writes)

  pub one_dictionary : (key other : List ℕ) (t u : Table) → HaveSameLabels key other →
      IsDictionary space key t → IsDictionary space other u → Agree space key t u
  one_dictionary key other t u m d e =
      agree_at_one key t u d
      (same_dictionary other key u (distinct space key d.cobasis) (turned_round key other m) e)
