-- A product that fits and one that passes by one: H files with the rows p x1 >= 0 and q x2 >= 0. The
-- exchange of row 1 for x1 multiplies p, at (row 1, x1), and q, at (row 2, x2). 2^127 - 1 and 1 fit;
-- 2^64 and 2^63 do not.
use Rattle.dictionary_laws.proofs.PhasePoints.{phase_points}
use Rattle.std.proofs.Common.{◌≡◌, ℕ, ◌<◌, ◌^◌, ◌-◌, false, List, [], ◌∷◌, ℤ, pos, ◌+ℤ◌, ◌*ℤ◌, refl, ap, subst, inl, arith}
use Rattle.std.proofs.Common.{lit<}
use Rattle.std.specs.Prelude.{◌==◌, if◌then◌else◌, unsigned_abs}
use Rattle.std.specs.List.{AllByRecursion, Contains}
use Rattle.std.proofs.lemmas.Int.{ints}
use Rattle.std.proofs.lemmas.List.Elements.{All-from_recursion}
use Rattle.poly_num.specs.Numbers.{Crosses}
use Rattle.poly_num.specs.Vectors.{Vector, ◌·◌, IsZero}
use Rattle.poly_model.specs.declared.kind.Kind.TheVariants.{H}
use Rattle.poly_model.specs.declared.overflow.Phase.TheVariants.{Prepare}
use Rattle.poly_model.specs.declared.overflow.Overflow.{Overflow}
use Rattle.poly_model.specs.declared.overflow.Place.{Place}
use Rattle.poly_model.specs.Systems.{Polyhedron}
use Rattle.poly_model.specs.Spaces.{Space, IsInside, prepare_space, HasPoints}
use Rattle.poly_model.specs.Dictionaries.{Table, IsCobasis, AreIndependent, Writes, IsDictionary, sum_over}
use Rattle.poly_model.specs.Overflows.{Passes}
use Rattle.dictionary_laws.specs.Numbers.{Agree}
use Rattle.linear_laws.proofs.Members.{Contains-first, Contains-later, Contains-nil}
use Rattle.linear_laws.proofs.Entries.{by_three}
use Rattle.linear_laws.proofs.Signs.{at_least_one}
use Rattle.dictionary_laws.proofs.Members.{by_cases}
use Rattle.dictionary_laws.proofs.KnownValues.{row, each_label}
use Rattle.dictionary_laws.proofs.SameLabels.{one_dictionary}
use Rattle.dictionary_laws.proofs.Sizes.{crosses_along}

abbrev file : ℕ → ℕ → Polyhedron
file p q = record {
  kind = H;
  n = 3;
  nonnegative = false;
  text = [];
  rows = row (pos 0 ∷ pos p ∷ pos 0 ∷ []) ∷ row (pos 0 ∷ pos 0 ∷ pos q ∷ []) ∷ [];
}

abbrev space : ℕ → ℕ → Space
space p q = prepare_space (file p q)

-- x1 and x2
abbrev key : List ℕ
key = 8193 ∷ 8194 ∷ []

abbrev table : ℕ → ℕ → Table
table p q = record {
  denominator = pos 1;
  constant = λ i. pos 0;
  entry = λ i k.
      if i == 1 then (if k == 8193 then pos p else pos 0)
      else (if i == 2 then (if k == 8193 then pos 0 else pos q)
      else (if i == 8193 then (if k == 8193 then pos 1 else pos 0)
      else (if k == 8193 then pos 0 else pos 1)));
}

row_1_value : (m a b c y t : ℤ) → pos 1 *ℤ (pos 0 *ℤ a +ℤ (m *ℤ b +ℤ (pos 0 *ℤ c +ℤ pos 0)))
    ≡ pos 0 *ℤ y +ℤ (m *ℤ (pos 0 *ℤ a +ℤ (pos 1 *ℤ b +ℤ pos 0)) +ℤ (pos 0 *ℤ t +ℤ pos 0))
row_1_value m a b c y t =
    let x : pos 0 *ℤ a +ℤ (pos 1 *ℤ b +ℤ pos 0) ≡ b = omega (arith, ints) in
    let e = ap (λ (z : ℤ). m *ℤ z) x in
    omega (arith, ints)

row_2_value : (m a b c y t : ℤ) → pos 1 *ℤ (pos 0 *ℤ a +ℤ (pos 0 *ℤ b +ℤ (m *ℤ c +ℤ pos 0)))
    ≡ pos 0 *ℤ y +ℤ
    (pos 0 *ℤ t +ℤ (m *ℤ (pos 0 *ℤ a +ℤ (pos 0 *ℤ b +ℤ (pos 1 *ℤ c +ℤ pos 0))) +ℤ pos 0))
row_2_value m a b c y t =
    let x : pos 0 *ℤ a +ℤ (pos 0 *ℤ b +ℤ (pos 1 *ℤ c +ℤ pos 0)) ≡ c = omega (arith, ints) in
    let e = ap (λ (z : ℤ). m *ℤ z) x in
    omega (arith, ints)

module _ (p q : ℕ) where
  abbrev IsWritten : ℕ → Vector → Type 0
  IsWritten i y =
      pos 1 *ℤ ((space p q).form i · y)
      ≡ pos 0 *ℤ ((space p q).infinity · y) +ℤ sum_over key
      (λ k. (table p q).entry i k *ℤ ((space p q).form k · y))

  writes : Writes (space p q) key (table p q)
  writes = record {
    positive = omega (arith, ints);
    values = λ i l y h. by_three (λ z. IsWritten i z)
        (λ a b c. each_label (λ j. IsWritten j (a ∷ b ∷ c ∷ []))
        (row_1_value (pos p) a b c (pos 1 *ℤ a +ℤ pos 0)
        (pos 0 *ℤ a +ℤ (pos 0 *ℤ b +ℤ (pos 1 *ℤ c +ℤ pos 0))))
        (row_2_value (pos q) a b c (pos 1 *ℤ a +ℤ pos 0) (pos 0 *ℤ a +ℤ (pos 1 *ℤ b +ℤ pos 0)))
        (omega (arith, ints)) (omega (arith, ints)) i l)
        y h.width;
  }

  independent : AreIndependent (space p q) [] key
  independent = (
    (
      pos 0 ∷ pos 1 ∷ pos 0 ∷ [],
      record
          { inside = record { width = refl; fixed = tt }; level = refl },
      tt,
      λ e. omega
          (arith, ints, e),
    ),
    (
      (
        pos 0 ∷ pos 0 ∷ pos 1 ∷ [],
        record
            { inside = record { width = refl; fixed = tt }; level = refl },
        (refl, tt),
        λ e. omega
            (arith, ints, e),
      ),
      tt,
    ),
  )

  only_zero : (a b c : ℤ) → pos 1 *ℤ a +ℤ pos 0 ≡ pos 0 → pos 0 *ℤ a +ℤ (pos 1 *ℤ b +ℤ pos 0) ≡ pos 0 →
      pos 0 *ℤ a +ℤ (pos 0 *ℤ b +ℤ (pos 1 *ℤ c +ℤ pos 0)) ≡ pos 0 → IsZero (a ∷ b ∷ c ∷ [])
  only_zero a b c h k l = (omega (arith, ints), (omega (arith, ints), (omega (arith, ints), tt)))

  has_x1 : Contains ((space p q).labels) 8193
  has_x1 = Contains-later 8193 1 (2 ∷ 8193 ∷ 8194 ∷ [])
      (Contains-later 8193 2 (8193 ∷ 8194 ∷ []) (Contains-first 8193 (8194 ∷ [])))

  has_x2 : Contains ((space p q).labels) 8194
  has_x2 = Contains-later 8194 1 (2 ∷ 8193 ∷ 8194 ∷ [])
      (Contains-later 8194 2 (8193 ∷ 8194 ∷ [])
      (Contains-later 8194 8193 (8194 ∷ []) (Contains-first 8194 [])))

  has_row_1 : Contains ((space p q).labels) 1
  has_row_1 = Contains-first 1 (2 ∷ 8193 ∷ 8194 ∷ [])

  has_row_2 : Contains ((space p q).labels) 2
  has_row_2 = Contains-later 2 1 (2 ∷ 8193 ∷ 8194 ∷ []) (Contains-first 2 (8193 ∷ 8194 ∷ []))

  cobasis : IsCobasis (space p q) key
  cobasis = record {
    labels = All-from_recursion (Contains (space p q).labels) key (has_x1, (has_x2, tt));
    independent = independent;
    enough = λ z d v.
        by_three (λ y. (space p q).infinity · y ≡ pos 0 →
        AllByRecursion (λ k. (space p q).form k · y ≡ pos 0) key → IsZero y)
        (λ a b c l w. only_zero a b c l w.0 w.1.0)
        z (IsInside.width d.inside) d.level v;
  }

  dictionary : IsDictionary (space p q) key (table p q)
  dictionary = record
      { cobasis = cobasis; writes = writes; least = λ u w. at_least_one u.denominator w.positive }

  points : HasPoints (space p q)
  points = record {
    vector = pos 1 ∷ pos 0 ∷ pos 0 ∷ [];
    inside = record
        { width = refl; fixed = tt };
    finite = λ e. omega (arith, ints, e);
  }

-- rows 1 and 2, columns x1 and x2
abbrev place : ℕ → ℕ → Place
place i j = record { row = i; col = j }

abbrev overflow : Overflow
overflow = record {
  phase = Prepare;
  key = key;
  a = place 1 8193;
  b = place 2 8194;
  c = place 2 8193;
  d = place 1 8194;
}

row_1_outside : Contains key 1 → ⊥
row_1_outside c =
    by_cases (λ k. k ≡ 1 → ⊥) 8193 (8194 ∷ []) (λ e. omega arith)
    (by_cases (λ k. k ≡ 1 → ⊥) 8194 [] (λ e. omega arith) (λ k d. absurd (Contains-nil k d))) 1 c refl

-- 2^64 and 2^63: their product is 2^127
passes : Passes (file (2 ^ 64) (2 ^ 63)) overflow
passes = record {
  space = space (2 ^ 64) (2 ^ 63);
  is_space = refl;
  point = (phase_points (file (2 ^ 64) (2 ^ 63))).prepare (omega arith);
  table = table (2 ^ 64) (2 ^ 63);
  dictionary = dictionary (2 ^ 64) (2 ^ 63);
  r = 1;
  s = 8193;
  outside = (has_row_1 (2 ^ 64) (2 ^ 63), row_1_outside);
  inside = Contains-first 8193 (8194 ∷ []);
  nonzero = λ e. omega (arith, ap unsigned_abs e);
  passing = record {
    places = inl (record {
      i = 2;
      j = 8194;
      row = has_row_2 (2 ^ 64) (2 ^ 63);
      other_row = λ e. omega arith;
      column = inl (Contains-later 8194 8193 (8194 ∷ []) (Contains-first 8194 []));
      other_column = λ e. omega arith;
      a = (refl, refl);
      b = (refl, refl);
      c = (refl, refl);
      d = (refl, refl);
    });
    passes = λ fits. let l : 2 ^ 127 < 2 ^ 127 = fits.0 in omega (arith, l);
  };
}

-- 2^127 - 1 and 1: whatever dictionary is looked at, it is this one, and its products fit
fits : Crosses (pos (2 ^ 127 - 1)) (pos 1) (pos 0) (pos 0)
fits = (lit< tt, lit< tt, lit< tt)

entry_is : (u : Table) → IsDictionary (space (2 ^ 127 - 1) 1) key u → (i k : ℕ) →
    Contains ((space (2 ^ 127 - 1) 1).labels) i → Contains key k →
    (table (2 ^ 127 - 1) 1).entry i k ≡ u.entry i k
entry_is u d = Agree.entries (one_dictionary (space (2 ^ 127 - 1) 1) key key (table (2 ^ 127 - 1) 1) u
    (record { there = λ k c. c; back = λ k c. c }) (dictionary (2 ^ 127 - 1) 1) d)

passes_not : Passes (file (2 ^ 127 - 1) 1) overflow → ⊥
passes_not h =
    let d : IsDictionary (space (2 ^ 127 - 1) 1) key h.table =
    subst (λ (s : Space). IsDictionary s key h.table) h.is_space h.dictionary in
    h.passing.passes (crosses_along (pos (2 ^ 127 - 1)) (pos 1) (pos 0) (pos 0)
    (h.table.entry 1 8193) (h.table.entry 2 8194) (h.table.entry 2 8193) (h.table.entry 1 8194)
    (entry_is h.table d 1 8193 (has_row_1 (2 ^ 127 - 1) 1) (Contains-first 8193 (8194 ∷ [])))
    (entry_is h.table d 2 8194 (has_row_2 (2 ^ 127 - 1) 1)
    (Contains-later 8194 8193 (8194 ∷ []) (Contains-first 8194 [])))
    (entry_is h.table d 2 8193 (has_row_2 (2 ^ 127 - 1) 1) (Contains-first 8193 (8194 ∷ [])))
    (entry_is h.table d 1 8194 (has_row_1 (2 ^ 127 - 1) 1)
    (Contains-later 8194 8193 (8194 ∷ []) (Contains-first 8194 [])))
    fits)
