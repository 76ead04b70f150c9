-- A dictionary known by hand: of the H file with the rows 1 + 2 x1 - 3 x2 >= 0 and x2 >= 0, after
-- row 1 has taken the place of x1:
--
--     2 x1 = -1 + 1 row1 + 3 x2        2 row2 = 2 x2
--
-- The same numbers doubled write the labels, and are no dictionary.
use Rattle.std.proofs.Common.{◌≡◌, ℕ, false, List, [], ◌∷◌, ℤ, pos, negsuc, ◌+ℤ◌, ◌*ℤ◌, refl, arith}
use Rattle.std.specs.Prelude.{◌≤ℤ◌, ◌<ℤ◌, ◌==◌, if◌then◌else◌}
use Rattle.std.specs.List.{AllByRecursion, Contains}
use Rattle.std.proofs.lemmas.Int.{ints}
use Rattle.std.proofs.lemmas.List.Elements.{All-from_recursion}
use Rattle.poly_num.specs.Vectors.{Vector, ◌·◌, IsZero}
use Rattle.poly_model.specs.declared.kind.Kind.TheVariants.{H}
use Rattle.poly_model.specs.Systems.{Polyhedron, FileRow}
use Rattle.poly_model.specs.Spaces.{Space, IsInside, IsDirection, prepare_space}
use Rattle.poly_model.specs.Dictionaries.{Table, IsCobasis, AreIndependent, Writes, IsDictionary, sum_over}
use Rattle.dictionary_laws.specs.Coordinates.{coordinate_key, coordinate_table, first_coordinate}
use Rattle.linear_laws.proofs.Members.{Contains-first, Contains-later, Contains-nil}
use Rattle.linear_laws.proofs.Entries.{by_three}
use Rattle.dictionary_laws.proofs.Members.{by_cases}

abbrev pub row : Vector → FileRow
row entries = record { entries = entries; linear = false }

abbrev file : Polyhedron
file = record {
  kind = H;
  n = 3;
  nonnegative = false;
  text = [];
  rows = row (pos 1 ∷ pos 2 ∷ negsuc 2 ∷ []) ∷ row (pos 0 ∷ pos 0 ∷ pos 1 ∷ []) ∷ [];
}

abbrev space : Space
space = prepare_space file

-- row 1 and x2
abbrev key : List ℕ
key = 1 ∷ 8194 ∷ []

abbrev table : Table
table = record {
  denominator = pos 2;
  constant = λ i. if i == 8193 then negsuc 0 else pos 0;
  entry = λ i k.
      if i == 1 then (if k == 1 then pos 2 else pos 0)
      else (if i == 8193 then (if k == 1 then pos 1 else pos 3)
      else (if k == 1 then pos 0 else pos 2));
}

-- before that: the coordinates, whose numbers are the entries of the rows
coordinates_are : coordinate_key (first_coordinate H) 3 ≡ 8193 ∷ 8194 ∷ []
coordinates_are = refl

abbrev first_table : Table
first_table = coordinate_table space (8193 ∷ 8194 ∷ [])

entries_of_row_1 :
    first_table.constant 1 ∷ first_table.entry 1 8193 ∷ first_table.entry 1 8194 ∷ []
    ≡ pos 1 ∷ pos 2 ∷ negsuc 2 ∷ []
entries_of_row_1 = refl

entries_of_x2 :
    first_table.constant 8194 ∷ first_table.entry 8194 8193 ∷ first_table.entry 8194 8194 ∷ []
    ≡ pos 0 ∷ pos 0 ∷ pos 1 ∷ []
entries_of_x2 = refl

labels_are : space.labels ≡ 1 ∷ 2 ∷ 8193 ∷ 8194 ∷ []
labels_are = refl

-- a fact of each label
pub each_label : (P : ℕ → Type 0) → P 1 → P 2 → P 8193 → P 8194 → (i : ℕ) →
    Contains (1 ∷ 2 ∷ 8193 ∷ 8194 ∷ []) i → P i
each_label P p q r s =
    by_cases P 1 (2 ∷ 8193 ∷ 8194 ∷ []) p
    (by_cases P 2 (8193 ∷ 8194 ∷ []) q
    (by_cases P 8193 (8194 ∷ []) r
    (by_cases P 8194 [] s (λ i c. absurd (Contains-nil i c)))))

abbrev IsWritten : Table → ℕ → Vector → Type 0
IsWritten t i y =
    t.denominator *ℤ (space.form i · y)
    ≡ t.constant i *ℤ (space.infinity · y) +ℤ sum_over key (λ k. t.entry i k *ℤ (space.form k · y))

writes : Writes space key table
writes = record {
  positive = omega (arith, ints);
  values = λ i l y h. by_three (λ z. IsWritten table i z)
      (λ a b c. each_label (λ j. IsWritten table j (a ∷ b ∷ c ∷ []))
      (omega (arith, ints)) (omega (arith, ints)) (omega (arith, ints)) (omega (arith, ints)) i l)
      y h.width;
}

-- x1 alone, and x1 and x2 along row 1
along_x1 : Vector
along_x1 = pos 0 ∷ pos 1 ∷ pos 0 ∷ []

along_row_1 : Vector
along_row_1 = pos 0 ∷ pos 3 ∷ pos 2 ∷ []

along_x1_direction : IsDirection space along_x1
unfolding along_x1
along_x1_direction = record { inside = record { width = refl; fixed = tt }; level = refl }

along_row_1_direction : IsDirection space along_row_1
unfolding along_row_1
along_row_1_direction = record { inside = record { width = refl; fixed = tt }; level = refl }

independent : AreIndependent space [] key
unfolding along_x1 along_row_1
independent = (
  (along_x1, along_x1_direction, tt, λ e. omega (arith, ints, e)),
  ((along_row_1, along_row_1_direction, (refl, tt), λ e. omega (arith, ints, e)), tt),
)

only_zero : (a b c : ℤ) → pos 1 *ℤ a +ℤ pos 0 ≡ pos 0 →
    pos 1 *ℤ a +ℤ (pos 2 *ℤ b +ℤ (negsuc 2 *ℤ c +ℤ pos 0)) ≡ pos 0 →
    pos 0 *ℤ a +ℤ (pos 0 *ℤ b +ℤ (pos 1 *ℤ c +ℤ pos 0)) ≡ pos 0 → IsZero (a ∷ b ∷ c ∷ [])
only_zero a b c h k l = (omega (arith, ints), (omega (arith, ints), (omega (arith, ints), tt)))

cobasis : IsCobasis space key
cobasis = record {
  labels = All-from_recursion (Contains space.labels) key (
    Contains-first 1 (2 ∷ 8193 ∷ 8194 ∷ []),
    (
      Contains-later 8194 1 (2 ∷ 8193 ∷ 8194 ∷ [])
          (Contains-later 8194 2 (8193 ∷ 8194 ∷ [])
          (Contains-later 8194 8193 (8194 ∷ []) (Contains-first 8194 []))),
      tt,
    ),
  );
  independent = independent;
  enough = λ z d v.
      by_three (λ y. space.infinity · y ≡ pos 0 → AllByRecursion (λ k. space.form k · y ≡ pos 0) key →
      IsZero y)
      (λ a b c l w. only_zero a b c l w.0 w.1.0)
      z (IsInside.width d.inside) d.level v;
}

-- a denominator that writes x1 is even
even_positive : (d c e f : ℤ) → pos 0 <ℤ d →
    d *ℤ pos 1 ≡ c *ℤ pos 0 +ℤ (e *ℤ pos 2 +ℤ (f *ℤ pos 0 +ℤ pos 0)) → pos 2 ≤ℤ d
even_positive d c e f h k = omega (arith, ints)

dictionary : IsDictionary space key table
dictionary = record {
  cobasis = cobasis;
  writes = writes;
  least = λ u w.
      even_positive u.denominator (u.constant 8193) (u.entry 8193 1) (u.entry 8193 8194) w.positive
      (w.values 8193
      (Contains-later 8193 1 (2 ∷ 8193 ∷ 8194 ∷ [])
      (Contains-later 8193 2 (8193 ∷ 8194 ∷ []) (Contains-first 8193 (8194 ∷ []))))
      (pos 0 ∷ pos 1 ∷ pos 0 ∷ []) (record { width = refl; fixed = tt }));
}

-- the same numbers doubled
abbrev doubled : Table
doubled = record {
  denominator = pos 4;
  constant = λ i. pos 2 *ℤ table.constant i;
  entry = λ i k. pos 2 *ℤ table.entry i k;
}

doubled_writes : Writes space key doubled
doubled_writes = record {
  positive = omega (arith, ints);
  values = λ i l y h. by_three (λ z. IsWritten doubled i z)
      (λ a b c. each_label (λ j. IsWritten doubled j (a ∷ b ∷ c ∷ []))
      (omega (arith, ints)) (omega (arith, ints)) (omega (arith, ints)) (omega (arith, ints)) i l)
      y h.width;
}

doubled_is_none : IsDictionary space key doubled → ⊥
doubled_is_none d = let l : pos 4 ≤ℤ pos 2 = d.least table writes in omega (arith, ints, l)
