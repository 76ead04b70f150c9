-- Spaces given by their rows and tables by their lines; a table is the dictionary of its key where that is so for each
-- label and each vector. For the known values in the files Known*.
use Rattle.std.proofs.Common.{◌≡◌, ℕ, ◌<◌, zero, suc, ℤ, pos, ◌*ℤ◌, ◌+ℤ◌, ◌≤ℤ◌, ◌<ℤ◌}
use Rattle.std.proofs.Common.{List, [], ◌∷◌, refl, map, length, sym, ap, ◌∙◌, arith}
use Rattle.std.proofs.lemmas.Int.{ints}
use Rattle.std.specs.Prelude.{◌≢◌, ◌==◌, if◌then◌else◌}
use Rattle.std.specs.List.{AllByRecursion, Contains, slice_index_or}
use Rattle.std.proofs.lemmas.List.Elements.{All-from_recursion}
use Rattle.poly_num.specs.Vectors.{Vector, ◌·◌, scale, sum_of, IsZero}
use Rattle.poly_num.proofs.VectorLemmas.{dot-nil, sum-dot, scale-dot}
use Rattle.poly_num.proofs.Order.{zero_factor, positive_nonzero}
use Rattle.poly_num.proofs.Ring.{expand, lin, mul_one, add_zero}
use Rattle.poly_model.specs.Independence.{Vanish}
use Rattle.poly_model.specs.Keys.{IsAscending}
use Rattle.poly_model.specs.Spaces.{Space, IsInside, HasPoints, prepare_space}
use Rattle.poly_model.specs.Dictionaries.{Table, AreIndependent, Writes, sum_over}
use Rattle.poly_model.specs.LexOrder.{rows_in}
use Rattle.poly_model.specs.Tree.{IsRowDictionary}
use Rattle.poly_model.specs.Cones.{at}
use Rattle.poly_model.specs.Systems.{Row, file_rows}
use Rattle.poly_model.specs.Labels.{coordinate_label}
use Rattle.linear_laws.proofs.Members.{all_at}
use Rattle.linear_laws.proofs.Entries.{coordinate_reads}
use Rattle.cone_laws.proofs.KnownValues.{inequality, h_file}
use Rattle.dictionary_laws.proofs.Members.{sum_zero}
use Rattle.dictionary_laws.proofs.Directions.{times_zero}
use Rattle.dictionary_laws.proofs.Values.{level_value, terms}
use Rattle.dictionary_laws.proofs.Filters.{coordinate_is_label}
use Rattle.dictionary_laws.proofs.CoordinateSpaces.{coordinate_form}
use Rattle.tree_laws.proofs.Numbers.{row_is_label}

-- ---- spaces
-- the space of an H file with these rows, none of them linear
abbrev pub space_of : ℕ → List Vector → Space
space_of n rows = prepare_space (h_file n (map inequality rows))

pub inside : (n : ℕ) (rows : List Vector) (y : Vector) → length y ≡ n → IsInside (space_of n rows) y
inside n rows y w = record { width = w; fixed = tt }

pub has_points : (n : ℕ) (rows : List Vector) (z : Vector) → length (pos 1 ∷ z) ≡ n → HasPoints (space_of n rows)
has_points n rows z w = record { vector = pos 1 ∷ z; inside = inside n rows (pos 1 ∷ z) w; finite = λ e. cc }

-- the space has a point, and a vector is zero where infinity and the labels are 0 at it
pub record HasEnoughLabels (space : Space) : Type 0 where
  pub points : HasPoints space
  pub enough : (z : Vector) → length z ≡ space.n → space.infinity · z ≡ pos 0 →
      ((i : ℕ) → Contains space.labels i → space.form i · z ≡ pos 0) → IsZero z

zero_by_entries : (z : Vector) → ((j : ℕ) → j < length z → at j z ≡ pos 0) → IsZero z
zero_by_entries [] h = tt
zero_by_entries (x ∷ z) h = (h 0 (omega arith), zero_by_entries z (λ j l. h (suc j) (omega arith)))

pub has_enough_labels : (n : ℕ) (rows : List Vector) (z : Vector) → length (pos 1 ∷ z) ≡ n →
    HasEnoughLabels (space_of n rows)
has_enough_labels n rows z w = record {
  points = has_points n rows z w;
  enough = λ y l level zero. zero_by_entries y (λ j below. entry y l level zero j below);
}
  where
    all : List Row
    all = file_rows (h_file n (map inequality rows))

    entry : (y : Vector) → length y ≡ n → (space_of n rows).infinity · y ≡ pos 0 →
        ((i : ℕ) → Contains (space_of n rows).labels i → (space_of n rows).form i · y ≡ pos 0) →
        (j : ℕ) → j < length y → at j y ≡ pos 0
    entry y l level zeros zero below = sym (coordinate_reads 0 y) ∙ level
    entry y l level zeros (suc j) below =
        sym (coordinate_reads (suc j) y)
        ∙ ap (λ g. g · y) (sym (coordinate_form all (suc j)))
        ∙ zeros (coordinate_label (suc j)) (coordinate_is_label (length all) 1 n (suc j) (omega arith) (omega arith))

-- ---- tables
-- the number of a line at k, where its numbers stand at these labels
abbrev pub number_at : ℕ → List ℕ → List ℤ → ℤ
number_at k [] xs = pos 0
number_at k (j ∷ js) [] = pos 0
number_at k (j ∷ js) (x ∷ xs) = if k == j then x else number_at k js xs

-- the line of a label
abbrev pub line_of : ℕ → List ℕ → List (List ℤ) → List ℤ
line_of k [] lines = []
line_of k (j ∷ js) [] = []
line_of k (j ∷ js) (line ∷ lines) = if k == j then line else line_of k js lines

-- a table by its lines, one for each label: the constant, which stands at 0, and the entries in the columns of the key
abbrev pub table_of : ℤ → List ℕ → List ℕ → List (List ℤ) → Table
table_of denominator key labels lines = record {
  denominator = denominator;
  constant = λ i. number_at 0 (0 ∷ key) (line_of i labels lines);
  entry = λ i k. number_at k (0 ∷ key) (line_of i labels lines);
}

-- ---- dictionaries
-- the vector with zeros behind it, up to n entries
abbrev pub padded : ℕ → Vector → Vector
padded zero u = []
padded (suc n) [] = pos 0 ∷ padded n []
padded (suc n) (x ∷ u) = x ∷ padded n u

padded-dot : (n : ℕ) (u y : Vector) → length y ≡ n → padded n u · y ≡ u · y
padded-dot zero u [] w = sym (dot-nil u)
padded-dot zero u (a ∷ y) w = absurd (omega arith)
padded-dot (suc n) u [] w = absurd (omega arith)
padded-dot (suc n) [] (a ∷ y) w = let h = padded-dot n [] y (omega arith) in rw h (omega (arith, ints))
padded-dot (suc n) (x ∷ u) (a ∷ y) w = ap (λ z. x *ℤ a +ℤ z) (padded-dot n u y (omega arith))

module _ (space : Space) (key : List ℕ) (t : Table) where
  -- p times a form, all its entries written out
  abbrev pub times : ℤ → Vector → Vector
  times p u = scale p (padded space.n u)

  times-dot : (p : ℤ) (u y : Vector) → length y ≡ space.n → times p u · y ≡ p *ℤ (u · y)
  times-dot p u y w = scale-dot p (padded space.n u) y ∙ ap (λ z. p *ℤ z) (padded-dot space.n u y w)

  -- the form that the line of a label gives
  abbrev pub from_line : List ℕ → ℕ → Vector
  from_line [] i = times (t.constant i) space.infinity
  from_line (k ∷ ks) i = sum_of (times (t.entry i k) (space.form k)) (from_line ks i)

  from_line-dot : (ks : List ℕ) (i : ℕ) (y : Vector) → length y ≡ space.n →
      from_line ks i · y ≡ t.constant i *ℤ (space.infinity · y) +ℤ sum_over ks (λ k. t.entry i k *ℤ (space.form k · y))
  from_line-dot [] i y w =
      times-dot (t.constant i) space.infinity y w
      ∙ sym (add_zero (t.constant i *ℤ (space.infinity · y)))
  from_line-dot (k ∷ ks) i y w =
      sum-dot (times (t.entry i k) (space.form k)) (from_line ks i) y
      ∙ ap (λ z. z +ℤ from_line ks i · y) (times-dot (t.entry i k) (space.form k) y w)
      ∙ ap (λ z. t.entry i k *ℤ (space.form k · y) +ℤ z) (from_line-dot ks i y w)
      ∙ swap (t.entry i k *ℤ (space.form k · y)) (t.constant i *ℤ (space.infinity · y))
      (sum_over ks (λ k. t.entry i k *ℤ (space.form k · y)))
    where
      swap : (a b c : ℤ) → a +ℤ (b +ℤ c) ≡ b +ℤ (a +ℤ c)
      swap a b c = omega (arith, ints)

  -- times the denominator, it is that of the label
  abbrev pub IsLineOf : ℕ → Type 0
  IsLineOf i = times t.denominator (space.form i) ≡ from_line key i

  -- where infinity and the labels of the key are 0, all labels are
  zero_at_labels : pos 0 <ℤ t.denominator → AllByRecursion IsLineOf space.labels → (z : Vector) → length z ≡ space.n →
      space.infinity · z ≡ pos 0 → AllByRecursion (λ k. space.form k · z ≡ pos 0) key →
      (i : ℕ) → Contains space.labels i → space.form i · z ≡ pos 0
  zero_at_labels p lines z w level v i c =
      zero_factor t.denominator (space.form i · z)
      (sym (times-dot t.denominator (space.form i) z w)
      ∙ ap (λ u. u · z) (all_at IsLineOf space.labels lines i c)
      ∙ level_value (t.constant i) (space.infinity · z) (sum_over key (terms space t i z)) (from_line key i · z) level
      (from_line-dot key i z w)
      ∙ sum_zero key (terms space t i z)
      (λ k m. times_zero (t.entry i k) (space.form k · z) (all_at (λ k. space.form k · z ≡ pos 0) key v k m)))
      (positive_nonzero t.denominator p)

  -- z is a direction
  abbrev pub IsFlat : Vector → Type 0
  IsFlat z = (length z ≡ space.n) × Vanish space.fixed z × (space.infinity · z ≡ pos 0)

  -- directions, one for each label: it is not 0 there, and the labels before it are
  abbrev pub AreWitnesses : List ℕ → List ℕ → List Vector → Type 0
  AreWitnesses before [] zs = Unit {0}
  AreWitnesses before (k ∷ ks) [] = ⊥
  AreWitnesses before (k ∷ ks) (z ∷ zs) =
      (IsFlat z × AllByRecursion (λ i. space.form i · z ≡ pos 0) before × (space.form k · z ≢ pos 0))
      × AreWitnesses (k ∷ before) ks zs

  apart : (before ks : List ℕ) (zs : List Vector) → AreWitnesses before ks zs → AreIndependent space before ks
  apart before [] zs h = tt
  apart before (k ∷ ks) [] h = absurd h
  apart before (k ∷ ks) (z ∷ zs) (((w, v, l), vanish, n), h) = (
    (z, record { inside = record { width = w; fixed = v }; level = l }, vanish, n),
    apart (k ∷ before) ks zs h,
  )

  -- the denominator is positive, and none that writes the labels is less
  abbrev pub IsLeast : Type 0
  IsLeast = (pos 0 <ℤ t.denominator) × ((other : Table) → Writes space key other → t.denominator ≤ℤ other.denominator)

  -- the dictionary of a key of rows: each label has its line, and the entries of a direction are 0 one after the other
  pub record IsSolved : Type 0 where
    pub labels : HasEnoughLabels space
    pub ascending : IsAscending key
    pub rows : AllByRecursion (Contains (rows_in space.labels)) key
    pub directions : List Vector
    pub independent : AreWitnesses [] key directions
    pub lines : AllByRecursion IsLineOf space.labels
    pub least : IsLeast

  pub solved : IsSolved → IsRowDictionary space key t
  solved h = record {
    points = h.labels.points;
    ascending = h.ascending;
    rows = All-from_recursion (Contains (rows_in space.labels)) key h.rows;
    dictionary = record {
      cobasis = record {
        labels = λ k d l. row_is_label space (slice_index_or key k d)
            (All-from_recursion (Contains (rows_in space.labels)) key h.rows k d l);
        independent = apart [] key h.directions h.independent;
        enough = λ z d v. h.labels.enough z d.inside.width d.level
            (zero_at_labels h.least.0 h.lines z d.inside.width d.level v);
      };
      writes = record {
        positive = h.least.0;
        values = λ i c y d. sym (times-dot t.denominator (space.form i) y d.width)
            ∙ ap (λ v. v · y) (all_at IsLineOf space.labels h.lines i c)
            ∙ from_line-dot key i y d.width;
      };
      least = h.least.1;
    };
  }

  pub one_is_least : t.denominator ≡ pos 1 → IsLeast
  one_is_least e = (omega (arith, ints, e), λ other w. let p = w.positive in omega (arith, ints))

  -- a sum of multiples of even numbers
  sum_is_even : (ks : List ℕ) (halves : List ℤ) (e f : ℕ → ℤ) → map f ks ≡ map (λ (h : ℤ). h +ℤ h) halves →
      (q : ℤ) × (sum_over ks (λ k. e k *ℤ f k) ≡ q +ℤ q)
  sum_is_even [] halves e f h = (pos 0, refl)
  sum_is_even (k ∷ ks) [] e f h = absurd cc
  sum_is_even (k ∷ ks) (x ∷ halves) e f h =
      let first : f k ≡ x +ℤ x = cc in
      let others : map f ks ≡ map (λ (h : ℤ). h +ℤ h) halves = cc in
      let rest = sum_is_even ks halves e f others in
      (e k *ℤ x +ℤ rest.0, twice (e k) (f k) x (sum_over ks (λ k. e k *ℤ f k)) rest.0 first rest.1)
    where
      twice : (e f x s r : ℤ) → f ≡ x +ℤ x → s ≡ r +ℤ r → e *ℤ f +ℤ s ≡ (e *ℤ x +ℤ r) +ℤ (e *ℤ x +ℤ r)
      twice e f x s r g h = let a = simp expand at (ap (λ (t : ℤ). e *ℤ t) g) in omega (arith, lin)

  -- at a direction where a label is 1 and those of the key are even: each denominator is even
  pub two_is_least : t.denominator ≡ pos 2 → (i : ℕ) → Contains space.labels i → (z : Vector) → IsInside space z →
      space.infinity · z ≡ pos 0 → space.form i · z ≡ pos 1 →
      (halves : List ℤ) → map (λ k. space.form k · z) key ≡ map (λ (h : ℤ). h +ℤ h) halves → IsLeast
  two_is_least e i c z inside level one halves even = (
    omega (arith, ints, e),
    λ other w.
        let q = sum_is_even key halves (other.entry i) (λ k. space.form k · z) even in
        at_least t.denominator other.denominator (space.form i · z) q.0 e one w.positive
        (level_value (other.constant i) (space.infinity · z) (sum_over key (terms space other i z))
        (other.denominator *ℤ (space.form i · z)) level (w.values i c z inside)
        ∙ q.1),
  )
    where
      at_least : (d other v q : ℤ) → d ≡ pos 2 → v ≡ pos 1 → pos 0 <ℤ other → other *ℤ v ≡ q +ℤ q → d ≤ℤ other
      at_least d other v q e f p h =
          let g = sym (ap (λ (t : ℤ). other *ℤ t) f ∙ mul_one other) in omega (arith, ints)
