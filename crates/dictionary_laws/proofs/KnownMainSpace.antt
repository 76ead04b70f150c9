-- Main spaces known by hand. The H file with the equation 0 = 0 and the row x1 >= 0 in the unknowns x1
-- and x2 has the free column 2: at its coordinates the main space can be entered, and x1 stays. With the
-- equation x1 = 0 in its place it cannot, since x1 is to go first.
use Rattle.std.proofs.Common.{◌≡◌, ℕ, zero, suc, true, false, List, [], ◌∷◌, ℤ, pos, ◌*ℤ◌, length, refl, sym, ◌∙◌, ⊎_elim, arith}
use Rattle.std.specs.List.{Contains, filter}
use Rattle.std.proofs.lemmas.Int.{ints}
use Rattle.std.proofs.lemmas.List.Elements.{All-from_recursion}
use Rattle.poly_num.specs.Vectors.{Vector, ◌·◌}
use Rattle.poly_num.proofs.Ring.{lin, mul_one, mul_zero}
use Rattle.poly_model.specs.declared.kind.Kind.TheVariants.{H}
use Rattle.poly_model.specs.Systems.{Row, Polyhedron, cone_of}
use Rattle.poly_model.specs.Cones.{at}
use Rattle.poly_model.specs.FreeColumns.{IsFree, AreFreeColumns}
use Rattle.poly_model.specs.Spaces.{prepare_space}
use Rattle.poly_model.specs.Labels.{coordinate_label}
use Rattle.poly_model.specs.Dictionaries.{Table, IsDictionary}
use Rattle.linear_laws.proofs.Members.{Contains-first, Contains-later, Contains-nil}
use Rattle.dictionary_laws.specs.Coordinates.{coordinate_table}
use Rattle.dictionary_laws.specs.Points.{AreSettled}
use Rattle.poly_model.specs.Equations.{equation_labels}
use Rattle.dictionary_laws.specs.MainSpace.{stays, CanEnterMain, EntersMain}
use Rattle.dictionary_laws.proofs.Members.{by_cases, contains_cases}
use Rattle.dictionary_laws.proofs.CoordinateDictionary.{coordinate_dictionary}
use Rattle.dictionary_laws.proofs.CoordinateSpaces.{phase_coordinates, coordinate_keys}
use Rattle.dictionary_laws.proofs.MainSpace.{main_dictionary}

-- a file with this equation and the row x1 >= 0
abbrev file_with : Vector → Polyhedron
file_with equation = record {
  kind = H;
  n = 3;
  nonnegative = false;
  text = [];
  rows = record { entries = equation; linear = true }
      ∷ record { entries = pos 0 ∷ pos 1 ∷ pos 0 ∷ []; linear = false } ∷ [];
}

abbrev file : Polyhedron
file = file_with (pos 0 ∷ pos 0 ∷ pos 0 ∷ [])

-- x1 and x2
abbrev key : List ℕ
key = 8193 ∷ 8194 ∷ []

abbrev table : Table
table = coordinate_table (prepare_space file) key

-- the free column
abbrev free : List ℕ
free = 2 ∷ []

row_1_is_an_equation : equation_labels file ≡ 1 ∷ []
row_1_is_an_equation = refl

x1_stays : filter (stays file free) key ≡ 8193 ∷ []
x1_stays = refl

dictionary : IsDictionary (prepare_space file) key table
dictionary =
    coordinate_dictionary (prepare_space file) key ((phase_coordinates file).prepare (omega arith))
    (coordinate_keys 1 3).distinct

column_2 : IsFree (cone_of file) 2
column_2 = record {
  within = omega arith;
  factor = pos 1;
  weights = pos 0 ∷ pos 0 ∷ [];
  nonzero = λ e. omega (arith, ints, e);
  earlier = refl;
  combines = All-from_recursion
      (λ (row : Row). pos 1 *ℤ at 2 row.entries ≡ (pos 0 ∷ pos 0 ∷ []) · row.entries)
      (cone_of file).rows (refl, (refl, (refl, tt)));
}

only_column_2 : (j : ℕ) → IsFree (cone_of file) j → Contains free j
only_column_2 zero f =
    absurd (f.nonzero (first f.factor f.weights f.earlier (f.combines 2 (cone_row) (omega arith))))
  where
    cone_row : Row
    cone_row = record { entries = []; linear = false; point = false }

    first : (x : ℤ) (w : Vector) → length w ≡ 0 → x *ℤ pos 1 ≡ w · (pos 1 ∷ pos 0 ∷ pos 0 ∷ []) → x ≡ pos 0
    first x [] l e = sym (mul_one x) ∙ e
    first x (a ∷ w) l e = absurd (omega arith)
only_column_2 (suc zero) f =
    absurd (f.nonzero (second f.factor f.weights f.earlier (f.combines 1 (cone_row) (omega arith))))
  where
    cone_row : Row
    cone_row = record { entries = []; linear = false; point = false }

    second : (x : ℤ) (w : Vector) → length w ≡ 1 → x *ℤ pos 1 ≡ w · (pos 0 ∷ pos 1 ∷ pos 0 ∷ []) → x ≡ pos 0
    second x [] l e = absurd (omega arith)
    second x (a ∷ []) l e = let f = mul_one x in let g = mul_zero a in omega (arith, lin)
    second x (a ∷ b ∷ w) l e = absurd (omega arith)
only_column_2 (suc (suc zero)) f = Contains-first 2 []
only_column_2 (suc (suc (suc j))) f = let l = f.within in absurd (omega arith)

free_columns : AreFreeColumns (cone_of file) free
free_columns = record {
  ascending = (tt, tt);
  exactly = λ j. (
    only_column_2 j,
    by_cases (IsFree (cone_of file)) 2 [] column_2 (λ k c. absurd (Contains-nil k c)) j,
  );
}

can_enter : CanEnterMain file free key table
can_enter = record {
  columns = free_columns;
  free_inside = by_cases (λ j. Contains key (coordinate_label j)) 2 []
      (Contains-later 8194 8193 (8194 ∷ []) (Contains-first 8194 [])) (λ j c. absurd (Contains-nil j c));
  settled = λ i k c m n. by_cases (λ (j : ℕ). table.entry j k ≡ pos 0) 1 []
      (by_cases (λ (l : ℕ). table.entry 1 l ≡ pos 0) 8193 (8194 ∷ []) refl
      (by_cases (λ (l : ℕ). table.entry 1 l ≡ pos 0) 8194 [] refl (λ l d. absurd (Contains-nil l d))) k m)
      (λ j d. absurd (Contains-nil j d)) i c;
  point = record {
    vector = pos 1 ∷ pos 0 ∷ pos 0 ∷ [];
    inside = record { width = refl; fixed = tt };
    finite = λ e. omega (arith, ints, e);
    zero = by_cases (λ i. (prepare_space file).form i · (pos 1 ∷ pos 0 ∷ pos 0 ∷ []) ≡ pos 0) 1 [] refl
        (λ i c. absurd (Contains-nil i c));
  };
}

entered : EntersMain file free key table
entered = main_dictionary file free key table (omega arith) dictionary can_enter

-- the equation x1 = 0
abbrev other : Polyhedron
other = file_with (pos 0 ∷ pos 1 ∷ pos 0 ∷ [])

not_settled : AreSettled key (coordinate_table (prepare_space other) key) (equation_labels other) → ⊥
not_settled h =
    let e : pos 1 ≡ pos 0 = h 1 8193 (Contains-first 1 []) (Contains-first 8193 (8194 ∷ []))
    (λ c. ⊎_elim (λ (f : 8193 ≡ 1). absurd (omega arith)) (Contains-nil 8193) (contains_cases 1 [] 8193 c)) in
    omega (arith, ints)
