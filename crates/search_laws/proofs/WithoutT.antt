-- A cobasis of the lifted space with t: without t it is one of the space, and no constant is negative there either.
use Rattle.std.proofs.Common.{◌≡◌, ◌≢◌, ⊎_elim, ◌<◌, ℕ, List, [], ◌∷◌, ℤ, pos, refl, sym, ap, subst, ◌∙◌, arith}
use Rattle.std.specs.Prelude.{◌<ℤ◌, ◌≤ℤ◌}
use Rattle.std.specs.List.{Contains}
use Rattle.std.proofs.lemmas.List.Elements.{All-from_recursion}
use Rattle.poly_num.specs.Vectors.{Vector, ◌·◌}
use Rattle.poly_model.specs.Keys.{IsAscending}
use Rattle.poly_model.specs.Spaces.{Space, IsInside, IsDirection, HasPoints, lifted}
use Rattle.poly_model.specs.Dictionaries.{IsCobasis, Table, IsDictionary}
use Rattle.poly_model.specs.LexOrder.{rows_in}
use Rattle.poly_model.specs.Tree.{IsRowDictionary, IsFeasibleRoot}
use Rattle.linear_laws.proofs.Members.{Contains-nil, Contains-first, Contains-later, all_at}
use Rattle.dictionary_laws.proofs.Members.{all_from, contains_cases}
use Rattle.dictionary_laws.proofs.Duals.{Dual, dual_of, independent}
use Rattle.dictionary_laws.proofs.KeyExchange.{ascending_distinct}
use Rattle.dictionary_laws.proofs.Existence.{some_dictionary}
use Rattle.search_laws.specs.PhaseOne.{HasNoRowZero}
use Rattle.search_laws.specs.PhaseEnds.{IsWithT}
use Rattle.tree_laws.proofs.Numbers.{key_row}
use Rattle.tree_laws.proofs.OrderLemmas.{row_only}
use Rattle.search_laws.proofs.LiftedForms.{first, inside_front, inside_rest, same_infinity, direction_front, direction_rest, value_of_t, value_without}
use Rattle.search_laws.proofs.StartWithT.{not_t, writes_without}
use Rattle.tree_laws.proofs.PointValues.{IsKeyPoint, nonnegative_value}
use Rattle.search_laws.proofs.KeyPoints.{key_point, root_from_point}

-- an ascending key with the label 0 has it in front
zero_in_front : (key : List ℕ) → IsAscending key → Contains key 0 → (rest : List ℕ) × (key ≡ 0 ∷ rest)
zero_in_front [] a c = absurd (Contains-nil 0 c)
zero_in_front (k ∷ ks) a c =
    ⊎_elim
    (λ (e : 0 ≡ k). (ks, ap (λ j. j ∷ ks) (sym e)))
    (λ (d : Contains ks 0). let l : k < 0 = all_at (λ j. k < j) ks a.0 0 d in absurd (omega (arith, l)))
    (contains_cases k ks 0 c)

module _ (space : Space) (start rest : List ℕ) (t : Table) (none : HasNoRowZero space)
    (d : IsRowDictionary (lifted space start) (0 ∷ rest) t) where
  rest_row : (k : ℕ) → Contains rest k → Contains (rows_in space.labels) k
  rest_row k c =
      ⊎_elim
      (λ (e : k ≡ 0). let l : 0 < k = all_at (λ j. 0 < j) rest d.ascending.0 k c in absurd (omega (arith, l, e)))
      (λ (m : Contains (rows_in space.labels) k). m)
      (contains_cases 0 (rows_in space.labels) k
      (key_row (first space start) (0 ∷ rest) t d k (Contains-later k 0 rest c)))

  rest_label : (k : ℕ) → Contains rest k → Contains space.labels k
  rest_label k c = (row_only space k (rest_row k c)).0

  rest_not_t : (k : ℕ) → Contains rest k → k ≢ 0
  rest_not_t k c = not_t space start none k (rest_label k c)

  some_points : HasPoints (first space start) → HasPoints space
  some_points p = by p.vector p.inside p.finite
    where
      by : (y : Vector) → IsInside (first space start) y → (first space start).infinity · y ≢ pos 0 → HasPoints space
      by [] inside n = let w = inside.width in absurd (omega (arith, w))
      by (x ∷ z) inside n = record {
        vector = z;
        inside = inside_rest space start x z inside;
        finite = λ e. n (same_infinity space start x z ∙ e);
      }

  -- ---- the cobasis
  rest_dual : (k : ℕ) → Contains rest k → Dual space [] rest k
  rest_dual k c = of (dual_of (first space start) (0 ∷ rest) d.dictionary.cobasis k (Contains-later k 0 rest c))
    where
      by : (y : Vector) → IsDirection (first space start) y → (first space start).form k · y ≢ pos 0 →
          ((j : ℕ) → Contains (0 ∷ rest) j → j ≢ k → (first space start).form j · y ≡ pos 0) → Dual space [] rest k
      by [] direction here others = let w = direction.inside.width in absurd (omega (arith, w))
      by (x ∷ z) direction here others = record {
        vector = z;
        direction = direction_rest space start x z direction;
        before = λ i m. absurd (Contains-nil i m);
        here = λ e. here (value_without space start k (rest_not_t k c) x z t_zero ∙ e);
        elsewhere = λ j m n.
            sym (value_without space start j (rest_not_t j m) x z t_zero) ∙ others j (Contains-later j 0 rest m) n;
      }
        where
          t_zero : x ≡ pos 0
          t_zero =
              sym (value_of_t space start x z) ∙ others 0 (Contains-first 0 rest) (λ e. rest_not_t k c (sym e))

      of : Dual (first space start) [] (0 ∷ rest) k → Dual space [] rest k
      of v = by v.vector v.direction v.here v.elsewhere

  rest_cobasis : IsCobasis space rest
  rest_cobasis = record {
    labels = All-from_recursion (Contains space.labels) rest (all_from (Contains space.labels) rest rest_label);
    independent = independent space rest (ascending_distinct rest d.ascending.1) rest_dual;
    enough = λ z direction h.
        (d.dictionary.cobasis.enough (pos 0 ∷ z) (direction_front space start (pos 0) z direction) (
          value_of_t space start (pos 0) z,
          all_from (λ k. (first space start).form k · (pos 0 ∷ z) ≡ pos 0) rest
              (λ k c. value_without space start k (rest_not_t k c) (pos 0) z refl
              ∙ all_at (λ k. space.form k · z ≡ pos 0) rest h k c),
        )).1;
  }

  rest_dictionary : (u : Table) × IsRowDictionary space rest u
  rest_dictionary = by (some_dictionary space rest rest_cobasis)
    where
      by : (u : Table) × IsDictionary space rest u → (u : Table) × IsRowDictionary space rest u
      by (u, h) = (
        u,
        record {
          points = some_points d.points;
          ascending = d.ascending.1;
          rows = All-from_recursion (Contains (rows_in space.labels)) rest
              (all_from (Contains (rows_in space.labels)) rest rest_row);
          dictionary = h;
        },
      )

  -- ---- its point is that of the key with t
  rest_point : (z : Vector) → IsKeyPoint space rest z → IsKeyPoint (first space start) (0 ∷ rest) (pos 0 ∷ z)
  rest_point z at = record {
    inside = inside_front space start (pos 0) z at.inside;
    finite = subst (λ (x : ℤ). pos 0 <ℤ x) (sym (same_infinity space start (pos 0) z)) at.finite;
    nothing = λ k m.
        ⊎_elim
        (λ (e : k ≡ 0). ap (λ j. (first space start).form j · (pos 0 ∷ z)) e ∙ value_of_t space start (pos 0) z)
        (λ (c : Contains rest k).
        value_without space start k (rest_not_t k c) (pos 0) z refl ∙ at.nothing k c)
        (contains_cases 0 rest k m);
  }

  module _ (f : IsFeasibleRoot (lifted space start) (0 ∷ rest) t) where
    rest_value : (z : Vector) → IsKeyPoint space rest z → (i : ℕ) → Contains (rows_in space.labels) i →
        pos 0 ≤ℤ (space.form i · z)
    rest_value z at i l =
        subst (λ (x : ℤ). pos 0 ≤ℤ x)
        (value_without space start i (not_t space start none i (row_only space i l).0) (pos 0) z refl)
        (nonnegative_value (first space start) (0 ∷ rest) t d (pos 0 ∷ z) (rest_point z at) i
        (Contains-later i 0 (rows_in space.labels) l) (f.constants i (Contains-later i 0 (rows_in space.labels) l)))

    pub with_t : IsWithT space (0 ∷ rest) t
    with_t = record {
      rest = rest;
      first = refl;
      writes = writes_without space start none rest t rest_label d.dictionary.writes;
      root = record { some = rest_dictionary; feasible = λ u e. by u e (key_point space rest u e) };
    }
      where
        by : (u : Table) (e : IsRowDictionary space rest u) → (z : Vector) × IsKeyPoint space rest z →
            IsFeasibleRoot space rest u
        by u e (z, at) = root_from_point space rest u e z at (rest_value z at)

pub root_without_t : (space : Space) (start key : List ℕ) (t : Table) → HasNoRowZero space →
    IsFeasibleRoot (lifted space start) key t → Contains key 0 → IsWithT space key t
root_without_t space start key t none f c = by (zero_in_front key f.dictionary.ascending c)
  where
    by : (rest : List ℕ) × (key ≡ 0 ∷ rest) → IsWithT space key t
    by (rest, e) =
        let g = subst (λ k. IsFeasibleRoot (lifted space start) k t) e f in
        subst (λ k. IsWithT space k t) (sym e) (with_t space start rest t none g.dictionary g)
