-- The end of phase one where t is not in the key: its constant is positive, and no vector meets all rows; or it is 0,
-- and t can come in.
use Rattle.std.proofs.Common.{◌≡◌, ◌≢◌, inl, inr, ⊎_elim, ℕ, List, [], ◌∷◌, ℤ, pos, ◌+ℤ◌, ◌*ℤ◌, refl, sym, ap, subst, ◌∙◌, arith}
use Rattle.std.specs.Prelude.{◌<ℤ◌, ◌≤ℤ◌}
use Rattle.std.specs.List.{Contains}
use Rattle.std.proofs.lemmas.Bool.{cases_eq}
use Rattle.std.proofs.lemmas.Int.{ints}
use Rattle.poly_num.specs.Vectors.{Vector, ◌·◌}
use Rattle.poly_num.proofs.Ring.{lin}
use Rattle.poly_num.proofs.Order.{positive_product, zero_factor}
use Rattle.poly_model.specs.Spaces.{Space, lifted}
use Rattle.poly_model.specs.Dictionaries.{Table, sum_over}
use Rattle.poly_model.specs.LexOrder.{rows_in}
use Rattle.poly_model.specs.Tree.{IsRowDictionary, IsRowOutside, IsFeasibleRoot, exchanged_key}
use Rattle.linear_laws.proofs.Members.{Contains-first, Contains-later}
use Rattle.linear_laws.proofs.Nearest.{both_nonnegative}
use Rattle.linear_laws.proofs.Signs.{zero_or, nonnegative_zero}
use Rattle.dictionary_laws.specs.Keys.{Exchanges}
use Rattle.dictionary_laws.proofs.Members.{contains_cases, sum_single}
use Rattle.dictionary_laws.proofs.Directions.{times_zero, zero_times}
use Rattle.dictionary_laws.proofs.Duals.{distinct}
use Rattle.dictionary_laws.proofs.Values.{terms}
use Rattle.poly_model.specs.Lowering.{IsLowest}
use Rattle.search_laws.specs.PhaseOne.{HasNoRowZero, MeetsRows, GivesRoot}
use Rattle.tree_laws.proofs.FirstMembers.{IsFirst, first_with}
use Rattle.tree_laws.proofs.Numbers.{row_is_label, key_row}
use Rattle.tree_laws.proofs.OrderLemmas.{row_only}
use Rattle.tree_laws.proofs.ExchangedKeys.{exchanges}
use Rattle.tree_laws.proofs.Exchange.{exchanged_dictionary}
use Rattle.tree_laws.proofs.PointValues.{IsKeyPoint, row_at_direction, nonnegative_value}
use Rattle.search_laws.proofs.LiftedForms.{first, along_t, along_t_direction, t_is_not_zero, inside_front, same_infinity, value_of_t, value_without}
use Rattle.search_laws.proofs.StartWithT.{not_t}
use Rattle.search_laws.proofs.KeyPoints.{key_point, root_from_point}

-- ---- sums that are not negative
nonnegative_over : (ks : List ℕ) (f : ℕ → ℤ) → ((k : ℕ) → Contains ks k → pos 0 ≤ℤ f k) → pos 0 ≤ℤ sum_over ks f
nonnegative_over [] f h = omega (arith, ints)
nonnegative_over (k ∷ ks) f h =
    both (f k) (sum_over ks f) (h k (Contains-first k ks))
    (nonnegative_over ks f (λ j c. h j (Contains-later j k ks c)))
  where
    both : (a b : ℤ) → pos 0 ≤ℤ a → pos 0 ≤ℤ b → pos 0 ≤ℤ (a +ℤ b)
    both a b h k = omega (arith, lin)

-- ---- no vector
module _ (space : Space) (start key : List ℕ) (t : Table) where
  module _ (none : HasNoRowZero space) (d : IsRowDictionary (lifted space start) key t) (low : IsLowest key t 0)
      (up : pos 0 <ℤ t.constant 0) (m : MeetsRows space) where
    abbrev lifted_vector : Vector
    lifted_vector = pos 0 ∷ m.vector

    row_value : (k : ℕ) → Contains key k → pos 0 ≤ℤ ((first space start).form k · lifted_vector)
    row_value k c =
        ⊎_elim
        (λ (e : k ≡ 0). nonnegative_zero ((first space start).form k · lifted_vector)
        (ap (λ j. (first space start).form j · lifted_vector) e ∙ value_of_t space start (pos 0) m.vector))
        (λ (l : Contains (rows_in space.labels) k).
        subst (λ (x : ℤ). pos 0 ≤ℤ x)
        (sym (value_without space start k (not_t space start none k (row_only space k l).0) (pos 0) m.vector refl))
        (m.rows k l))
        (contains_cases 0 (rows_in space.labels) k (key_row (first space start) key t d k c))

    pub none_meets_rows : ⊥
    none_meets_rows =
        clash (t.constant 0 *ℤ ((first space start).infinity · lifted_vector))
        (sum_over key (terms (first space start) t 0 lifted_vector))
        (positive_product (t.constant 0) ((first space start).infinity · lifted_vector) up
        (subst (λ (x : ℤ). pos 0 <ℤ x) (sym (same_infinity space start (pos 0) m.vector)) m.finite))
        (nonnegative_over key (terms (first space start) t 0 lifted_vector)
        (λ k c. both_nonnegative (t.entry 0 k) ((first space start).form k · lifted_vector) (low k c) (row_value k c)))
        (sym (d.dictionary.writes.values 0 (Contains-first 0 space.labels) lifted_vector
        (inside_front space start (pos 0) m.vector m.inside))
        ∙ times_zero t.denominator ((first space start).form 0 · lifted_vector)
        (value_of_t space start (pos 0) m.vector))
      where
        clash : (a b : ℤ) → pos 0 <ℤ a → pos 0 ≤ℤ b → a +ℤ b ≡ pos 0 → ⊥
        clash a b p q e = omega (arith, lin)

  -- ---- a column of t
  pub some_column : IsRowDictionary (lifted space start) key t → (s : ℕ) × Contains key s × (t.entry 0 s ≢ pos 0)
  some_column d =
      ⊎_elim
      (λ (none : (k : ℕ) → Contains key k → (t.entry 0 k ≢ pos 0) → ⊥).
      absurd (t_is_not_zero space start
      (row_at_direction (first space start) key t d 0 (Contains-first 0 (rows_in space.labels)) (along_t space start)
      (along_t_direction space start)
      (λ c m. inl (⊎_elim (λ (e : t.entry 0 c ≡ pos 0). e) (λ (n : t.entry 0 c ≢ pos 0). absurd (none c m n))
      (zero_or (t.entry 0 c)))))))
      (λ (w : (s : ℕ) × IsFirst (λ k. t.entry 0 k ≢ pos 0) key s). (w.0, w.1.member, w.1.has))
      (first_with (λ k. t.entry 0 k ≢ pos 0) key
      (λ k _. ⊎_elim (λ (e : t.entry 0 k ≡ pos 0). inr (λ n. n e)) (λ (n : t.entry 0 k ≢ pos 0). inl n)
      (zero_or (t.entry 0 k))))

-- ---- an exchange at which constants stay as they are
module _ (space : Space) (key : List ℕ) (t : Table) (f : IsFeasibleRoot space key t) (q s : ℕ)
    (o : IsRowOutside space.labels key q) (z : t.constant q ≡ pos 0) (c : Contains key s)
    (n : t.entry q s ≢ pos 0) where
  abbrev new : List ℕ
  new = exchanged_key key s q

  keys : Exchanges key new q s
  keys = exchanges key s q f.dictionary.ascending o.outside

  module _ (y : Vector) (at : IsKeyPoint space new y) where
    -- the label that goes out is 0 there too
    still_zero : space.form s · y ≡ pos 0
    still_zero =
        zero_factor (t.entry q s) (space.form s · y)
        (sym (sum_single s key (terms space t q y) (distinct space key f.dictionary.dictionary.cobasis) c
        (λ k m d. times_zero (t.entry q k) (space.form k · y) (at.nothing k (keys.kept k m d))))
        ∙ left (t.denominator *ℤ (space.form q · y)) (t.constant q) (space.infinity · y)
        (sum_over key (terms space t q y)) z
        (times_zero t.denominator (space.form q · y) (at.nothing q keys.entering))
        (f.dictionary.dictionary.writes.values q (row_is_label space q o.row) y at.inside)) n
      where
        left : (v c l s : ℤ) → c ≡ pos 0 → v ≡ pos 0 → v ≡ c *ℤ l +ℤ s → s ≡ pos 0
        left v c l s e g h = let k = zero_times c l e in omega (arith, lin)

    same_point : IsKeyPoint space key y
    same_point = record {
      inside = at.inside;
      finite = at.finite;
      nothing = λ k m.
          ⊎_elim
          (λ (e : k ≡ s). ap (λ j. space.form j · y) e ∙ still_zero)
          (λ (d : k ≡ s → ⊥). at.nothing k (keys.kept k m d))
          (cases_eq k s);
    }

  pub exchange_at_zero : GivesRoot space new
  exchange_at_zero = record {
    some = exchanged_dictionary space key t f.dictionary s q c o n;
    feasible = λ u e. by u e (key_point space new u e);
  }
    where
      by : (u : Table) (e : IsRowDictionary space new u) → (y : Vector) × IsKeyPoint space new y →
          IsFeasibleRoot space new u
      by u e (y, at) =
          root_from_point space new u e y at
          (λ i l. nonnegative_value space key t f.dictionary y (same_point y at) i l (f.constants i l))
