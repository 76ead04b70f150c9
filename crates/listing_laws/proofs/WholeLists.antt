-- What is under a prefix is a list, and what a loop has listed of it is the beginning of one.
use Rattle.std.proofs.Common.{◌≡◌, ◌⊎◌, inl, inr, ⊎_elim, Bool, true, false, ℕ, zero, suc, ◌+◌, ◌-◌, ◌<◌, ◌≤◌, ℤ, pos, negsuc, neg_ℤ, ◌*ℤ◌, List, [], ◌∷◌, ◌++◌, map, length, length-append, append_assoc, refl, sym, ap, ◌∙◌, subst, arith}
use Rattle.std.specs.Prelude.{◌≤ℤ◌}
use Rattle.std.proofs.lemmas.Int.{ints}
use Rattle.std.proofs.lemmas.Bool.{cases_eq}
use Rattle.std.proofs.lemmas.List.{length-map}
use Rattle.std.specs.List.{AllByRecursion}
use Rattle.poly_num.specs.Vectors.{Vector, ◌·◌, IsZero, IsPrimitive, IsMultipleOf}
use Rattle.poly_num.proofs.Ring.{lin, mul-neg, neg-mul}
use Rattle.poly_num.proofs.PrimitiveLemmas.{primitive-neg}
use Rattle.poly_num.proofs.VectorLemmas.{dot-neg, scale-one}
use Rattle.poly_model.specs.Independence.{Vanish, Follows, IsNew, taken, IsAlone}
use Rattle.linear_laws.specs.NewRows.{AreNew}
use Rattle.linear_laws.specs.LocalTest.{AreFirstTight}
use Rattle.linear_laws.specs.Frames.{Column, IsFrame}
use Rattle.linear_laws.proofs.Alone.{alone_from_one}
use Rattle.linear_laws.proofs.Columns.{rows_vanish_at}
use Rattle.linear_laws.proofs.Elimination.{Reached, vanish_from_rest}
use Rattle.linear_laws.proofs.FirstBases.{not_both, new_or_follows, reach}
use Rattle.linear_laws.proofs.PrimitiveAlong.{PrimitiveOf, primitive_of}
use Rattle.linear_laws.proofs.Proportions.{not_zero_by_form, values_from_multiples, multiples_from_values, same_width, vanish_from_multiple}
use Rattle.linear_laws.proofs.TightLists.{first_tight_is_one}
use Rattle.listing_laws.specs.ListedCone.{ListedCone, IsListable}
use Rattle.listing_laws.specs.Lists.{Lists, Begins}
use Rattle.listing_laws.specs.Prefixes.{taken_at, next_row, IsCornerUnder, IsListedUpTo}
use Rattle.listing_laws.proofs.AlongLemmas.{under_if_first, list_of_one, list_of_none}
use Rattle.listing_laws.proofs.FirstLists.{taken-nil}
use Rattle.listing_laws.proofs.ListLemmas.{lists_none, lists_same, lists-append}
use Rattle.listing_laws.proofs.PrefixLemmas.{skipped, taken_or_not, not_both_under, full, loop_takes}

-- it holds or it does not
abbrev IsSettled : Type 0 → Type 0
IsSettled A = A ⊎ (A → ⊥)

-- ---- what is settled
both_settled : (A B : Type 0) → IsSettled A → IsSettled B → IsSettled (A × B)
both_settled A B (inl a) (inl b) = inl (a, b)
both_settled A B (inl a) (inr n) = inr (λ h. n h.1)
both_settled A B (inr n) b = inr (λ h. n h.0)

nonnegative_settled : (x : ℤ) → IsSettled (pos 0 ≤ℤ x)
nonnegative_settled (pos n) = inl (omega (arith, ints))
nonnegative_settled (negsuc n) = inr (λ h. omega (arith, ints))

rows_settled : (y : Vector) (gs : List Vector) → IsSettled (AllByRecursion (λ g. pos 0 ≤ℤ (g · y)) gs)
rows_settled y [] = inl tt
rows_settled y (g ∷ gs) =
    both_settled (pos 0 ≤ℤ (g · y)) (AllByRecursion (λ h. pos 0 ≤ℤ (h · y)) gs) (nonnegative_settled (g · y))
    (rows_settled y gs)

true_settled : (b : Bool) → IsSettled (b ≡ true)
true_settled true = inl refl
true_settled false = inr (λ e. cc)

new_settled : (n : ℕ) (gs : List Vector) → IsSettled (AreNew n gs)
new_settled n [] = inl tt
new_settled n (g ∷ gs) =
    both_settled (IsNew n gs g) (AreNew n gs)
    (⊎_elim (λ w. inl w) (λ f. inr (λ w. not_both n gs g w f)) (new_or_follows n gs g)) (new_settled n gs)

marks_settled : (ms ks : List Bool) → IsSettled (ms ≡ ks)
marks_settled [] [] = inl refl
marks_settled [] (k ∷ ks) = inr (λ e. cc)
marks_settled (m ∷ ms) [] = inr (λ e. cc)
marks_settled (true ∷ ms) (true ∷ ks) =
    ⊎_elim (λ e. inl (ap (λ t. true ∷ t) e)) (λ n. inr (λ e. n (cc))) (marks_settled ms ks)
marks_settled (true ∷ ms) (false ∷ ks) = inr (λ e. cc)
marks_settled (false ∷ ms) (true ∷ ks) = inr (λ e. cc)
marks_settled (false ∷ ms) (false ∷ ks) =
    ⊎_elim (λ e. inl (ap (λ t. false ∷ t) e)) (λ n. inr (λ e. n (cc))) (marks_settled ms ks)

first_settled : (n : ℕ) (before : List Vector) (y : Vector) (gs : List Vector) (ms : List Bool) → AreNew n before →
    length ms ≡ length gs → IsSettled (AreFirstTight n before y gs ms)
first_settled n before y gs ms a l =
    let h = first_tight_is_one n before y gs a in
    ⊎_elim (λ e. inl (subst (AreFirstTight n before y gs) (sym e) h.2)) (λ d. inr (λ f. d (h.3 ms l f)))
    (marks_settled ms h.0)

-- ---- the rows taken
new_if_first : (n : ℕ) (before : List Vector) (y : Vector) (gs : List Vector) (ms : List Bool) → AreNew n before →
    AreFirstTight n before y gs ms → AreNew n (taken before gs ms)
new_if_first n before y gs [] a h = subst (AreNew n) (sym (taken-nil before gs)) a
new_if_first n before y [] (m ∷ ms) a h = absurd h
new_if_first n before y (g ∷ gs) (true ∷ ms) a h = new_if_first n (g ∷ before) y gs ms (h.1, a) h.2
new_if_first n before y (g ∷ gs) (false ∷ ms) a h = new_if_first n before y gs ms a h.1

base_from_taken : (before gs : List Vector) (ms : List Bool) (y : Vector) → Vanish (taken before gs ms) y →
    Vanish before y
base_from_taken before [] ms y v = v
base_from_taken before (g ∷ gs) [] y v = v
base_from_taken before (g ∷ gs) (true ∷ ms) y v = (base_from_taken (g ∷ before) gs ms y v).1
base_from_taken before (g ∷ gs) (false ∷ ms) y v = base_from_taken before gs ms y v

-- ---- the opposite
opposite_along : (y z : Vector) → IsMultipleOf z y → IsMultipleOf z (map neg_ℤ y)
opposite_along y z (p, q, np, e) = (
  p,
  neg_ℤ q,
  np,
  multiples_from_values p (neg_ℤ q) (map neg_ℤ y) z (length-map y neg_ℤ ∙ same_width p q y z e)
      (λ g. turned (g · map neg_ℤ y) (g · y) (g · z) (dot-neg g y) (values_from_multiples p q y z e g)),
)
  where
    turned : (w x u : ℤ) → w ≡ neg_ℤ x → p *ℤ x ≡ q *ℤ u → p *ℤ w ≡ neg_ℤ q *ℤ u
    turned w x u s h =
        let t : p *ℤ w ≡ p *ℤ neg_ℤ x = ap (λ (k : ℤ). p *ℤ k) s in
        omega (arith, lin, mul-neg p x, neg-mul q u)

module _ (cone : ListedCone) (listable : IsListable cone) where
  abbrev HasList : List Bool → Type 0
  HasList marks = (shown : List Vector) × Lists (IsCornerUnder cone marks) shown

  -- ---- all rows have a mark, and one direction is left
  module _ (marks : List Bool) (l : length marks ≡ length cone.rows) (z : Vector) (width : length z ≡ cone.n)
      (zero : Vanish cone.base z) (alone : IsAlone cone.n (taken_at cone marks) z) where
    under_settled : (y : Vector) → IsPrimitive y → IsMultipleOf z y → IsSettled (IsCornerUnder cone marks y)
    under_settled y p (a, b, na, e) =
        by (rows_settled y cone.rows) (true_settled (cone.shows y))
        (first_settled cone.n cone.base y cone.rows marks listable.independent l)
      where
        by : IsSettled (AllByRecursion (λ g. pos 0 ≤ℤ (g · y)) cone.rows) → IsSettled (cone.shows y ≡ true) →
            IsSettled (AreFirstTight cone.n cone.base y cone.rows marks) → IsSettled (IsCornerUnder cone marks y)
        by (inl h) (inl s) (inl f) =
            inl (under_if_first cone marks z alone y (record {
              primitive = p;
              along = (a, b, na, e);
              in_cone = record {
                width = same_width a b y z e ∙ width;
                vanishing = vanish_from_multiple a b y z na e cone.base zero;
                nonnegative = h;
              };
              shown = s;
            }) f)
        by (inr n) s f = inr (λ u. n u.0.corner.in_cone.nonnegative)
        by (inl h) (inr n) f = inr (λ u. n u.0.shown)
        by (inl h) (inl s) (inr n) = inr (λ u. n u.1)

    list_along : (y : Vector) → IsPrimitive y → IsMultipleOf z y → HasList marks
    list_along y p m =
        ⊎_elim (λ u. (y ∷ [], list_of_one cone marks z alone listable y u))
        (λ n. ⊎_elim (λ u. (map neg_ℤ y ∷ [], list_of_one cone marks z alone listable (map neg_ℤ y) u))
        (λ k. ([], list_of_none cone marks z alone y p m n k))
        (under_settled (map neg_ℤ y) (primitive-neg y p) (opposite_along y z m)))
        (under_settled y p m)

    list_of_direction : (IsZero z → ⊥) → HasList marks
    list_of_direction nz =
        let w : PrimitiveOf z = primitive_of z nz in
        let lt = w.positive in
        list_along w.y w.primitive (pos w.g, pos 1, (λ e. omega (arith, ints)), w.times ∙ sym (scale-one z))

  -- ---- all rows have a mark
  module _ (marks : List Bool) (l : length marks ≡ length cone.rows) where
    list_of_slot : (r : Reached cone.n (taken_at cone marks)) (c : Column) → r.slots ≡ c ∷ [] → HasList marks
    list_of_slot r c one =
        let f : IsFrame cone.n r.D (c ∷ r.rest) = subst (λ t. IsFrame cone.n r.D (t ++ r.rest)) one r.frame in
        let v = vanish_from_rest r c.dual (rows_vanish_at c r.rest f.duals.1) in
        let nz = not_zero_by_form c.row c.dual (λ e. f.nonzero (sym f.duals.0 ∙ e)) in
        let base = base_from_taken cone.base cone.rows marks c.dual v in
        list_of_direction marks l c.dual f.inside.0.0 base (alone_from_one r c one c.dual f.inside.0.0 v nz) nz

    list_of_new : AreNew cone.n (taken_at cone marks) → length (taken_at cone marks) + 1 ≡ cone.n → HasList marks
    list_of_new a count = by (reach cone.n (taken_at cone marks) a)
      where
        by : Reached cone.n (taken_at cone marks) → HasList marks
        by r = cases r.slots refl
          where
            cases : (cs : List Column) → r.slots ≡ cs → HasList marks
            cases [] s = absurd (omega (arith, r.count, ap length s))
            cases (c ∷ []) s = list_of_slot r c s
            cases (c ∷ d ∷ cs) s = absurd (omega (arith, r.count, ap length s))

    list_of_all : HasList marks
    list_of_all =
        ⊎_elim
        (λ a. ⊎_elim (λ e. list_of_new a e)
        (λ n. ([], lists_none (IsCornerUnder cone marks) (λ y u. n (full cone listable marks y l u))))
        (cases_eq (length (taken_at cone marks) + 1) cone.n))
        (λ n. (
          [],
          lists_none (IsCornerUnder cone marks)
              (λ y u. n (new_if_first cone.n cone.base y cone.rows marks listable.independent u.1)),
        ))
        (new_settled cone.n (taken_at cone marks))

  -- ---- so many rows have none
  list_from : (k : ℕ) (marks : List Bool) → length marks + k ≡ length cone.rows → HasList marks
  list_from zero marks l = list_of_all marks (omega arith)
  list_from (suc k) marks l =
      by (new_or_follows cone.n (taken_at cone marks) (next_row cone marks))
      (list_from k (marks ++ true ∷ []) (omega (arith, length-append marks (true ∷ []))))
      (list_from k (marks ++ false ∷ []) (omega (arith, length-append marks (false ∷ []))))
    where
      lt : length marks < length cone.rows
      lt = omega arith

      by : IsNew cone.n (taken_at cone marks) (next_row cone marks)
          ⊎ Follows cone.n (taken_at cone marks) (next_row cone marks) →
          HasList (marks ++ true ∷ []) → HasList (marks ++ false ∷ []) → HasList marks
      by (inr f) with_row without = (
        without.0,
        lists_same (IsCornerUnder cone (marks ++ false ∷ [])) (IsCornerUnder cone marks) without.0 without.1
            (λ y. let h = skipped cone marks lt y f in (h.1, h.0)),
      )
      by (inl w) with_row without = (
        with_row.0 ++ without.0,
        lists-append (IsCornerUnder cone (marks ++ true ∷ [])) (IsCornerUnder cone (marks ++ false ∷ []))
            (IsCornerUnder cone marks)
            with_row.0 without.0 with_row.1 without.1 (not_both_under cone marks lt)
            (λ y. taken_or_not cone marks lt y w),
      )

  pub prefix_has_list : (marks : List Bool) → length marks ≤ length cone.rows →
      (shown : List Vector) × Lists (IsCornerUnder cone marks) shown
  prefix_has_list marks l = list_from (length cone.rows - length marks) marks (omega arith)

  -- ---- a loop that stops
  pub loop_stops : (prefix marks : List Bool) (listed : List Vector) → length marks ≤ length cone.rows →
      IsListedUpTo cone prefix marks listed → Begins (IsCornerUnder cone prefix) listed
  loop_stops prefix marks listed l g = let rest = prefix_has_list marks l in (rest.0, g rest.0 rest.1)

  pub loop_stops_within : (prefix marks : List Bool) (listed more : List Vector) →
      length marks < length cone.rows → IsNew cone.n (taken_at cone marks) (next_row cone marks) →
      IsListedUpTo cone prefix marks listed → Begins (IsCornerUnder cone (marks ++ true ∷ [])) more →
      Begins (IsCornerUnder cone prefix) (listed ++ more)
  loop_stops_within prefix marks listed more l w g (rest, a) =
      by (loop_stops prefix (marks ++ false ∷ []) (listed ++ (more ++ rest))
      (omega (arith, length-append marks (false ∷ [])))
      (loop_takes cone marks l prefix listed (more ++ rest) w g a))
    where
      by : Begins (IsCornerUnder cone prefix) (listed ++ (more ++ rest)) →
          Begins (IsCornerUnder cone prefix) (listed ++ more)
      by (others, b) = (
        rest ++ others,
        subst (Lists (IsCornerUnder cone prefix))
            (ap (λ t. t ++ others) (sym (append_assoc listed more rest)) ∙ append_assoc (listed ++ more) rest others)
            b,
      )
