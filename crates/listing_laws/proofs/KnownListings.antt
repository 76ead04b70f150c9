-- Listings that are known from a drawing, made as a program makes them: prefix by prefix, with the local test where
-- one direction is left.
use Rattle.std.proofs.Common.{◌≡◌, ◌≢◌, ⊎_elim, true, false, ℕ, zero, suc, ◌<◌, pos, negsuc, [], ◌∷◌, length, refl, subst, arith}
use Rattle.std.proofs.lemmas.Int.{ints}
use Rattle.std.specs.Prelude.{◌≤ℤ◌}
use Rattle.std.specs.List.{All, AllByRecursion, Contains}
use Rattle.std.proofs.lemmas.List.Elements.{All-from_recursion}
use Rattle.poly_num.specs.Vectors.{Vector, ◌·◌, IsZero, IsPrimitive}
use Rattle.poly_num.specs.Divisors.{gcd_in, gcd_of}
use Rattle.poly_num.proofs.PrimitiveLemmas.{primitive_from_gcd}
use Rattle.poly_model.specs.Systems.{System, cone_of}
use Rattle.poly_model.specs.FreeColumns.{IsFree, AreFreeColumns}
use Rattle.poly_model.specs.Extreme.{AreExtreme}
use Rattle.poly_model.specs.Independence.{Vanish}
use Rattle.linear_laws.proofs.Members.{Contains-nil, Contains-first, Contains-cons_cases}
use Rattle.linear_laws.proofs.Signs.{one_is_not_zero}
use Rattle.cone_laws.proofs.KnownValues.{h_file, inequality}
use Rattle.cone_laws.proofs.KnownColumns.{begins_not_free}
use Rattle.listing_laws.specs.ListedCone.{ListedCone, row_at, IsListable, IsConeOf, cone_over}
use Rattle.listing_laws.specs.Lists.{Lists}
use Rattle.listing_laws.specs.Prefixes.{IsCornerUnder, IsListedUpTo}
use Rattle.listing_laws.specs.Directions.{DualVector, IsLeft, LeavesOne, IsShownAlong}
use Rattle.listing_laws.proofs.BaseLemmas.{nothing_is_base}
use Rattle.listing_laws.proofs.ConeLemmas.{is_listable}
use Rattle.listing_laws.proofs.ListingLemmas.{whole_listing}
use Rattle.listing_laws.proofs.PrefixLemmas.{loop_begins, loop_takes, loop_ends}
use Rattle.listing_laws.proofs.ShownLemmas.{nothing_if_it_fails, one_if_it_passes, nothing_if_neither}

-- ---- one label
of_one_label : (P : ℕ → Type 0) (k : ℕ) → P k → (j : ℕ) → Contains (k ∷ []) j → P j
of_one_label P k p j c =
    ⊎_elim (λ e. subst P e p) (λ d. absurd (Contains-nil j d)) (Contains-cons_cases j k [] c)

module _ (cone : ListedCone) (k : ℕ) (v z : Vector) (width : length v ≡ cone.n) (base : Vanish cone.base v)
    (here : row_at cone k · v ≢ pos 0) where
  -- a dual vector at which the test holds
  abbrev Tested : ℕ → Type 0
  Tested j =
      (d : DualVector cone (k ∷ []) j)
      × ((i : ℕ) → 0 < i → row_at cone i · z ≡ pos 0 → i < j → row_at cone i · d.vector ≡ pos 0)

  tested : ((i : ℕ) → 0 < i → row_at cone i · z ≡ pos 0 → i < k → row_at cone i · v ≡ pos 0) →
      (j : ℕ) → Contains (k ∷ []) j → Tested j
  tested h =
      of_one_label Tested k (
        record {
          vector = v;
          width = width;
          base = base;
          here = here;
          elsewhere = of_one_label (λ j. j ≢ k → row_at cone j · v ≡ pos 0) k (λ n. absurd (n refl));
        },
        h,
      )

left_at : (cone : ListedCone) (k : ℕ) (z : Vector) → (IsZero z → ⊥) → length z ≡ cone.n → Vanish cone.base z →
    row_at cone k · z ≡ pos 0 → IsLeft cone (k ∷ []) z
left_at cone k z nonzero width base here = record {
  nonzero = nonzero;
  width = width;
  base = base;
  taken = of_one_label (λ j. row_at cone j · z ≡ pos 0) k here;
}

-- ---- the interval 0 <= x <= 1: row 1 says x >= 0, row 2 says x <= 1, and row 3 is at infinity
abbrev pub interval : System
interval = cone_of (h_file 2 (inequality (pos 0 ∷ pos 1 ∷ []) ∷ inequality (pos 1 ∷ negsuc 0 ∷ []) ∷ []))

abbrev pub interval_cone : ListedCone
interval_cone = cone_over [] interval

no_column_is_free : (j : ℕ) → IsFree interval j → ⊥
no_column_is_free zero = begins_not_free interval 0 2 (omega arith) tt one_is_not_zero
no_column_is_free (suc zero) = begins_not_free interval 1 0 (omega arith) (refl, tt) one_is_not_zero
no_column_is_free (suc (suc j)) = λ f. let l = f.within in omega arith

pub interval_has_cone : IsConeOf interval interval_cone
interval_has_cone = nothing_is_base interval columns none
  where
    columns : AreFreeColumns interval []
    columns = record {
      ascending = tt;
      exactly = λ j. (λ f. absurd (no_column_is_free j f), λ m. absurd (Contains-nil j m));
    }

    none : All (λ row. row.linear ≡ true → ⊥) interval.rows
    none = All-from_recursion (λ row. row.linear ≡ true → ⊥) interval.rows (λ e. cc, (λ e. cc, (λ e. cc, tt)))

interval_listable : IsListable interval_cone
interval_listable = is_listable interval interval_cone interval_has_cone

abbrev low : Vector
low = pos 1 ∷ pos 0 ∷ []

abbrev high : Vector
high = pos 1 ∷ pos 1 ∷ []

abbrev along : Vector
along = pos 0 ∷ pos 1 ∷ []

-- an end of the interval is shown along itself
end_is_shown : (y : Vector) → IsPrimitive y → length y ≡ 2 →
    AllByRecursion (λ g. pos 0 ≤ℤ (g · y)) interval_cone.rows → IsShownAlong interval_cone y y
end_is_shown y primitive width nonnegative = record {
  primitive = primitive;
  along = (pos 1, pos 1, one_is_not_zero, refl);
  in_cone = record { width = width; vanishing = tt; nonnegative = nonnegative };
  shown = refl;
}

-- row 1 leaves the point 0
at_row_1 : Lists (IsCornerUnder interval_cone (true ∷ [])) (low ∷ [])
unfolding gcd_in gcd_of
at_row_1 =
    one_if_it_passes interval_cone interval_listable (true ∷ []) low leaves (λ i l e k c m. (duals k c).1 i l e m) low
    (end_is_shown low (primitive_from_gcd low refl) refl
    (omega (arith, ints), (omega (arith, ints), (omega (arith, ints), tt))))
  where
    duals : (j : ℕ) → Contains (1 ∷ []) j → Tested interval_cone 1 along low refl tt (λ e. cc) j
    duals = tested interval_cone 1 along low refl tt (λ e. cc) (λ i l e m. absurd (omega arith))

    leaves : LeavesOne interval_cone (true ∷ []) low
    leaves = record {
      within = omega arith;
      count = refl;
      duals = λ k c. (duals k c).0;
      left = left_at interval_cone 1 low (λ z. one_is_not_zero z.0) refl tt refl;
    }

-- row 2 leaves the point 1
at_row_2 : Lists (IsCornerUnder interval_cone (false ∷ true ∷ [])) (high ∷ [])
unfolding gcd_in gcd_of
at_row_2 =
    one_if_it_passes interval_cone interval_listable (false ∷ true ∷ []) high leaves
    (λ i l e k c m. (duals k c).1 i l e m) high
    (end_is_shown high (primitive_from_gcd high refl) refl
    (omega (arith, ints), (omega (arith, ints), (omega (arith, ints), tt))))
  where
    -- row 1 is not 0 there
    passes : (i : ℕ) → 0 < i → row_at interval_cone i · high ≡ pos 0 → i < 2 →
        row_at interval_cone i · low ≡ pos 0
    passes zero l e m = absurd (omega arith)
    passes (suc zero) l e m = cc
    passes (suc (suc i)) l e m = absurd (omega arith)

    duals : (j : ℕ) → Contains (2 ∷ []) j → Tested interval_cone 2 low high refl tt (λ e. cc) j
    duals = tested interval_cone 2 low high refl tt (λ e. cc) passes

    leaves : LeavesOne interval_cone (false ∷ true ∷ []) high
    leaves = record {
      within = omega arith;
      count = refl;
      duals = λ k c. (duals k c).0;
      left = left_at interval_cone 2 high (λ z. one_is_not_zero z.0) refl tt refl;
    }

-- row 3 leaves the direction of the line, which is not in the cone, nor is its opposite
at_row_3 : Lists (IsCornerUnder interval_cone (false ∷ false ∷ true ∷ [])) []
unfolding gcd_in gcd_of
at_row_3 =
    nothing_if_neither interval_cone interval_listable (false ∷ false ∷ true ∷ []) along leaves along
    (primitive_from_gcd along refl) (pos 1, pos 1, one_is_not_zero, refl)
    (λ a. let h = a.in_cone.nonnegative.1.0 in omega (arith, ints))
    (λ a. let h = a.in_cone.nonnegative.0 in omega (arith, ints))
  where
    passes : (i : ℕ) → 0 < i → row_at interval_cone i · along ≡ pos 0 → i < 3 →
        row_at interval_cone i · low ≡ pos 0
    passes zero l e m = absurd (omega arith)
    passes (suc zero) l e m = cc
    passes (suc (suc zero)) l e m = cc
    passes (suc (suc (suc i))) l e m = absurd (omega arith)

    duals : (j : ℕ) → Contains (3 ∷ []) j → Tested interval_cone 3 low along refl tt (λ e. cc) j
    duals = tested interval_cone 3 low along refl tt (λ e. cc) passes

    leaves : LeavesOne interval_cone (false ∷ false ∷ true ∷ []) along
    leaves = record {
      within = omega arith;
      count = refl;
      duals = λ k c. (duals k c).0;
      left = left_at interval_cone 3 along (λ z. one_is_not_zero z.1.0) refl tt refl;
    }

-- each of the rows is new over none, so the loop over them takes each; behind them two directions are left
under_nothing : Lists (IsCornerUnder interval_cone []) (low ∷ high ∷ [])
under_nothing =
    loop_ends interval_cone interval_listable [] (false ∷ false ∷ false ∷ []) (low ∷ high ∷ []) refl (λ e. omega arith)
    after_row_3
  where
    after_row_1 : IsListedUpTo interval_cone [] (false ∷ []) (low ∷ [])
    after_row_1 =
        loop_takes interval_cone [] (omega arith) [] [] (low ∷ []) (along, refl, tt, λ e. cc)
        (loop_begins interval_cone []) at_row_1

    after_row_2 : IsListedUpTo interval_cone [] (false ∷ false ∷ []) (low ∷ high ∷ [])
    after_row_2 =
        loop_takes interval_cone (false ∷ []) (omega arith) [] (low ∷ []) (high ∷ []) (low, refl, tt, λ e. cc)
        after_row_1 at_row_2

    after_row_3 : IsListedUpTo interval_cone [] (false ∷ false ∷ false ∷ []) (low ∷ high ∷ [])
    after_row_3 =
        loop_takes interval_cone (false ∷ false ∷ []) (omega arith) [] (low ∷ high ∷ []) [] (low, refl, tt, λ e. cc)
        after_row_2 at_row_3

-- the listing of the interval are its two ends
pub listing_of_interval : AreExtreme interval (low ∷ high ∷ [])
listing_of_interval = whole_listing interval interval_cone interval_has_cone (low ∷ high ∷ []) under_nothing

-- ---- x >= 0 said twice
abbrev doubled : ListedCone
doubled = record {
  n = 2;
  base = [];
  rows = (pos 0 ∷ pos 1 ∷ []) ∷ (pos 0 ∷ pos 2 ∷ []) ∷ (pos 1 ∷ pos 0 ∷ []) ∷ [];
  shows = λ y. true;
}

doubled_listable : IsListable doubled
doubled_listable = record { independent = tt; pointed = pointed }
  where
    pointed : (y : Vector) → length y ≡ 2 → Vanish [] y → Vanish doubled.rows y → IsZero y
    pointed [] l v w = tt
    pointed (a ∷ []) l v w = absurd (omega arith)
    pointed (a ∷ b ∷ []) l v w = let e = w.0 in let f = w.1.1.0 in (omega (arith, ints), (omega (arith, ints), tt))
    pointed (a ∷ b ∷ c ∷ y) l v w = absurd (omega arith)

doubled_leaves : LeavesOne doubled (false ∷ true ∷ []) low
doubled_leaves = record {
  within = omega arith;
  count = refl;
  duals = of_one_label (DualVector doubled (2 ∷ [])) 2 (record {
    vector = along;
    width = refl;
    base = tt;
    here = λ e. cc;
    elsewhere = of_one_label (λ j. j ≢ 2 → row_at doubled j · along ≡ pos 0) 2 (λ n. absurd (n refl));
  });
  left = left_at doubled 2 low (λ z. one_is_not_zero z.0) refl tt refl;
}

-- the point 0 is not shown at row 2: row 1 is 0 there too and comes first, so the test fails
not_at_row_2 : Lists (IsCornerUnder doubled (false ∷ true ∷ [])) []
not_at_row_2 =
    nothing_if_it_fails doubled doubled_listable (false ∷ true ∷ []) low doubled_leaves
    (λ p. let c = Contains-first 2 [] in
    let d = doubled_leaves.duals 2 c in fails d.vector d.width d.here (p 1 (omega arith) refl 2 c (omega arith)))
  where
    fails : (v : Vector) → length v ≡ 2 → (pos 0 ∷ pos 2 ∷ []) · v ≢ pos 0 →
        (pos 0 ∷ pos 1 ∷ []) · v ≡ pos 0 → ⊥
    fails [] l n e = absurd (omega arith)
    fails (a ∷ []) l n e = absurd (omega arith)
    fails (a ∷ b ∷ []) l n e = n (omega (arith, ints))
    fails (a ∷ b ∷ c ∷ v) l n e = absurd (omega arith)
