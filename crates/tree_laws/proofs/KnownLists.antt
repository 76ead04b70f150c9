-- Signs of lists, the order of rows and exchanged keys by small examples: a wrong definition does not check.
use Rattle.std.proofs.Common.{◌≡◌, inl, inr, pos, negsuc, [], ◌∷◌, refl, arith}
use Rattle.std.proofs.lemmas.Int.{ints}
use Rattle.poly_model.specs.Spaces.{lifted}
use Rattle.poly_model.specs.LexOrder.{IsNonnegative, IsPositive, gaps, rows_in, outside, within}
use Rattle.poly_model.specs.LexOrder.{order, backwards, Precedes, listed_at}
use Rattle.poly_model.specs.Tree.{IsRowOutside, exchanged_key}
use Rattle.linear_laws.proofs.Members.{all_at}
use Rattle.tree_laws.proofs.KnownSquare.{square}
use Rattle.tree_laws.proofs.KnownPyramid.{pyramid, apex}

-- ---- signs of lists
nothing_is_nonnegative : IsNonnegative []
nothing_is_nonnegative = tt

nothing_is_not_positive : IsPositive [] → ⊥
nothing_is_not_positive h = h

zeros_are_nonnegative : IsNonnegative (pos 0 ∷ pos 0 ∷ [])
zeros_are_nonnegative = inr (refl, inr (refl, tt))

zeros_are_not_positive : IsPositive (pos 0 ∷ pos 0 ∷ []) → ⊥
zeros_are_not_positive (inl h) = omega (arith, ints)
zeros_are_not_positive (inr (e, inl h)) = omega (arith, ints)
zeros_are_not_positive (inr (e, inr (f, h))) = h

-- the first number that is not 0 decides, whatever comes behind it
first_decides : IsPositive (pos 0 ∷ pos 1 ∷ negsuc 4 ∷ [])
first_decides = inr (refl, inl (omega (arith, ints)))

first_refuses : IsNonnegative (pos 0 ∷ negsuc 0 ∷ pos 5 ∷ []) → ⊥
first_refuses (inl h) = omega (arith, ints)
first_refuses (inr (e, inl h)) = omega (arith, ints)
first_refuses (inr (e, inr (f, h))) = cc

-- 2 * 3 - 5 * 1 and 2 * 1 - 5 * 1, and no more than the shorter list has
gaps_of_two : gaps (pos 2) (pos 3 ∷ pos 1 ∷ []) (pos 5) (pos 1 ∷ pos 1 ∷ []) ≡ pos 1 ∷ negsuc 2 ∷ []
gaps_of_two = refl

gaps_end : gaps (pos 1) (pos 3 ∷ pos 1 ∷ []) (pos 1) (pos 1 ∷ []) ≡ pos 2 ∷ []
gaps_end = refl

-- ---- the order of rows
-- coordinates are no rows, and t is the first of them
t_is_first : rows_in (lifted square (1 ∷ 2 ∷ [])).labels ≡ 0 ∷ 1 ∷ 2 ∷ 3 ∷ 4 ∷ []
t_is_first = refl

rows_outside : outside pyramid.labels (1 ∷ 2 ∷ 4 ∷ []) ≡ 3 ∷ 5 ∷ []
rows_outside = refl

rows_within : within pyramid.labels (1 ∷ 2 ∷ 4 ∷ []) ≡ 1 ∷ 2 ∷ 4 ∷ []
rows_within = refl

rows_in_order : order pyramid.labels (2 ∷ 4 ∷ 5 ∷ []) ≡ 1 ∷ 3 ∷ 2 ∷ 4 ∷ 5 ∷ []
rows_in_order = refl

turned : backwards (1 ∷ 3 ∷ 2 ∷ []) ≡ 2 ∷ 3 ∷ 1 ∷ []
turned = refl

third_precedes : Precedes (3 ∷ 1 ∷ 2 ∷ []) 3 2
third_precedes = inl (refl, (1, omega arith, refl))

second_does_not : Precedes (3 ∷ 1 ∷ 2 ∷ []) 2 3 → ⊥
second_does_not (inl h) = let e = h.0 in omega arith
second_does_not (inr (inl h)) = let e = h.0 in omega arith
second_does_not (inr (inr (inl h))) = all_at (λ k. k ≡ 3 → ⊥) [] tt 3 h.1 refl
second_does_not (inr (inr (inr h))) = h

nor_does_it_itself : Precedes (3 ∷ 1 ∷ []) 3 3 → ⊥
nor_does_it_itself (inl h) = all_at (λ k. k ≡ 3 → ⊥) (1 ∷ []) (λ e. omega arith, tt) 3 h.1 refl
nor_does_it_itself (inr (inl h)) = let e = h.0 in omega arith
nor_does_it_itself (inr (inr h)) = h

-- ---- numbers of a list at the apex {2, 4, 5} of the pyramid: at the row itself, at a label of the key, elsewhere
at_itself : listed_at (2 ∷ 4 ∷ 5 ∷ []) apex 3 3 ≡ pos 2
at_itself = refl

at_a_label : listed_at (2 ∷ 4 ∷ 5 ∷ []) apex 3 5 ≡ negsuc 1
at_a_label = refl

at_another : listed_at (2 ∷ 4 ∷ 5 ∷ []) apex 1 3 ≡ pos 0
at_another = refl

-- ---- rows outside a key
coordinate_is_no_row : IsRowOutside square.labels (1 ∷ 2 ∷ []) 8193 → ⊥
coordinate_is_no_row o =
    all_at (λ k. k ≡ 8193 → ⊥) (rows_in square.labels)
    (λ e. omega arith, (λ e. omega arith, (λ e. omega arith, (λ e. omega arith, tt)))) 8193 o.row refl

label_is_not_outside : IsRowOutside square.labels (1 ∷ 2 ∷ []) 1 → ⊥
label_is_not_outside o = o.outside (0, omega arith, refl)

-- ---- keys
first_comes_in : exchanged_key (2 ∷ 4 ∷ 5 ∷ []) 4 1 ≡ 1 ∷ 2 ∷ 5 ∷ []
first_comes_in = refl

last_comes_in : exchanged_key (1 ∷ 4 ∷ []) 1 9 ≡ 4 ∷ 9 ∷ []
last_comes_in = refl
