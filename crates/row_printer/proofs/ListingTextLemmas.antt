-- How the text of a listing unfolds by one entry, number or coordinate.
use Rattle.std.proofs.Common.{◌≡◌, ◌≢◌, codes, ◌<◌, ◌≤◌, ◌+◌, ◌-◌, ℕ, zero, suc, ℤ, pos, negsuc, List, [], ◌∷◌, ◌++◌, length, drop, refl, ap, sym, ◌∙◌, arith, add-one, drop-cons}
use Rattle.std.proofs.lemmas.List.{drop_all}
use Rattle.std.specs.Prelude.{◌<ℤ◌}
use Rattle.std.specs.Fmt.{decimal, signed_decimal}
use Rattle.std.specs.List.{slice_index_or as get_or}
use Rattle.std.proofs.lemmas.Int.{ints}
use Rattle.poly_num.specs.Fractions.{lowest}
use Rattle.poly_model.specs.declared.kind.Kind.TheVariants.{H}
use Rattle.poly_model.specs.ListingText.{linearity_text, numbers_text, number_text, entries_text, entry_text, coordinates_text, fraction_text, denominator_text, vector_text, point_text, is_point, row_text}

-- ---- the numbers of the lines

numbers_step : (i n k : ℕ) → n ≡ suc k → numbers_text i n ≡ number_text i ++ numbers_text (suc i) k
unfolding numbers_text
numbers_step i n k e = rw e refl

-- from i on, the next number and the rest
pub numbers_text-next : (i n : ℕ) → i < n →
    numbers_text (i + 1) (n - i) ≡ number_text (i + 1) ++ numbers_text (i + 1 + 1) (n - (i + 1))
numbers_text-next i n lt =
    let e : n - i ≡ suc (n - (i + 1)) = omega arith in
    rw (add-one (i + 1)) (numbers_step (i + 1) (n - i) (n - (i + 1)) e)

pub numbers_text-none : (i n : ℕ) → n ≡ 0 → numbers_text i n ≡ []
unfolding numbers_text
numbers_text-none i n e = rw e refl

-- ---- the line of lines

pub linearity_text-none : (n : ℕ) → n ≡ 0 → linearity_text n ≡ []
unfolding linearity_text
linearity_text-none n e = rw e refl

pub linearity_text-some : (n : ℕ) → n ≢ 0 →
    linearity_text n ≡ codes "linearity " ++ decimal n ++ numbers_text 1 n ++ 10 ∷ []
unfolding linearity_text
linearity_text-some zero h = absurd (h refl)
linearity_text-some (suc k) h = refl

-- ---- entries

drop_next : (v : List ℤ) (i : ℕ) (y : ℤ) → i < length v → y ≡ get_or v i y → drop i v ≡ y ∷ drop (i + 1) v
drop_next v i y lt is = rw (add-one i) (drop-cons v i y lt ∙ ap (λ z. z ∷ drop (suc i) v) (sym is))

entries_step : (v ys : List ℤ) (y : ℤ) → v ≡ y ∷ ys → entries_text v ≡ entry_text y ++ entries_text ys
unfolding entries_text
entries_step v ys y e = rw e refl

-- from place i on, the entry there and the rest
pub entries_text-next : (v : List ℤ) (i : ℕ) (y : ℤ) → i < length v → y ≡ get_or v i y →
    entries_text (drop i v) ≡ entry_text y ++ entries_text (drop (i + 1) v)
entries_text-next v i y lt is = entries_step _ _ _ (drop_next v i y lt is)

pub entries_text-none : (v : List ℤ) (i : ℕ) → length v ≤ i → entries_text (drop i v) ≡ []
unfolding entries_text
entries_text-none v i le = rw (drop_all i v le) refl

-- ---- coordinates

coordinates_step : (first : ℤ) (v ys : List ℤ) (y : ℤ) → v ≡ y ∷ ys →
    coordinates_text first v ≡ fraction_text (lowest y first) ++ coordinates_text first ys
unfolding coordinates_text
coordinates_step first v ys y e = rw e refl

-- from place i on, the coordinate there and the rest
pub coordinates_text-next : (first : ℤ) (v : List ℤ) (i : ℕ) (y : ℤ) → i < length v → y ≡ get_or v i y →
    coordinates_text first (drop i v) ≡ fraction_text (lowest y first) ++ coordinates_text first (drop (i + 1) v)
coordinates_text-next first v i y lt is = coordinates_step first _ _ _ (drop_next v i y lt is)

pub coordinates_text-none : (first : ℤ) (v : List ℤ) (i : ℕ) → length v ≤ i → coordinates_text first (drop i v) ≡ []
unfolding coordinates_text
coordinates_text-none first v i le = rw (drop_all i v le) refl

-- ---- denominators

pub denominator_text-one : (d : ℤ) → d ≡ pos 1 → denominator_text d ≡ []
unfolding denominator_text
denominator_text-one d e = rw e refl

pub denominator_text-other : (d : ℤ) → ¬ (d ≡ pos 1) → denominator_text d ≡ 47 ∷ signed_decimal d
unfolding denominator_text
denominator_text-other (pos zero) other = refl
denominator_text-other (pos (suc zero)) other = absurd (other refl)
denominator_text-other (pos (suc (suc n))) other = refl
denominator_text-other (negsuc n) other = refl

-- ---- rows of an H file

point_step : (first : ℤ) (ys : List ℤ) → pos 0 <ℤ first → row_text H (first ∷ ys) ≡ point_text (first ∷ ys)
unfolding row_text is_point
point_step (pos (suc n)) ys p = refl
point_step (pos zero) ys p = absurd (omega (arith, ints))
point_step (negsuc n) ys p = absurd (omega (arith, ints))

ray_step : (first : ℤ) (ys : List ℤ) → ¬ (pos 0 <ℤ first) → row_text H (first ∷ ys) ≡ vector_text (first ∷ ys)
unfolding row_text is_point
ray_step (pos (suc n)) ys other = absurd (other (omega (arith, ints)))
ray_step (pos zero) ys other = refl
ray_step (negsuc n) ys other = refl

none_step : row_text H [] ≡ vector_text []
unfolding row_text is_point
none_step = refl

-- a list is its first item and the rest
front : (v : List ℤ) (first : ℤ) → 1 ≤ length v → first ≡ get_or v 0 first → v ≡ first ∷ drop 1 v
front [] first le is = absurd (omega arith)
front (y ∷ ys) first le is = ap (λ z. z ∷ ys) (sym is)

-- the first entry is positive
pub row_text-point : (v : List ℤ) (first : ℤ) → 1 ≤ length v → first ≡ get_or v 0 first → pos 0 <ℤ first →
    row_text H v ≡ point_text (first ∷ drop 1 v)
row_text-point v first le is p = ap (row_text H) (front v first le is) ∙ point_step first (drop 1 v) p

-- the first entry is not positive
pub row_text-ray : (v : List ℤ) (first : ℤ) → 1 ≤ length v → first ≡ get_or v 0 first → ¬ (pos 0 <ℤ first) →
    row_text H v ≡ vector_text v
row_text-ray v first le is other =
    ap (row_text H) (front v first le is) ∙ ray_step first (drop 1 v) other ∙ ap vector_text (sym (front v first le is))

-- there is no first entry
pub row_text-none : (v : List ℤ) → length v < 1 → row_text H v ≡ vector_text v
row_text-none [] lt = none_step
row_text-none (y ∷ ys) lt = absurd (omega arith)
