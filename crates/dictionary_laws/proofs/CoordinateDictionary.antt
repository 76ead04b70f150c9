-- Where nothing is fixed, the coordinates are a cobasis, and the entries of the forms are its dictionary.
use Rattle.std.proofs.Common.{◌≡◌, ◌≢◌, ℕ, zero, suc, Bool, true, false, cond, List, [], ◌∷◌, ℤ, pos, ◌+ℤ◌, ◌*ℤ◌, map, length, drop, get_or, refl, sym, ap, subst, ◌∙◌, arith}
use Rattle.std.specs.Prelude.{◌+◌, ◌==◌, if◌then◌else◌}
use Rattle.std.specs.List.{Contains, range_with_len}
use Rattle.std.proofs.lemmas.Int.{ints}
use Rattle.std.proofs.lemmas.Bool.{eqb-true, eqb-false, eq-eqb, ne_eqb}
use Rattle.std.proofs.lemmas.List.{length-map}
use Rattle.poly_num.specs.Vectors.{Vector, ◌·◌, IsZero}
use Rattle.poly_num.proofs.Ring.{lin, zero_mul, one_mul}
use Rattle.poly_num.proofs.VectorLemmas.{dot-nil}
use Rattle.poly_model.specs.Independence.{Vanish}
use Rattle.poly_model.specs.Cones.{at, coordinate}
use Rattle.poly_model.specs.Spaces.{Space, IsInside}
use Rattle.poly_model.specs.Dictionaries.{IsCobasis, Writes, IsDictionary, sum_over}
use Rattle.linear_laws.specs.Distinct.{AreDistinct}
use Rattle.linear_laws.proofs.Members.{Contains-first, Contains-later, Contains-nil, all_at}
use Rattle.linear_laws.proofs.Entries.{at-nil, coordinate_reads}
use Rattle.linear_laws.proofs.Signs.{at_least_one}
use Rattle.dictionary_laws.specs.Keys.{place_in}
use Rattle.dictionary_laws.specs.Coordinates.{HasCoordinates, coordinate_table}
use Rattle.dictionary_laws.proofs.Members.{contains_other, sum_same, sum_zero}
use Rattle.dictionary_laws.proofs.Directions.{zero_times}
use Rattle.dictionary_laws.proofs.Duals.{Dual, independent}

-- ---- places
pub place_step : (P : ℕ → Type 0) (x k : ℕ) (ks : List ℕ) → (x ≡ k → P zero) →
    (x ≢ k → P (suc (place_in ks k))) → P (place_in (x ∷ ks) k)
place_step P x k ks f g = by (x == k) refl
  where
    by : (b : Bool) → (x == k) ≡ b → P (cond b zero (suc (place_in ks k)))
    by true e = f (eqb-true x k e)
    by false e = g (eqb-false x k e)

pub place_first : (x : ℕ) (ks : List ℕ) → place_in (x ∷ ks) x ≡ zero
place_first x ks = place_step (λ i. i ≡ zero) x x ks (λ _. refl) (λ n. absurd (n refl))

pub place_later : (x k : ℕ) (ks : List ℕ) → x ≢ k → place_in (x ∷ ks) k ≡ suc (place_in ks k)
place_later x k ks n =
    place_step (λ i. i ≡ suc (place_in ks k)) x k ks (λ e. absurd (n e)) (λ _. refl)

-- a label behind the first one, where each stands once
behind : (x k : ℕ) (ks : List ℕ) → AreDistinct (x ∷ ks) → Contains ks k →
    place_in (x ∷ ks) k ≡ suc (place_in ks k)
behind x k ks h c = place_later x k ks (λ e. h.0 (subst (λ (j : ℕ). Contains ks j) (sym e) c))

-- a list of numbers, one for each label, at the place of a label
pub at_place : (f : ℕ → ℤ) (ks : List ℕ) (k : ℕ) → Contains ks k → at (place_in ks k) (map f ks) ≡ f k
at_place f [] k c = absurd (Contains-nil k c)
at_place f (x ∷ ks) k c =
    place_step (λ i. at i (map f (x ∷ ks)) ≡ f k) x k ks (λ e. ap f e)
    (λ n. at_place f ks k (contains_other x ks k c (λ e. n (sym e))))

-- the forms of the labels are those of successive coordinates
pub form_at : (f : ℕ → Vector) (ks : List ℕ) (a : ℕ) →
    map f ks ≡ map coordinate (range_with_len a (length ks)) → (k : ℕ) → Contains ks k →
    (j : ℕ) → a + place_in ks k ≡ j → f k ≡ coordinate j
form_at f [] a h k c j e = absurd (Contains-nil k c)
form_at f (x ∷ ks) a h k c j q =
    place_step (λ i. a + i ≡ j → f k ≡ coordinate j) x k ks
    (λ e s. let same : a ≡ j = omega (arith, s) in
    ap f (sym e) ∙ ap (λ l. get_or l 0 []) h ∙ ap coordinate same)
    (λ n s. form_at f ks (a + 1) (ap (λ l. drop 1 l) h) k (contains_other x ks k c (λ e. n (sym e))) j
    (omega (arith, s)))
    q

-- ---- the value of a form by its entries
sum_of_entries : (ks : List ℕ) → AreDistinct ks → (u v : Vector) → length v ≡ length ks →
    u · v ≡ sum_over ks (λ k. at (place_in ks k) u *ℤ at (place_in ks k) v)
sum_of_entries [] h u [] l = dot-nil u
sum_of_entries [] h u (y ∷ v) l = absurd (omega arith)
sum_of_entries (x ∷ ks) h u [] l = absurd (omega arith)
sum_of_entries (x ∷ ks) h [] (y ∷ v) l =
    sym (sum_zero (x ∷ ks) (λ k. at (place_in (x ∷ ks) k) [] *ℤ at (place_in (x ∷ ks) k) (y ∷ v))
    (λ k c. zero_times (at (place_in (x ∷ ks) k) []) (at (place_in (x ∷ ks) k) (y ∷ v))
    (at-nil (place_in (x ∷ ks) k))))
sum_of_entries (x ∷ ks) h (a ∷ u) (y ∷ v) l =
    joined (a *ℤ y) (u · v) (f x) (sum_over ks f)
    (ap (λ i. at i (a ∷ u) *ℤ at i (y ∷ v)) (place_first x ks))
    (sum_same ks f (λ k. at (place_in ks k) u *ℤ at (place_in ks k) v)
    (λ k c. ap (λ i. at i (a ∷ u) *ℤ at i (y ∷ v)) (behind x k ks h c))
    ∙ sym (sum_of_entries ks h.1 u v (omega arith)))
  where
    f : ℕ → ℤ
    f k = at (place_in (x ∷ ks) k) (a ∷ u) *ℤ at (place_in (x ∷ ks) k) (y ∷ v)

    joined : (p q r s : ℤ) → r ≡ p → s ≡ q → p +ℤ q ≡ r +ℤ s
    joined p q r s e g = omega (arith, lin)

value_over : (ks : List ℕ) → AreDistinct ks → (g y : Vector) → length y ≡ suc (length ks) →
    g · y ≡ at 0 g *ℤ at 0 y +ℤ sum_over ks (λ k. at (suc (place_in ks k)) g *ℤ at (suc (place_in ks k)) y)
value_over ks h g [] l = absurd (omega arith)
value_over ks h [] (x ∷ v) l =
    nothing x (sum_over ks (λ k. pos 0 *ℤ at (place_in ks k) v))
    (sum_zero ks (λ k. pos 0 *ℤ at (place_in ks k) v) (λ k c. zero_mul (at (place_in ks k) v)))
  where
    nothing : (x s : ℤ) → s ≡ pos 0 → pos 0 ≡ pos 0 *ℤ x +ℤ s
    nothing x s e = let f = zero_mul x in omega (arith, lin)
value_over ks h (a ∷ u) (x ∷ v) l =
    ap (λ (s : ℤ). a *ℤ x +ℤ s) (sum_of_entries ks h u v (omega arith))

zero_by_places : (ks : List ℕ) → AreDistinct ks → (v : Vector) → length v ≡ length ks →
    ((k : ℕ) → Contains ks k → at (place_in ks k) v ≡ pos 0) → IsZero v
zero_by_places [] h [] l z = tt
zero_by_places [] h (y ∷ v) l z = absurd (omega arith)
zero_by_places (x ∷ ks) h [] l z = tt
zero_by_places (x ∷ ks) h (y ∷ v) l z = (
  ap (λ i. at i (y ∷ v)) (sym (place_first x ks)) ∙ z x (Contains-first x ks),
  zero_by_places ks h.1 v (omega arith)
      (λ k c. ap (λ i. at i (y ∷ v)) (sym (behind x k ks h c)) ∙ z k (Contains-later k x ks c)),
)

zero_from_places : (ks : List ℕ) → AreDistinct ks → (v : Vector) → length v ≡ suc (length ks) →
    at 0 v ≡ pos 0 → ((k : ℕ) → Contains ks k → at (suc (place_in ks k)) v ≡ pos 0) → IsZero v
zero_from_places ks h [] l e z = tt
zero_from_places ks h (x ∷ v) l e z = (e, zero_by_places ks h v (omega arith) z)

-- 1 at one label and 0 at the others
abbrev unit : ℕ → ℕ → ℤ
unit k j = if j == k then pos 1 else pos 0

unit_here : (k : ℕ) → unit k k ≢ pos 0
unit_here k e = let f : unit k k ≡ pos 1 = rw (eq-eqb k k refl) refl in omega (arith, ints, sym f ∙ e)

unit_elsewhere : (k j : ℕ) → j ≢ k → unit k j ≡ pos 0
unit_elsewhere k j n = rw (ne_eqb j k n) refl

module _ (space : Space) (key : List ℕ) (h : HasCoordinates space key) where
  reads : (k : ℕ) → Contains key k → (y : Vector) → space.form k · y ≡ at (suc (place_in key k)) y
  reads k c y =
      ap (λ g. g · y) (form_at space.form key 1 h.forms k c (suc (place_in key k)) (omega arith))
      ∙ coordinate_reads (suc (place_in key k)) y

  reads_level : (y : Vector) → space.infinity · y ≡ at 0 y
  reads_level y = ap (λ g. g · y) h.infinity ∙ coordinate_reads 0 y

  -- the direction of a label
  abbrev along : ℕ → Vector
  along k = pos 0 ∷ map (unit k) key

  along_at : (k j : ℕ) → Contains key j → space.form j · along k ≡ unit k j
  along_at k j c = reads j c (along k) ∙ at_place (unit k) key j c

  dual_along : (k : ℕ) → Contains key k → Dual space [] key k
  dual_along k c = record {
    vector = along k;
    direction = record {
      inside = record {
        width = ap suc (length-map key (unit k)) ∙ sym h.count;
        fixed = subst (λ (gs : List Vector). Vanish gs (along k)) (sym h.free) tt;
      };
      level = reads_level (along k);
    };
    before = λ i d. absurd (Contains-nil i d);
    here = λ e. unit_here k (sym (along_at k k c) ∙ e);
    elsewhere = λ j d n. along_at k j d ∙ unit_elsewhere k j n;
  }

  coordinate_cobasis : AreDistinct key → IsCobasis space key
  coordinate_cobasis distinct = record {
    labels = h.labels;
    independent = independent space key distinct dual_along;
    enough = λ z d v. zero_from_places key distinct z (IsInside.width d.inside ∙ h.count)
        (sym (reads_level z) ∙ d.level)
        (λ k c. sym (reads k c z) ∙ all_at (λ i. space.form i · z ≡ pos 0) key v k c);
  }

  coordinate_writes : AreDistinct key → Writes space key (coordinate_table space key)
  coordinate_writes distinct = record {
    positive = omega (arith, ints);
    values = λ i l y inside.
        one_mul (space.form i · y)
        ∙ value_over key distinct (space.form i) y (IsInside.width inside ∙ h.count)
        ∙ ap (λ (s : ℤ). at 0 (space.form i) *ℤ at 0 y +ℤ s)
        (sum_same key (λ k. at (suc (place_in key k)) (space.form i) *ℤ at (suc (place_in key k)) y)
        (λ k. at (suc (place_in key k)) (space.form i) *ℤ (space.form k · y))
        (λ k c. ap (λ (z : ℤ). at (suc (place_in key k)) (space.form i) *ℤ z) (sym (reads k c y))))
        ∙ ap (λ (z : ℤ). at 0 (space.form i) *ℤ z
        +ℤ sum_over key (λ k. at (suc (place_in key k)) (space.form i) *ℤ (space.form k · y)))
        (sym (reads_level y));
  }

  pub coordinate_dictionary : AreDistinct key → IsDictionary space key (coordinate_table space key)
  coordinate_dictionary distinct = record {
    cobasis = coordinate_cobasis distinct;
    writes = coordinate_writes distinct;
    least = λ other w. at_least_one other.denominator w.positive;
  }
