-- The common divisor of all cells and the denominator is divided out of them.
use Rattle.std.proofs.Common.{◌≡◌, ◌≢◌, ℕ, zero, suc, ◌+◌, ◌-◌, ◌<◌, ℤ, pos, ◌*ℤ◌, List, [], ◌∷◌, ◌++◌, length, get_or, take, arith, refl, sym, ap, subst, ◌∙◌, ⊎_elim, length-append}
use Rattle.std.specs.List.{Contains}
use Rattle.std.proofs.lemmas.Bool.{cases_eq}
use Rattle.std.specs.Prelude.{◌<ℤ◌}
use Rattle.std.proofs.lemmas.Int.{ints}
use Rattle.std.proofs.lemmas.List.{take_more, take_all, same_from_push, map_push}
use Rattle.poly_num.specs.Vectors.{scale, IsZero, IsPrimitive}
use Rattle.poly_num.specs.Divisors.{MakesPrimitive}
use Rattle.poly_num.proofs.Order.{positive_factor, positive_nonzero}
use Rattle.poly_num.proofs.Ring.{mul_zero}
use Rattle.poly_num.proofs.VectorLemmas.{length-scale}
use Rattle.linear_laws.proofs.AllLemmas.{all_right}
use Rattle.dictionary_laws.specs.Keys.{place_in}
use Rattle.dictionary_laws.proofs.Members.{contains_or}
use Rattle.columns.specs.Cells.{place, cell_at}
use Rattle.dictionary.specs.Views.{Dictionary, number, IsWhole}
use Rattle.dictionary.specs.MainPhase.{IsDividedOut}
use Rattle.dictionary.proofs.Numbers.{own_number, other_number, row_number}

get_or-scale : (g : ℤ) (v : List ℤ) (k : ℕ) → get_or (scale g v) k (pos 0) ≡ g *ℤ get_or v k (pos 0)
get_or-scale g [] k = sym (mul_zero g)
get_or-scale g (x ∷ v) zero = refl
get_or-scale g (x ∷ v) (suc k) = get_or-scale g v k

positive_pos : (g : ℕ) → 0 < g → pos 0 <ℤ pos g
positive_pos g l = omega (arith, ints)

-- the denominator stands behind the cells while all are divided
module _ (old : List ℤ) (d : ℤ) (positive : pos 0 <ℤ d) (mid : List ℤ) (h : MakesPrimitive (old ++ d ∷ []) mid)
    (last : ℕ) (end : last ≡ length mid - 1) where
  abbrev g : ℕ
  g = h.factor.0

  length_mid : length mid ≡ suc (length old)
  length_mid =
      sym (length-scale (pos g) mid) ∙ ap length (sym h.factor.2) ∙ omega (arith, length-append old (d ∷ []))

  split : mid ≡ take last mid ++ get_or mid last (pos 0) ∷ []
  split =
      let l : last < length mid = omega (arith, length_mid) in
      sym (take_all (last + 1) mid (omega (arith, length_mid))) ∙ take_more mid last (pos 0) l

  nonzero : IsZero (old ++ d ∷ []) → ⊥
  nonzero z = positive_nonzero d positive (all_right (λ x. x ≡ pos 0) old (d ∷ []) z).0

  divided_out : IsDividedOut old d (take last mid) (get_or mid last (pos 0))
  divided_out =
      let parts = same_from_push old (scale (pos g) (take last mid)) d (pos g *ℤ get_or mid last (pos 0))
      (h.factor.2 ∙ ap (λ v. scale (pos g) v) split
      ∙ map_push (λ x. pos g *ℤ x) (take last mid) (get_or mid last (pos 0))) in
      record {
        factor = g;
        some = h.factor.1;
        multiple = parts.0;
        over = parts.1;
        primitive = subst IsPrimitive split (h.primitive nonzero);
      }

-- the same of what the code has
pub divided_written : (old : List ℤ) (d : ℤ) (all mid now new : List ℤ) (last : ℕ) (least : ℤ) → pos 0 <ℤ d →
    all ≡ old ++ d ∷ [] → MakesPrimitive all mid → now ≡ mid → last ≡ length mid - 1 → new ≡ take last now →
    least ≡ get_or now last (pos 0) → IsDividedOut old d new least
divided_written old d all mid now new last least positive ea h en el ew ed =
    rw (ew, ed, en)
    (divided_out old d positive mid (subst (λ (v : List ℤ). MakesPrimitive v mid) ea h) last el)

-- a dictionary after the division
module _ (d : Dictionary) (least : ℤ) (cells : List ℤ) (h : IsDividedOut d.cells d.denominator cells least) where
  abbrev pub divided_of : Dictionary
  divided_of = record d { denominator = least; cells = cells }

  pub positive_divisor : pos 0 <ℤ pos h.factor
  positive_divisor = positive_pos h.factor h.some

  -- each number is the divisor times what is left
  pub times_left : (i j : ℕ) → number d i j ≡ pos h.factor *ℤ number divided_of i j
  times_left i j =
      ⊎_elim
      (λ (c : Contains d.columns i).
      ⊎_elim
      (λ (e : j ≡ suc (place_in d.columns i)).
      own_number d i j c e ∙ h.over ∙ ap (λ z. pos h.factor *ℤ z) (sym (own_number divided_of i j c e)))
      (λ (n : j ≢ suc (place_in d.columns i)).
      other_number d i j c n ∙ sym (mul_zero (pos h.factor))
      ∙ ap (λ z. pos h.factor *ℤ z) (sym (other_number divided_of i j c n)))
      (cases_eq j (suc (place_in d.columns i))))
      (λ (n : Contains d.columns i → ⊥).
      row_number d i j n
      ∙ ap (λ v. cell_at (length d.rows) v (place_in d.rows i) j) h.multiple
      ∙ get_or-scale (pos h.factor) cells (place (length d.rows) (place_in d.rows i) j)
      ∙ ap (λ z. pos h.factor *ℤ z) (sym (row_number divided_of i j n)))
      (contains_or d.columns i)

  pub whole_divided : IsWhole d → IsWhole divided_of
  whole_divided whole = record {
    size = sym (length-scale (pos h.factor) cells) ∙ ap length (sym h.multiple) ∙ whole.size;
    positive = positive_factor (pos h.factor) least positive_divisor
        (subst (λ (z : ℤ). pos 0 <ℤ z) h.over whole.positive);
    labels = whole.labels;
    below = whole.below;
    key = whole.key;
    same = whole.same;
    distinct = whole.distinct;
    inside = whole.inside;
    distinct_rows = whole.distinct_rows;
    row_there = whole.row_there;
    row_back = whole.row_back;
  }
