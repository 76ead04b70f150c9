-- The list of a row, as the values of one function at places: the constant, and each row outside the root. Here each
-- label has one; that of a label of the key is 0.
use Rattle.std.proofs.Common.{◌≡◌, ◌≢◌, ◌⊎◌, inl, inr, subst, ℕ, Bool, true, false, cond, List, [], ◌∷◌, ℤ, pos, ◌-ℤ◌, neg_ℤ, map, refl, ap, ◌∙◌, ⊎_elim, arith}
use Rattle.std.specs.Prelude.{◌==◌, if◌then◌else◌, Option, None, Some}
use Rattle.std.specs.List.{Contains}
use Rattle.std.proofs.lemmas.Bool.{cases_eq, eq-eqb, ne_eqb, eqb-true}
use Rattle.poly_num.proofs.Ring.{lin}
use Rattle.poly_model.specs.Spaces.{Space, is_member}
use Rattle.poly_model.specs.Dictionaries.{Table}
use Rattle.poly_model.specs.LexOrder.{outside, listed_at, list_of}
use Rattle.poly_model.specs.Tree.{IsRowDictionary}
use Rattle.linear_laws.proofs.Members.{Contains-nil, Contains-first, Contains-later}
use Rattle.dictionary_laws.specs.Numbers.{IsOwnRow}
use Rattle.dictionary_laws.proofs.Members.{contains_or, by_cases}
use Rattle.dictionary_laws.proofs.Filters.{member_only}
use Rattle.dictionary_laws.proofs.Values.{own_row}
use Rattle.tree_laws.proofs.Numbers.{number_at, number_inside, number_outside}

-- d where the labels are one, else 0
abbrev pub itself : ℕ → ℕ → ℤ → ℤ
itself k i d = if k == i then d else pos 0

pub itself_here : (k i : ℕ) (d : ℤ) → k ≡ i → itself k i d ≡ d
itself_here k i d e = ap (λ b. cond b d (pos 0)) (eq-eqb k i e)

pub itself_apart : (k i : ℕ) (d : ℤ) → k ≢ i → itself k i d ≡ pos 0
itself_apart k i d n = ap (λ b. cond b d (pos 0)) (ne_eqb k i n)

-- the constant of row i, and its number for the list at each row k
abbrev pub level : List ℕ → Table → ℕ → Option ℕ → ℤ
level key t i None = t.constant i
level key t i (Some k) = itself k i t.denominator -ℤ number_at key t i k

-- the places of a list
abbrev pub places : Space → List ℕ → List (Option ℕ)
places space root = None ∷ map Some (outside space.labels root)

abbrev pub level_list : Space → List ℕ → List ℕ → Table → ℕ → List ℤ
level_list space root key t i = map (level key t i) (places space root)

some_place : (ks : List ℕ) (k : ℕ) → Contains ks k → Contains (map Some ks) (Some k)
some_place [] k c = absurd (Contains-nil k c)
some_place (x ∷ ks) k c =
    by_cases (λ (j : ℕ). Contains (map Some (x ∷ ks)) (Some j)) x ks (Contains-first (Some x) (map Some ks))
    (λ j d. Contains-later (Some j) (Some x) (map Some ks) (some_place ks j d)) k c

pub row_place : (space : Space) (root : List ℕ) (k : ℕ) → Contains (outside space.labels root) k →
    Contains (places space root) (Some k)
row_place space root k c =
    Contains-later (Some k) None (map Some (outside space.labels root)) (some_place (outside space.labels root) k c)

same_parts : (a b d : ℤ) → a ≡ d → b ≡ d → a -ℤ b ≡ pos 0
same_parts a b d e f = omega (arith, lin)

-- ---- of a row outside the key it is the list of the definition
listed : (key : List ℕ) (t : Table) (i k : ℕ) → (Contains key i → ⊥) → listed_at key t i k ≡ level key t i (Some k)
listed key t i k n = by (k == i) refl (is_member k key) refl
  where
    minus : (b : Bool) (e : ℤ) → cond b (neg_ℤ e) (pos 0) ≡ pos 0 -ℤ cond b e (pos 0)
    minus true e = omega (arith, lin)
    minus false e = omega (arith, lin)

    less_none : (d : ℤ) → d ≡ d -ℤ pos 0
    less_none d = omega (arith, lin)

    by : (b : Bool) → (k == i) ≡ b → (m : Bool) → is_member k key ≡ m →
        cond b t.denominator (cond m (neg_ℤ (t.entry i k)) (pos 0)) ≡
        cond b t.denominator (pos 0) -ℤ cond m (t.entry i k) (pos 0)
    by true e true f = absurd (n (subst (Contains key) (eqb-true k i e) (member_only k key f)))
    by true e false f = less_none t.denominator
    by false e m f = minus m (t.entry i k)

pub list_is_levels : (space : Space) (root key : List ℕ) (t : Table) (i : ℕ) → (Contains key i → ⊥) →
    list_of space.labels root key t i ≡ level_list space root key t i
list_is_levels space root key t i n = ap (λ xs. t.constant i ∷ xs) (rows (outside space.labels root))
  where
    rows : (ks : List ℕ) → map (listed_at key t i) ks ≡ map (level key t i) (map Some ks)
    rows [] = refl
    rows (k ∷ ks) = let a = listed key t i k n in let b = rows ks in cc

-- ---- the numbers of a row outside the key: the denominator at itself, minus its entry at a label of the key, else 0
pub level_itself : (key : List ℕ) (t : Table) (i : ℕ) → (Contains key i → ⊥) → level key t i (Some i) ≡ t.denominator
level_itself key t i n =
    less_zero (itself i i t.denominator) (number_at key t i i) t.denominator
    (itself_here i i t.denominator refl) (number_outside key t i i n)
  where
    less_zero : (a b d : ℤ) → a ≡ d → b ≡ pos 0 → a -ℤ b ≡ d
    less_zero a b d e f = omega (arith, lin)

pub level_inside : (key : List ℕ) (t : Table) (i k : ℕ) → (Contains key i → ⊥) → Contains key k →
    level key t i (Some k) ≡ neg_ℤ (t.entry i k)
level_inside key t i k n c =
    zero_less (itself k i t.denominator) (number_at key t i k) (t.entry i k)
    (itself_apart k i t.denominator (λ e. n (subst (Contains key) e c))) (number_inside key t i k c)
  where
    zero_less : (a b d : ℤ) → a ≡ pos 0 → b ≡ d → a -ℤ b ≡ neg_ℤ d
    zero_less a b d e f = omega (arith, lin)

pub level_elsewhere : (key : List ℕ) (t : Table) (i k : ℕ) → k ≢ i → (Contains key k → ⊥) →
    level key t i (Some k) ≡ pos 0
level_elsewhere key t i k n m =
    same_parts (itself k i t.denominator) (number_at key t i k) (pos 0)
    (itself_apart k i t.denominator n) (number_outside key t i k m)

-- ---- the list of a label of the key is 0
module _ (space : Space) (key : List ℕ) (t : Table) (d : IsRowDictionary space key t) where
  own : (k : ℕ) → Contains key k → IsOwnRow space key t k
  own = own_row space key d.dictionary.cobasis t d.dictionary.writes

  own_number : (k : ℕ) → Contains key k → (j : ℕ) → level key t k (Some j) ≡ pos 0
  own_number k c j =
      ⊎_elim
      (λ (e : j ≡ k). same_parts (itself j k t.denominator) (number_at key t k j) t.denominator
      (itself_here j k t.denominator e)
      (ap (number_at key t k) e ∙ number_inside key t k k c ∙ IsOwnRow.here (own k c)))
      (λ (n : j ≡ k → ⊥). same_parts (itself j k t.denominator) (number_at key t k j) (pos 0)
      (itself_apart j k t.denominator n) (apart n (contains_or key j)))
      (cases_eq j k)
    where
      apart : j ≢ k → Contains key j ⊎ (Contains key j → ⊥) → number_at key t k j ≡ pos 0
      apart n (inl h) = number_inside key t k j h ∙ IsOwnRow.elsewhere (own k c) j h n
      apart n (inr m) = number_outside key t k j m

  pub own_level : (k : ℕ) → Contains key k → (x : Option ℕ) → level key t k x ≡ pos 0
  own_level k c None = IsOwnRow.constant (own k c) d.points
  own_level k c (Some j) = own_number k c j
