-- The numbers of one dictionary from those of another: the values of a label at the dual directions and at the point of
-- the one, written in the other.
use Rattle.std.proofs.Common.{◌≡◌, ◌≢◌, ℕ, Bool, true, false, cond, List, [], ℤ, pos, ◌+ℤ◌, ◌*ℤ◌, refl, sym, ap, ◌∙◌, ⊎_elim, arith}
use Rattle.std.specs.Prelude.{if◌then◌else◌}
use Rattle.std.specs.List.{Contains}
use Rattle.std.proofs.lemmas.List.Elements.{All-contains}
use Rattle.poly_num.specs.Vectors.{Vector, ◌·◌}
use Rattle.poly_num.proofs.Ring.{expand, lin}
use Rattle.poly_num.proofs.Order.{cancel, positive_nonzero}
use Rattle.poly_model.specs.Spaces.{Space, is_member}
use Rattle.poly_model.specs.Labels.{is_row}
use Rattle.poly_model.specs.Dictionaries.{Table, sum_over}
use Rattle.poly_model.specs.LexOrder.{rows_in}
use Rattle.poly_model.specs.Tree.{IsRowDictionary}
use Rattle.dictionary_laws.proofs.Members.{contains_or, sum_same, sum_zero, sum-scale}
use Rattle.dictionary_laws.proofs.Directions.{times_zero}
use Rattle.dictionary_laws.proofs.Duals.{Dual, dual_of}
use Rattle.dictionary_laws.proofs.Origins.{Origin, some_origin}
use Rattle.dictionary_laws.proofs.Filters.{filter_only, member_has, member_only}
use Rattle.dictionary_laws.proofs.Values.{is_label, value_at, terms, level_value}

-- the number of row i at any label: its entry at a label of the key, else 0
abbrev pub number_at : List ℕ → Table → ℕ → ℕ → ℤ
number_at key t i k = if is_member k key then t.entry i k else pos 0

pub number_inside : (key : List ℕ) (t : Table) (i k : ℕ) → Contains key k → number_at key t i k ≡ t.entry i k
number_inside key t i k c = ap (λ b. cond b (t.entry i k) (pos 0)) (member_has k key c)

pub number_outside : (key : List ℕ) (t : Table) (i k : ℕ) → (Contains key k → ⊥) → number_at key t i k ≡ pos 0
number_outside key t i k n = by (is_member k key) refl
  where
    by : (b : Bool) → is_member k key ≡ b → cond b (t.entry i k) (pos 0) ≡ pos 0
    by true e = absurd (n (member_only k key e))
    by false e = refl

pub row_is_label : (space : Space) (i : ℕ) → Contains (rows_in space.labels) i → Contains space.labels i
row_is_label space i c = (filter_only is_row space.labels i c).0

-- a term over another denominator
other_term : (e a y b v : ℤ) → e *ℤ y ≡ b *ℤ v → e *ℤ (a *ℤ y) ≡ v *ℤ (a *ℤ b)
other_term e a y b v h = let f = simp expand at (ap (λ (z : ℤ). a *ℤ z) h) in simp expand (omega (arith, lin))

compose : (d e v x b s w : ℤ) → v ≢ pos 0 → d *ℤ x ≡ s → e *ℤ x ≡ b *ℤ v → e *ℤ s ≡ v *ℤ w → d *ℤ b ≡ w
compose d e v x b s w n h k l = cancel v (d *ℤ b) w n (
    let f = simp expand at (ap (λ (z : ℤ). e *ℤ z) h) in
    let g = simp expand at (ap (λ (z : ℤ). d *ℤ z) k) in
    simp expand (omega (arith, lin)))

compose_constant : (d e y x a b s w : ℤ) → y ≢ pos 0 → d *ℤ x ≡ a *ℤ y +ℤ s → e *ℤ x ≡ b *ℤ y → e *ℤ s ≡ y *ℤ w →
    d *ℤ b ≡ a *ℤ e +ℤ w
compose_constant d e y x a b s w n h k l = cancel y (d *ℤ b) (a *ℤ e +ℤ w) n (
    let f = simp expand at (ap (λ (z : ℤ). e *ℤ z) h) in
    let g = simp expand at (ap (λ (z : ℤ). d *ℤ z) k) in
    simp expand (omega (arith, lin)))

only_constant : (v b y s : ℤ) → v ≡ b *ℤ y +ℤ s → s ≡ pos 0 → v ≡ b *ℤ y
only_constant v b y s h z = omega (arith, lin)

module _ (space : Space) (key : List ℕ) (t : Table) (d : IsRowDictionary space key t) where
  pub key_label : (k : ℕ) → Contains key k → Contains space.labels k
  key_label = is_label space key d.dictionary.cobasis

  pub key_row : (k : ℕ) → Contains key k → Contains (rows_in space.labels) k
  key_row k c = All-contains (Contains (rows_in space.labels)) key k d.rows c

  -- the value of a label at a point at which the labels of the key are 0
  origin_value : (o : Origin space key) (i : ℕ) → Contains space.labels i →
      t.denominator *ℤ (space.form i · o.vector) ≡ t.constant i *ℤ o.level
  origin_value o i l =
      only_constant (t.denominator *ℤ (space.form i · o.vector)) (t.constant i) o.level
      (sum_over key (terms space t i o.vector))
      (d.dictionary.writes.values i l o.vector o.inside
      ∙ ap (λ (z : ℤ). t.constant i *ℤ z +ℤ sum_over key (terms space t i o.vector)) o.is_level)
      (sum_zero key (terms space t i o.vector)
      (λ k c. times_zero (t.entry i k) (space.form k · o.vector) (o.zero k c)))

module _ (space : Space) (key new : List ℕ) (t u : Table) (d : IsRowDictionary space key t)
    (e : IsRowDictionary space new u) where
  -- the values of the labels of the key at y, each u's number b times v
  other_sum : (i : ℕ) (y : Vector) (v : ℤ) (b : ℕ → ℤ) →
      ((c : ℕ) → Contains key c → u.denominator *ℤ (space.form c · y) ≡ b c *ℤ v) →
      u.denominator *ℤ sum_over key (terms space t i y) ≡ v *ℤ sum_over key (λ c. t.entry i c *ℤ b c)
  other_sum i y v b h =
      sym (sum-scale u.denominator key (terms space t i y))
      ∙ sum_same key (λ c. u.denominator *ℤ terms space t i y c) (λ c. v *ℤ (t.entry i c *ℤ b c))
      (λ c m. other_term u.denominator (t.entry i c) (space.form c · y) (b c) v (h c m))
      ∙ sum-scale v key (λ c. t.entry i c *ℤ b c)

  -- entries, at a label of the other key
  pub composed_entry : (i : ℕ) → Contains space.labels i → (k : ℕ) → Contains new k →
      t.denominator *ℤ u.entry i k ≡ sum_over key (λ c. t.entry i c *ℤ u.entry c k)
  composed_entry i l k m = with_dual (dual_of space new e.dictionary.cobasis k m)
    where
      with_dual : Dual space [] new k →
          t.denominator *ℤ u.entry i k ≡ sum_over key (λ c. t.entry i c *ℤ u.entry c k)
      with_dual z =
          compose t.denominator u.denominator (space.form k · z.vector) (space.form i · z.vector) (u.entry i k)
          (sum_over key (terms space t i z.vector)) (sum_over key (λ c. t.entry i c *ℤ u.entry c k)) z.here
          (level_value (t.constant i) (space.infinity · z.vector) (sum_over key (terms space t i z.vector))
          (t.denominator *ℤ (space.form i · z.vector)) z.direction.level
          (d.dictionary.writes.values i l z.vector z.direction.inside))
          (value_at space new e.dictionary.cobasis u e.dictionary.writes i l k m z)
          (other_sum i z.vector (space.form k · z.vector) (λ c. u.entry c k)
          (λ c h. value_at space new e.dictionary.cobasis u e.dictionary.writes c (key_label space key t d c h) k m z))

  pub composed_number : (i : ℕ) → Contains space.labels i → (k : ℕ) →
      t.denominator *ℤ number_at new u i k ≡ sum_over key (λ c. t.entry i c *ℤ number_at new u c k)
  composed_number i l k =
      ⊎_elim
      (λ (m : Contains new k).
      ap (λ (z : ℤ). t.denominator *ℤ z) (number_inside new u i k m)
      ∙ composed_entry i l k m
      ∙ sum_same key (λ c. t.entry i c *ℤ u.entry c k) (λ c. t.entry i c *ℤ number_at new u c k)
      (λ c _. ap (λ (z : ℤ). t.entry i c *ℤ z) (sym (number_inside new u c k m))))
      (λ (n : Contains new k → ⊥).
      times_zero t.denominator (number_at new u i k) (number_outside new u i k n)
      ∙ sym (sum_zero key (λ c. t.entry i c *ℤ number_at new u c k)
      (λ c _. times_zero (t.entry i c) (number_at new u c k) (number_outside new u c k n))))
      (contains_or new k)

  -- constants
  pub composed_constant : (i : ℕ) → Contains space.labels i →
      t.denominator *ℤ u.constant i
      ≡ t.constant i *ℤ u.denominator +ℤ sum_over key (λ c. t.entry i c *ℤ u.constant c)
  composed_constant i l = with_origin (some_origin space new d.points e.dictionary.cobasis)
    where
      with_origin : Origin space new →
          t.denominator *ℤ u.constant i
          ≡ t.constant i *ℤ u.denominator +ℤ sum_over key (λ c. t.entry i c *ℤ u.constant c)
      with_origin o =
          compose_constant t.denominator u.denominator o.level (space.form i · o.vector) (t.constant i) (u.constant i)
          (sum_over key (terms space t i o.vector)) (sum_over key (λ c. t.entry i c *ℤ u.constant c))
          (positive_nonzero o.level o.positive)
          (d.dictionary.writes.values i l o.vector o.inside
          ∙ ap (λ (z : ℤ). t.constant i *ℤ z +ℤ sum_over key (terms space t i o.vector)) o.is_level)
          (origin_value space new u e o i l)
          (other_sum i o.vector o.level u.constant
          (λ c h. origin_value space new u e o c (key_label space key t d c h)))
