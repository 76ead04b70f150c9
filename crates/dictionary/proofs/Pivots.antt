-- The exchange of cells is the pivot of a dictionary.
use Rattle.std.proofs.Common.{Bool, cond, ◌≡◌, ◌≢◌, ℕ, zero, suc, ◌*◌, ◌<◌, ℤ, pos, negsuc, neg_ℤ, ◌*ℤ◌, ◌-ℤ◌, List, length, set, arith, refl, sym, ap, subst, ◌∙◌, inl, ⊎_elim}
use Prim.Native.Nat.{◌∣◌}
use Rattle.std.specs.Prelude.{◌<ℤ◌, unsigned_abs}
use Rattle.std.specs.List.{Contains}
use Rattle.std.proofs.lemmas.Int.{ints}
use Rattle.std.proofs.lemmas.List.{length-set}
use Rattle.std.proofs.lemmas.Bool.{cases_eq, eq-eqb, ne_eqb}
use Rattle.poly_num.specs.Fractions.{turned_by}
use Rattle.poly_num.proofs.Ring.{lin, neg-mul, mul_comm, mul_zero, zero_mul}
use Rattle.poly_num.proofs.Order.{positive_factor, positive_product}
use Rattle.poly_model.specs.Spaces.{Space, HasPoints}
use Rattle.poly_model.specs.Dictionaries.{Table, IsCobasis, Writes}
use Rattle.dictionary_laws.specs.Keys.{place_in, HaveSameLabels}
use Rattle.dictionary_laws.specs.Laws.{IsExchangedKey}
use Rattle.dictionary_laws.specs.Numbers.{ArePrimitive}
use Rattle.dictionary_laws.specs.Exchange.{CanExchange, exchanged}
use Rattle.dictionary_laws.proofs.Members.{contains_or}
use Rattle.dictionary_laws.proofs.Multiples.{AreTimes, divisors_write}
use Rattle.dictionary_laws.proofs.NewCobasis.{exchanged_cobasis}
use Rattle.dictionary_laws.proofs.NewNumbers.{exchanged_writes}
use Rattle.dictionary_laws.proofs.Least.{least_where_primitive}
use Rattle.dictionary_laws.proofs.Sizes.{divisor_positive}
use Rattle.columns.specs.Cells.{cell_at, pivot_of, IsTableAfter}
use Rattle.dictionary.specs.Views.{Dictionary, number, table_of, exchange_at, IsDictionaryIn, CanPivot, IsPivot, IsWhole}
use Rattle.dictionary.proofs.EachNumber.{each_number}
use Rattle.dictionary.proofs.Numbers.{own_number, other_number, row_number}
use Rattle.dictionary.proofs.PlaceLemmas.{place_within, one_at_place, set_distinct, set_entering, set_kept, set_members, place_entering, place_staying, exchanged_same}

turned_times : (p a b : ℤ) → turned_by p (a *ℤ b) ≡ turned_by p a *ℤ b
turned_times (pos n) a b = refl
turned_times (negsuc n) a b = sym (neg-mul a b)

turned_product : (p a b x : ℤ) → a *ℤ b ≡ x → turned_by p x ≡ turned_by p a *ℤ b
turned_product p a b x e = ap (λ z. turned_by p z) (sym e) ∙ turned_times p a b

-- g e = p d with d and e positive: g has the sign of p
turned_factor : (p d e g : ℤ) → p ≢ pos 0 → pos 0 <ℤ d → pos 0 <ℤ e → g *ℤ e ≡ p *ℤ d →
    pos 0 <ℤ turned_by p g
turned_factor (pos zero) d e g n hd he h = absurd (n refl)
turned_factor (pos (suc m)) d e g n hd he h =
    positive_factor e g he
    (subst (λ (z : ℤ). pos 0 <ℤ z) (sym h ∙ mul_comm g e)
    (positive_product (pos (suc m)) d (omega (arith, ints)) hd))
turned_factor (negsuc m) d e g n hd he h =
    positive_factor e (neg_ℤ g) he
    (subst (λ (z : ℤ). pos 0 <ℤ z)
    (neg-mul (negsuc m) d ∙ ap neg_ℤ (sym h) ∙ sym (neg-mul g e) ∙ mul_comm (neg_ℤ g) e)
    (positive_product (neg_ℤ (negsuc m)) d (omega (arith, ints)) hd))

zero_difference : (a b : ℤ) → b *ℤ a -ℤ a *ℤ b ≡ pos 0
zero_difference a b = let e = mul_comm a b in omega (arith, lin)

-- a p - c b with c = 0
own_product : (a p c b : ℤ) → c ≡ pos 0 → a *ℤ p -ℤ c *ℤ b ≡ p *ℤ a
own_product a p c b e =
    let f : c *ℤ b ≡ pos 0 = ap (λ z. z *ℤ b) e ∙ zero_mul b in
    let g = mul_comm a p in
    omega (arith, lin)

-- nothing times anything less nothing times anything
nothing_taken : (a p c b : ℤ) → a ≡ pos 0 → c ≡ pos 0 → a *ℤ p -ℤ c *ℤ b ≡ pos 0
nothing_taken a p c b e f = rw (e, f, zero_mul p, zero_mul b) refl

-- only the second product is taken
only_taken : (a p c b : ℤ) → a ≡ pos 0 → neg_ℤ (c *ℤ b) ≡ a *ℤ p -ℤ c *ℤ b
only_taken a p c b e =
    let f : a *ℤ p ≡ pos 0 = ap (λ z. z *ℤ p) e ∙ zero_mul p in
    omega (arith, lin)

module _ (old : Dictionary) (r s : ℕ) (whole : IsWhole old) (can : CanPivot old r s) (d : ℤ) (cells : List ℤ)
    (x : IsTableAfter (exchange_at old r s) old.cells d cells) where
  abbrev c : ℕ
  c = place_in old.columns s

  abbrev a : ℕ
  a = place_in old.rows r

  abbrev height : ℕ
  height = length old.rows

  abbrev width : ℕ
  width = suc (length old.columns)

  abbrev columns : List ℕ
  columns = set old.columns c r

  abbrev rows : List ℕ
  rows = set old.rows a s

  abbrev pivot : ℤ
  pivot = Table.entry (table_of old) r s

  inside : Contains old.columns s
  inside = whole.same.there s can.inside

  outside : Contains old.columns r → ⊥
  outside m = can.outside (whole.same.back r m)

  row_r : Contains old.rows r
  row_r = whole.row_there r can.label outside

  no_row_s : Contains old.rows s → ⊥
  no_row_s m = (whole.row_back s m).1 inside

  apart : r ≢ s
  apart e = outside (subst (λ (i : ℕ). Contains old.columns i) (sym e) inside)

  same_width : suc (length columns) ≡ width
  same_width = ap suc (length-set old.columns c r)

  column_within : (k : ℕ) → Contains old.columns k → suc (place_in old.columns k) < width
  column_within k m = let l = place_within old.columns k m in omega arith

  row_within : (i : ℕ) → Contains old.rows i → place_in old.rows i < height
  row_within i m = place_within old.rows i m

  pivot_cell : pivot_of (exchange_at old r s) old.cells ≡ pivot
  pivot_cell = sym (row_number old r (suc c) outside)

  denominators : x.factor *ℤ d ≡ pivot *ℤ old.denominator
  denominators = x.denominator ∙ ap (λ z. z *ℤ old.denominator) pivot_cell

  -- what the four parts of the table after the exchange are, by numbers before it
  column_cell : (i : ℕ) → (Contains old.columns i → ⊥) → Contains old.rows i → i ≢ r →
      x.factor *ℤ cell_at height cells (place_in old.rows i) (suc c) ≡ number old i (suc c) *ℤ old.denominator
  column_cell i n m q =
      (x.cells (place_in old.rows i) (suc c) (row_within i m) (column_within s inside)).column refl
      (λ e. q (one_at_place old.rows i r m row_r e))
      ∙ ap (λ z. z *ℤ old.denominator) (sym (row_number old i (suc c) n))

  inside_cell : (i j : ℕ) → (Contains old.columns i → ⊥) → Contains old.rows i → i ≢ r → j < width → j ≢ suc c →
      x.factor *ℤ cell_at height cells (place_in old.rows i) j
      ≡ number old i j *ℤ pivot -ℤ number old i (suc c) *ℤ number old r j
  inside_cell i j n m q hj nj =
      (x.cells (place_in old.rows i) j (row_within i m) hj).inside nj (λ e. q (one_at_place old.rows i r m row_r e))
      ∙ rw (
        row_number old i j n,
        row_number old i (suc c) n,
        row_number old r j outside,
        row_number old r (suc c) outside,
      ) refl

  corner_cell : x.factor *ℤ cell_at height cells a (suc c) ≡ old.denominator *ℤ old.denominator
  corner_cell = (x.cells a (suc c) (row_within r row_r) (column_within s inside)).corner refl refl

  leaving_cell : (j : ℕ) → j < width → j ≢ suc c →
      x.factor *ℤ cell_at height cells a j ≡ neg_ℤ (old.denominator *ℤ number old r j)
  leaving_cell j hj nj =
      (x.cells a j (row_within r row_r) hj).leaving nj refl
      ∙ ap (λ z. neg_ℤ (old.denominator *ℤ z)) (sym (row_number old r j outside))

  -- the dictionary after the pivot, whose key is known only as the exchanged one
  module _ (key : List ℕ) (exchanges : IsExchangedKey old.key key r s) where
    abbrev new : Dictionary
    new = record {
      phase = old.phase;
      labels = old.labels;
      key = key;
      columns = columns;
      rows = rows;
      denominator = d;
      cells = cells;
    }

    same_new : HaveSameLabels key columns
    same_new = exchanged_same r s old.key key old.columns exchanges.exchanges whole.same whole.distinct inside

    -- which labels the new columns have
    entering_column : Contains columns r
    entering_column = set_entering r s old.columns inside

    staying_column : (k : ℕ) → Contains old.columns k → k ≢ s → Contains columns k
    staying_column k m n = set_kept r s old.columns inside k m n

    no_column_s : Contains columns s → ⊥
    no_column_s m =
        ⊎_elim (λ (e : s ≡ r). apart (sym e)) (λ (p : Contains old.columns s × (s ≢ s)). p.1 refl)
        (set_members r s old.columns whole.distinct inside s m)

    no_column : (i : ℕ) → (Contains old.columns i → ⊥) → i ≢ r → Contains columns i → ⊥
    no_column i n q m =
        ⊎_elim (λ (e : i ≡ r). q e) (λ (p : Contains old.columns i × (i ≢ s)). n p.0)
        (set_members r s old.columns whole.distinct inside i m)

    -- the new number of a label outside the new cobasis is the cell of its row
    new_cell : (i j place : ℕ) → (Contains columns i → ⊥) → place_in rows i ≡ place →
        number new i j ≡ cell_at height cells place j
    new_cell i j place n e =
        row_number new i j n
        ∙ ap (λ h. cell_at h cells (place_in rows i) j) (length-set old.rows a s)
        ∙ ap (λ p. cell_at height cells p j) e

    row_of_s : place_in rows s ≡ a
    row_of_s = place_entering s r old.rows row_r no_row_s

    row_stays : (i : ℕ) → (Contains old.columns i → ⊥) → i ≢ r → place_in rows i ≡ place_in old.rows i
    row_stays i n q =
        place_staying s r old.rows row_r i
        (λ e. n (subst (λ (k : ℕ). Contains old.columns k) (sym e) inside)) q

    column_of_r : suc (place_in columns r) ≡ suc c
    column_of_r = ap suc (place_entering r s old.columns inside outside)

    column_stays : (k : ℕ) → Contains old.columns k → k ≢ s → suc (place_in columns k) ≡ suc (place_in old.columns k)
    column_stays k m n =
        ap suc (place_staying r s old.columns inside k
        (λ e. outside (subst (λ (i : ℕ). Contains old.columns i) e m)) n)

    other_column : (k : ℕ) → Contains old.columns k → k ≢ s → suc c ≢ suc (place_in old.columns k)
    other_column k m n e = n (one_at_place old.columns k s m inside (omega (arith, e)))

    -- the four kinds of labels: that which enters, that which leaves, the others inside and the others outside
    by_kind : (P : ℕ → Type 0) → P r → P s → ((k : ℕ) → Contains old.columns k → k ≢ s → P k) →
        ((i : ℕ) → (Contains old.columns i → ⊥) → Contains old.rows i → i ≢ r → P i) →
        (i : ℕ) → Contains old.labels i → P i
    by_kind P entering leaving within beyond i l =
        ⊎_elim
        (λ (m : Contains old.columns i).
        ⊎_elim (λ (e : i ≡ s). rw e leaving) (λ (n : i ≢ s). within i m n) (cases_eq i s))
        (λ (n : Contains old.columns i → ⊥).
        ⊎_elim (λ (e : i ≡ r). rw e entering) (λ (q : i ≢ r). beyond i n (whole.row_there i l n) q) (cases_eq i r))
        (contains_or old.columns i)

    -- the numbers in the column of the label that enters
    entering : (i : ℕ) → Contains old.labels i →
        x.factor *ℤ number new i (suc c) ≡ number old i (suc c) *ℤ old.denominator
    entering =
        by_kind (λ i. x.factor *ℤ number new i (suc c) ≡ number old i (suc c) *ℤ old.denominator)
        (ap (λ z. x.factor *ℤ z) (own_number new r (suc c) entering_column (sym column_of_r)) ∙ denominators)
        (ap (λ z. x.factor *ℤ z) (new_cell s (suc c) a no_column_s row_of_s) ∙ corner_cell
        ∙ ap (λ z. z *ℤ old.denominator) (sym (own_number old s (suc c) inside refl)))
        (λ k m n.
        ap (λ z. x.factor *ℤ z)
        (other_number new k (suc c) (staying_column k m n) (λ e. other_column k m n (e ∙ column_stays k m n)))
        ∙ mul_zero x.factor ∙ sym (zero_mul old.denominator)
        ∙ ap (λ z. z *ℤ old.denominator) (sym (other_number old k (suc c) m (other_column k m n))))
        (λ i n m q.
        ap (λ z. x.factor *ℤ z) (new_cell i (suc c) (place_in old.rows i) (no_column i n q) (row_stays i n q))
        ∙ column_cell i n m q)

    -- a label that stays in the cobasis, in another column than that of the label that enters
    within : (j k : ℕ) → j ≢ suc c → Contains old.columns k → k ≢ s →
        x.factor *ℤ number new k j ≡ number old k j *ℤ pivot -ℤ number old k (suc c) *ℤ number old r j
    within j k nj m n =
        let zero_s = other_number old k (suc c) m (other_column k m n) in
        ⊎_elim
        (λ (e : j ≡ suc (place_in old.columns k)).
        ap (λ z. x.factor *ℤ z) (own_number new k j (staying_column k m n) (e ∙ sym (column_stays k m n)))
        ∙ denominators ∙ ap (λ z. pivot *ℤ z) (sym (own_number old k j m e))
        ∙ sym (own_product (number old k j) pivot (number old k (suc c)) (number old r j) zero_s))
        (λ (q : j ≢ suc (place_in old.columns k)).
        ap (λ z. x.factor *ℤ z)
        (other_number new k j (staying_column k m n) (λ e. q (e ∙ column_stays k m n)))
        ∙ mul_zero x.factor
        ∙ sym (nothing_taken (number old k j) pivot (number old k (suc c)) (number old r j)
        (other_number old k j m q) zero_s))
        (cases_eq j (suc (place_in old.columns k)))

    -- the numbers in the other columns
    staying : (i j : ℕ) → Contains old.labels i → j < width → j ≢ suc c →
        x.factor *ℤ number new i j ≡ number old i j *ℤ pivot -ℤ number old i (suc c) *ℤ number old r j
    staying i j l hj nj =
        by_kind
        (λ i. x.factor *ℤ number new i j ≡ number old i j *ℤ pivot -ℤ number old i (suc c) *ℤ number old r j)
        (ap (λ z. x.factor *ℤ z) (other_number new r j entering_column (λ e. nj (e ∙ column_of_r)))
        ∙ mul_zero x.factor ∙ sym (zero_difference pivot (number old r j)))
        (ap (λ z. x.factor *ℤ z) (new_cell s j a no_column_s row_of_s) ∙ leaving_cell j hj nj
        ∙ only_taken (number old s j) pivot old.denominator (number old r j) (other_number old s j inside nj)
        ∙ ap (λ z. number old s j *ℤ pivot -ℤ z *ℤ number old r j) (sym (own_number old s (suc c) inside refl)))
        (λ k m n. within j k nj m n)
        (λ i n m q.
        ap (λ z. x.factor *ℤ z) (new_cell i j (place_in old.rows i) (no_column i n q) (row_stays i n q))
        ∙ inside_cell i j n m q hj nj)
        i l

    row_there_new : (i : ℕ) → Contains old.labels i → (Contains columns i → ⊥) → Contains rows i
    row_there_new =
        by_kind (λ i. (Contains columns i → ⊥) → Contains rows i)
        (λ n. absurd (n entering_column))
        (λ n. set_entering s r old.rows row_r)
        (λ k m q n. absurd (n (staying_column k m q)))
        (λ i q m nr n. set_kept s r old.rows row_r i m nr)

    row_back_new : (i : ℕ) → Contains rows i → Contains old.labels i × (Contains columns i → ⊥)
    row_back_new i m =
        ⊎_elim
        (λ (e : i ≡ s). rw e (whole.inside s inside, no_column_s))
        (λ (p : Contains old.rows i × (i ≢ r)).
        let back = whole.row_back i p.0 in (back.0, no_column i back.1 p.1))
        (set_members s r old.rows whole.distinct_rows row_r i m)

    pub whole_new : IsWhole new
    whole_new = record {
      size = x.same_length ∙ whole.size ∙ ap (λ w. w * height) (sym same_width)
          ∙ ap (λ h. suc (length columns) * h) (sym (length-set old.rows a s));
      positive = x.positive;
      labels = whole.labels;
      below = whole.below;
      key = exchanges.is_key;
      same = same_new;
      distinct = set_distinct r s old.columns whole.distinct inside outside;
      inside = λ k m.
          ⊎_elim (λ (e : k ≡ r). rw e (can.label))
          (λ (p : Contains old.columns k × (k ≢ s)). whole.inside k p.0)
          (set_members r s old.columns whole.distinct inside k m);
      distinct_rows = set_distinct s r old.rows whole.distinct_rows row_r no_row_s;
      row_there = row_there_new;
      row_back = row_back_new;
    }

    -- the exchanged numbers by labels: the new ones times the factor, with the sign turned
    abbrev raw : Table
    raw = exchanged (table_of old) r s

    abbrev sign_factor : ℤ
    sign_factor = turned_by pivot x.factor

    positive_factor_is : pos 0 <ℤ sign_factor
    positive_factor_is = turned_factor pivot old.denominator d x.factor can.nonzero whole.positive x.positive denominators

    -- the exchanged number of a label in the column of r, and in that of another label
    abbrev raw_entry : ℕ → ℕ → Bool → ℤ
    raw_entry i k b =
        turned_by pivot (cond b (Table.entry (table_of old) i s *ℤ old.denominator)
        (Table.entry (table_of old) i k *ℤ pivot -ℤ Table.entry (table_of old) i s *ℤ Table.entry (table_of old) r k))

    entry_times : (i k : ℕ) → Contains old.labels i → Contains key k →
        Table.entry raw i k ≡ sign_factor *ℤ Table.entry (table_of new) i k
    entry_times i k l m =
        ⊎_elim
        (λ (e : k ≡ r).
        ap (raw_entry i k) (eq-eqb k r e)
        ∙ turned_product pivot x.factor (number new i (suc c)) (Table.entry (table_of old) i s *ℤ old.denominator)
        (entering i l)
        ∙ ap (λ j. sign_factor *ℤ number new i j) (sym (ap (λ q. suc (place_in columns q)) e ∙ column_of_r)))
        (λ (n : k ≢ r).
        let old_member : Contains old.key k × (k ≢ s) =
        ⊎_elim (λ (e : k ≡ r). absurd (n e)) (λ (p : Contains old.key k × (k ≢ s)). p)
        (exchanges.exchanges.only k m) in
        let member = whole.same.there k old_member.0 in
        ap (raw_entry i k) (ne_eqb k r n)
        ∙ turned_product pivot x.factor (number new i (suc (place_in old.columns k)))
        (Table.entry (table_of old) i k *ℤ pivot -ℤ Table.entry (table_of old) i s *ℤ Table.entry (table_of old) r k)
        (staying i (suc (place_in old.columns k)) l (column_within k member)
        (λ e. other_column k member old_member.1 (sym e)))
        ∙ ap (λ j. sign_factor *ℤ number new i j) (sym (column_stays k member old_member.1)))
        (cases_eq k r)

    constant_times : (i : ℕ) → Contains old.labels i →
        Table.constant raw i ≡ sign_factor *ℤ Table.constant (table_of new) i
    constant_times i l =
        turned_product pivot x.factor (number new i 0)
        (number old i 0 *ℤ pivot -ℤ Table.entry (table_of old) i s *ℤ number old r 0)
        (staying i 0 l (omega arith) (λ e. omega arith))

    module _ (space : Space) (points : HasPoints space) (is : IsDictionaryIn space old) where
      label_there : (i : ℕ) → Contains space.labels i → Contains old.labels i
      label_there i l = subst (λ (ls : List ℕ). Contains ls i) (sym is.labels) l

      label_back : (i : ℕ) → Contains old.labels i → Contains space.labels i
      label_back i l = subst (λ (ls : List ℕ). Contains ls i) is.labels l

      can_exchange : CanExchange space old.key (table_of old) r s
      can_exchange = record {
        label = label_back r can.label;
        outside = can.outside;
        inside = can.inside;
        nonzero = can.nonzero;
      }

      cobasis : IsCobasis space key
      cobasis = exchanged_cobasis space old.key key (table_of old) r s is.dictionary.cobasis is.dictionary.writes
          can_exchange exchanges.exchanges

      times : AreTimes space key sign_factor raw (table_of new)
      times = record {
        denominator =
            turned_product pivot x.factor d (old.denominator *ℤ pivot)
            (denominators ∙ mul_comm pivot old.denominator);
        constants = λ i l. constant_times i (label_there i l);
        entries = λ i k l m. entry_times i k (label_there i l) m;
      }

      writes : Writes space key (table_of new)
      writes = divisors_write space key sign_factor raw (table_of new) positive_factor_is times
          (exchanged_writes space old.key key (table_of old) r s is.dictionary.cobasis is.dictionary.writes
          can_exchange exchanges.exchanges)

      -- what divides all numbers divides each cell
      primitive : ArePrimitive space key (table_of new)
      primitive e h =
          x.least.1 e (divisor_positive e d x.positive h.denominator) (
            h.denominator,
            each_number (λ z. e ∣ unsigned_abs z) new whole_new
                (λ i l. h.constants i (label_back i l))
                (λ i k l c. h.entries i k (label_back i l) (same_new.back k c)),
          )

      pub dictionary_new : IsDictionaryIn space new
      dictionary_new = record {
        labels = is.labels;
        dictionary = record {
          cobasis = cobasis;
          writes = writes;
          least = least_where_primitive space key (table_of new) (inl points) cobasis writes primitive;
        };
      }

    pub pivot_is : IsPivot old r s new
    pivot_is = record {
      phase = refl;
      labels = refl;
      width = length-set old.columns c r;
      key = exchanges;
      dictionary = λ space points d. dictionary_new space points d;
    }
