-- Which numbers are 0 after a pivot.
use Rattle.std.proofs.Common.{◌≡◌, ◌≢◌, ◌⊎◌, ⊎_elim, inl, inr, ℕ, ℤ, pos, negsuc, ◌*ℤ◌, ◌-ℤ◌, refl, ap, ◌∙◌, subst, arith}
use Rattle.std.specs.List.{Contains}
use Rattle.std.specs.Prelude.{◌==◌}
use Rattle.std.proofs.lemmas.Bool.{cond_both, eqb-true, eqb-false}
use Rattle.poly_num.specs.Fractions.{turned_by}
use Rattle.poly_num.proofs.Ring.{lin}
use Rattle.poly_num.proofs.Order.{zero_factor, positive_nonzero}
use Rattle.poly_model.specs.Spaces.{Space, HasPoints}
use Rattle.poly_model.specs.Dictionaries.{Table, Writes}
use Rattle.dictionary_laws.specs.Exchange.{CanExchange, exchanged, exchanged_entry}
use Rattle.dictionary_laws.proofs.Directions.{times_zero, zero_times}
use Rattle.dictionary_laws.proofs.NewNumbers.{exchanged_writes}
use Rattle.dictionary_laws.proofs.Values.{entries_proportional}
use Rattle.dictionary.specs.Views.{Dictionary, IsDictionaryIn, CanPivot, IsPivot, table_of}

-- ---- numbers of an exchange that are 0
difference_zero : (a b c d : ℤ) → a ≡ pos 0 → (c ≡ pos 0) ⊎ (d ≡ pos 0) → a *ℤ b -ℤ c *ℤ d ≡ pos 0
difference_zero a b c d e f =
    let g = zero_times a b e in
    let h : c *ℤ d ≡ pos 0 =
    ⊎_elim (λ (z : c ≡ pos 0). zero_times c d z) (λ (z : d ≡ pos 0). times_zero c d z) f in
    omega (arith, lin)

module _ (t : Table) (r s i j : ℕ) where
  -- row i is 0 at the label that leaves, and at this one if that is not the one that enters
  pub zero_by_row : t.entry i s ≡ pos 0 → (j ≢ r → t.entry i j ≡ pos 0) → exchanged_entry t r s i j ≡ pos 0
  zero_by_row z e =
      cond_both (j == r) (t.entry i s *ℤ t.denominator) (t.entry i j *ℤ t.entry r s -ℤ t.entry i s *ℤ t.entry r j)
      (λ x. x ≡ pos 0)
      (λ b. zero_times (t.entry i s) t.denominator z)
      (λ b. difference_zero (t.entry i j) (t.entry r s) (t.entry i s) (t.entry r j) (e (eqb-false j r b)) (inl z))

  -- row i is 0 at this label, and so is the row that enters
  pub zero_by_column : j ≢ r → t.entry i j ≡ pos 0 → t.entry r j ≡ pos 0 → exchanged_entry t r s i j ≡ pos 0
  zero_by_column n z e =
      cond_both (j == r) (t.entry i s *ℤ t.denominator) (t.entry i j *ℤ t.entry r s -ℤ t.entry i s *ℤ t.entry r j)
      (λ x. x ≡ pos 0)
      (λ b. absurd (n (eqb-true j r b)))
      (λ b. difference_zero (t.entry i j) (t.entry r s) (t.entry i s) (t.entry r j) z (inr e))

turned_zero : (p : ℤ) → turned_by p (pos 0) ≡ pos 0
turned_zero (pos n) = refl
turned_zero (negsuc n) = refl

-- ---- a number after a pivot is 0 where that of the exchange is
module _ (space : Space) (points : HasPoints space) (old new : Dictionary) (r s : ℕ) (is : IsDictionaryIn space old)
    (can : CanPivot old r s) (pivot : IsPivot old r s new) where
  after : IsDictionaryIn space new
  after = pivot.dictionary space points is

  can_exchange : CanExchange space old.key (table_of old) r s
  can_exchange = record {
    label = subst (λ ks. Contains ks r) is.labels can.label;
    outside = can.outside;
    inside = can.inside;
    nonzero = can.nonzero;
  }

  writes : Writes space new.key (exchanged (table_of old) r s)
  writes =
      exchanged_writes space old.key new.key (table_of old) r s is.dictionary.cobasis is.dictionary.writes can_exchange
      pivot.key.exchanges

  pub zero_after : (i j : ℕ) → Contains old.labels i → Contains new.key j →
      exchanged_entry (table_of old) r s i j ≡ pos 0 → Table.entry (table_of new) i j ≡ pos 0
  zero_after i j l c z =
      let ex = exchanged (table_of old) r s in
      let label = subst (λ ks. Contains ks i) is.labels l in
      let same = entries_proportional space new.key after.dictionary.cobasis ex (table_of new) writes
      after.dictionary.writes i label j c in
      let none : Table.entry ex i j ≡ pos 0 =
      ap (λ x. turned_by (Table.entry (table_of old) r s) x) z ∙ turned_zero (Table.entry (table_of old) r s) in
      zero_factor (Table.denominator ex) (Table.entry (table_of new) i j)
      (same ∙ times_zero (Table.denominator (table_of new)) (Table.entry ex i j) none)
      (positive_nonzero (Table.denominator ex) writes.positive)
