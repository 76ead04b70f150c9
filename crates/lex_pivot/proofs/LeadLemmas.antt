-- Leads that are read from the greatest row of the root on, one row after the other.
use Rattle.std.proofs.Common.{◌≡◌, ◌≢◌, ◌⊎◌, ⊎_elim, ℕ, ◌+◌, ◌-◌, ◌<◌, ◌≤◌, ℤ, pos, Bool, true, false, cond, refl, List, length, get_or, set, sym, ap, subst, ◌∙◌, arith, Ordering}
use Rattle.std.specs.List.{Contains}
use Rattle.std.specs.Ordering.{int_eq}
use Rattle.std.specs.declared.cmp.Ordering.TheVariants.{Equal}
use Rattle.std.proofs.lemmas.Int.{ints}
use Rattle.std.proofs.lemmas.List.{get_or-set_same, get_or-set_other, length-set}
use Rattle.poly_model.specs.Keys.{IsAscending}
use Rattle.poly_model.specs.Dictionaries.{Table}
use Rattle.poly_model.specs.LexOrder.{within}
use Rattle.linear_laws.specs.Distinct.{AreDistinct}
use Rattle.dictionary_laws.specs.Keys.{place_in, HaveSameLabels}
use Rattle.dictionary_laws.proofs.KeyExchange.{ascending_distinct}
use Rattle.dictionary_laws.proofs.Members.{sum_members, count_by_ones}
use Rattle.dictionary.proofs.PlaceLemmas.{place_within, at_place}
use Rattle.dictionary.specs.Views.{Dictionary, table_of}
use Rattle.lex_pivot.specs.Leads.{lead_sign, HaveLeads, HaveTops, IsTop, IsZeroBehind}
use Rattle.lex_pivot.specs.Readings.{reading_at}
use Rattle.lex_pivot.specs.declared.reading.Reading.TheVariants.{Where}
use Rattle.lex_pivot.specs.Scans.{IsLead}
use Rattle.lex_pivot.specs.declared.scan.Lead.{Lead}
use Rattle.lex_pivot.proofs.FirstSigns.{IsZeroFrom}

-- there are as many columns as labels of the cobasis
pub as_many : (key columns : List ℕ) → IsAscending key → AreDistinct columns → HaveSameLabels key columns →
    length key ≡ length columns
as_many key columns up once same =
    let a = count_by_ones key in
    let b = count_by_ones columns in
    let c = sum_members key columns (λ _. pos 1) (ascending_distinct key up) once same in
    omega (arith, ints)

-- the lead of a label, at the place of its column
pub lead_of_label : (d : Dictionary) (root : List ℕ) (leads : List Ordering) → HaveLeads d root leads → (s n : ℕ) →
    Contains d.columns s → n ≡ place_in d.columns s → get_or leads n Equal ≡ lead_sign d root s
lead_of_label d root leads h s n c e =
    subst (λ i. get_or leads i Equal ≡ lead_sign d root s) (sym e)
    (h.signs (place_in d.columns s) (place_within d.columns s c) ∙ ap (lead_sign d root) (at_place d.columns s 0 c))

-- ---- one lead after the other
module _ (d : Dictionary) (root : List ℕ) where
  abbrev column : ℕ → ℕ → ℤ
  column j q = Table.entry (table_of d) q (get_or d.columns j 0)

  -- the first so many leads were read
  pub record AreLeadsTo (n : ℕ) (signs : List Ordering) (tops : List ℕ) : Type 0 where
    pub signs_count : length signs ≡ length d.columns
    pub tops_count : length tops ≡ length d.columns
    pub each : (j : ℕ) → j < n → IsLead d root (column j) (record { sign = get_or signs j Equal; top = get_or tops j 0 })

  pub one_lead_more : (n : ℕ) (signs new_signs : List Ordering) (tops new_tops : List ℕ) (lead : Lead) → n < length d.columns →
      AreLeadsTo n signs tops → IsLead d root (column n) lead → new_signs ≡ set signs n lead.sign →
      new_tops ≡ set tops n lead.top → AreLeadsTo (n + 1) new_signs new_tops
  one_lead_more n signs new_signs tops new_tops lead l h here e f = record {
    signs_count = ap length e ∙ length-set signs n lead.sign ∙ h.signs_count;
    tops_count = ap length f ∙ length-set tops n lead.top ∙ h.tops_count;
    each = λ j a. ⊎_elim
        (λ (s : j ≡ n). subst (λ i. IsLead d root (column i) (record { sign = get_or new_signs i Equal; top = get_or new_tops i 0 }))
        (sym s) (at_n (ap (λ os. get_or os n Equal) e ∙ get_or-set_same signs n lead.sign Equal (let c = h.signs_count in omega (arith, c, l)))
        (ap (λ ks. get_or ks n 0) f ∙ get_or-set_same tops n lead.top 0 (let c = h.tops_count in omega (arith, c, l)))))
        (λ (b : j < n). moved j (λ m. omega (arith, b, m)) (h.each j b)) (equal_or_below j n a);
  }
    where
      equal_or_below : (k j : ℕ) → k < j + 1 → (k ≡ j) ⊎ (k < j)
      equal_or_below k j a = grind arith

      same_lead : (i : ℕ) (o p : Ordering) (a b : ℕ) → o ≡ p → a ≡ b → IsLead d root (column i) (record { sign = p; top = b }) →
          IsLead d root (column i) (record { sign = o; top = a })
      same_lead i o p a b q r x =
          subst (λ z. IsLead d root (column i) (record { sign = z; top = a })) (sym q)
          (subst (λ z. IsLead d root (column i) (record { sign = p; top = z })) (sym r) x)

      at_n : get_or new_signs n Equal ≡ lead.sign → get_or new_tops n 0 ≡ lead.top →
          IsLead d root (column n) (record { sign = get_or new_signs n Equal; top = get_or new_tops n 0 })
      at_n q r = same_lead n (get_or new_signs n Equal) lead.sign (get_or new_tops n 0) lead.top q r here

      moved : (j : ℕ) → j ≢ n → IsLead d root (column j) (record { sign = get_or signs j Equal; top = get_or tops j 0 }) →
          IsLead d root (column j) (record { sign = get_or new_signs j Equal; top = get_or new_tops j 0 })
      moved j m x =
          same_lead j (get_or new_signs j Equal) (get_or signs j Equal) (get_or new_tops j 0) (get_or tops j 0)
          (ap (λ os. get_or os j Equal) e ∙ get_or-set_other signs n j lead.sign Equal m)
          (ap (λ ks. get_or ks j 0) f ∙ get_or-set_other tops n j lead.top 0 m) x

  module _ (n : ℕ) (signs : List Ordering) (tops : List ℕ) (all : length d.columns ≤ n) (h : AreLeadsTo n signs tops) where
    pub have_leads : HaveLeads d root signs
    have_leads = record { count = h.signs_count; signs = λ j l. (h.each j (omega (arith, l, all))).sign }

    pub have_tops : HaveTops d root tops
    have_tops = record { count = h.tops_count; each = λ j l. (h.each j (omega (arith, l, all))).top }

-- ---- where a scan of the root ends
module _ (d : Dictionary) (root : List ℕ) (f : ℕ → ℤ) where
  abbrev part : List ℕ
  part = within d.labels root

  -- at the first row that counts
  pub top_found : (n m q : ℕ) → n ≡ m + 1 → m < length root → q ≡ get_or root m 0 → IsZeroFrom f root part n →
      Contains part q → f q ≢ pos 0 → IsTop d root f n
  top_found n m q e l r h c z = record {
    behind = record { inside = omega (arith, e, l); zero = h };
    row = λ _. subst (Contains part) same c;
    nonzero = λ _. subst (λ k. f k ≢ pos 0) same z;
  }
    where
      same : q ≡ get_or root (n - 1) 0
      same = r ∙ ap (λ i. get_or root i 0) (omega (arith, e))

  -- or behind all
  pub top_none : IsZeroFrom f root part 0 → IsTop d root f 0
  top_none h = record {
    behind = record { inside = omega arith; zero = h };
    row = λ l. absurd (omega (arith, l));
    nonzero = λ l. absurd (omega (arith, l));
  }

-- behind the lead of a column its numbers where another one is 0 are 0 too
pub zeros_behind : (d : Dictionary) (root : List ℕ) (j s top : ℕ) → IsZeroBehind d root (λ q. Table.entry (table_of d) q j) top →
    IsZeroBehind d root (reading_at (table_of d) (Where j s)) top
zeros_behind d root j s top h = record {
  inside = h.inside;
  zero = λ n l m c.
      ap (λ z. cond (int_eq (Table.entry (table_of d) (get_or root n 0) s) (pos 0)) z (pos 0)) (h.zero n l m c)
      ∙ either (int_eq (Table.entry (table_of d) (get_or root n 0) s) (pos 0));
}
  where
    either : (b : Bool) → cond b (pos 0) (pos 0) ≡ pos 0
    either true = refl
    either false = refl
