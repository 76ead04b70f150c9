-- What the number of a label is, inside the cobasis and outside.
use Rattle.std.proofs.Common.{◌≡◌, ◌≢◌, ℕ, suc, ◌<◌, Bool, true, false, cond, ℤ, pos, List, length, arith, refl, ap, ◌∙◌, ⊎_elim}
use Rattle.std.specs.Prelude.{◌==◌}
use Rattle.std.specs.List.{Contains}
use Rattle.std.proofs.lemmas.Bool.{cases_Bool, eq-eqb, ne_eqb}
use Rattle.std.proofs.lemmas.Nat.{mul-add-lt}
use Rattle.poly_model.specs.Dictionaries.{Table}
use Rattle.poly_model.specs.Spaces.{is_member}
use Rattle.dictionary_laws.specs.Keys.{place_in}
use Rattle.dictionary_laws.proofs.Filters.{member_only, member_has}
use Rattle.columns.specs.Cells.{place as at_row, cell_at}
use Rattle.dictionary.specs.Views.{Dictionary, IsWhole, number, table_of}
use Rattle.dictionary.proofs.PlaceLemmas.{place_within, one_at_place}

pub no_member : (k : ℕ) (ks : List ℕ) → (Contains ks k → ⊥) → is_member k ks ≡ false
no_member k ks n =
    ⊎_elim (λ (e : is_member k ks ≡ true). absurd (n (member_only k ks e))) (λ (e : is_member k ks ≡ false). e)
    (cases_Bool (is_member k ks))

module _ (d : Dictionary) (i j : ℕ) where
  abbrev place : ℕ
  place = suc (place_in d.columns i)

  abbrev by : Bool → Bool → ℤ
  by inside own = cond inside (cond own d.denominator (pos 0)) (cell_at (length d.rows) d.cells (place_in d.rows i) j)

  pub own_number : Contains d.columns i → j ≡ place → number d i j ≡ d.denominator
  unfolding number
  own_number c e = ap (λ b. by b (j == place)) (member_has i d.columns c) ∙ ap (λ b. by true b) (eq-eqb j place e)

  pub other_number : Contains d.columns i → j ≢ place → number d i j ≡ pos 0
  unfolding number
  other_number c n = ap (λ b. by b (j == place)) (member_has i d.columns c) ∙ ap (λ b. by true b) (ne_eqb j place n)

  pub row_number : (Contains d.columns i → ⊥) → number d i j ≡ cell_at (length d.rows) d.cells (place_in d.rows i) j
  unfolding number
  row_number n = ap (λ b. by b (j == place)) (no_member i d.columns n)

-- the cell of a label outside the cobasis is there
pub cell_there : (d : Dictionary) → IsWhole d → (i j : ℕ) → Contains d.labels i → (Contains d.columns i → ⊥) →
    j < suc (length d.columns) → at_row (length d.rows) (place_in d.rows i) j < length d.cells
cell_there d whole i j label n lt =
    let l = mul-add-lt j (length d.rows) (place_in d.rows i) (suc (length d.columns)) lt
    (place_within d.rows i (whole.row_there i label n)) in
    omega (arith, whole.size, l)

-- the entries of a label of the cobasis
module _ (d : Dictionary) (whole : IsWhole d) (i k : ℕ) (column : Contains d.key k) where
  pub own_entry : i ≡ k → Table.entry (table_of d) i k ≡ d.denominator
  own_entry e = rw e (own_number d k (suc (place_in d.columns k)) (whole.same.there k column) refl)

  pub other_entry : Contains d.key i → i ≢ k → Table.entry (table_of d) i k ≡ pos 0
  other_entry row n =
      let at = whole.same.there i row in
      other_number d i (suc (place_in d.columns k)) at
      (λ e. n (one_at_place d.columns i k at (whole.same.there k column) (omega (arith, e))))
