-- How many labels there are: as many as rows and columns.
use Rattle.std.proofs.Common.{◌≡◌, ℕ, suc, ◌+◌, ◌*◌, pos, List, ◌++◌, length, arith, ap, ◌∙◌, ⊎_elim, length-append}
use Rattle.std.specs.List.{Contains}
use Rattle.std.proofs.lemmas.Int.{ints}
use Rattle.std.proofs.lemmas.List.Elements.{Contains-append_left, Contains-append_right, Contains-append_cases}
use Rattle.linear_laws.specs.Distinct.{AreDistinct}
use Rattle.linear_laws.proofs.Distinct.{distinct_append}
use Rattle.dictionary_laws.specs.Keys.{HaveSameLabels}
use Rattle.dictionary_laws.proofs.KeyExchange.{ascending_distinct}
use Rattle.dictionary_laws.proofs.Members.{contains_or, sum_members, count_by_ones}
use Rattle.dictionary.specs.Views.{Dictionary, IsWhole}

same_count : (ks ls : List ℕ) → AreDistinct ks → AreDistinct ls → HaveSameLabels ks ls → length ks ≡ length ls
same_count ks ls d e same =
    let f = count_by_ones ks in
    let g = count_by_ones ls in
    let h = sum_members ks ls (λ _. pos 1) d e same in
    omega (arith, ints)

pub label_count : (d : Dictionary) → IsWhole d → length d.labels ≡ length d.rows + length d.columns
label_count d whole =
    same_count d.labels (d.rows ++ d.columns) (ascending_distinct d.labels whole.labels)
    (distinct_append d.rows d.columns whole.distinct_rows whole.distinct (λ k r c. (whole.row_back k r).1 c))
    (record {
      there = λ k l.
          ⊎_elim (λ (c : Contains d.columns k). Contains-append_right d.rows d.columns k c)
          (λ (n : Contains d.columns k → ⊥). Contains-append_left d.rows d.columns k (whole.row_there k l n))
          (contains_or d.columns k);
      back = λ k m.
          ⊎_elim (λ (r : Contains d.rows k). (whole.row_back k r).0) (λ (c : Contains d.columns k). whole.inside k c)
          (Contains-append_cases d.rows d.columns k m);
    })
    ∙ length-append d.rows d.columns

-- two of one shape have as many rows, and as many cells
module _ (d e : Dictionary) (whole : IsWhole d) (other : IsWhole e) (labels : length e.labels ≡ length d.labels)
    (columns : length e.columns ≡ length d.columns) where
  pub same_rows : length e.rows ≡ length d.rows
  same_rows = let m = label_count d whole in let n = label_count e other in omega (arith, labels, columns)

  pub same_cells : length e.cells ≡ suc (length d.columns) * length d.rows
  same_cells =
      other.size ∙ ap (λ w. suc w * length e.rows) columns ∙ ap (λ h. suc (length d.columns) * h) same_rows
