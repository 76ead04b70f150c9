-- The labels of a cobasis are labels, and the rows have the others.
use Rattle.std.proofs.Common.{◌≡◌, ℕ, List, sym, subst}
use Rattle.std.specs.List.{Contains}
use Rattle.dictionary.specs.Cobases.{AreOutside}
use Rattle.dictionary.specs.Views.{Dictionary, IsWhole}

pub key_label : (d : Dictionary) (k : ℕ) → IsWhole d → Contains d.key k → Contains d.labels k
key_label d k whole c = whole.inside k (whole.same.there k c)

pub rows_outside : (d : Dictionary) (rows : List ℕ) → IsWhole d → rows ≡ d.rows → AreOutside d rows
rows_outside d rows whole e = record {
  there = λ i c n. subst (λ ks. Contains ks i) (sym e) (whole.row_there i c (λ m. n (whole.same.back i m)));
  label = λ i c. (whole.row_back i (subst (λ ks. Contains ks i) e c)).0;
  outside = λ i c m. (whole.row_back i (subst (λ ks. Contains ks i) e c)).1 (whole.same.there i m);
}
