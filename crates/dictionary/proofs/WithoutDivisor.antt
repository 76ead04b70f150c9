-- What stays of a dictionary, without its common divisor, is whole; and where its numbers write the labels of a space over
-- the labels of the key that stay, which are a cobasis there, it is the dictionary of that cobasis.
use Rattle.std.proofs.Common.{◌≡◌, ℕ, suc, Bool, true, List, [], ◌∷◌, ℤ, pos, sym, ap, subst, ◌∙◌, inl}
use Prim.Native.Nat.{◌∣◌}
use Rattle.std.specs.Prelude.{unsigned_abs}
use Rattle.std.specs.List.{Contains, filter}
use Rattle.std.proofs.Math.Nat.{pos_of_dvd_of_pos}
use Rattle.poly_num.proofs.Order.{positive_nonzero}
use Rattle.poly_num.proofs.FractionLemmas.{size_positive}
use Rattle.linear_laws.proofs.AllLemmas.{all_both}
use Rattle.poly_model.specs.Spaces.{Space, HasPoints}
use Rattle.poly_model.specs.Dictionaries.{IsCobasis, Writes}
use Rattle.dictionary_laws.specs.Keys.{place_in}
use Rattle.dictionary_laws.specs.Numbers.{ArePrimitive}
use Rattle.dictionary_laws.proofs.Multiples.{AreTimes, divisors_write}
use Rattle.dictionary_laws.proofs.Least.{least_where_primitive}
use Rattle.poly_model.specs.declared.overflow.Phase.TheVariants.{Main}
use Rattle.dictionary.specs.Views.{Dictionary, number, by_columns, table_of, IsDictionaryIn, IsWhole}
use Rattle.dictionary.specs.MainPhase.{kept_rows, kept_columns, kept, IsDividedOut}
use Rattle.dictionary.proofs.KeptNumbers.{constant_kept, entry_kept, whole_kept}
use Rattle.dictionary.proofs.DividedOut.{divided_of, positive_divisor, times_left, whole_divided}
use Rattle.dictionary.proofs.EachNumber.{each_number}

module _ (old : Dictionary) (left stays : ℕ → Bool) (whole : IsWhole old)
    (both : (k : ℕ) → stays k ≡ true → left k ≡ true) where
  abbrev part : Dictionary
  part = kept old left stays

  module _ (least : ℤ) (cells : List ℤ) (h : IsDividedOut part.cells part.denominator cells least) where
    abbrev pub what_is_left : Dictionary
    what_is_left = divided_of part least cells h

    pub whole_left : IsWhole what_is_left
    whole_left = whole_divided part least cells h (whole_kept old left stays whole both)

    module _ (space : Space) (labels_are : what_is_left.labels ≡ space.labels) (points : HasPoints space)
        (cobasis : IsCobasis space what_is_left.key) (old_writes : Writes space what_is_left.key (table_of old)) where
      label_there : (i : ℕ) → Contains space.labels i → Contains what_is_left.labels i
      label_there i c = subst (λ ls. Contains ls i) (sym labels_are) c

      label_back : (i : ℕ) → Contains what_is_left.labels i → Contains space.labels i
      label_back i c = subst (λ ls. Contains ls i) labels_are c

      -- the old numbers are the divisor times the new ones
      times : AreTimes space what_is_left.key (pos h.factor) (table_of old) (table_of what_is_left)
      times = record {
        denominator = h.over;
        constants = λ i l.
            sym (constant_kept old left stays whole i (label_there i l)) ∙ times_left part least cells h i 0;
        entries = λ i k l m.
            let c = whole_left.same.there k m in
            sym (entry_kept old left stays whole i k (label_there i l) c)
            ∙ times_left part least cells h i (suc (place_in what_is_left.columns k));
      }

      writes : Writes space what_is_left.key (table_of what_is_left)
      writes =
          divisors_write space what_is_left.key (pos h.factor) (table_of old) (table_of what_is_left)
          (positive_divisor part least cells h) times old_writes

      primitive : ArePrimitive space what_is_left.key (table_of what_is_left)
      primitive e divides =
          h.primitive.1 e
          (pos_of_dvd_of_pos divides.denominator (size_positive least (positive_nonzero least whole_left.positive)))
          (all_both (λ z. e ∣ unsigned_abs z) cells (least ∷ [])
          (each_number (λ z. e ∣ unsigned_abs z) what_is_left whole_left
          (λ i c. divides.constants i (label_back i c))
          (λ i k c m. divides.entries i k (label_back i c) (whole_left.same.back k m)))
          (divides.denominator, tt))

      pub is_dictionary : IsDictionaryIn space what_is_left
      is_dictionary = record {
        labels = labels_are;
        dictionary = record {
          cobasis = cobasis;
          writes = writes;
          least = least_where_primitive space what_is_left.key (table_of what_is_left) (inl points) cobasis writes primitive;
        };
      }

-- the numbers of a dictionary where its labels stand so
abbrev pub at_labels : Dictionary → List ℕ → List ℕ → List ℕ → List ℕ → Dictionary
at_labels d labels key columns rows = record {
  phase = Main;
  labels = labels;
  key = key;
  columns = columns;
  rows = rows;
  denominator = d.denominator;
  cells = by_columns (number d) rows (kept_columns d.columns columns);
}

-- they are what is kept where the labels are those that are left and that stay
pub kept_at : (d : Dictionary) (left stays : ℕ → Bool) (labels key columns rows : List ℕ) →
    labels ≡ filter left d.labels → key ≡ filter stays d.key → columns ≡ filter stays d.columns →
    rows ≡ kept_rows d left stays → at_labels d labels key columns rows ≡ kept d left stays
kept_at d left stays labels key columns rows el ek ec er =
    ap (λ ls. at_labels d ls key columns rows) el
    ∙ ap (λ ks. at_labels d (filter left d.labels) ks columns rows) ek
    ∙ ap (λ cs. at_labels d (filter left d.labels) (filter stays d.key) cs rows) ec
    ∙ ap (λ rs. at_labels d (filter left d.labels) (filter stays d.key) (filter stays d.columns) rs) er
