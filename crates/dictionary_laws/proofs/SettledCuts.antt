-- A space is cut by labels that are to be 0. Where no such label can enter the key for one that is
-- none, the other labels of the key are a cobasis of what is left, and the numbers write its labels.
use Rattle.std.proofs.Common.{◌≡◌, ℕ, Bool, true, false, List, [], ℤ, pos, ◌+ℤ◌, ◌*ℤ◌, ap, ◌∙◌, ⊎_elim}
use Rattle.std.specs.List.{Contains, filter}
use Rattle.std.proofs.lemmas.Bool.{cases_Bool}
use Rattle.std.proofs.lemmas.List.Elements.{All-from_recursion}
use Rattle.poly_num.specs.Vectors.{Vector, ◌·◌}
use Rattle.poly_num.proofs.Order.{zero_factor, positive_nonzero}
use Rattle.poly_model.specs.Spaces.{Space, IsInside, IsDirection, HasPoints}
use Rattle.poly_model.specs.Dictionaries.{Table, IsCobasis, Writes}
use Rattle.poly_model.specs.Equations.{HasPointOn}
use Rattle.dictionary_laws.specs.Points.{AreSettled}
use Rattle.linear_laws.proofs.Members.{Contains-nil, all_at}
use Rattle.dictionary_laws.proofs.Members.{all_from}
use Rattle.dictionary_laws.proofs.Filters.{filter_only, filter_kept, distinct_filter, sum_filter}
use Rattle.dictionary_laws.proofs.Directions.{times_zero, zero_times}
use Rattle.dictionary_laws.proofs.Duals.{Dual, dual_of, distinct, independent}
use Rattle.dictionary_laws.proofs.Values.{terms, value_at}

module _ (space : Space) (fixed : List Vector) (labels : List ℕ) where
  -- other fixed rows, other labels
  abbrev pub cut : Space
  cut = record space { fixed = fixed; labels = labels }

  -- its vectors are those at which these labels are 0
  pub record IsCutBy (gone : List ℕ) : Type 0 where
    pub inside : (y : Vector) → IsInside cut y → IsInside space y
    pub zero : (y : Vector) → IsInside cut y → (i : ℕ) → Contains gone i → space.form i · y ≡ pos 0
    pub enough : (y : Vector) → IsInside space y →
        ((i : ℕ) → Contains gone i → space.form i · y ≡ pos 0) → IsInside cut y
    pub gone_labels : (i : ℕ) → Contains gone i → Contains space.labels i
    pub old_labels : (i : ℕ) → Contains labels i → Contains space.labels i

  -- the test tells the labels of the key that stay from those that are gone
  pub record Parts (key gone : List ℕ) (test : ℕ → Bool) : Type 0 where
    pub leaves : (k : ℕ) → Contains key k → test k ≡ false → Contains gone k
    pub remains : (k : ℕ) → Contains key k → test k ≡ true → Contains gone k → ⊥
    pub label : (k : ℕ) → Contains key k → test k ≡ true → Contains labels k

  pub points_of_cut : (gone : List ℕ) → IsCutBy gone → HasPointOn space gone → HasPoints cut
  points_of_cut gone c p = record {
    vector = p.vector;
    inside = c.enough p.vector p.inside p.zero;
    finite = p.finite;
  }

  module _ (key gone : List ℕ) (test : ℕ → Bool) (t : Table) (cobasis : IsCobasis space key)
      (w : Writes space key t) (c : IsCutBy gone) (parts : Parts key gone test) where
    pub writes_of_cut : Writes cut (filter test key) t
    writes_of_cut = record {
      positive = w.positive;
      values = λ i l y inside.
          w.values i (c.old_labels i l) y (c.inside y inside)
          ∙ ap (λ (s : ℤ). t.constant i *ℤ (space.infinity · y) +ℤ s)
          (sum_filter test key (terms space t i y)
          (λ k m e. times_zero (t.entry i k) (space.form k · y) (c.zero y inside k (parts.leaves k m e))));
    }

    module _ (settled : AreSettled key t gone) where
      -- what is gone is 0 at the dual direction of a label that stays
      zero_at_dual : (k : ℕ) → Contains key k → test k ≡ true → (d : Dual space [] key k) →
          (i : ℕ) → Contains gone i → space.form i · d.vector ≡ pos 0
      zero_at_dual k m e d i g =
          zero_factor t.denominator (space.form i · d.vector)
          (value_at space key cobasis t w i (c.gone_labels i g) k m d
          ∙ zero_times (t.entry i k) (space.form k · d.vector)
          (settled i k g m (parts.remains k m e)))
          (positive_nonzero t.denominator w.positive)

      dual_in_cut : (k : ℕ) → Contains (filter test key) k → Dual cut [] (filter test key) k
      dual_in_cut k m =
          let h = filter_only test key k m in
          let d = dual_of space key cobasis k h.0 in
          record {
            vector = d.vector;
            direction = record {
              inside = c.enough d.vector (IsDirection.inside d.direction)
                  (zero_at_dual k h.0 h.1 d);
              level = IsDirection.level d.direction;
            };
            before = λ i n. absurd (Contains-nil i n);
            here = d.here;
            elsewhere = λ j n o. d.elsewhere j (filter_only test key j n).0 o;
          }

      pub cobasis_of_cut : IsCobasis cut (filter test key)
      cobasis_of_cut = record {
        labels = All-from_recursion (Contains labels) (filter test key)
            (all_from (Contains labels) (filter test key)
            (λ k m. let h = filter_only test key k m in parts.label k h.0 h.1));
        independent = independent cut (filter test key)
            (distinct_filter test key (distinct space key cobasis)) dual_in_cut;
        enough = λ z d v. cobasis.enough z
            (record { inside = c.inside z d.inside; level = d.level })
            (all_from (λ k. space.form k · z ≡ pos 0) key
            (λ k m. ⊎_elim
            (λ (e : test k ≡ true). all_at (λ i. space.form i · z ≡ pos 0) (filter test key) v k
            (filter_kept test key k m e))
            (λ (e : test k ≡ false). c.zero z d.inside k (parts.leaves k m e))
            (cases_Bool (test k))));
      }
