-- What stands at a prefix: the next row by the entries at the labels that are left.
use Rattle.std.proofs.Common.{◌≡◌, ◌≢◌, Bool, ℕ, ◌+◌, ◌<◌, ◌≤◌, ℤ, pos, ◌*ℤ◌, List, ◌++◌, length, sym, ap, ◌∙◌, subst, arith}
use Rattle.std.specs.List.{Contains}
use Rattle.std.proofs.lemmas.List.Elements.{Contains-append_right}
use Rattle.poly_num.specs.Vectors.{Vector, ◌·◌}
use Rattle.poly_num.proofs.Order.{mul_nonzero}
use Rattle.poly_model.specs.Independence.{Vanish, Follows, IsNew}
use Rattle.poly_model.specs.Systems.{Polyhedron}
use Rattle.poly_model.specs.Spaces.{cone_space}
use Rattle.poly_model.specs.Dictionaries.{Table, IsDictionary}
use Rattle.dictionary_laws.proofs.Directions.{times_zero, zero_times}
use Rattle.dictionary_laws.proofs.SameLabels.{same_dictionary}
use Rattle.dictionary.specs.Views.{Dictionary, table_of}
use Rattle.listing_laws.specs.ListedCone.{ListedCone, row_at}
use Rattle.listing_laws.specs.Prefixes.{taken_at, next_row, marked_labels}
use Rattle.listing_laws.proofs.FirstLists.{labels_within}
use Rattle.plain_enum.specs.Standing.{form_of, AreZeroAt, parted, StandsAt}
use Rattle.plain_enum.proofs.ConeVectors.{DualOver, dual_over, value_at_dual, zero_by_terms}
use Rattle.plain_enum.proofs.Parts.{AreApart, distinct_right, distinct_apart, in_parts, in_first, in_second, in_third}
use Rattle.plain_enum.proofs.RowsTaken.{vanish_at_taken, row_form, next_form, row_is_label}

value_nonzero : (e v a x : ℤ) → a ≢ pos 0 → x ≢ pos 0 → e *ℤ v ≡ a *ℤ x → v ≢ pos 0
value_nonzero e v a x n m h z = mul_nonzero a x n m (sym h ∙ times_zero e v z)

module _ (p : Polyhedron) (cone : ListedCone) (d : Dictionary) (fixed left : List ℕ) (marks : List Bool)
    (s : StandsAt p cone d fixed left marks) where
  abbrev pub labels : List ℕ
  labels = parted fixed marks left

  -- d is the dictionary of these labels too, in this order
  pub stands_dictionary : IsDictionary (cone_space p) labels (table_of d)
  stands_dictionary = same_dictionary (cone_space p) d.key labels (table_of d) s.distinct s.key s.dictionary.dictionary

  -- ---- the labels of the rows taken
  pub taken_from_one : (j : ℕ) → Contains (marked_labels marks) j → 0 < j
  taken_from_one j c = let l = (labels_within 1 marks j c).0 in omega arith

  pub taken_within : (j : ℕ) → Contains (marked_labels marks) j → j ≤ length cone.rows
  taken_within j c = let l = (labels_within 1 marks j c).1 in omega (arith, s.within)

  pub taken_form : (j : ℕ) → Contains (marked_labels marks) j → row_at cone j ≡ form_of p j
  taken_form j c = row_form p cone s.over j (taken_from_one j c) (taken_within j c)

  -- ---- what is left stands in no other part
  pub left_is_not_fixed : AreApart fixed left
  left_is_not_fixed k c e =
      distinct_apart fixed (marked_labels marks ++ left) s.distinct k c (Contains-append_right (marked_labels marks) left k e)

  pub left_is_not_taken : AreApart (marked_labels marks) left
  left_is_not_taken = distinct_apart (marked_labels marks) left (distinct_right fixed (marked_labels marks ++ left) s.distinct)

  -- ---- where base and rows taken are 0
  pub vanish_here : (w : Vector) → length w ≡ p.n → AreZeroAt p fixed w → AreZeroAt p (marked_labels marks) w →
      Vanish (taken_at cone marks) w
  vanish_here w l f t =
      (vanish_at_taken cone marks w s.within).1
      ((s.base w l).1 f, λ k c. ap (λ g. g · w) (taken_form k c) ∙ t k c)

  pub fixed_zero : (w : Vector) → length w ≡ p.n → Vanish (taken_at cone marks) w → AreZeroAt p fixed w
  fixed_zero w l v = (s.base w l).0 ((vanish_at_taken cone marks w s.within).0 v).0

  pub rows_taken_zero : (w : Vector) → Vanish (taken_at cone marks) w → AreZeroAt p (marked_labels marks) w
  rows_taken_zero w v k c =
      ap (λ g. g · w) (sym (taken_form k c)) ∙ ((vanish_at_taken cone marks w s.within).0 v).1 k c

  -- ---- the next row
  module _ (l : length marks < length cone.rows) where
    next_is_label : Contains (cone_space p).labels (length marks + 1)
    next_is_label = row_is_label p cone s.over (length marks + 1) (omega arith) (omega arith)

    pub new_by_entry : (k : ℕ) → Contains left k → Table.entry (table_of d) (length marks + 1) k ≢ pos 0 →
        IsNew cone.n (taken_at cone marks) (next_row cone marks)
    new_by_entry k c n = (
      dual.vector,
      dual.width ∙ sym s.over.width,
      vanish_here dual.vector dual.width
          (λ j i. dual.elsewhere j (in_first fixed (marked_labels marks) left j i)
          (λ e. left_is_not_fixed k (subst (Contains fixed) e i) c))
          (λ j i. dual.elsewhere j (in_second fixed (marked_labels marks) left j i)
          (λ e. left_is_not_taken k (subst (Contains (marked_labels marks)) e i) c)),
      λ z. value_nonzero d.denominator (form_of p (length marks + 1) · dual.vector)
          (Table.entry (table_of d) (length marks + 1) k) (form_of p k · dual.vector) n dual.here
          (value_at_dual p labels stands_dictionary.cobasis (table_of d) stands_dictionary.writes (length marks + 1)
          next_is_label k here dual)
          (ap (λ g. g · dual.vector) (sym (next_form p cone s.over marks l)) ∙ z),
    )
      where
        here : Contains labels k
        here = in_third fixed (marked_labels marks) left k c

        dual : DualOver p labels k
        dual = dual_over p labels stands_dictionary.cobasis k here

    pub follows_by_entries : ((k : ℕ) → Contains left k → Table.entry (table_of d) (length marks + 1) k ≡ pos 0) →
        Follows cone.n (taken_at cone marks) (next_row cone marks)
    follows_by_entries h y e v =
        let wide : length y ≡ p.n = e ∙ s.over.width in
        let term : (k : ℕ) → ℤ = λ k. Table.entry (table_of d) (length marks + 1) k *ℤ (form_of p k · y) in
        ap (λ g. g · y) (next_form p cone s.over marks l)
        ∙ zero_by_terms p labels stands_dictionary.cobasis (table_of d) stands_dictionary.writes
        (length marks + 1) next_is_label
        y wide
        (in_parts (λ k. term k ≡ pos 0) fixed (marked_labels marks) left
        (λ k c. times_zero (Table.entry (table_of d) (length marks + 1) k) (form_of p k · y) (fixed_zero y wide v k c))
        (λ k c. times_zero (Table.entry (table_of d) (length marks + 1) k) (form_of p k · y) (rows_taken_zero y v k c))
        (λ k c. zero_times (Table.entry (table_of d) (length marks + 1) k) (form_of p k · y) (h k c)))
