-- Where a dictionary stands at a prefix of rows: how many labels are left, and the next row, taken or not.
use Rattle.std.proofs.Common.{◌≡◌, ◌≢◌, ◌↔◌, ⊎_elim, Bool, true, false, ℕ, suc, ◌+◌, ◌-◌, ◌<◌, ◌≤◌, pos, List, [], ◌∷◌, ◌++◌, length, length-append, get_or, refl, sym, ap, ◌∙◌, subst, arith}
use Rattle.std.specs.List.{Contains}
use Rattle.std.proofs.lemmas.Bool.{false_from_ne_true, not_from_false}
use Rattle.std.proofs.lemmas.List.{get_or-map}
use Rattle.poly_num.specs.Vectors.{Vector, ◌·◌}
use Rattle.poly_model.specs.Labels.{IsRow}
use Rattle.poly_model.specs.declared.overflow.Overflow.{Overflow}
use Rattle.poly_model.specs.Independence.{Vanish, Follows, IsNew}
use Rattle.poly_model.specs.Systems.{Row, row_of, no_row, System, Polyhedron}
use Rattle.poly_model.specs.Overflows.{Passes, IsPassing}
use Rattle.plain_enum.specs.Plain.{PassesInCone}
use Rattle.poly_model.specs.Spaces.{IsSpaceOf, cone_space}
use Rattle.poly_model.specs.Dictionaries.{Table, IsDictionary}
use Rattle.poly_model.proofs.RowLemmas.{row_from_one}
use Rattle.dictionary_laws.proofs.Members.{without}
use Rattle.dictionary_laws.proofs.PhasePoints.{phase_points}
use Rattle.dictionary.specs.Views.{Dictionary, CanPivot, IsPivot, IsOverflow, table_of}
use Rattle.dictionary.specs.MainPhase.{stays_in}
use Rattle.listing_laws.specs.ListedCone.{ListedCone}
use Rattle.listing_laws.specs.Prefixes.{taken_at, next_row, marked_labels}
use Rattle.listing_laws.proofs.FirstLists.{length-taken, labels-with}
use Rattle.plain_enum.specs.Columns.{IsColumnOf, HasNoColumn}
use Rattle.plain_enum.specs.Listed.{IsAt}
use Rattle.plain_enum.specs.Standing.{parted, StandsAt}
use Rattle.plain_enum.proofs.Counting.{length_of_cobasis}
use Rattle.plain_enum.proofs.Parts.{in_first}
use Rattle.plain_enum.proofs.RowsTaken.{as_many, vanish_at_taken}
use Rattle.plain_enum.proofs.Standings.{stands_dictionary, new_by_entry, follows_by_entries}
use Rattle.plain_enum.proofs.FixedLabels as fixed_labels
use Rattle.plain_enum.proofs.FixedLabels.{FixedAre, row_stays, left_in_key, left_not_free}
use Rattle.plain_enum.proofs.Steps.{only_leaving, pivot_takes, dictionary_stays}

-- ---- how many labels are left
count_left : (p : Polyhedron) (cone : ListedCone) (d : Dictionary) (fixed left : List ℕ) (marks : List Bool) →
    StandsAt p cone d fixed left marks → length fixed + (length (marked_labels marks) + length left) ≡ p.n
count_left p cone d fixed left marks s =
    let all = length_of_cobasis p (parted fixed marks left) (stands_dictionary p cone d fixed left marks s).cobasis in
    omega (arith, all, length-append fixed (marked_labels marks ++ left), length-append (marked_labels marks) left)

-- ---- where a dictionary stands, and its next row
module _ (sys : System) (free : List ℕ) (d : Dictionary) (i depth : ℕ) (p : Polyhedron)
    (cone : ListedCone) (fixed left : List ℕ) (marks : List Bool)
    (here : IsAt sys free d i depth p cone fixed left marks) where
  same_rows : length cone.rows ≡ length sys.rows
  same_rows =
      let rows = as_many p cone here.stands.over in
      let same = ap (λ (t : System). length t.rows) here.file in
      omega (arith, rows, same)

  -- behind the last row all rows are decided, and the list is too short for a corner
  pub all_decided : length sys.rows < i → length marks ≡ length cone.rows
  all_decided behind = omega (arith, same_rows, here.next, here.stands.within, behind)

  pub too_short : 0 < depth → length (taken_at cone marks) + 1 ≢ cone.n
  too_short some h =
      let many = length-taken cone.base cone.rows marks 1 here.stands.within in
      let all = count_left p cone d fixed left marks here.stands in
      omega (arith, h, many, all, here.count, here.stands.count, here.stands.over.width, some)

  module _ (row : i ≤ length sys.rows) where
    pub before : length marks < length cone.rows
    before = omega (arith, same_rows, here.next, row)

    -- the next row not taken
    pub stays : IsAt sys free d (i + 1) depth p cone fixed left (marks ++ false ∷ [])
    stays = record {
      file = here.file;
      is_cone = here.is_cone;
      phase = here.phase;
      stands = dictionary_stays p cone d fixed left marks here.stands before;
      fixed_are = here.fixed_are;
      next = omega (arith, length-append marks (false ∷ []), here.next);
      count = here.count;
    }

    pub follows : HasNoColumn d free i → Follows cone.n (taken_at cone marks) (next_row cone marks)
    follows none =
        follows_by_entries p cone d fixed left marks here.stands before
        (λ k c. subst (λ j. Table.entry (table_of d) j k ≡ pos 0) here.next
        (none k (left_in_key p cone d fixed left marks here.stands k c) (here.stands.coordinates k c)
        (left_not_free p cone d fixed left marks here.stands sys.rows free here.fixed_are k c)))

    is_left : (k : ℕ) → IsColumnOf d free i k → Contains left k
    is_left k column =
        fixed_labels.is_left p cone d fixed left marks here.stands sys.rows free here.fixed_are k
        column.inside
        column.coordinate column.not_free

    pub is_new : (k : ℕ) → IsColumnOf d free i k → IsNew cone.n (taken_at cone marks) (next_row cone marks)
    is_new k column =
        new_by_entry p cone d fixed left marks here.stands before k (is_left k column)
        (λ z. column.nonzero (subst (λ j. Table.entry (table_of d) j k ≡ pos 0) (sym here.next) z))

    -- a linear row is 0 wherever the base is, so where the next row has a column it is not linear
    zero_if_linear : (row_of sys.rows i).linear ≡ true → (z : Vector) → length z ≡ cone.n → Vanish cone.base z →
        next_row cone marks · z ≡ pos 0
    zero_if_linear e z wide base =
        ap (λ g. g · z)
        (ap (λ gs. get_or gs (length marks) []) here.is_cone.rows
        ∙ get_or-map (λ (r : Row). r.entries) sys.rows (length marks) no_row [] (omega (arith, same_rows, before))
        ∙ ap (λ m. Row.entries (get_or sys.rows m no_row)) (omega (arith, here.next)))
        ∙ ((here.is_cone.fixed z wide).0 base).1 (i - 1) no_row (omega (arith, here.next, row))
        (ap (λ (r : Row). r.linear) (sym (row_from_one sys.rows i (omega (arith, here.next)))) ∙ e)

    not_linear : (k : ℕ) → IsColumnOf d free i k → (row_of sys.rows i).linear ≡ false
    not_linear k column =
        let new = is_new k column in
        false_from_ne_true (row_of sys.rows i).linear
        (λ e. new.3 (zero_if_linear e new.0 new.1 ((vanish_at_taken cone marks new.0 here.stands.within).0 new.2).0))

    -- the next row taken
    module _ (k : ℕ) (column : IsColumnOf d free i k) (new : Dictionary) (pivot : IsPivot d i k new) where
      taken : StandsAt p cone new fixed (without k left) (marks ++ true ∷ [])
      taken =
          pivot_takes p cone d new fixed left marks here.stands k (is_left k column)
          (subst (λ j. IsPivot d j k new) here.next pivot) before

      low : IsRow i
      low = let few = here.stands.over.few in omega (arith, as_many p cone here.stands.over, before, here.next)

      -- the row that enters is neither fixed nor linear
      not_fixed : Contains fixed i → ⊥
      not_fixed f =
          let old = here.stands.key.back i (in_first fixed (marked_labels marks) left i f) in
          let same : i ≡ k =
          here.next ∙ only_leaving p cone d new fixed left marks here.stands k (is_left k column)
          (subst (λ j. IsPivot d j k new) here.next pivot) (subst (Contains d.key) here.next old) in
          let high = column.coordinate in
          omega (arith, low)

      entering_stays : stays_in sys.rows free i ≡ true
      entering_stays =
          row_stays sys.rows free i low ∙ not_from_false (row_of sys.rows i).linear (not_linear k column)

      entering : Contains fixed i ↔ (stays_in sys.rows free i ≡ false)
      entering = (
        λ f. absurd (not_fixed f),
        λ e. let both : true ≡ false = sym entering_stays ∙ e in absurd (cc),
      )

      fixed_now : FixedAre sys.rows free new fixed
      fixed_now j c =
          ⊎_elim
          (λ (e : j ≡ i). subst (λ m. Contains fixed m ↔ (stays_in sys.rows free m ≡ false)) (sym e) entering)
          (λ (h : Contains d.key j × (j ≢ k)). here.fixed_are j h.0)
          (pivot.key.exchanges.only j c)

      pub goes_deeper : (less : ℕ) → suc less ≡ depth →
          IsAt sys free new (i + 1) less p cone fixed (without k left) (marks ++ true ∷ [])
      goes_deeper less e = record {
        file = here.file;
        is_cone = here.is_cone;
        phase = pivot.phase ∙ here.phase;
        stands = taken;
        fixed_are = fixed_now;
        next = omega (arith, length-append marks (true ∷ []), here.next);
        count =
            let all = count_left p cone d fixed left marks here.stands in
            let now = count_left p cone new fixed (without k left) (marks ++ true ∷ []) taken in
            let more = ap length (labels-with 1 marks) in
            let one = length-append (marked_labels marks) ((length marks + 1) ∷ []) in
            omega (arith, here.count, e, all, now, more, one);
      }

  -- a product that passes
  at_cone : (k : ℕ) (o : Overflow) → CanPivot d i k → IsOverflow d i k o → Passes p o
  at_cone k o can over = record {
    space = cone_space p;
    is_space = subst (λ f. IsSpaceOf p f (cone_space p)) (sym (over.phase ∙ here.phase)) refl;
    point = (phase_points p).cone;
    table = table_of d;
    dictionary =
        subst (λ ks. IsDictionary (cone_space p) ks (table_of d)) (sym over.key) here.stands.dictionary.dictionary;
    r = i;
    s = k;
    outside = (
      subst (λ ks. Contains ks i) here.stands.dictionary.labels can.label,
      λ c. can.outside (subst (λ ks. Contains ks i) over.key c),
    );
    inside = subst (λ ks. Contains ks k) (sym over.key) can.inside;
    nonzero = can.nonzero;
    passing = subst (λ ks. IsPassing (cone_space p).labels ks (table_of d) i k o) (sym over.key)
        (subst (λ ks. IsPassing ks d.key (table_of d) i k o) here.stands.dictionary.labels over.passes);
  }

  pub overflows : (k : ℕ) (o : Overflow) → CanPivot d i k → IsOverflow d i k o → PassesInCone p o
  overflows k o can over = record { phase = over.phase ∙ here.phase; passes = at_cone k o can over }
