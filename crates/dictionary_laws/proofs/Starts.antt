-- The start cobasis is there, is one, and is a cobasis where no direction but 0 is 0 on all rows.
use Rattle.std.proofs.Common.{◌≡◌, ℕ, Bool, true, false, List, [], ◌∷◌, pos, map, length, refl, sym, ap, subst, ◌∙◌}
use Rattle.std.specs.List.{AllByRecursion, Contains, filter}
use Rattle.std.proofs.lemmas.List.Elements.{All-from_recursion}
use Rattle.poly_num.specs.Vectors.{Vector, ◌·◌, IsZero}
use Rattle.poly_model.specs.Independence.{Vanish, IsFirstBasis}
use Rattle.poly_model.specs.Spaces.{Space, IsInside, IsDirection, marked, IsStartCobasis}
use Rattle.poly_model.specs.Labels.{is_row}
use Rattle.poly_model.specs.Dictionaries.{AreIndependent, IsCobasis}
use Rattle.dictionary_laws.specs.Points.{RowsDetermine}
use Rattle.linear_laws.proofs.Members.{Contains-first, Contains-later, Contains-nil}
use Rattle.dictionary_laws.proofs.Members.{by_cases, all_from}
use Rattle.dictionary_laws.proofs.Filters.{filter_only}
use Rattle.linear_laws.proofs.FirstBases.{first_basis, first_unique}

pub marked_only : (ks : List ℕ) (ms : List Bool) (k : ℕ) → Contains (marked ks ms) k → Contains ks k
marked_only [] ms k c = c
marked_only (x ∷ ks) [] k c = absurd (Contains-nil k c)
marked_only (x ∷ ks) (true ∷ ms) k c =
    by_cases (Contains (x ∷ ks)) x (marked ks ms) (Contains-first x ks)
    (λ j i. Contains-later j x ks (marked_only ks ms j i)) k c
marked_only (x ∷ ks) (false ∷ ms) k c = Contains-later k x ks (marked_only ks ms k c)

module _ (space : Space) where
  -- vectors at which the rows are 0 are directions at which the labels are
  Stand : List ℕ → List Vector → Type 0
  Stand labels rows = (z : Vector) → length z ≡ space.n → Vanish rows z →
      IsDirection space z × AllByRecursion (λ k. space.form k · z ≡ pos 0) labels

  stand_at_first : Stand [] (space.infinity ∷ space.fixed)
  unfolding Stand
  stand_at_first z l v = (record { inside = record { width = l; fixed = v.1 }; level = v.0 }, tt)

  stand_after : (k : ℕ) (labels : List ℕ) (rows : List Vector) → Stand labels rows →
      Stand (k ∷ labels) (space.form k ∷ rows)
  unfolding Stand
  stand_after k labels rows h z l v = let d = h z l v.1 in (d.0, (v.0, d.1))

  marked_independent : (labels : List ℕ) (rows : List Vector) (ks : List ℕ) (ms : List Bool) →
      Stand labels rows →
      IsFirstBasis space.n rows (map space.form ks) ms → AreIndependent space labels (marked ks ms)
  unfolding Stand
  marked_independent labels rows [] ms st h = tt
  marked_independent labels rows (k ∷ ks) [] st h = tt
  marked_independent labels rows (k ∷ ks) (true ∷ ms) st h =
      let d = st h.0.0 h.0.1 h.0.2 in (
        (h.0.0, d.0, d.1, h.0.3),
        marked_independent (k ∷ labels) (space.form k ∷ rows) ks ms (stand_after k labels rows st) h.1,
      )
  marked_independent labels rows (k ∷ ks) (false ∷ ms) st h =
      marked_independent labels rows ks ms st h.1

  -- where the marked rows are 0, all are
  all_zero : (rows : List Vector) (ks : List ℕ) (ms : List Bool) →
      IsFirstBasis space.n rows (map space.form ks) ms →
      (z : Vector) → length z ≡ space.n → Vanish rows z →
      AllByRecursion (λ k. space.form k · z ≡ pos 0) (marked ks ms) →
      AllByRecursion (λ k. space.form k · z ≡ pos 0) ks
  all_zero rows [] ms h z l v m = tt
  all_zero rows (k ∷ ks) [] h z l v m = absurd h
  all_zero rows (k ∷ ks) (true ∷ ms) h z l v m =
      (m.0, all_zero (space.form k ∷ rows) ks ms h.1 z l (m.0, v) m.1)
  all_zero rows (k ∷ ks) (false ∷ ms) h z l v m =
      (h.0 z l v, all_zero rows ks ms h.1 z l v m)

  pub start_exists : (start : List ℕ) × IsStartCobasis space start
  start_exists =
      let h = first_basis space.n (space.infinity ∷ space.fixed)
      (map space.form (filter is_row space.labels)) in
      (marked (filter is_row space.labels) h.0, record { marks = h.0; first = h.1; taken = refl })

  pub one_start : (start other : List ℕ) → IsStartCobasis space start → IsStartCobasis space other →
      start ≡ other
  one_start start other h k =
      h.taken
      ∙ ap (λ ms. marked (filter is_row space.labels) ms)
      (first_unique space.n (space.infinity ∷ space.fixed)
      (map space.form (filter is_row space.labels)) h.marks k.marks h.first k.first)
      ∙ sym k.taken

  -- the first basis of labels at which only 0 is 0
  pub marked_is_cobasis : (labels : List ℕ) → ((k : ℕ) → Contains labels k → Contains space.labels k) →
      ((z : Vector) → IsDirection space z → AllByRecursion (λ k. space.form k · z ≡ pos 0) labels → IsZero z) →
      (ms : List Bool) → IsFirstBasis space.n (space.infinity ∷ space.fixed) (map space.form labels) ms →
      IsCobasis space (marked labels ms)
  marked_is_cobasis labels only zero ms first = record {
    labels = All-from_recursion (Contains space.labels) (marked labels ms)
        (all_from (Contains space.labels) (marked labels ms) (λ k c. only k (marked_only labels ms k c)));
    independent = marked_independent [] (space.infinity ∷ space.fixed) labels ms stand_at_first first;
    enough = λ z d v. zero z d
        (all_zero (space.infinity ∷ space.fixed) labels ms first z
        (IsInside.width d.inside) (d.level, IsInside.fixed d.inside) v);
  }

  pub start_is_cobasis : RowsDetermine space → (start : List ℕ) → IsStartCobasis space start →
      IsCobasis space start
  start_is_cobasis rows start h =
      subst (λ (key : List ℕ). IsCobasis space key) (sym h.taken)
      (marked_is_cobasis (filter is_row space.labels) (λ k c. (filter_only is_row space.labels k c).0) rows h.marks h.first)
