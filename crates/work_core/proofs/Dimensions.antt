-- The reduced dimension: there is one, and with the rows of a base it fills the width of the cone.
use Rattle.std.proofs.Common.{◌≡◌, ◌↔◌, Bool, ℕ, suc, ◌+◌, List, [], ◌∷◌, ◌++◌, ℤ, pos, map, length, refl, sym, ap, subst, ◌∙◌, arith}
use Rattle.std.specs.List.{AllByRecursion, Contains}
use Rattle.std.proofs.lemmas.List.Elements.{All-contains}
use Rattle.poly_num.specs.Vectors.{Vector, ◌·◌, IsZero}
use Rattle.poly_num.proofs.VectorLemmas.{dot-zero}
use Rattle.poly_model.specs.Systems.{Polyhedron, cone_of}
use Rattle.poly_model.specs.Independence.{Vanish, IsFirstBasis, taken}
use Rattle.poly_model.specs.FreeColumns.{AreFreeColumns}
use Rattle.poly_model.specs.Spaces.{Space, IsDirection, in_front, label_form, cone_space, marked}
use Rattle.poly_model.specs.Dictionaries.{AreIndependent, IsCobasis}
use Rattle.linear_laws.specs.Frames.{Column, IsFrame}
use Rattle.linear_laws.specs.NewRows.{AreNew}
use Rattle.linear_laws.proofs.AllLemmas.{all_right}
use Rattle.linear_laws.proofs.Columns.{rows_vanish_at}
use Rattle.linear_laws.proofs.Elimination.{Reached, vanish_from_rest}
use Rattle.linear_laws.proofs.Entries.{coordinate_reads}
use Rattle.linear_laws.proofs.FirstBases.{reach, first_basis, taken_enough, taken_of}
use Rattle.linear_laws.proofs.Members.{all_at}
use Rattle.cone_laws.proofs.ColumnLemmas.{one_list_of_columns}
use Rattle.dictionary_laws.specs.Coordinates.{coordinate_key}
use Rattle.dictionary_laws.proofs.Members.{all_from}
use Rattle.dictionary_laws.proofs.CoordinateSpaces.{phase_coordinates, coordinate_keys}
use Rattle.dictionary_laws.proofs.CoordinateDictionary.{coordinate_dictionary}
use Rattle.dictionary_laws.proofs.InFront.{with_front}
use Rattle.dictionary_laws.proofs.Starts.{marked_is_cobasis}
use Rattle.listing_laws.specs.ListedCone.{IsConeOf, cone_over}
use Rattle.listing_laws.proofs.BaseLemmas.{first_basis_is_base, first_basis_is_new}
use Rattle.cone_laws.specs.Faces.{fixed_rows}
use Rattle.work_core.specs.Subsets.{reduced_space, IsReducedDimension}

module _ (p : Polyhedron) (free : List ℕ) where
  abbrev space : Space
  space = reduced_space p free

  abbrev form : ℕ → Vector
  form k = label_form (cone_of p).rows k

  abbrev fixed : List Vector
  fixed = fixed_rows free (cone_of p)

  abbrev AreZero : List ℕ → Vector → Type 0
  AreZero ks z = AllByRecursion (λ k. form k · z ≡ pos 0) ks

  -- ---- over the coordinates of the cone
  narrow : (ks : List ℕ) (x : ℤ) (v : Vector) → AllByRecursion (λ k. space.form k · (x ∷ v) ≡ pos 0) ks → AreZero ks v
  narrow [] x v h = tt
  narrow (k ∷ ks) x v h = (sym (with_front (form k) x v) ∙ h.0, narrow ks x v h.1)

  widen : (ks : List ℕ) (x : ℤ) (v : Vector) → AreZero ks v → AllByRecursion (λ k. space.form k · (x ∷ v) ≡ pos 0) ks
  widen [] x v h = tt
  widen (k ∷ ks) x v h = (with_front (form k) x v ∙ h.0, widen ks x v h.1)

  narrow_rows : (gs : List Vector) (x : ℤ) (v : Vector) → Vanish (map in_front gs) (x ∷ v) → Vanish gs v
  narrow_rows [] x v h = tt
  narrow_rows (g ∷ gs) x v h = (sym (with_front g x v) ∙ h.0, narrow_rows gs x v h.1)

  widen_rows : (gs : List Vector) (x : ℤ) (v : Vector) → Vanish gs v → Vanish (map in_front gs) (x ∷ v)
  widen_rows [] x v h = tt
  widen_rows (g ∷ gs) x v h = (with_front g x v ∙ h.0, widen_rows gs x v h.1)

  pub direction_of : (v : Vector) → length v ≡ p.n → Vanish fixed v → IsDirection space (pos 0 ∷ v)
  direction_of v l h = record {
    inside = record { width = ap suc l; fixed = widen_rows fixed (pos 0) v h };
    level = coordinate_reads 0 (pos 0 ∷ v);
  }

  -- ---- independent labels are new rows over a base
  record Grown (acc : List Vector) (ks : List ℕ) : Type 0 where
    rows : List Vector
    new : AreNew p.n rows
    size : length rows ≡ length acc + length ks
    back : (z : Vector) → Vanish rows z → Vanish acc z × AreZero ks z

  grow : (ks seen : List ℕ) (acc : List Vector) → AreIndependent space seen ks → AreNew p.n acc →
      ((z : Vector) → length z ≡ p.n → Vanish fixed z → AreZero seen z → Vanish acc z) → Grown acc ks
  grow [] seen acc i a h = record { rows = acc; new = a; size = omega arith; back = λ z v. (v, tt) }
  grow (k ∷ ks) seen acc (((w, d, v, n), i)) a h = by w d v n
      (λ (b : AreNew p.n (form k ∷ acc)). grow ks (k ∷ seen) (form k ∷ acc) i b (λ z l f e. (e.0, h z l f e.1)))
    where
      by : (w : Vector) → IsDirection space w → AllByRecursion (λ j. space.form j · w ≡ pos 0) seen →
          (space.form k · w ≡ pos 0 → ⊥) → (AreNew p.n (form k ∷ acc) → Grown (form k ∷ acc) ks) → Grown acc (k ∷ ks)
      by [] d v n go = absurd (let e = d.inside.width in omega arith)
      by (x ∷ y) d v n go =
          let l : length y ≡ p.n = (let e = d.inside.width in omega arith) in
          let g = go ((y, l, h y l (narrow_rows fixed x y d.inside.fixed) (narrow seen x y v), λ e. n (with_front (form k) x y ∙ e)), a) in
          record {
            rows = g.rows;
            new = g.new;
            size = omega (arith, g.size);
            back = λ z t. let b = g.back z t in (b.0.1, (b.0.0, b.1));
          }

  -- ---- a cobasis of what is left, and a base, are as many as the coordinates
  module _ (base : List Vector) (new : AreNew p.n base)
      (same : (z : Vector) → length z ≡ p.n → Vanish base z ↔ Vanish fixed z) where
    pub cobasis_fills : (key : List ℕ) → IsCobasis space key → length base + length key ≡ p.n
    cobasis_fills key c = by (grow key [] base c.independent new (λ z l f e. (same z l).1 f))
      where
        by : Grown base key → length base + length key ≡ p.n
        by g = none (reach p.n g.rows g.new)
          where
            none : Reached p.n g.rows → length base + length key ≡ p.n
            none r = slots r.slots refl
              where
                slots : (cs : List Column) → r.slots ≡ cs → length base + length key ≡ p.n
                slots [] s = omega (arith, r.count, ap length s, g.size)
                slots (c₁ ∷ cs) s =
                    let f : IsFrame p.n r.D (c₁ ∷ cs ++ r.rest) = subst (λ t. IsFrame p.n r.D (t ++ r.rest)) s r.frame in
                    let all = rows_vanish_at c₁ (cs ++ r.rest) f.duals.1 in
                    let here = vanish_from_rest r c₁.dual (all_right (λ b. b.row · c₁.dual ≡ pos 0) cs r.rest all) in
                    let b = g.back c₁.dual here in
                    let l : length c₁.dual ≡ p.n = f.inside.0.0 in
                    let zero = (c.enough (pos 0 ∷ c₁.dual) (direction_of c₁.dual l ((same c₁.dual l).0 b.0))
                    (widen key (pos 0) c₁.dual b.1)).1 in
                    absurd (f.nonzero (sym f.duals.0 ∙ dot-zero c₁.row c₁.dual zero))

  -- ---- there is a cobasis
  -- only zero is 0 at all coordinates
  zero_at_labels : (z : Vector) → IsDirection space z → AllByRecursion (λ k. space.form k · z ≡ pos 0) space.labels → IsZero z
  zero_at_labels z d h =
      (coordinate_dictionary (cone_space p) (coordinate_key 0 p.n) (phase_coordinates p).cone (coordinate_keys 0 p.n).distinct).cobasis.enough
      z (record { inside = record { width = d.inside.width; fixed = tt }; level = d.level })
      (all_from (λ k. space.form k · z ≡ pos 0) (coordinate_key 0 p.n)
      (λ k c. all_at (λ j. space.form j · z ≡ pos 0) space.labels h k
      (All-contains (Contains space.labels) (coordinate_key 0 p.n) k (phase_coordinates p).cone.labels c)))

  pub some_cobasis : (key : List ℕ) × IsCobasis space key
  some_cobasis = by (first_basis space.n (space.infinity ∷ space.fixed) (map space.form space.labels))
    where
      by : (ms : List Bool) × IsFirstBasis space.n (space.infinity ∷ space.fixed) (map space.form space.labels) ms →
          (key : List ℕ) × IsCobasis space key
      by (ms, f) = (marked space.labels ms, marked_is_cobasis space space.labels (λ k c. c) zero_at_labels ms f)

-- ---- the dimension
-- the base of a polyhedron's cone: the first basis of what is fixed
pub record HasBase (p : Polyhedron) : Type 0 where
  pub free : List ℕ
  pub columns : AreFreeColumns (cone_of p) free
  pub base : List Vector
  pub cone : IsConeOf (cone_of p) (cone_over base (cone_of p))
  pub new : AreNew p.n base
  pub same : (z : Vector) → length z ≡ p.n → Vanish base z ↔ Vanish (fixed_rows free (cone_of p)) z

pub has_base : (p : Polyhedron) → HasBase p
has_base p =
    let columns = one_list_of_columns (cone_of p) in
    let f = first_basis p.n [] (fixed_rows columns.one (cone_of p)) in
    record {
      free = columns.one;
      columns = columns.has;
      base = taken [] (fixed_rows columns.one (cone_of p)) f.0;
      cone = first_basis_is_base (cone_of p) columns.one f.0 columns.has f.1;
      new = first_basis_is_new p.n [] (fixed_rows columns.one (cone_of p)) f.0 tt f.1;
      same = λ z l. (
        λ v. (taken_enough p.n [] (fixed_rows columns.one (cone_of p)) f.0 f.1 z l v).1,
        λ v. taken_of [] (fixed_rows columns.one (cone_of p)) f.0 z tt v,
      );
    }

pub same_free : (p : Polyhedron) (free other : List ℕ) → AreFreeColumns (cone_of p) free → AreFreeColumns (cone_of p) other →
    free ≡ other
same_free p free other f g =
    let columns = one_list_of_columns (cone_of p) in columns.only free f ∙ sym (columns.only other g)

pub dimension_fills : (p : Polyhedron) (b : HasBase p) (r : ℕ) → IsReducedDimension p r → length b.base + r ≡ p.n
dimension_fills p b r d =
    omega (
      arith,
      d.count,
      cobasis_fills p b.free b.base b.new b.same d.basis
          (subst (λ f. IsCobasis (reduced_space p f) d.basis) (same_free p d.free b.free d.columns b.columns) d.cobasis),
    )

pub one_dimension : (p : Polyhedron) (q r : ℕ) → IsReducedDimension p q → IsReducedDimension p r → q ≡ r
one_dimension p q r d e = let b = has_base p in omega (arith, dimension_fills p b q d, dimension_fills p b r e)

pub some_dimension : (p : Polyhedron) → (r : ℕ) × IsReducedDimension p r
some_dimension p =
    let columns = one_list_of_columns (cone_of p) in
    let c = some_cobasis p columns.one in
    (length c.0, record { free = columns.one; columns = columns.has; basis = c.0; cobasis = c.1; count = refl })
