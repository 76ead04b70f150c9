-- The extreme vectors of the cone of an H file are those of its main space.
use Rattle.std.proofs.Common.{◌≡◌, ℕ, zero, suc, ◌-◌, ◌<◌, true, false, List, [], ◌∷◌, ◌++◌, ℤ, pos, length, get_or, refl, sym, ap, subst, ◌∙◌, ⊎_elim, arith}
use Rattle.std.specs.Prelude.{◌≤ℤ◌, replicate}
use Rattle.std.specs.List.{All, Contains}
use Rattle.std.proofs.lemmas.Bool.{cases_Bool}
use Rattle.std.proofs.lemmas.List.{length-append}
use Rattle.std.proofs.lemmas.List.Elements.{All-from_get_or, All-append, All-cons, All-nil, All-contains, Contains-append_right}
use Rattle.poly_num.specs.Vectors.{Vector, ◌·◌}
use Rattle.poly_model.specs.declared.kind.Kind.TheVariants.{H}
use Rattle.poly_model.specs.Independence.{Vanish}
use Rattle.poly_model.specs.Systems.{Row, no_row, System, first_unit, Polyhedron, file_rows, cone_of, added_row}
use Rattle.poly_model.specs.Cones.{at, coordinate, Meets, IsTight}
use Rattle.poly_model.specs.FreeColumns.{AreFreeColumns}
use Rattle.poly_model.specs.Extreme.{IsOnFace, IsShown, IsExtreme}
use Rattle.poly_model.specs.Spaces.{Space, IsInside}
use Rattle.poly_model.specs.LexOrder.{rows_in}
use Rattle.poly_model.specs.Tree.{IsExtremeIn}
use Rattle.poly_model.specs.Labels.{IsRow}
use Rattle.linear_laws.proofs.Entries.{coordinate_reads, zeros, first_reads}
use Rattle.linear_laws.proofs.Members.{Contains-first, all_at}
use Rattle.cone_laws.specs.Faces.{fixed_rows}
use Rattle.cone_laws.proofs.RowLemmas.{LinearRowsVanish, fixed_vanish, zero_at_fixed, linear_from_fixed}
use Rattle.cone_laws.proofs.ColumnLemmas.{zero_from_tight}
use Rattle.cone_laws.proofs.FaceLemmas.{linear_vanish_in_cone}
use Rattle.dictionary_laws.specs.Points.{RowsDetermine}
use Rattle.dictionary_laws.proofs.MainRows.{same_in_cone}
use Rattle.tree_laws.proofs.MainLabels.{main_in, meets_linear, meets_other, met_other, same_fixed, rows_from_forms, forms_from_rows}

zeros-replicate : (n : ℕ) → zeros n ≡ replicate n (pos 0)
zeros-replicate zero = refl
zeros-replicate (suc n) = ap (λ (v : Vector). pos 0 ∷ v) (zeros-replicate n)

module _ (p : Polyhedron) (kind : p.kind ≡ H) (free : List ℕ) (f : AreFreeColumns (cone_of p) free)
    (few : IsRow (length (file_rows p))) where
  abbrev sys : System
  sys = cone_of p

  abbrev rows : List Row
  rows = file_rows p

  abbrev infinity : Row
  infinity = record { entries = first_unit p.n; linear = false; point = false }

  -- ---- the rows of the cone: those of the file, and the row at infinity
  cone_rows : sys.rows ≡ rows ++ infinity ∷ []
  cone_rows = ap (λ k. rows ++ added_row k p.n rows) kind

  module _ (P : Row → Type 0) where
    all_rows : ((m : ℕ) → m < length rows → P (get_or rows m no_row)) → P infinity → All P sys.rows
    all_rows h k =
        subst (λ rs. All P rs) (sym cone_rows)
        (All-append P rows (infinity ∷ []) (All-from_get_or P rows no_row h) (All-cons P infinity [] k (All-nil P)))

    of_file : All P sys.rows → (m : ℕ) → m < length rows → P (get_or rows m no_row)
    of_file h m l =
        subst P (same_in_cone p m l)
        (h m no_row (omega (arith, l, length-append rows (added_row p.kind p.n rows))))

    of_infinity : All P sys.rows → P infinity
    of_infinity h =
        All-contains P sys.rows infinity h
        (subst (λ rs. Contains rs infinity) (sym cone_rows)
        (Contains-append_right rows (infinity ∷ []) infinity (Contains-first infinity [])))

  infinity_reads : (z : Vector) → first_unit p.n · z ≡ coordinate 0 · z
  infinity_reads z =
      ap (λ (v : Vector). (pos 1 ∷ v) · z) (sym (zeros-replicate (p.n - 1)))
      ∙ first_reads (p.n - 1) z ∙ sym (coordinate_reads 0 z)

  abbrev space : Space
  space = main_in H p free

  same_values : (P : ℤ → ℤ → Type 0) (y z : Vector) → P (first_unit p.n · y) (first_unit p.n · z) →
      P (coordinate 0 · y) (coordinate 0 · z)
  same_values P y z h =
      subst (λ (x : ℤ). P (coordinate 0 · y) x) (infinity_reads z)
      (subst (λ (x : ℤ). P x (first_unit p.n · z)) (infinity_reads y) h)

  -- the fixed rows are 0 at z exactly where the free columns and the linear rows are
  is_fixed : (z : Vector) → ((j : ℕ) → Contains free j → at j z ≡ pos 0) → LinearRowsVanish sys.rows z →
      Vanish space.fixed z
  is_fixed z h l = subst (λ gs. Vanish gs z) (same_fixed p free) (fixed_vanish free sys z h l)

  by_fixed : (z : Vector) → Vanish space.fixed z → Vanish (fixed_rows free sys) z
  by_fixed z v = subst (λ gs. Vanish gs z) (sym (same_fixed p free)) v

  -- ---- from the space to the cone
  linear_at : (z : Vector) → IsInside space z → (m : ℕ) → m < length rows →
      (get_or rows m no_row).linear ≡ true → IsTight z (get_or rows m no_row)
  linear_at z i = of_file (λ row. row.linear ≡ true → IsTight z row) (linear_from_fixed free sys z (by_fixed z i.fixed))

  -- a vector of the space at which no row and nothing at infinity is negative is one of the cone
  pub meets_all : (y : Vector) → IsInside space y → pos 0 ≤ℤ (space.infinity · y) →
      ((i : ℕ) → Contains (rows_in space.labels) i → pos 0 ≤ℤ (space.form i · y)) → All (Meets y) sys.rows
  meets_all y i finite met =
      all_rows (Meets y)
      (λ m l. ⊎_elim
      (λ (t : (get_or rows m no_row).linear ≡ true).
      meets_linear y (get_or rows m no_row) t (linear_at y i m l t))
      (λ (n : (get_or rows m no_row).linear ≡ false).
      meets_other y (get_or rows m no_row) n
      (rows_from_forms rows sys.rows (same_in_cone p) few 1 p.n (λ g. pos 0 ≤ℤ (g · y)) met m l n))
      (cases_Bool (get_or rows m no_row).linear))
      (subst (λ (x : ℤ). pos 0 ≤ℤ x) (sym (infinity_reads y)) finite)

  -- where a direction of the space is 0 on all rows, so it is on those of the cone: the rows determine a direction
  all_tight : (z : Vector) → IsInside space z → space.infinity · z ≡ pos 0 →
      ((i : ℕ) → Contains (rows_in space.labels) i → space.form i · z ≡ pos 0) → All (IsTight z) sys.rows
  all_tight z i top others =
      all_rows (IsTight z)
      (λ m l. ⊎_elim
      (λ (t : (get_or rows m no_row).linear ≡ true). linear_at z i m l t)
      (λ (n : (get_or rows m no_row).linear ≡ false).
      rows_from_forms rows sys.rows (same_in_cone p) few 1 p.n (λ g. g · z ≡ pos 0) others m l n)
      (cases_Bool (get_or rows m no_row).linear))
      (infinity_reads z ∙ top)

  pub rows_determine : RowsDetermine space
  rows_determine z d v =
      zero_from_tight sys z (IsInside.width d.inside)
      (all_tight z d.inside d.level (all_at (λ k. space.form k · z ≡ pos 0) (rows_in space.labels) v))
      (λ j q. zero_at_fixed free sys z (by_fixed z (IsInside.fixed d.inside)) j ((f.exactly j).0 q))

  module _ (y : Vector) (e : IsExtremeIn space y) where
    pub extreme_of_space : IsExtreme sys y
    extreme_of_space = record {
      primitive = e.primitive;
      free = λ j q. zero_at_fixed free sys y (by_fixed y e.inside.fixed) j ((f.exactly j).0 q);
      in_cone = record { width = e.inside.width; meets = meets_all y e.inside e.finite e.rows };
      alone = λ z h. e.alone z
          (record { width = h.width; fixed = is_fixed z (λ j c. h.free j ((f.exactly j).1 c)) h.linear })
          (same_values (λ a b. a ≡ pos 0 → b ≡ pos 0) y z (of_infinity (λ row. IsTight y row → IsTight z row) h.tight))
          (forms_from_rows rows sys.rows (same_in_cone p) few 1 p.n (λ g. g · y ≡ pos 0 → g · z ≡ pos 0)
          (λ m l _. of_file (λ row. IsTight y row → IsTight z row) h.tight m l));
      shown = subst (λ k. IsShown k sys y) (sym kind) tt;
    }

  -- ---- from the cone to the space
  module _ (y : Vector) (e : IsExtreme sys y) where
    on_face : (z : Vector) → IsInside space z → (space.infinity · y ≡ pos 0 → space.infinity · z ≡ pos 0) →
        ((i : ℕ) → Contains (rows_in space.labels) i → space.form i · y ≡ pos 0 → space.form i · z ≡ pos 0) →
        IsOnFace sys y z
    on_face z i top others = record {
      width = i.width;
      free = λ j q. zero_at_fixed free sys z (by_fixed z i.fixed) j ((f.exactly j).0 q);
      linear = linear_from_fixed free sys z (by_fixed z i.fixed);
      tight = all_rows (λ row. IsTight y row → IsTight z row)
          (λ m l. ⊎_elim
          (λ (t : (get_or rows m no_row).linear ≡ true) _.
          of_file (λ row. row.linear ≡ true → IsTight z row) (linear_from_fixed free sys z (by_fixed z i.fixed)) m l t)
          (λ (n : (get_or rows m no_row).linear ≡ false).
          rows_from_forms rows sys.rows (same_in_cone p) few 1 p.n (λ g. g · y ≡ pos 0 → g · z ≡ pos 0) others m l n)
          (cases_Bool (get_or rows m no_row).linear))
          (λ t. infinity_reads z ∙ top (sym (infinity_reads y) ∙ t));
    }

    pub extreme_in_space : IsExtremeIn space y
    extreme_in_space = record {
      primitive = e.primitive;
      inside = record {
        width = e.in_cone.width;
        fixed = is_fixed y (λ j c. e.free j ((f.exactly j).1 c)) (linear_vanish_in_cone sys y e.in_cone);
      };
      finite = subst (λ (x : ℤ). pos 0 ≤ℤ x) (infinity_reads y) (of_infinity (Meets y) e.in_cone.meets);
      rows = forms_from_rows rows sys.rows (same_in_cone p) few 1 p.n (λ g. pos 0 ≤ℤ (g · y))
          (λ m l n. met_other y (get_or rows m no_row) n (of_file (Meets y) e.in_cone.meets m l));
      alone = λ z i top others. e.alone z (on_face z i top others);
    }
