-- The list of an extreme vector: the labels of its first independent list of tight rows, over any base of the cone.
use Rattle.std.proofs.Common.{◌≡◌, ◌↔◌, ⊎_elim, Bool, true, false, not, cond, ℕ, suc, ◌+◌, ◌-◌, ◌<◌, List, [], ◌∷◌, pos, map, length, get_or, refl, sym, ap, subst, ◌∙◌, arith}
use Rattle.std.specs.List.{Contains, filter, range_with_len}
use Rattle.std.specs.Ordering.{int_eq}
use Rattle.std.proofs.lemmas.Bool.{false_from_ne_true, not_from_false}
use Rattle.std.proofs.lemmas.Bool.Decides.{Decides-int_eq}
use Rattle.std.proofs.lemmas.List.{get_or-map, length-map}
use Rattle.poly_num.specs.Vectors.{Vector, ◌·◌}
use Rattle.poly_model.specs.Systems.{Row, no_row, row_of, Polyhedron, cone_of}
use Rattle.poly_model.proofs.RowLemmas.{row_from_one}
use Rattle.poly_model.specs.Independence.{Vanish, Follows, IsNew, IsFirstBasis}
use Rattle.poly_model.specs.Extreme.{IsExtreme}
use Rattle.poly_model.specs.Spaces.{marked}
use Rattle.linear_laws.specs.LocalTest.{AreFirstTight}
use Rattle.linear_laws.proofs.FirstBases.{first_unique}
use Rattle.linear_laws.proofs.Members.{Contains-nil, Contains-cons_cases}
use Rattle.dictionary_laws.proofs.Filters.{filter_kept, range_has}
use Rattle.listing_laws.specs.ListedCone.{ListedCone, IsListable, IsShownCorner, IsConeOf}
use Rattle.listing_laws.specs.Prefixes.{labels_from, marked_labels, IsCornerUnder}
use Rattle.listing_laws.proofs.ConeLemmas.{is_listable, extreme_is_shown_corner}
use Rattle.listing_laws.proofs.FirstLists.{labels_within, length-taken}
use Rattle.listing_laws.proofs.PrefixLemmas.{one_list, full}
use Rattle.cone_laws.specs.Faces.{fixed_rows}
use Rattle.work_core.specs.Subsets.{plain_labels, tight_labels, IsListOf}
use Rattle.work_core.proofs.Dimensions.{has_base, same_free}

-- ---- over other rows that are 0 at the same vectors
pub other_before : (n : ℕ) (a b gs : List Vector) (ms : List Bool) →
    ((z : Vector) → length z ≡ n → Vanish a z ↔ Vanish b z) → IsFirstBasis n a gs ms → IsFirstBasis n b gs ms
other_before n a b [] [] h f = tt
other_before n a b [] (m ∷ ms) h f = absurd f
other_before n a b (g ∷ gs) [] h f = absurd f
other_before n a b (g ∷ gs) (true ∷ ms) h f = (
  (f.0.0, f.0.1, (h f.0.0 f.0.1).0 f.0.2, f.0.3),
  other_before n (g ∷ a) (g ∷ b) gs ms (λ z l. (λ v. (v.0, (h z l).0 v.1), λ v. (v.0, (h z l).1 v.1))) f.1,
)
other_before n a b (g ∷ gs) (false ∷ ms) h f =
    (λ y l v. f.0 y l ((h y l).1 v), other_before n a b gs ms h f.1)

-- ---- the tight rows by their labels
abbrev AreAt : (ℕ → Vector) → ℕ → List Vector → Type 0
AreAt e j [] = Unit {0}
AreAt e j (g ∷ gs) = (e j ≡ g) × AreAt e (j + 1) gs

are_at : (all : List Row) (k : ℕ) (rows : List Row) →
    ((i : ℕ) → i < length rows → get_or all (k + i) no_row ≡ get_or rows i no_row) →
    AreAt (λ i. (row_of all i).entries) (k + 1) (map (λ row. row.entries) rows)
are_at all k [] h = tt
are_at all k (row ∷ rows) h =
    let one : k + 1 ≡ suc (k + 0) = omega arith in (
      ap (λ i. Row.entries (row_of all i)) one ∙ ap (λ (r : Row). r.entries) (h 0 (omega arith)),
      are_at all (k + 1) rows (λ i l.
          let next : k + 1 + i ≡ k + suc i = omega arith in
          ap (λ m. get_or all m no_row) next ∙ h (suc i) (omega (arith, l))),
    )

abbrev tight_from : (ℕ → Vector) → Vector → ℕ → ℕ → List ℕ
tight_from e y j count = filter (λ i. int_eq (e i · y) (pos 0)) (range_with_len j count)

record Found (n : ℕ) (before : List Vector) (e : ℕ → Vector) (y : Vector) (labels goal : List ℕ) : Type 0 where
  marks : List Bool
  first : IsFirstBasis n before (map e labels) marks
  same : goal ≡ marked labels marks

found : (n : ℕ) (before : List Vector) (e : ℕ → Vector) (y : Vector) (j : ℕ) (gs : List Vector) (ms : List Bool) →
    AreAt e j gs → length ms ≡ length gs → AreFirstTight n before y gs ms →
    Found n before e y (tight_from e y j (length gs)) (labels_from j ms)
found n before e y j [] [] a l f = record { marks = []; first = tt; same = refl }
found n before e y j [] (m ∷ ms) a l f = absurd f
found n before e y j (g ∷ gs) [] a l f = absurd (omega arith)
found n before e y j (g ∷ gs) (true ∷ ms) a l f =
    by (int_eq (e j · y) (pos 0)) refl (found n (g ∷ before) e y (j + 1) gs ms a.1 (omega arith) f.2)
  where
    by : (b : Bool) → int_eq (e j · y) (pos 0) ≡ b →
        Found n (g ∷ before) e y (tight_from e y (j + 1) (length gs)) (labels_from (j + 1) ms) →
        Found n before e y (cond b (j ∷ tight_from e y (j + 1) (length gs)) (tight_from e y (j + 1) (length gs))) (j ∷ labels_from (suc j) ms)
    by true t h =
        let next : suc j ≡ j + 1 = omega arith in
        let one = sym a.0 in
        record {
          marks = true ∷ h.marks;
          first = (
            subst (IsNew n before) one f.1,
            subst (λ v. IsFirstBasis n (v ∷ before) (map e (tight_from e y (j + 1) (length gs))) h.marks) one h.first,
          );
          same = ap (λ k. j ∷ labels_from k ms) next ∙ ap (λ ks. j ∷ ks) h.same;
        }
    by false t h =
        let zero : e j · y ≡ pos 0 = ap (λ v. v · y) a.0 ∙ f.0 in
        let is : int_eq (e j · y) (pos 0) ≡ true = (Decides-int_eq (e j · y) (pos 0)).1 zero in
        absurd (let bad : true ≡ false = sym is ∙ t in cc)
found n before e y j (g ∷ gs) (false ∷ ms) a l f =
    by (int_eq (e j · y) (pos 0)) refl (found n before e y (j + 1) gs ms a.1 (omega arith) f.1)
  where
    next : suc j ≡ j + 1
    next = omega arith

    zero_at : int_eq (e j · y) (pos 0) ≡ true → g · y ≡ pos 0
    zero_at t = ap (λ v. v · y) (sym a.0) ∙ (Decides-int_eq (e j · y) (pos 0)).0 t

    by : (b : Bool) → int_eq (e j · y) (pos 0) ≡ b →
        Found n before e y (tight_from e y (j + 1) (length gs)) (labels_from (j + 1) ms) →
        Found n before e y (cond b (j ∷ tight_from e y (j + 1) (length gs)) (tight_from e y (j + 1) (length gs))) (labels_from (suc j) ms)
    by true t h = record {
      marks = false ∷ h.marks;
      first = (subst (Follows n before) (sym a.0) (f.0 (zero_at t)), h.first);
      same = ap (λ k. labels_from k ms) next ∙ h.same;
    }
    by false t h = record { marks = h.marks; first = h.first; same = ap (λ k. labels_from k ms) next ∙ h.same }

-- ---- the row of a label is new over the base
record NewAt (n : ℕ) (base : List Vector) (g : Vector) : Type 0 where
  vector : Vector
  width : length vector ≡ n
  base_at : Vanish base vector
  here : g · vector ≡ pos 0 → ⊥

new_at : (n : ℕ) (base before : List Vector) (y : Vector) (gs : List Vector) (ms : List Bool) (j k : ℕ) →
    ((z : Vector) → Vanish before z → Vanish base z) → AreFirstTight n before y gs ms →
    Contains (labels_from j ms) k → NewAt n base (get_or gs (k - j) [])
new_at n base before y gs [] j k h f c = absurd (Contains-nil k c)
new_at n base before y [] (m ∷ ms) j k h f c = absurd f
new_at n base before y (g ∷ gs) (true ∷ ms) j k h f c =
    ⊎_elim
    (λ (e : j ≡ k).
    let zero : 0 ≡ k - j = omega (arith, e) in
    subst (λ i. NewAt n base (get_or (g ∷ gs) i [])) zero
    (record { vector = f.1.0; width = f.1.1; base_at = h f.1.0 f.1.2; here = f.1.3 }))
    (λ (d : Contains (labels_from (suc j) ms) k).
    let w = (labels_within (suc j) ms k d).0 in
    let next : suc (k - suc j) ≡ k - j = omega (arith, w) in
    subst (λ i. NewAt n base (get_or (g ∷ gs) i [])) next
    (new_at n base (g ∷ before) y gs ms (suc j) k (λ z v. h z v.1) f.2 d))
    (Contains-cons_cases k j (labels_from (suc j) ms) c)
new_at n base before y (g ∷ gs) (false ∷ ms) j k h f c =
    let w = (labels_within (suc j) ms k c).0 in
    let next : suc (k - suc j) ≡ k - j = omega (arith, w) in
    subst (λ i. NewAt n base (get_or (g ∷ gs) i [])) next (new_at n base before y gs ms (suc j) k h f.1 c)

-- ---- over a cone of the polyhedron
module _ (p : Polyhedron) (cone : ListedCone) (is : IsConeOf (cone_of p) cone) where
  abbrev rows : List Row
  rows = (cone_of p).rows

  as_many : length cone.rows ≡ length rows
  as_many = ap length is.rows ∙ length-map rows (λ (r : Row). r.entries)

  -- the cone's base is 0 where the base of the first basis is
  pub same_fixed : (z : Vector) → length z ≡ p.n → Vanish cone.base z ↔ Vanish (fixed_rows (has_base p).free (cone_of p)) z
  same_fixed z l =
      let b = has_base p in (
        λ v. (b.same z l).0 ((b.cone.fixed z l).1 ((is.fixed z (l ∙ sym is.width)).0 v)),
        λ v. (is.fixed z (l ∙ sym is.width)).1 ((b.cone.fixed z l).0 ((b.same z l).1 v)),
      )

  pub list_of_marks : (y : Vector) (marks : List Bool) → length marks ≡ length cone.rows →
      AreFirstTight cone.n cone.base y cone.rows marks → IsListOf p y (marked_labels marks)
  list_of_marks y marks l f = by (found p.n cone.base (λ i. (row_of rows i).entries) y 1 (map (λ row. row.entries) rows) marks at wide now)
    where
      at : AreAt (λ i. (row_of rows i).entries) 1 (map (λ row. row.entries) rows)
      at = are_at rows 0 rows (λ i l. let e : 0 + i ≡ i = omega arith in ap (λ m. get_or rows m no_row) e)

      wide : length marks ≡ length (map (λ (row : Row). row.entries) rows)
      wide = l ∙ ap length is.rows

      now : AreFirstTight p.n cone.base y (map (λ row. row.entries) rows) marks
      now = subst (λ gs. AreFirstTight p.n cone.base y gs marks) is.rows
          (subst (λ n. AreFirstTight n cone.base y cone.rows marks) is.width f)

      by : Found p.n cone.base (λ i. (row_of rows i).entries) y
          (tight_from (λ i. (row_of rows i).entries) y 1 (length (map (λ (row : Row). row.entries) rows))) (marked_labels marks) →
          IsListOf p y (marked_labels marks)
      by h = by_count (length-map rows (λ (r : Row). r.entries)) h
        where
          by_count : {m : ℕ} → m ≡ length rows →
              Found p.n cone.base (λ i. (row_of rows i).entries) y (tight_from (λ i. (row_of rows i).entries) y 1 m) (marked_labels marks) →
              IsListOf p y (marked_labels marks)
          by_count e h =
              let g = subst (λ m. Found p.n cone.base (λ i. (row_of rows i).entries) y (tight_from (λ i. (row_of rows i).entries) y 1 m) (marked_labels marks)) e h in
              record {
                free = (has_base p).free;
                columns = (has_base p).columns;
                marks = g.marks;
                first = other_before p.n cone.base (fixed_rows (has_base p).free (cone_of p)) (map (λ i. (row_of rows i).entries) (tight_labels p y)) g.marks same_fixed g.first;
                taken = g.same;
              }

  pub label_is_plain : (y : Vector) (marks : List Bool) → length marks ≡ length cone.rows →
      AreFirstTight cone.n cone.base y cone.rows marks → (k : ℕ) → Contains (marked_labels marks) k → Contains (plain_labels p) k
  label_is_plain y marks l f k c =
      let w = labels_within 1 marks k c in
      let low = w.0 in let high = w.1 in
      filter_kept (λ i. not (row_of rows i).linear) (range_with_len 1 (length rows)) k
      (range_has 1 (length rows) k low (omega (arith, high, as_many, l)))
      (not_from_false (row_of rows k).linear (false_from_ne_true (row_of rows k).linear (λ e. bad e (new_at cone.n cone.base cone.base y cone.rows marks 1 k (λ z v. v) f c))))
    where
      bad : (row_of rows k).linear ≡ true → NewAt cone.n cone.base (get_or cone.rows (k - 1) []) → ⊥
      bad e v =
          let w = labels_within 1 marks k c in
          let low = w.0 in let high = w.1 in
          let within : k - 1 < length rows = omega (arith, low, high, as_many, l) in
          v.here
          (ap (λ g. g · v.vector)
          (ap (λ gs. get_or gs (k - 1) []) is.rows ∙ get_or-map (λ (r : Row). r.entries) rows (k - 1) no_row [] within)
          ∙ ((is.fixed v.vector v.width).0 v.base_at).1 (k - 1) no_row within (sym (ap (λ (r : Row). r.linear) (row_from_one rows k low)) ∙ e))

-- ---- one list
pub same_list : (p : Polyhedron) (y : Vector) (a b : List ℕ) → IsListOf p y a → IsListOf p y b → a ≡ b
same_list p y a b f g =
    let free = same_free p g.free f.free g.columns f.columns in
    let there = subst (λ fs. IsFirstBasis p.n (fixed_rows fs (cone_of p)) (map (λ i. (row_of (cone_of p).rows i).entries) (tight_labels p y)) g.marks) free g.first in
    f.taken ∙ ap (λ ms. marked (tight_labels p y) ms)
    (first_unique p.n (fixed_rows f.free (cone_of p)) (map (λ i. (row_of (cone_of p).rows i).entries) (tight_labels p y)) f.marks g.marks f.first there)
    ∙ sym g.taken

-- an extreme vector and its marks over a cone of the polyhedron
pub record HasMarks (p : Polyhedron) (cone : ListedCone) (y : Vector) : Type 0 where
  pub marks : List Bool
  pub full : length marks ≡ length cone.rows
  pub first : AreFirstTight cone.n cone.base y cone.rows marks
  pub list : IsListOf p y (marked_labels marks)
  pub count : length cone.base + length (marked_labels marks) + 1 ≡ cone.n

pub has_marks : (p : Polyhedron) (cone : ListedCone) → IsConeOf (cone_of p) cone → (y : Vector) → IsExtreme (cone_of p) y →
    HasMarks p cone y
has_marks p cone is y x = by (one_list cone listable y corner)
  where
    listable : IsListable cone
    listable = is_listable (cone_of p) cone is

    corner : IsShownCorner cone y
    corner = (extreme_is_shown_corner (cone_of p) cone is y).0 x

    by : (marks : List Bool) × (length marks ≡ length cone.rows) × IsCornerUnder cone marks y
        × ((others : List Bool) → length others ≡ length cone.rows → IsCornerUnder cone others y → others ≡ marks) → HasMarks p cone y
    by (marks, l, u, only) = record {
      marks = marks;
      full = l;
      first = u.1;
      list = list_of_marks p cone is y marks l u.1;
      count =
          let t = length-taken cone.base cone.rows marks 1 (let e = l in omega arith) in
          let f = full cone listable marks y l u in
          omega (arith, t, f);
    }
