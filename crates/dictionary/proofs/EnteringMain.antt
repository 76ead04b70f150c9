-- What stays of a dictionary of the file's rows, without its common divisor, is the dictionary of the
-- main space.
use Rattle.std.proofs.Common.{◌≡◌, ℕ, ◌<◌, ◌≤◌, true, false, List, [], ℤ, length, arith, refl, sym, ap, subst, ◌∙◌, ⊎_elim, length-append}
use Rattle.std.specs.Prelude.{not}
use Rattle.std.specs.List.{filter}
use Rattle.std.proofs.lemmas.Bool.{cases_Bool, cond-true, cond-false}
use Rattle.poly_model.specs.Limits.{most_cone_rows}
use Rattle.poly_model.specs.declared.kind.Kind.{Kind}
use Rattle.poly_model.specs.declared.kind.Kind.TheVariants.{H, V}
use Rattle.poly_model.specs.Systems.{Row, row_of, Polyhedron, System, file_rows, added_row, cone_of}
use Rattle.poly_model.specs.Spaces.{Space, is_member, is_left, cut_space, prepare_space, main_space}
use Rattle.poly_model.specs.Labels.{coordinates_from, is_row, coordinate_index}
use Rattle.poly_model.specs.Dictionaries.{IsCobasis, Writes}
use Rattle.dictionary_laws.specs.MainSpace.{stays, CanEnterMain, EntersMain}
use Rattle.dictionary_laws.proofs.MainRows.{fixed_rows}
use Rattle.dictionary_laws.proofs.MainSpace.{main_dictionary}
use Rattle.dictionary.specs.Views.{Dictionary, table_of, IsDictionaryIn, IsWhole}
use Rattle.dictionary.specs.Arrangements.{IsWithoutDivisor}
use Rattle.dictionary.specs.MainPhase.{stays_in, kept, IsDividedOut, IsMainOf, EntersMainPhase}
use Rattle.dictionary.proofs.DividedOut.{divided_of}
use Rattle.dictionary.proofs.WithoutDivisor.{is_dictionary}

-- a label that stays is left
pub left_if_stays : (rows : List Row) (free : List ℕ) (k : ℕ) → stays_in rows free k ≡ true →
    stays_in rows [] k ≡ true
left_if_stays rows free k e =
    ⊎_elim
    (λ (b : is_row k ≡ true).
    cond-true (is_row k) (not (row_of rows k).linear) true b
    ∙ sym (cond-true (is_row k) (not (row_of rows k).linear) (not (is_member (coordinate_index k) free)) b) ∙ e)
    (λ (b : is_row k ≡ false). cond-false (is_row k) (not (row_of rows k).linear) true b)
    (cases_Bool (is_row k))

-- the labels of the main space are those that are left
main_labels : (p : Polyhedron) (free : List ℕ) →
    filter (stays_in (cone_of p).rows []) (prepare_space p).labels ≡ (main_space p free).labels
main_labels p free = ap (λ ls. filter (is_left (cone_of p).rows) ls) (by p.kind)
  where
    by : (kind : Kind) → (cut_space kind p []).labels ≡ (cut_space kind p (fixed_rows p free)).labels
    by H = refl
    by V = refl

few_rows : (p : Polyhedron) (sys : System) → sys ≡ cone_of p → length sys.rows ≤ most_cone_rows → length (file_rows p) < coordinates_from
few_rows p sys e l =
    let same : length sys.rows ≡ length (cone_of p).rows = ap (λ (s : System). length s.rows) e in
    omega (arith, length-append (file_rows p) (added_row p.kind p.n (file_rows p)))

-- what stays of a dictionary
abbrev pub staying : Dictionary → List Row → List ℕ → Dictionary
staying old rows free = kept old (stays_in rows []) (stays_in rows free)

module _ (old : Dictionary) (whole : IsWhole old) (rows : List Row) (free : List ℕ) where
  module _ (least : ℤ) (cells : List ℤ) (h : IsDividedOut (staying old rows free).cells (staying old rows free).denominator cells least) where
    abbrev new : Dictionary
    new = divided_of (staying old rows free) least cells h

    -- at a polyhedron whose main space can be entered
    module _ (p : Polyhedron) (same : rows ≡ (cone_of p).rows) (few : length (file_rows p) < coordinates_from)
        (d : IsDictionaryIn (prepare_space p) old) (can : CanEnterMain p free old.key (table_of old)) where
      abbrev space : Space
      space = main_space p free

      entered : EntersMain p free old.key (table_of old)
      entered = main_dictionary p free old.key (table_of old) few d.dictionary can

      key_is : new.key ≡ filter (stays p free) old.key
      key_is = ap (λ (rs : List Row). filter (stays_in rs free) old.key) same

      labels_are : new.labels ≡ space.labels
      labels_are =
          ap (λ (rs : List Row). filter (stays_in rs []) old.labels) same
          ∙ ap (λ ls. filter (stays_in (cone_of p).rows []) ls) d.labels ∙ main_labels p free

      is_main : IsMainOf p free old new
      is_main = record {
        key = key_is;
        dictionary = is_dictionary old (stays_in rows []) (stays_in rows free) whole (left_if_stays rows free) least cells h
            space labels_are entered.points
            (subst (λ ks. IsCobasis space ks) (sym key_is) entered.cobasis)
            (subst (λ ks. Writes space ks (table_of old)) (sym key_is) entered.writes);
      }

    pub enters_main : (sys : System) → rows ≡ sys.rows → length sys.rows ≤ most_cone_rows → EntersMainPhase old sys free new
    enters_main sys e l = record {
      phase = refl;
      enters = λ p is d can.
          is_main p (e ∙ ap (λ (s : System). s.rows) is) (few_rows p sys is l) d can;
    }

-- the same of what the code has
pub made_main : (old : Dictionary) (sys : System) (free : List ℕ) (new : Dictionary) → IsWhole old →
    length sys.rows ≤ most_cone_rows → IsWithoutDivisor (staying old sys.rows free) new → EntersMainPhase old sys free new
made_main old sys free new whole few r =
    subst (λ (d : Dictionary). EntersMainPhase old sys free d) (sym r.same)
    (enters_main old whole sys.rows free new.denominator new.cells r.divided sys refl few)
