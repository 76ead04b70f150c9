-- From the phase `prepare` to the phase `main`: which labels stay, what stays of a dictionary, and its
-- common divisor out.
use Rattle.std.specs.Prelude.{◌≡◌, ℕ, suc, ◌<◌, Bool, not, ◌&&◌, if◌then◌else◌, ℤ, pos, ◌*ℤ◌, List, [], ◌∷◌, ◌++◌, map}
use Rattle.std.specs.List.{filter}
use Rattle.poly_num.specs.Vectors.{scale, IsPrimitive}
use Rattle.poly_model.specs.declared.overflow.Phase.TheVariants.{Main}
use Rattle.poly_model.specs.Systems.{Row, row_of, Polyhedron, System, cone_of}
use Rattle.poly_model.specs.Spaces.{is_member, prepare_space, main_space}
use Rattle.poly_model.specs.Labels.{is_row, coordinate_index}
use Rattle.dictionary_laws.specs.Keys.{place_in}
use Rattle.dictionary_laws.specs.MainSpace.{stays, CanEnterMain}
use Rattle.dictionary.specs.Views.{Dictionary, number, by_columns, table_of, IsDictionaryIn}

-- a label stays: it is neither that of a linear row nor that of a free coordinate
abbrev pub stays_in : List Row → List ℕ → ℕ → Bool
stays_in rows free k =
    if is_row k then not (row_of rows k).linear else not (is_member (coordinate_index k) free)

-- the labels that are left and not in the new cobasis: those outside the old one, and those that only leave it
abbrev pub kept_rows : Dictionary → (ℕ → Bool) → (ℕ → Bool) → List ℕ
kept_rows d left stays = filter left d.rows ++ filter (λ k. left k && not (stays k)) d.columns

-- the columns of the constants and of the labels that stay in the cobasis
abbrev pub kept_columns : List ℕ → List ℕ → List ℕ
kept_columns columns staying = 0 ∷ map (λ k. suc (place_in columns k)) staying

-- the rows of the labels that are left, with the columns of those that stay
abbrev pub kept : Dictionary → (ℕ → Bool) → (ℕ → Bool) → Dictionary
kept d left stays = record {
  phase = Main;
  labels = filter left d.labels;
  key = filter stays d.key;
  columns = filter stays d.columns;
  rows = kept_rows d left stays;
  denominator = d.denominator;
  cells = by_columns (number d) (kept_rows d left stays) (kept_columns d.columns (filter stays d.columns));
}

-- the common divisor of the cells and the denominator is divided out of all of them
pub record IsDividedOut (old : List ℤ) (denominator : ℤ) (new : List ℤ) (least : ℤ) : Type 0 where
  pub factor : ℕ
  pub some : 0 < factor
  pub multiple : old ≡ scale (pos factor) new
  pub over : denominator ≡ pos factor *ℤ least
  pub primitive : IsPrimitive (new ++ least ∷ [])

-- at a polyhedron: the cobasis without equations and free coordinates, and its dictionary in the main space
pub record IsMainOf (p : Polyhedron) (free : List ℕ) (old new : Dictionary) : Type 0 where
  pub key : new.key ≡ filter (stays p free) old.key
  pub dictionary : IsDictionaryIn (main_space p free) new

-- the new one is of the phase `main`; and where the old one is a dictionary of the file's rows of a
-- polyhedron at which the main space can be entered, it is that of what stays
pub record EntersMainPhase (old : Dictionary) (sys : System) (free : List ℕ) (new : Dictionary) : Type 0 where
  pub phase : new.phase ≡ Main
  pub enters : (p : Polyhedron) → sys ≡ cone_of p → IsDictionaryIn (prepare_space p) old →
      CanEnterMain p free old.key (table_of old) → IsMainOf p free old new
