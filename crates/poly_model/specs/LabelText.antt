-- How labels, places, keys and phases are printed.
use Rattle.std.specs.Prelude.{ℕ, ◌==◌, if◌then◌else◌, List, ◌++◌, length, codes, decimal}
use Rattle.std.specs.List.{flat_map}
use Rattle.poly_model.specs.Labels.{extra_label, constant_label, is_row, coordinate_index}
use Rattle.poly_model.specs.declared.overflow.Phase.{Phase}
use Rattle.poly_model.specs.declared.overflow.Phase.TheVariants.{Cone, Prepare, Main, First}
use Rattle.poly_model.specs.declared.overflow.Place.{Place}

-- the extra variable, a row's number, the constant column, or a coordinate
abbrev pub label_text : ℕ → List ℕ
label_text k =
    if k == extra_label then codes "t"
    else (if is_row k then decimal k
    else (if k == constant_label then codes "c"
    else codes "x" ++ decimal (coordinate_index k)))

-- labels, each after a blank
unfoldable pub labels_text : List ℕ → List ℕ
labels_text labels = flat_map (λ n. codes " " ++ label_text n) labels

-- how many labels a key has, and its labels
abbrev pub key_text : List ℕ → List ℕ
key_text labels = decimal (length labels) ++ labels_text labels

-- row, comma, column
abbrev pub place_text : Place → List ℕ
place_text place = label_text place.row ++ (codes "," ++ label_text place.col)

abbrev pub phase_text : Phase → List ℕ
phase_text Cone = codes "cone"
phase_text Prepare = codes "prepare"
phase_text Main = codes "main"
phase_text First = codes "first"
