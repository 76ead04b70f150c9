-- How an overflow is printed.
use Rattle.std.specs.Prelude.{List, ℕ, ◌++◌, codes}
use Rattle.poly_model.specs.LabelText.{key_text, place_text, phase_text}
use Rattle.poly_model.specs.declared.overflow.Overflow.{Overflow}

-- the four places
abbrev pub places_text : Overflow → List ℕ
places_text o =
    place_text o.a
    ++ (codes " " ++ (place_text o.b ++ (codes " " ++ (place_text o.c ++ (codes " " ++ place_text o.d)))))

-- the phase, the key, and the places of the two products
abbrev pub overflow_text : Overflow → List ℕ
overflow_text o = phase_text o.phase ++ (codes " " ++ (key_text o.key ++ (codes " " ++ places_text o)))
