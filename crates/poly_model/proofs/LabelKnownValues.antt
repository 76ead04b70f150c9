-- Known texts of labels, keys and places, written out by hand.
use Rattle.std.proofs.Common.{◌≡◌, [], ◌∷◌, codes, refl}
use Rattle.std.specs.Fmt.{digits}
use Rattle.poly_model.specs.LabelText.{label_text, labels_text, key_text, place_text}
use Rattle.poly_model.specs.Keys.{with_label}

last_row : label_text 8191 ≡ codes "8191"
unfolding digits
last_row = refl

first_coordinate : label_text 8192 ≡ codes "x0"
unfolding digits
first_coordinate = refl

constant_column : label_text 65535 ≡ codes "c"
constant_column = refl

extra_variable : label_text 0 ≡ codes "t"
extra_variable = refl

three_labels : key_text (2 ∷ 8193 ∷ 8202 ∷ []) ≡ codes "3 2 x1 x10"
unfolding labels_text digits
three_labels = refl

entry_of_a_row : place_text (record { row = 12; col = 8193 }) ≡ codes "12,x1"
unfolding digits
entry_of_a_row = refl

between : with_label 4 (1 ∷ 9 ∷ []) ≡ 1 ∷ 4 ∷ 9 ∷ []
between = refl

there_already : with_label 9 (1 ∷ 9 ∷ []) ≡ 1 ∷ 9 ∷ []
there_already = refl
