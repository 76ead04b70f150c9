-- Known texts of a listing, written out by hand: a wrong definition does not check here.
use Rattle.std.proofs.Common.{◌≡◌, [], ◌∷◌, codes, pos, negsuc, refl}
use Rattle.std.specs.Fmt.{digits}
use Rattle.poly_num.specs.Divisors.{gcd_in, gcd_of}
use Rattle.poly_num.specs.Fractions.{lowest}
use Rattle.poly_model.specs.declared.kind.Kind.TheVariants.{H, V}
use Rattle.poly_model.specs.ListingText.{title_text, number_text, numbers_text, linearity_text, size_text, head_text, entry_text, entries_text, vector_text, denominator_text, fraction_text, coordinates_text, point_text, is_point, row_text}

-- ---- the head

head-plain : head_text H 3 0 ≡ codes "V-representation\nbegin\n***** 3 rational\n"
unfolding head_text title_text linearity_text size_text digits
head-plain = refl

head-lines : head_text V 12 2 ≡ codes "H-representation\nlinearity 2 1 2\nbegin\n***** 12 rational\n"
unfolding head_text title_text linearity_text numbers_text number_text size_text digits
head-lines = refl

-- ---- rows

point : row_text H (pos 4 ∷ pos 8 ∷ negsuc 5 ∷ pos 0 ∷ pos 1 ∷ []) ≡ codes " 1 2 -3/2 0 1/4\n"
unfolding row_text is_point point_text coordinates_text fraction_text entry_text denominator_text lowest gcd_of gcd_in digits
point = refl

ray : row_text H (pos 0 ∷ pos 8 ∷ negsuc 5 ∷ []) ≡ codes " 0 8 -6\n"
unfolding row_text is_point vector_text entries_text entry_text digits
ray = refl

facet : row_text V (pos 4 ∷ pos 8 ∷ negsuc 5 ∷ []) ≡ codes " 4 8 -6\n"
unfolding row_text vector_text entries_text entry_text digits
facet = refl
