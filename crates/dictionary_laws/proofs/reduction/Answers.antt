use Rattle.std.proofs.Common.{inl}
use Rattle.dictionary_laws.proofs.Gcds.{gcd_of_numbers, gcd_of_numbers_is}
use Rattle.dictionary_laws.proofs.Least.{divided_is_dictionary}
use Rattle.dictionary_laws.proofs.reduction.Goals as goal

pub returns : goal.returns
returns c space key t p cobasis w = record {
  some = (gcd_of_numbers space key t, gcd_of_numbers_is space key t);
  dictionary = λ g h. divided_is_dictionary space key t g (inl p) cobasis w h;
}
