use Rattle.std.proofs.Common.{inl}
use Rattle.dictionary_laws.specs.Exchange.{exchanged}
use Rattle.dictionary_laws.proofs.NewCobasis.{exchanged_cobasis}
use Rattle.dictionary_laws.proofs.NewNumbers.{exchanged_writes}
use Rattle.dictionary_laws.proofs.Least.{divided_is_dictionary}
use Rattle.dictionary_laws.proofs.exchanged_dictionary.Goals as goal

pub returns : goal.returns
returns c space key new t r s g p d can x h =
    divided_is_dictionary space new (exchanged t r s) g (inl p)
    (exchanged_cobasis space key new t r s d.cobasis d.writes can x)
    (exchanged_writes space key new t r s d.cobasis d.writes can x) h
