use Rattle.dictionary_laws.proofs.NewCobasis.{exchanged_cobasis, nonzero_where_cobasis}
use Rattle.dictionary_laws.proofs.exchanged_cobasis.Goals as goal

pub returns : goal.returns
returns c space key new t r s cobasis w label outside inside x = (
  nonzero_where_cobasis space key new t r s cobasis w label outside inside x,
  λ nonzero. exchanged_cobasis space key new t r s cobasis w
      (record { label = label; outside = outside; inside = inside; nonzero = nonzero }) x,
)
