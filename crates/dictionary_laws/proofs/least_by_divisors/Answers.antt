use Rattle.std.proofs.Common.{inl}
use Rattle.dictionary_laws.proofs.Least.{primitive_where_least, least_where_primitive}
use Rattle.dictionary_laws.proofs.least_by_divisors.Goals as goal

pub returns : goal.returns
returns c space key t p cobasis w =
    (primitive_where_least space key t w, least_where_primitive space key t (inl p) cobasis w)
