-- What a column of cells is seen as, where it lies in words and where it lies in wide numbers.
use Rattle.std.specs.Prelude.{ℤ, List}
use Rattle.columns.specs.declared.slices.Slice.{Slice}
use Rattle.columns.specs.declared.slices.Slice.TheVariants.{Words, Wide}

abbrev pub numbers_of : Slice → List ℤ
numbers_of (Words words) = words.now
numbers_of (Wide wide) = wide.now
