-- What is told of a history that is kept in memory.
use Rattle.workers_io.specs.declared.told.Told.{Told}
use Rattle.workers_io.specs.declared.told.Told.TheVariants.{Started, Refused, Replied, Broken}
use Rattle.workers_io.specs.History.{Happening, started, refused, replied, broken}

abbrev pub told_of : Told → Happening
told_of (Started attempt text) = started attempt text
told_of (Refused attempt text) = refused attempt text
told_of (Replied attempt bytes) = replied attempt bytes
told_of (Broken attempt) = broken attempt
