-- Lines with numbers.
use Rattle.std.specs.Prelude.{ℕ, List, [], ◌∷◌, ◌++◌, decimal}
use Rattle.lrs_cli.specs.declared.counts.CountBehind.{CountBehind}

-- each number behind its words, and then the words at the end
abbrev pub counts_text : List CountBehind → List ℕ → List ℕ
counts_text [] end = end
counts_text (count ∷ counts) end = count.0.now ++ (decimal count.1 ++ counts_text counts end)
