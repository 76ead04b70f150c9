use Rattle.std.proofs.Common.{◌≡◌, map, take, string_bytes}
use Rattle.lrs_cli.proofs.process.words_of.Given as goal

-- those before this one are taken
abbrev pub invariant-words : goal.invariant-words
invariant-words l = map (λ w. w.now) l.words.items ≡ map string_bytes (take l.word-index l.behind)
