use Rattle.std.proofs.Common.{◌≡◌, ◌++◌, length, take}
use Rattle.std.specs.List.{AllByRecursion}
use Rattle.plain_text.specs.Cuts.{GoesOnWith}
use Rattle.poly_model.specs.LabelText.{labels_text}
use Rattle.poly_model.specs.Limits.{most_labels}
use Rattle.job_text.specs.KeyTexts.{IsKeyLabel}
use Rattle.job_text.proofs.keys.read_labels.Given as goal

-- the labels read so far, and what is behind them
abbrev pub invariant-loop-i : goal.invariant-loop-i
invariant-loop-i l = record {
  labels : AllByRecursion IsKeyLabel (take l.i l.room);
  found : l.text ≡ labels_text (take l.i l.room) ++ l.rest;
  goes_on : GoesOnWith 32 l.rest;
  size : length l.room ≡ most_labels;
}
