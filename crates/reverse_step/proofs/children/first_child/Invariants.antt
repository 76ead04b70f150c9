use Rattle.reverse_step.specs.Children.{NoneBetween}
use Rattle.reverse_step.proofs.children.first_child.Given as goal

abbrev pub invariant-columns : goal.invariant-columns
invariant-columns l = NoneBetween l.order l.dict l.at l.place
