use Rattle.std.proofs.Common.{◌≡◌, ◌∙◌, subst, ap}
use Rattle.poly_model.specs.Dictionaries.{Table}
use Rattle.dictionary.specs.Views.{Dictionary, IsWhole, number, table_of}
use Rattle.dictionary.proofs.Numbers.{own_entry, other_entry}
use Rattle.dictionary.proofs.dict.Dict.entry.Goals.{After-number}
use Rattle.dictionary.proofs.dict.Dict.entry.Goals as goal

value : (c : After-number) → c.number.result ≡ Table.entry (table_of c.args.self.now) c.args.row c.args.col
value c = c.number.ensures ∙ ap (λ j. number c.args.self.now c.args.row j) c.column_of.ensures.value

pub returns-clause-value : goal.returns-clause-value
returns-clause-value c = value (goal.at.returns-clause-value c).After-number

pub returns-clause-own : goal.returns-clause-own
returns-clause-own c e =
    value (goal.at.returns-clause-own c).After-number
    ∙ own_entry c.args.self.now (subst (λ (d : Dictionary). IsWhole d) c.self.view_is c.self.invariant.2) c.args.row
    c.args.col c.requires.column e

pub returns-clause-unit : goal.returns-clause-unit
returns-clause-unit c i n =
    value (goal.at.returns-clause-unit c).After-number
    ∙ other_entry c.args.self.now (subst (λ (d : Dictionary). IsWhole d) c.self.view_is c.self.invariant.2) c.args.row
    c.args.col c.requires.column i n
