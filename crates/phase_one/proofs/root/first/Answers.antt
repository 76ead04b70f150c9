use Rattle.std.proofs.Common.{◌≡◌, Err, ℕ, List, sym, ap, subst, ◌∙◌}
use Rattle.std.proofs.lemmas.Result.{err_from_is_err_and}
use Rattle.poly_model.specs.Systems.{Polyhedron}
use Rattle.dictionary.specs.Views.{Dictionary}
use Rattle.linearity.specs.Prepared.{Preparation}
use Rattle.linearity.proofs.Errors.{one_error}
use Rattle.phase_one.specs.declared.stop.FirstStop.TheVariants.{Infeasible, Overflow}
use Rattle.phase_one.specs.Found.{IsPreparationOf, IsStartOf, IsFound}
use Rattle.phase_one.proofs.FoundLemmas.{found}
use Rattle.phase_one.proofs.root.first.Goals as goal

-- the dictionary of what is prepared
start_of : (p : Polyhedron) (prepared : Preparation) (d : Dictionary) → d ≡ prepared.dictionary → IsPreparationOf p prepared →
    IsStartOf p prepared.free d
start_of p prepared d e x = subst (λ (s : Dictionary). IsStartOf p prepared.free s) (sym e) (prepared.lines, x)

pub root_dictionary-requires : goal.root_dictionary-requires
root_dictionary-requires c =
    let (p, x) = c.requires.prepared in
    record { start = (p, c.args.prepared.free, start_of p c.args.prepared _ c.into_parts-lines.ensures.dict x) }

pub returns-in_err-dict-clause-infeasible : goal.returns-in_err-dict-clause-infeasible
returns-in_err-dict-clause-infeasible c e p x =
    let q = err_from_is_err_and c.from_residual.result c.from_residual.ensures.1 in
    let same = sym q.2 ∙ one_error c.from_residual.result Infeasible q.0 e q.1 in
    c.in_err-dict.ensures.infeasible (ap (λ v. Err v) same) p c.args.prepared.free
    (start_of p c.args.prepared _ c.into_parts-lines.ensures.dict x)

pub returns-in_err-dict-clause-overflow : goal.returns-in_err-dict-clause-overflow
returns-in_err-dict-clause-overflow c o e p x =
    let q = err_from_is_err_and c.from_residual.result c.from_residual.ensures.1 in
    let same = sym q.2 ∙ one_error c.from_residual.result (Overflow o) q.0 e q.1 in
    c.in_err-dict.ensures.overflow o (ap (λ v. Err v) same) p c.args.prepared.free
    (start_of p c.args.prepared _ c.into_parts-lines.ensures.dict x)

pub returns-clause-found : goal.returns-clause-found
returns-clause-found c p x =
    let start = start_of p c.args.prepared _ c.into_parts-lines.ensures.dict x in
    subst (λ (k : List ℕ). IsFound p c.args.prepared.free k c.in_ok-dict.dict) (sym (c.new.ensures ∙ c.key.ensures))
    (found p start.0 c.args.prepared.free _ start.1 c.in_ok-dict.dict
    (c.in_ok-dict.ensures.given p c.args.prepared.free start))
