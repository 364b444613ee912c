use Rattle.std.proofs.Common.{◌∙◌, Ok, map, length, sym, ap, subst}
use Rattle.std.proofs.lemmas.Result.{err_from_is_err_and}
use Rattle.b2_base.specs.Results.{and_then}
use Rattle.b2_declared.specs.Carrying.{Tables}
use Rattle.b2_declared.specs.Gathering.{Gathered, gathered_by}
use Rattle.b2_declared.specs.Views.{seen, brought}
use Rattle.b2_declared.specs.Declaring.{whole}
use Rattle.b2_declared.specs.Laws.{visited, IsSound}
use Rattle.b2_declared.proofs.StepsComposeUntilAFault.{fault_then, then_fault}
use Rattle.b2_declared.proofs.GatheredStaysSound.{all_sound, all_visited, all_targets}
use Rattle.b2_declared.proofs.FeatureNamesComeFromCalls.{names_of_calls}
use Rattle.b2_declared.proofs.outcome.declared.Goals as goal

pub returns-in_err-gathered-clause-fault : goal.returns-in_err-gathered-clause-fault
returns-in_err-gathered-clause-fault c =
    let p = err_from_is_err_and c.from_residual-in_err-gathered.result c.from_residual-in_err-gathered.ensures.1 in
    rw (p.1, p.2)
    (then_fault (λ (t : Tables). and_then (λ (g : Gathered). Ok (whole t g)) (gathered_by t.features c.args.visits.now c.args.calls.now)) _ (seen c.in_ok-tables.tables) _ c.in_ok-tables.ensures.ok
    (fault_then (λ (g : Gathered). Ok (whole (seen c.in_ok-tables.tables) g)) _ _ c.in_err-gathered.ensures.fault))

pub returns-clause-places : goal.returns-clause-places
returns-clause-places c =
    ap (map visited) c.from_vec.ensures
    ∙ all_visited c.in_ok-tables.tables.registry c.args.visits.now c.args.calls.now (brought c.in_ok-gathered.gathered) c.in_ok-gathered.ensures.ok c.requires

pub returns-clause-targets : goal.returns-clause-targets
returns-clause-targets c = all_targets c.in_ok-tables.tables.registry c.args.visits.now c.args.calls.now (brought c.in_ok-gathered.gathered) c.in_ok-gathered.ensures.ok

pub returns-clause-features : goal.returns-clause-features
returns-clause-features c = names_of_calls c.args.visits.now c.args.calls.now (seen c.in_ok-tables.tables) c.in_ok-tables.ensures.ok

pub returns-clause-sound : goal.returns-clause-sound
returns-clause-sound c =
    subst (λ places. IsSound (length c.args.visits.now) places c.in_ok-gathered.gathered.targets c.in_ok-gathered.gathered.tests c.in_ok-gathered.gathered.indirect) (sym c.from_vec.ensures)
    (all_sound c.in_ok-tables.tables.registry c.args.visits.now c.args.calls.now (brought c.in_ok-gathered.gathered) c.in_ok-gathered.ensures.ok c.requires)
