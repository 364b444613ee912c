use Rattle.std.proofs.Common.{sym, subst}
use Rattle.b2_declared.specs.Numbered.{IsNumbered}
use Rattle.b2_request_plan.proofs.PlanIsWhatWasGenerated.{answered_at}
use Rattle.b2_request_plan.proofs.plan.plan.Goals as goal

pub new-requires : goal.new-requires
new-requires g c = c.requires.numbered.of_targets

pub over_index-requires-clause-numbered : goal.over_index-requires-clause-numbered
over_index-requires-clause-numbered g c = subst IsNumbered (sym c.in-Ok.ensures) c.requires.numbered

pub over_index-requires-clause-bin : goal.over_index-requires-clause-bin
over_index-requires-clause-bin g c = c.requires.bin

pub returns-in-Ok-clause-told : goal.returns-in-Ok-clause-told
returns-in-Ok-clause-told g c = (answered_at c.in-Ok.ensures c.over_index.ensures).told

pub returns-in-Err-clause-told : goal.returns-in-Err-clause-told
returns-in-Err-clause-told g c = (c.no_memory.ensures c.args.declared.now c.args.roots.now c.args.request.now).told

pub returns-in-Ok-clause-apart : goal.returns-in-Ok-clause-apart
returns-in-Ok-clause-apart g c = (answered_at c.in-Ok.ensures c.over_index.ensures).apart

pub returns-in-Err-clause-apart : goal.returns-in-Err-clause-apart
returns-in-Err-clause-apart g c = (c.no_memory.ensures c.args.declared.now c.args.roots.now c.args.request.now).apart

pub returns-in-Ok-clause-roots : goal.returns-in-Ok-clause-roots
returns-in-Ok-clause-roots g c = (answered_at c.in-Ok.ensures c.over_index.ensures).same_roots

pub returns-in-Err-clause-roots : goal.returns-in-Err-clause-roots
returns-in-Err-clause-roots g c = (c.no_memory.ensures c.args.declared.now c.args.roots.now c.args.request.now).same_roots

pub returns-in-Ok-clause-leaves : goal.returns-in-Ok-clause-leaves
returns-in-Ok-clause-leaves g c = (answered_at c.in-Ok.ensures c.over_index.ensures).leaves

pub returns-in-Err-clause-leaves : goal.returns-in-Err-clause-leaves
returns-in-Err-clause-leaves g c = (c.no_memory.ensures c.args.declared.now c.args.roots.now c.args.request.now).leaves

pub returns-in-Ok-clause-whole : goal.returns-in-Ok-clause-whole
returns-in-Ok-clause-whole g c = (answered_at c.in-Ok.ensures c.over_index.ensures).whole

pub returns-in-Err-clause-whole : goal.returns-in-Err-clause-whole
returns-in-Err-clause-whole g c = (c.no_memory.ensures c.args.declared.now c.args.roots.now c.args.request.now).whole

pub returns-in-Ok-clause-sets : goal.returns-in-Ok-clause-sets
returns-in-Ok-clause-sets g c = (answered_at c.in-Ok.ensures c.over_index.ensures).sets

pub returns-in-Err-clause-sets : goal.returns-in-Err-clause-sets
returns-in-Err-clause-sets g c = (c.no_memory.ensures c.args.declared.now c.args.roots.now c.args.request.now).sets
