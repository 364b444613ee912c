use Rattle.std.proofs.Common.{ℕ, cond, ap, ◌∙◌}
use Rattle.b2_files.specs.Consistency.{stamp_within}
use Rattle.b2_files.specs.StoreDisks.{writes_told}
use Rattle.b2_memory.specs.Hosts.{told_outside, memory_of}
use Rattle.b2_memory.specs.Listings.{risks_told}
use Rattle.b2_memory.specs.Scripts.{raised}
use Rattle.b2_host.specs.Outside.{Risks}
use Rattle.b2_memory.proofs.CallsDoWhatHostsPromise.{awaits_told}
use Rattle.b2_memory.proofs.GoodEndsStayGood.{ends_well_at}
use Rattle.b2_memory.proofs.memory.MemoryHostChildren.wait_one.Goals as goal

pub returns-clause-effect : goal.returns-clause-effect
returns-clause-effect c =
    let host = c.args.self.now in
    let same = c.pick-place.ensures.faults ∙ c.fails.ensures.faults ∙ ap (λ b. cond b (raised host.script.faults) host.script.faults) c.if-fails.false in
    awaits_told c.pick-place.result (memory_of host) _ (memory_of c.end.new.self) c.end.result.0 c.end.result.1 (stamp_within (writes_told host.store))
    (ap (λ (f : ℕ). record (told_outside host) { faults = f; risks = risks_told c.pick-place.new.self }) same
    ∙ ap (λ (r : Risks). record (told_outside host) { risks = r }) (c.pick-place.ensures.risks ∙ c.fails.ensures.risks))
    (λ none. ends_well_at host.child_table.running.items c.pick-place.result c.end.result.1 (host.end_well none) c.end.ensures.ended.ends) c.end.ensures.ended
