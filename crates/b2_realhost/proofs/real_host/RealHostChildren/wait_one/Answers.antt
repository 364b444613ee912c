use Rattle.std.proofs.Common.{◌≡◌, ◌<◌, length, ◌++◌, ◌∷◌, [], arith}
use Rattle.b2_host.specs.declared.children.ChildEvent.TheVariants.{Done}
use Rattle.b2_realhost.proofs.WaitEndsOneJob.{awaits_at}
use Rattle.b2_realhost.proofs.real_host.RealHostChildren.wait_one.Goals as goal

pub returns-in-Ok : goal.returns-in-Ok
returns-in-Ok g c =
    let within : c.in-Ok.place < length c.args.self.now.jobs.items = grind (arith, c.in-Ok.ensures.place, c.args.self.now.same_len, c.args.self.now.jobs.ok.0) in
    let told : c.push_reserved.new.self.items ≡ c.args.self.now.events.items ++ Done c.remove-job.result.step c.in-Ok.well ∷ [] = c.push_reserved.ensures.items in
    awaits_at _ c.args.self.now.jobs.items c.remove-job.new.self.items c.remove-job.result c.in-Ok.place c.args.self.now.events.items c.push_reserved.new.self.items c.args.self.now.files.faults.count c.args.self.now.failed_waits c.in-Ok.well within c.remove-job.ensures.value c.remove-job.ensures.items told
