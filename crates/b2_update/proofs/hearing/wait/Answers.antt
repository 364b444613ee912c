use Rattle.std.proofs.Common.{◌≡◌, ◌+◌, ◌-◌, Ok, Err, arith}
use Rattle.b2_host.specs.OutsideLaws.{keeps_waits}
use Rattle.b2_update.proofs.WaitIsHeard.{has_heard, halts_waiting}
use Rattle.b2_update.proofs.WaitTellsEnd.{ended_told, failed_told}
use Rattle.b2_update.proofs.hearing.wait.Goals as goal

pub returns-in-Ok-clause-heard : goal.returns-in-Ok-clause-heard
returns-in-Ok-clause-heard g c entry output going =
    let low = c.requires.some_open in
    let count : c.args.run.now.waits - 1 + 1 ≡ c.args.run.now.waits = omega (arith, low) in
    has_heard g.H.Children.made c.args._plan.now entry (g.H.Files.outside c.args.host.now) (g.H.Files.outside c.wait_one.new.self) output c.args.run.now (c.args.run.now.waits - 1) count going c.in-Ok.ended.0 c.in-Ok.ended.1 c.in-Ok.ensures

pub returns-in-Ok-clause-told : goal.returns-in-Ok-clause-told
returns-in-Ok-clause-told g c output =
    let (entry, here, same, going) = c.requires.going in
    ended_told c.args._plan.now g.H.Children.made (g.H.Files.outside c.args.host.now) (g.H.Files.outside c.wait_one.new.self) output c.args.run.now (c.args.run.now.waits - 1)
    c.end_comes.ensures (g.met.H.Files.consistent c.wait_one.new.self) c.sound.ensures going.planned.looks c.requires.rests c.requires.none_starts c.in-Ok.ended.0 c.in-Ok.ended.1 c.in-Ok.ensures

pub returns-in-Err-clause-heard : goal.returns-in-Err-clause-heard
returns-in-Err-clause-heard g c entry output going =
    let low = c.requires.some_open in
    let count : c.args.run.now.waits - 1 + 1 ≡ c.args.run.now.waits = omega (arith, low) in
    halts_waiting g.H.Children.made c.args._plan.now entry (g.H.Files.outside c.args.host.now) (g.H.Files.outside c.wait_one.new.self) output c.args.run.now (c.args.run.now.waits - 1) count going c.in-Err.ensures

pub returns-in-Err-clause-told : goal.returns-in-Err-clause-told
returns-in-Err-clause-told g c output = failed_told c.args._plan.now g.H.Children.made (g.H.Files.outside c.args.host.now) (g.H.Files.outside c.wait_one.new.self) output c.args.run.now (c.args.run.now.waits - 1)
    (g.met.H.Files.consistent c.args.host.now) (g.met.H.Files.consistent c.wait_one.new.self) c.in-Err.ensures

pub returns-in-Ok-clause-keeps : goal.returns-in-Ok-clause-keeps
returns-in-Ok-clause-keeps g c = keeps_waits g.H.Children.made (g.H.Files.outside c.args.host.now) (g.H.Files.outside c.wait_one.new.self) (Ok c.in-Ok.ended) c.in-Ok.ensures

pub returns-in-Err-clause-keeps : goal.returns-in-Err-clause-keeps
returns-in-Err-clause-keeps g c = keeps_waits g.H.Children.made (g.H.Files.outside c.args.host.now) (g.H.Files.outside c.wait_one.new.self) (Err c.in-Err._failed) c.in-Err.ensures
