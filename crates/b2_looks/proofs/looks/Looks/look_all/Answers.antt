use Rattle.std.proofs.Common.{List}
use Rattle.b2_host.specs.declared.children.ChildEvent.{ChildEvent}
use Rattle.b2_looks.specs.Looks.{LooksOn, Follows}
use Rattle.b2_looks.proofs.LooksAreKept.{follows_on, on_ok_then}
use Rattle.b2_looks.proofs.looks.Looks.look_all.Goals as goal

pub returns-clause-only_log : goal.returns-clause-only_log
returns-clause-only_log g c = c.look_each.ensures.looks.only_log

pub returns-clause-faults : goal.returns-clause-faults
returns-clause-faults g c = c.look_each.ensures.looks.faults

pub returns-clause-about : goal.returns-clause-about
returns-clause-about g c = c.look_each.ensures.looks.learns.about c.requires.about

pub returns-clause-learns : goal.returns-clause-learns
returns-clause-learns g c = c.look_each.ensures.looks.learns

pub returns-clause-way : goal.returns-clause-way
returns-clause-way g c = (c.look_each.ensures.way, c.look_each.ensures.looks.way)

pub returns-clause-looks : goal.returns-clause-looks
returns-clause-looks g c = c.look_each.ensures.after

pub returns-clause-on : goal.returns-clause-on
returns-clause-on g c = c.look_each.ensures.on

pub returns-clause-follows : goal.returns-clause-follows
returns-clause-follows g c = on_ok_then c.look_each.result (LooksOn c.args.self.now c.look_each.new.self) ((events : List ChildEvent) → Follows events c.args.self.now → Follows events c.look_each.new.self) (λ on events follows. follows_on events c.args.self.now c.look_each.new.self on follows) c.look_each.ensures.on

pub returns-clause-all : goal.returns-clause-all
returns-clause-all g c = c.look_each.ensures.all

pub returns-clause-told : goal.returns-clause-told
returns-clause-told g c = c.look_each.ensures.told
