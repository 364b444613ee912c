use Rattle.std.proofs.Common.{◌≡◌, ℕ, ◌+◌, ◌-◌, ◌&&◌, suc, length, zero-add, sym, ap, subst, ◌∙◌, arith}
use Rattle.b2_drain.proofs.WaitsAddUp.{IsAnswerOf, no_wait, no_answer, one_more_wait, one_more_answer, told_all, told_failed, some_run, quiet, none_left}
use Rattle.b2_drain.proofs.StoppedStaysStopped.{no_wait_told, one_more_told}
use Rattle.b2_drain.proofs.drain.drain.Goals as goal

pub loop-child-init : goal.loop-child-init
loop-child-init g c =
    let entry = g.H.Files.outside c.args.host.now in
    record { waited = λ rest left. no_wait entry rest (left ∙ zero-add rest); answer = λ rest left. no_answer entry rest (left ∙ zero-add rest); told = no_wait_told g.H.Children.made entry (g.met.H.Files.consistent c.args.host.now) }

pub wait_one-ended-requires : goal.wait_one-ended-requires
wait_one-ended-requires g c =
    let entry = g.H.Files.outside c.args.host.now in
    let more : ℕ = c.args.count - (c.loop-child._child + 1) + c.requires.0 in
    let all : length entry.children.running ≡ c.args.count + c.requires.0 = c.requires.1 in
    let low = c.loop-child-test.true in
    some_run more entry (g.H.Files.outside c.loop-child.host) (c.loop-child.invariant.waited (suc more) (omega (arith, all, low)))

pub loop-child-preserved : goal.loop-child-preserved
loop-child-preserved g c =
    let entry = g.H.Files.outside c.args.host.now in
    let before = g.H.Files.outside c.loop-child.host in
    let after = g.H.Files.outside c.wait_one-ended.new.self in
    record {
      waited = λ rest left. one_more_wait g.H.Children.made rest entry before after c.wait_one-ended.result (c.loop-child.invariant.waited (suc rest) (omega (arith, left))) c.wait_one-ended.ensures;
      answer = λ rest left. subst (IsAnswerOf rest entry after) (ap (λ b. c.loop-child.all && b) (sym c.is_ok-all.ensures.value))
          (one_more_answer g.H.Children.made rest entry before after c.loop-child.all c.wait_one-ended.result (c.loop-child.invariant.waited (suc rest) (omega (arith, left))) c.wait_one-ended.ensures (c.loop-child.invariant.answer (suc rest) (omega (arith, left))));
      told = one_more_told g.H.Children.made entry before after c.wait_one-ended.result (g.met.H.Files.consistent c.wait_one-ended.new.self) c.loop-child.invariant.told c.wait_one-ended.ensures;
    }

pub returns-clause-all : goal.returns-clause-all
returns-clause-all g c each rest left =
    let high = c.loop-child-test.false in
    let low = c.loop-child.auto._child-end in
    let entry = g.H.Files.outside c.args.host.now in
    told_all rest entry (g.H.Files.outside c.loop-child.host) c.loop-child.all (c.loop-child.invariant.answer rest (omega (arith, left, high, low))) each

pub returns-clause-failed : goal.returns-clause-failed
returns-clause-failed g c some =
    let entry = g.H.Files.outside c.args.host.now in
    let all : length entry.children.running ≡ c.args.count + c.requires.0 = c.requires.1 in
    let high = c.loop-child-test.false in
    let low = c.loop-child.auto._child-end in
    told_failed c.requires.0 entry (g.H.Files.outside c.loop-child.host) c.loop-child.all (c.loop-child.invariant.answer c.requires.0 (omega (arith, all, high, low))) some

pub returns-clause-none_left : goal.returns-clause-none_left
returns-clause-none_left g c all =
    let entry = g.H.Files.outside c.args.host.now in
    let high = c.loop-child-test.false in
    let low = c.loop-child.auto._child-end in
    none_left entry (g.H.Files.outside c.loop-child.host) (c.loop-child.invariant.waited 0 (omega (arith, all, high, low)))

pub returns-clause-quiet : goal.returns-clause-quiet
returns-clause-quiet g c =
    let entry = g.H.Files.outside c.args.host.now in
    let all : length entry.children.running ≡ c.args.count + c.requires.0 = c.requires.1 in
    let high = c.loop-child-test.false in
    let low = c.loop-child.auto._child-end in
    quiet c.requires.0 entry (g.H.Files.outside c.loop-child.host) (c.loop-child.invariant.waited c.requires.0 (omega (arith, all, high, low)))
