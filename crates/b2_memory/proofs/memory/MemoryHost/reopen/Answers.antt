use Rattle.std.proofs.Common.{◌≡◌, ◌+◌, suc, length, vec_len, zero-add, sym, subst, arith}
use Rattle.std.proofs.lemmas.List.{length-map}
use Rattle.b2_memory.specs.declared.running_child.RunningChild.{RunningChild}
use Rattle.b2_memory.specs.Scripts.{nothing_listed, no_risks}
use Rattle.b2_memory.specs.Families.{child_with}
use Rattle.b2_memory.specs.Jobs.{given_of}
use Rattle.b2_memory.specs.Listings.{listed_of, risks_told}
use Rattle.b2_memory.specs.Memories.{AllEnded}
use Rattle.b2_memory.specs.Hosts.{memory_of}
use Rattle.b2_memory.proofs.EqualPartsMakeEqualRecords.{same_listed, reopens}
use Rattle.b2_memory.proofs.memory.MemoryHost.reopen.Goals as goal

pub loop-child-init : goal.loop-child-init
loop-child-init c = record { left = zero-add _; ends = λ last e. e }

pub end-requires : goal.end-requires
end-requires c =
    let left : c.loop-child._child + vec_len c.loop-child.self.child_table.running ≡ vec_len c.args.self.now.child_table.running = c.loop-child.invariant.left in
    let low = c.loop-child-test.true in
    let len = c.len-child-end.ensures in
    omega (arith, left, low, len)

pub loop-child-preserved : goal.loop-child-preserved
loop-child-preserved c =
    let left : c.loop-child._child + vec_len c.loop-child.self.child_table.running ≡ vec_len c.args.self.now.child_table.running = c.loop-child.invariant.left in
    let fewer = c.end.ensures.len in
    let next : c.loop-child._child + 1 + vec_len c.end.new.self.child_table.running ≡ vec_len c.args.self.now.child_table.running = omega (arith, left, fewer) in
    let old = c.loop-child.self.child_table.running.ok.0 in
    let new = c.end.new.self.child_table.running.ok.0 in
    let one_less : length c.loop-child.self.child_table.running.items ≡ suc (length c.end.new.self.child_table.running.items) = omega (arith, fewer, old, new) in
    record {
      left = next;
      ends = λ last e. c.loop-child.invariant.ends last (subst (λ n. AllEnded n (memory_of c.loop-child.self) last) (sym one_less) (c.end.result.0, c.end.result.1, memory_of c.end.new.self, c.end.ensures.ended, e));
    }

pub returns : goal.returns
returns c =
    let left : c.loop-child._child + vec_len c.loop-child.self.child_table.running ≡ vec_len c.args.self.now.child_table.running = c.loop-child.invariant.left in
    let high = c.loop-child-test.false in
    let len = c.len-child-end.ensures in
    let size = c.loop-child.self.child_table.running.ok.0 in
    let none : length c.loop-child.self.child_table.running.items ≡ 0 = omega (arith, left, high, len, size) in
    reopens (memory_of c.args.self.now) (memory_of c.loop-child.self) _ (length c.args.self.now.child_table.running.items) (length c.loop-child.self.child_table.running.items)
    (sym (length-map c.args.self.now.child_table.running.items (λ (r : RunningChild). child_with (given_of r.job.value)))) none c.loop-child.invariant.ends
    (same_listed (memory_of c.loop-child.self) c.clear.new.self.faults c.loop-child.self.script.faults (risks_told c.clear.new.self) no_risks (listed_of c.clear.new.self) nothing_listed c.clear.ensures.faults c.clear.ensures.risks c.clear.ensures.listed)
