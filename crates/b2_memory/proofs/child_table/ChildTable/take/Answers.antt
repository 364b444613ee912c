use Rattle.std.proofs.Common.{◌≡◌, ◌<◌, length, Some, remove, slice_get, ap, sym, ◌∙◌, subst, arith}
use Rattle.std.proofs.lemmas.Option.{slice_get-get_or}
use Rattle.b2_memory.specs.PendingWrites.{promised}
use Rattle.b2_memory.proofs.ChildEnds.{promised_take}
use Rattle.b2_memory.proofs.child_table.ChildTable.take.Goals as goal

pub overflow_sub-self : goal.overflow_sub-self
overflow_sub-self c =
    let children = c.args.self.now.running in
    let child = c.remove-child.result in
    let found : slice_get children.items c.args.place ≡ Some child = slice_get-get_or children.items c.args.place child (subst (λ n. c.args.place < n) children.ok.0 c.requires) ∙ ap Some (sym c.remove-child.ensures.value) in
    let sum = promised_take children.items c.args.place child found in
    let owed = c.args.self.now.owed in
    let len = c.len.ensures in
    let own = child.entries.ok.0 in
    omega (arith, sum, owed, len, own)

pub invariant_of-self : goal.invariant_of-self
invariant_of-self c =
    let children = c.args.self.now.running in
    let child = c.remove-child.result in
    let found : slice_get children.items c.args.place ≡ Some child = slice_get-get_or children.items c.args.place child (subst (λ n. c.args.place < n) children.ok.0 c.requires) ∙ ap Some (sym c.remove-child.ensures.value) in
    let sum = promised_take children.items c.args.place child found in
    let rest : length (promised c.remove-child.new.self.items) ≡ length (promised (remove children.items c.args.place)) = ap (λ rs. length (promised rs)) c.remove-child.ensures.items in
    let owed = c.args.self.now.owed in
    let len = c.len.ensures in
    let own = child.entries.ok.0 in
    let had = c.args.self.now.event_room in
    let fewer = c.remove-child.ensures.len in
    let more = c.push_reserved.ensures.len in
    let room = c.push_reserved.ensures.capacity in
    record { owed = omega (arith, sum, rest, owed, len, own); event_room = omega (arith, had, fewer, more, room) }

pub returns-clause-child : goal.returns-clause-child
returns-clause-child c =
    let children = c.args.self.now.running in
    slice_get-get_or children.items c.args.place c.remove-child.result (subst (λ n. c.args.place < n) children.ok.0 c.requires) ∙ ap Some (sym c.remove-child.ensures.value)

pub returns-clause-pending : goal.returns-clause-pending
returns-clause-pending c =
    let children = c.args.self.now.running in
    let child = c.remove-child.result in
    let found : slice_get children.items c.args.place ≡ Some child = slice_get-get_or children.items c.args.place child (subst (λ n. c.args.place < n) children.ok.0 c.requires) ∙ ap Some (sym c.remove-child.ensures.value) in
    let sum = promised_take children.items c.args.place child found in
    let owed = c.args.self.now.owed in
    let len = c.len.ensures in
    let own = child.entries.ok.0 in
    omega (arith, sum, owed, len, own)
