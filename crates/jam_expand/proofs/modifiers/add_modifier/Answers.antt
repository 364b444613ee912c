use Rattle.std.proofs.Common.{◌≡◌, Err}
use Rattle.b2_base.specs.declared.expand_fault.ExpandFault.TheVariants as faults
use Rattle.jam_expand.specs.Modifiers.{modified_after}
use Rattle.jam_expand.proofs.EachLetterModifiesOrFails.{read_alone, bad_alone, bad_or_none}
use Rattle.jam_expand.proofs.modifiers.add_modifier.Goals as goal

pub returns-then-add_alone-clause-read : goal.returns-then-add_alone-clause-read
returns-then-add_alone-clause-read c =
    rw c.requires.text (read_alone c.args.letter c.args.after.now c.args.modifiers.now c.add_alone.new.self c.requires.letter c.in_default.ensures.exact c.if-add_alone.ensures)

pub returns-else-add_alone-clause-read : goal.returns-else-add_alone-clause-read
returns-else-add_alone-clause-read c =
    let bad : modified_after 0 c.args.text.now c.args.modifiers.now ≡ Err (faults.BadModifier c.args.text.now) =
    rw c.requires.text (bad_alone c.args.letter c.args.after.now c.args.modifiers.now c.requires.letter c.in_default.ensures.exact c.if-add_alone.ensures) in
    bad_or_none c.args.text.now c.bad_modifier.result _ bad c.bad_modifier.ensures
