use Rattle.std.proofs.Common.{◌≡◌, sym, ◌∙◌, ap, subst, Err}
use Rattle.std.specs.Str.{IsUtf8}
use Rattle.b2_base.specs.Bytes.{HasNoZero}
use Rattle.b2_base.specs.declared.expand_fault.ExpandFault.TheVariants as faults
use Rattle.jam_expand.specs.Modifiers.{valued, modified_after}
use Rattle.jam_expand.proofs.EachLetterModifiesOrFails.{read_valued, bad_valued, bad_or_none, value_no_zero, end_after_value}
use Rattle.jam_expand.proofs.modifiers.add_with_value.Goals as goal

pub new-requires : goal.new-requires
new-requires c = subst HasNoZero (sym c.split_before.ensures.before) (value_no_zero c.args.letter c.args.valued.now (subst HasNoZero c.requires.text c.requires.no_zero))

pub returns-then-add_valued-clause-read : goal.returns-then-add_valued-clause-read
returns-then-add_valued-clause-read c =
    rw (c.requires.text, c.split_before.ensures.after)
    (read_valued c.args.letter c.args.valued.now c.args.modifiers.now c.add_valued.new.self c.requires.letter
    (ap (λ value. valued c.args.letter value c.args.modifiers.now) (sym (c.in_ok-value.ensures ∙ c.split_before.ensures.before)) ∙ c.if-add_valued.ensures))

pub returns-then-add_valued-clause-rest : goal.returns-then-add_valued-clause-rest
returns-then-add_valued-clause-rest c =
    rw (c.requires.text, c.split_before.ensures.after) (end_after_value c.args.letter c.args.valued.now (subst IsUtf8 c.split_before.ensures.after c.split_before.ensures.utf8))

pub returns-else-add_valued-clause-read : goal.returns-else-add_valued-clause-read
returns-else-add_valued-clause-read c =
    let bad : modified_after 0 c.args.text.now c.args.modifiers.now ≡ Err (faults.BadModifier c.args.text.now) =
    rw c.requires.text (bad_valued c.args.letter c.args.valued.now c.args.modifiers.now c.requires.letter
    (ap (λ value. valued c.args.letter value c.args.modifiers.now) (sym (c.in_ok-value.ensures ∙ c.split_before.ensures.before)) ∙ c.if-add_valued.ensures)) in
    bad_or_none c.args.text.now c.bad_modifier.result _ bad c.bad_modifier.ensures
