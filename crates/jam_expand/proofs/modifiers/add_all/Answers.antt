use Rattle.std.proofs.Common.{◌≡◌, ◌∷◌, [], sym, ap, ◌∙◌, Err, length, eqb}
use Rattle.std.proofs.lemmas.Bool.{eqb-true, true≢false}
use Rattle.std.proofs.lemmas.List.{nil_from_length}
use Rattle.b2_base.specs.declared.expand_fault.ExpandFault.TheVariants as faults
use Rattle.jam_expand.specs.Modifiers.{modified_after}
use Rattle.jam_expand.proofs.EachLetterModifiesOrFails.{read_colon, read_nothing, bad_letter, bad_or_none}
use Rattle.jam_expand.proofs.TextsAreCutAtSigns.{rest_no_zero}
use Rattle.jam_expand.proofs.modifiers.add_all.Goals as goal

pub letters-preserved-then-letter-eq58 : goal.letters-preserved-then-letter-eq58
letters-preserved-then-letter-eq58 c =
    let rest = c.in-Some.after.now in
    let whole : c.letters.rest.now ≡ 58 ∷ rest = c.in-Some.ensures.exact ∙ ap (λ letter. letter ∷ rest) c.if-letter-eq58.true in
    record {
      read = sym (read_colon rest c.letters.modifiers) ∙ ap (λ s. modified_after 0 s c.letters.modifiers) (sym whole) ∙ c.letters.invariant.read;
      no_zero = rest_no_zero 58 rest c.letters.rest.now whole c.letters.invariant.no_zero;
      utf8 = c.in-Some.ensures.utf8;
    }

pub returns-then-is_empty : goal.returns-then-is_empty
returns-then-is_empty c =
    let nothing : c.letters.rest.now ≡ [] = nil_from_length c.letters.rest.now (eqb-true _ _ (sym c.if-is_empty.ensures)) in
    sym c.letters.invariant.read ∙ ap (λ s. modified_after 0 s c.letters.modifiers) nothing ∙ read_nothing c.letters.modifiers

pub returns-else-is_empty : goal.returns-else-is_empty
returns-else-is_empty c =
    let bad : modified_after 0 c.args.text.now c.args.modifiers.now ≡ Err (faults.BadModifier c.letters.rest.now) = sym c.letters.invariant.read ∙ bad_letter c.letters.rest.now c.letters.modifiers c.in_default.ensures.exact (λ nothing. true≢false (sym (c.if-is_empty.ensures ∙ ap (λ s. eqb (length s) 0) nothing))) in
    bad_or_none c.letters.rest.now c.bad_modifier.result _ bad c.bad_modifier.ensures
