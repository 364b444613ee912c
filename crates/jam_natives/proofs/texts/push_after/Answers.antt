use Rattle.std.proofs.Common.{◌++◌, ◌∷◌, [], sym, ap, ◌∙◌, append-nil}
use Rattle.jam_natives.proofs.StrippingLeavesTheRest.{none_after, one_after}
use Rattle.jam_natives.proofs.texts.push_after.Goals as goal

pub returns-in-None : goal.returns-in-None
returns-in-None c = sym (append-nil _) ∙ ap (λ l. c.args.made.now ++ l) (sym (none_after c.args.start.now c.args.text.now c.in-None.ensures.value))

pub returns-in_ok-push-in-Some : goal.returns-in_ok-push-in-Some
returns-in_ok-push-in-Some c =
    c.in_ok-push-in-Some.ensures.ok
    ∙ ap (λ l. c.args.made.now ++ l) (ap (λ r. r ∷ []) c.in_ok-new-in-Some.ensures ∙ sym (one_after c.args.start.now c.args.text.now c.in-Some.rest.now c.in-Some.ensures.value))
