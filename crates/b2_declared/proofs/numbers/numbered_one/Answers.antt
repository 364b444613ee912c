use Rattle.std.proofs.Common.{◌≡◌, ◌∙◌, ◌++◌, ◌∷◌, [], length, sym, ap}
use Rattle.std.proofs.lemmas.List.{append-nil}
use Rattle.std.proofs.lemmas.Result.{IfOk-weaker}
use Rattle.b2_features.proofs.OutcomesPassOnWhatHolds.{on_ok}
use Rattle.b2_props.specs.declared.requirement.Requirement.{Requirement}
use Rattle.b2_props.specs.declared.requirement.Requirement.TheVariants as requirements
use Rattle.b2_declared.specs.Gathering.{numbered, rules_in}
use Rattle.b2_declared.proofs.numbers.numbered_one.Goals as goal

pub returns-in-Plain-clause-made : goal.returns-in-Plain-clause-made
unfolding numbered
returns-in-Plain-clause-made c = ap (λ (m : Requirement). m ∷ []) c.plain.ensures ∙ sym (ap (λ t. numbered (length c.args.indirect.now) (t ∷ [])) c.in-Plain.is)

pub returns-in-Plain-clause-added : goal.returns-in-Plain-clause-added
unfolding rules_in
returns-in-Plain-clause-added c = sym (append-nil c.args.indirect.now) ∙ sym (ap (λ t. c.args.indirect.now ++ rules_in c.args.call.now (t ∷ [])) c.in-Plain.is)

pub returns-in-Indirect-clause-made : goal.returns-in-Indirect-clause-made
unfolding numbered
returns-in-Indirect-clause-made c =
    IfOk-weaker c.number.result (λ m. m ≡ requirements.Indirect (length c.args.indirect.now)) (λ m. m ∷ [] ≡ numbered (length c.args.indirect.now) (c.args.text ∷ []))
    (λ m e. ap (λ (m : Requirement). m ∷ []) e ∙ sym (ap (λ t. numbered (length c.args.indirect.now) (t ∷ [])) c.in-Indirect.is)) c.number.ensures.made

pub returns-in-Indirect-clause-added : goal.returns-in-Indirect-clause-added
unfolding rules_in
returns-in-Indirect-clause-added c =
    on_ok c.number.result c.number.ensures.added (λ e. e ∙ sym (ap (λ t. c.args.indirect.now ++ rules_in c.args.call.now (t ∷ [])) c.in-Indirect.is))
