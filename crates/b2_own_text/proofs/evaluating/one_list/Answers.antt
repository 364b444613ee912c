use Rattle.std.proofs.Common.{[], ◌∷◌, ◌++◌, ◌∙◌, ap₂}
use Rattle.b2_own_text.proofs.evaluating.one_list.Goals as goal

pub returns : goal.returns
returns c = c.in_ok-push.ensures.ok ∙ ap₂ (λ lists list. lists ++ list ∷ []) c.new-lists.ensures c.in_ok-copy_texts.ensures
