use Rattle.std.proofs.lemmas.Result.{IfOk-weaker}
use Rattle.b2_alternatives.proofs.choosing.choose.Goals as goal

pub returns-clause-chosen : goal.returns-clause-chosen
returns-clause-chosen g c = c.choose_by.ensures.holds

pub returns-clause-refused : goal.returns-clause-refused
returns-clause-refused g c = c.choose_by.ensures.refuses

pub returns-clause-set : goal.returns-clause-set
returns-clause-set g c = IfOk-weaker c.choose_by.result _ _ (λ x good. good.is_set) c.choose_by.ensures.good

pub returns-clause-target : goal.returns-clause-target
returns-clause-target g c = IfOk-weaker c.choose_by.result _ _ (λ x good. good.target) c.choose_by.ensures.good

pub returns-clause-leaves : goal.returns-clause-leaves
returns-clause-leaves g c = c.choose_by.ensures.leaves

pub returns-clause-project : goal.returns-clause-project
returns-clause-project g c = c.choose_by.ensures.project
