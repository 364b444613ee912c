use Rattle.std.proofs.Common.{◌≡◌, IfOk, List, ℕ, ◌∙◌, sym, subst}
use Rattle.b2_virtual.proofs.PlainPathsStayAsTheyAre.{tail_in_folder}
use Rattle.b2_virtual.proofs.paths.tail_here.Goals as goal

pub returns : goal.returns
returns c =
    subst (λ (t : List ℕ). IfOk c.path_of.result (λ made. made ≡ t)) (sym (tail_in_folder c.args.name.now (sym c.is_rooted.ensures ∙ c.if-is_rooted.false))) c.path_of.ensures
