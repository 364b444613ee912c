use Rattle.std.proofs.Common.{◌≡◌, ◌++◌, is_some, subst}
use Rattle.std.specs.Prelude.{OnOk}
use Rattle.std.specs.FinMap.{get}
use Rattle.b2_references.proofs.ListedAreNotExplicit.{listed}
use Rattle.b2_references.proofs.projects.push_listed.Goals as goal

pub returns : goal.returns
returns c =
    subst (λ xs. OnOk c.push_others.result (c.push_others.new.made ≡ c.args.made.now ++ xs))
    (listed c.args.index.now c.args.project c.names.result.now c.explicit_of.result.now (λ name. is_some (get c.in_ok-explicit.explicit name)) c.explicit_of.ensures c.names.ensures c.in_ok-explicit.ensures) c.push_others.ensures
