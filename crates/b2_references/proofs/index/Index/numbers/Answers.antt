use Rattle.std.proofs.Common.{◌<◌, ◌∙◌, All, sym, subst, length}
use Rattle.b2_references.specs.Names.{numbers}
use Rattle.b2_references.proofs.EntriesGrowByOneTarget.{numbers_within, some_is, none_is}
use Rattle.b2_references.proofs.index.Index.numbers.Goals as goal

pub returns-in-None-clause-exact : goal.returns-in-None-clause-exact
returns-in-None-clause-exact c = sym (none_is (numbers c.args.self.now (c.args.project, c.args.name.now)) c.in-None.ensures)

pub returns-in-Some-clause-exact : goal.returns-in-Some-clause-exact
returns-in-Some-clause-exact c = c.as_slice.ensures ∙ some_is c.in-Some.numbers.now (numbers c.args.self.now (c.args.project, c.args.name.now)) c.in-Some.ensures

pub returns-in-Some-clause-within : goal.returns-in-Some-clause-within
unfolding numbers
returns-in-Some-clause-within c =
    subst (All (λ n. n < length c.args.self.now.targets)) (sym (c.as_slice.ensures ∙ some_is c.in-Some.numbers.now (numbers c.args.self.now (c.args.project, c.args.name.now)) c.in-Some.ensures))
    (numbers_within (c.args.project, c.args.name.now) c.args.self.now.targets)
