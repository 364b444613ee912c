use Rattle.std.proofs.Common.{subst}
use Rattle.jam_expand.specs.Limits.{IsGivenBy}
use Rattle.jam_expand.proofs.PlainWordsExpandToThemselves.{word_is_itself}
use Rattle.jam_expand.proofs.expand.expand.Goals as goal

pub returns-clause-itself : goal.returns-clause-itself
returns-clause-itself g c = λ all. subst (IsGivenBy c.expanded.result) (word_is_itself (g.L.Look.answer c.args.look.now) c.args.word.now all) c.expanded.ensures
