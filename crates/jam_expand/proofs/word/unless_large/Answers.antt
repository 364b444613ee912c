use Rattle.std.proofs.Common.{[], refl}
use Rattle.jam_expand.proofs.PlainWordsExpandToThemselves.{nothing_within, same_within}
use Rattle.jam_expand.proofs.word.unless_large.Goals as goal

pub returns : goal.returns
returns c = same_within c.args.texts.now c.in-Ok._sum (c.in-Ok.ensures.sum [] [] nothing_within refl)
