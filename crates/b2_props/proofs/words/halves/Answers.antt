use Rattle.std.proofs.Common.{subst}
use Rattle.std.proofs.lemmas.Str.Pattern.{IsSplitOnceResult}
use Rattle.b2_props.proofs.FirstFaultIsTheCause.{halves_of}
use Rattle.b2_props.proofs.words.halves.Goals as goal

pub returns : goal.returns
returns c = halves_of c.args.segment.now c.split_once.result (subst (λ t. IsSplitOnceResult 61 t c.split_once.result) c.as_str.ensures.value c.split_once.ensures.cases) c.as_str.ensures.no_zero
