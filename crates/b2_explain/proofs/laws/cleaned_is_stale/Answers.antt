use Rattle.b2_explain.proofs.CleanedIsStale.{cleaned_is_stale}
use Rattle.b2_explain.proofs.laws.cleaned_is_stale.Goals as goal

pub returns : goal.returns
returns c = cleaned_is_stale
