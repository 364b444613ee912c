use Rattle.b2_source_laws.proofs.NextBuildsAnew.{next_after_cleaning}
use Rattle.b2_source_laws.proofs.after_cleaning.next_after_cleaning.Goals as goal

pub returns : goal.returns
returns c = next_after_cleaning c.one_meaning.ensures c.meaning_is_apart.ensures c.cleaned_is_stale.ensures
