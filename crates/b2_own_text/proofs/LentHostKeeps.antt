-- What a host keeps while it is lent.
use Rattle.std.proofs.Common.{◌≡◌, ◌≤◌, false, refl, sym, ap, ◌∙◌, subst}
use Rattle.std.specs.List.{Contains}
use Rattle.b2_host.specs.declared.children.ChildEvent.TheVariants as events
use Rattle.b2_host.specs.ChildProcesses.{Family, BothTold}
use Rattle.b2_host.specs.Outside.{Outside, Risks}
use Rattle.b2_host.specs.OutsideLaws.{Keeps, BeginsPast, keeps_same, keeps_then}
use Rattle.b2_own_text.specs.Lending.{HasKept}

-- what a call keeps
of_keeps : (entry now : Outside) → Keeps entry now → HasKept entry now
of_keeps entry now keeps = record {
  faults = keeps.faults;
  waits = keeps.waits;
  risks = keeps.risks;
  no_fault = keeps.no_fault;
  no_failed_wait = keeps.no_failed_wait;
}

pub kept_at_first : (entry now : Outside) → now ≡ entry → HasKept entry now
kept_at_first entry now same = of_keeps entry now (keeps_same entry now same)

-- where files and children are those of the moment, all is kept
pub all_is_kept : (entry now : Outside) → now.disk ≡ entry.disk → now.children ≡ entry.children → HasKept entry now → Keeps entry now
all_is_kept entry now disk children kept = record {
  faults = kept.faults;
  waits = kept.waits;
  files = subst (BothTold BeginsPast entry.disk) (sym disk) (keeps_same entry entry refl).files;
  risks = kept.risks;
  no_fault = kept.no_fault;
  no_failed_wait = kept.no_failed_wait;
  no_bad_end = λ none step. subst (λ (f : Family). Contains f.events (events.Done step false) → Contains entry.children.events (events.Done step false)) (sym children) (λ ended. ended);
}

pub kept_on : (entry before after : Outside) → before.disk ≡ entry.disk → before.children ≡ entry.children → HasKept entry before → Keeps before after → HasKept entry after
kept_on entry before after disk children kept more = of_keeps entry after (keeps_then entry before after (all_is_kept entry before disk children kept) more)
