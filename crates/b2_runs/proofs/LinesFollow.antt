use Rattle.std.proofs.Common.{ℕ, Bool, List, [], ◌∷◌, ◌++◌, refl, sym, ap, ◌∙◌, append_assoc, append-nil}
use Rattle.std.proofs.lemmas.List.Concat.{flat_map-append}
use Rattle.b2_host.specs.declared.children.ChildEvent.{ChildEvent}
use Rattle.b2_host.specs.declared.children.ChildEvent.TheVariants.{Done}
use Rattle.b2_runs.specs.Reports.{start_text, event_line, AreEnds}
use Rattle.b2_base.specs.Lists.{first_of}
use Rattle.b2_runs.specs.ReportLaws.{UnnamedStartsSilently, LinesFollow, AllIsTold, ToldThroughEnds, StoppedAtLine, StoppedThroughEnds}

pub unnamed_starts_silently : UnnamedStartsSilently
unnamed_starts_silently step none = ap (λ (name : List ℕ). start_text name (first_of step.outs)) none

pub lines_follow : LinesFollow
lines_follow steps front rest = flat_map-append (event_line steps) front rest

pub all_is_told : AllIsTold
all_is_told steps events = record { front = events; rest = []; whole = sym (append-nil events); only_ends = tt; lines = refl }

-- one end more
more_ends : (events : List ChildEvent) (i : ℕ) (well : Bool) → AreEnds events → AreEnds (events ++ Done i well ∷ [])
more_ends [] i well each = (refl, tt)
more_ends (x ∷ xs) i well each = (each.0, more_ends xs i well each.1)

pub told_through_ends : ToldThroughEnds
told_through_ends steps events written i well t = record {
  front = t.front;
  rest = t.rest ++ Done i well ∷ [];
  whole = ap (λ (l : List ChildEvent). l ++ Done i well ∷ []) t.whole ∙ append_assoc t.front t.rest (Done i well ∷ []);
  only_ends = more_ends t.rest i well t.only_ends;
  lines = t.lines;
}

pub stopped_at_line : StoppedAtLine
stopped_at_line steps events event part has begins = record { front = events; event = event; rest = []; whole = refl; only_ends = tt; has_line = has; part = part; begins = begins; lines = refl }

pub stopped_through_ends : StoppedThroughEnds
stopped_through_ends steps events written i well t = record {
  front = t.front;
  event = t.event;
  rest = t.rest ++ Done i well ∷ [];
  whole = ap (λ (l : List ChildEvent). l ++ Done i well ∷ []) t.whole ∙ append_assoc t.front (t.event ∷ t.rest) (Done i well ∷ []);
  only_ends = more_ends t.rest i well t.only_ends;
  has_line = t.has_line;
  part = t.part;
  begins = t.begins;
  lines = t.lines;
}
