use Rattle.std.proofs.Common.{◌≡◌, ℕ, Bool, true, List, sym, ◌∙◌, Some}
use Rattle.std.specs.List.{Contains}
use Rattle.b2_host.specs.declared.children.ChildEvent.{ChildEvent}
use Rattle.b2_host.specs.declared.children.ChildEvent.TheVariants.{Done}
use Rattle.b2_host.specs.Disks.{Folder, Disk}
use Rattle.b2_plan.specs.declared.step.Step.{Step}
use Rattle.b2_plan.specs.Plans.{Makes, Apart}
use Rattle.b2_plan.specs.Closures.{Value, with_bytes}
use Rattle.b2_log.specs.declared.line.LogLine.{LogLine}
use Rattle.b2_log.specs.Finding.{find_record}
use Rattle.b2_runs.specs.Staleness.{Update, NoneOlder, NoneDone, Agrees, Agrees.by_stamps, Agrees.by_digests, IsFresh, paths_with_bytes}
use Rattle.b2_runs.specs.Runs.{Settled, Settled.source, Settled.done_well, Settled.fresh}
use Rattle.b2_runs.specs.Soundness.{IsSound}
use Rattle.b2_runs.specs.Afterwards.{at_present}
use Rattle.b2_runs.specs.AfterLaws.{JudgedByPresent}
use Rattle.b2_runs.proofs.SameByStamp.{stamped_move, path_in_back, with_bytes_in}
use Rattle.b2_runs.proofs.SameByDigest.{digested_move}
use Rattle.b2_runs.proofs.SourcesAreKept.{source_kept, unstarted_kept}

pub none_older_move : (old new : Folder) (step : Step) (members : List (List ℕ × Value)) → ((out : List ℕ) → Contains step.outs out → new out ≡ old out) → ((member : List ℕ) (value : Value) → Contains members (member, value) → new member ≡ old member)
    → NoneOlder old step members → NoneOlder new step members
none_older_move old new step members outs ins n out m x p q co cm at_p at_q = n out m x p q co cm (sym (outs out co) ∙ at_p) (sym (ins m x cm) ∙ at_q)

-- a step is judged alike where its outputs stand as before, its members too unless a step that is done makes one, and the log
-- says the same of it
pub fresh_move : (u : Update) (events : List ChildEvent) (new : Folder) (later : List LogLine) (step : Step) (members : List (List ℕ × Value))
    → ((out : List ℕ) → Contains step.outs out → new out ≡ u.build.folder out)
    → (NoneDone u events members → (member : List ℕ) (value : Value) → Contains members (member, value) → new member ≡ u.build.folder member)
    → find_record step.outs later ≡ find_record step.outs u.log
    → IsFresh u events step members → IsFresh (at_present u new later) events step members
fresh_move u events new later step members outs ins says f = record {
  not_all = f.not_all;
  not_always = f.not_always;
  not_notfile = f.not_notfile;
  stand = λ out c. let (file, at) = f.stand out c in (file, outs out c ∙ at);
  none_older = λ off. none_older_move u.build.folder new step members outs (ins (f.none_done off)) (f.none_older off);
  none_notfile = f.none_notfile;
  none_done = f.none_done;
  recorded = record { last = f.recorded.last; found = says ∙ f.recorded.found; agrees = go f.recorded.agrees };
}
  where
    go : Agrees u events step members f.recorded.last → Agrees (at_present u new later) events step members f.recorded.last
    go (by_stamps a) = by_stamps (record {
      text = a.text;
      outs = stamped_move u.build.folder new step.outs f.recorded.last.outs outs a.outs;
      ins = stamped_move u.build.folder new (paths_with_bytes members) f.recorded.last.ins
          (λ p c. let (bytes, d) = path_in_back (with_bytes members) p c in ins a.none_done p (Some bytes) (with_bytes_in members p bytes d)) a.ins;
      none_done = a.none_done;
    })
    go (by_digests on a) = by_digests on (record {
      text = a.text;
      digests = a.digests;
      has = a.has;
      outs = digested_move u.digest u.build.folder new step.outs a.digests.outs outs a.outs;
      paths = a.paths;
      ins = a.ins;
    })

-- a settled path that no step which is done makes stands as at entry
pub settled_kept : (u : Update) (events : List ChildEvent) (disk : Disk) → Apart u.build.steps u.build.roots → IsSound u events disk → (path : List ℕ) → Settled u events path
    → ((i : ℕ) (step : Step) (well : Bool) → Makes u.build.steps i step path → Contains events (Done i well) → ⊥) → disk.now path ≡ u.build.folder path
settled_kept u events disk apart sound path (source p bytes s) none = source_kept u events disk apart sound p bytes s
settled_kept u events disk apart sound path (done_well i step p makes done) none = absurd (none i step true makes done)
settled_kept u events disk apart sound path (fresh i step p members makes not_started closure inside f) none = unstarted_kept u events disk apart sound i step p makes not_started

-- judging by the present files is judging by those at entry
pub judged_by_present : JudgedByPresent
judged_by_present u events disk log i step members apart sound says at not_started settled = (
  λ f. fresh_move (at_present u disk.now log) events u.build.folder u.log step members (λ out c. sym (out_same out c)) (λ none m x c. sym (in_same none m x c)) (sym says) f,
  λ f. fresh_move u events disk.now log step members out_same in_same says f,
)
  where
    out_same : (out : List ℕ) → Contains step.outs out → disk.now out ≡ u.build.folder out
    out_same out c = unstarted_kept u events disk apart sound i step out (record { at = at; among = c }) not_started

    in_same : NoneDone u events members → (member : List ℕ) (value : Value) → Contains members (member, value) → disk.now member ≡ u.build.folder member
    in_same none m x c = settled_kept u events disk apart sound m (settled m x c) (λ k s well makes done. none m x k s well c makes done)
