use Rattle.std.proofs.Common.{◌≡◌, ℕ, zero, suc, Bool, true, false, List, length, ◌⊎◌, inl, inr, refl, sym, ap, ap₂, subst, ◌∙◌, Some, map, option_map}
use Rattle.std.specs.List.{Contains}
use Rattle.b2_host.specs.declared.children.ChildEvent.{ChildEvent}
use Rattle.b2_host.specs.declared.children.ChildEvent.TheVariants.{Done}
use Rattle.b2_host.specs.Disks.{File, Disk, Past, Stood, bytes_at}
use Rattle.b2_plan.specs.declared.step.Step.{Step}
use Rattle.b2_plan.specs.Plans.{Makes, Apart}
use Rattle.b2_plan.specs.Sources.{Build}
use Rattle.b2_plan.specs.Closures.{Value, with_bytes}
use Rattle.b2_plan.specs.Cleans.{Val, Clean, value_of}
use Rattle.b2_log.specs.declared.line.LogLine.TheVariants as lines
use Rattle.b2_log.specs.declared.line.Record.{Record}
use Rattle.b2_log.specs.declared.line.Digests.{Digests}
use Rattle.b2_log.specs.Finding.{path_of}
use Rattle.b2_runs.specs.Logs.{Making, AreTrueDigests, IsTrueRecord}
use Rattle.b2_runs.specs.Staleness.{Update, making, NoneDone, AgreesByStamps, AgreesByDigests, Agrees, Agrees.by_stamps, Agrees.by_digests, IsFresh}
use Rattle.b2_runs.specs.Runs.{Settled, Settled.source, Settled.done_well, Settled.fresh, Needed.wanted}
use Rattle.b2_runs.specs.Outcomes.{AllWent}
use Rattle.b2_runs.specs.Soundness.{Holds, IsSound}
use Rattle.b2_runs.specs.EventLaws.{NoneIsShort}
use Rattle.b2_runs.specs.SettledLaws.{SettledIsClean, FreshIsClean, OutputsAreClean, WantedIsClean}
use Rattle.b2_runs.proofs.MakerIsOne.{maker_is_one}
use Rattle.b2_runs.proofs.CleanIsOne.{clean_is_one, clean_is_made}
use Rattle.b2_runs.proofs.LastLineIsFound.{found_is_there}
use Rattle.b2_runs.proofs.SameByStamp.{file_with, holds_same, with_bytes_in, same_held, stamp_of}
use Rattle.b2_runs.proofs.SameByDigest.{held_now, same_by_digest, out_by_digest}
use Rattle.b2_runs.proofs.SourcesAreKept.{source_clean, source_kept, unstarted_kept, value_file}

-- a record that agrees by stamps with members that stood at entry: so did what the text makes of them
bytes_by_stamps : (u : Update) (events : List ChildEvent) (disk : Disk) → IsSound u events disk → (step : Step) (members : List (List ℕ × Value)) (last : Record) → IsTrueRecord (making u) disk.past last → AgreesByStamps u events step members last
    → ((path : List ℕ) (value : Value) → Contains members (path, value) → Holds u.build.folder path value) → ((out : List ℕ) → Contains step.outs out → (file : File) × (u.build.folder out ≡ Some file))
    → (out : List ℕ) → Contains step.outs out → Holds u.build.folder out (Some (u.build.made step.text (with_bytes members) out))
bytes_by_stamps u events disk sound step members last told a hold stand out c =
    let same : told.held ≡ with_bytes members =
    same_held disk.past u.build.folder sound.keeps.one_each sound.entry_stood (with_bytes members) last.ins told.held (λ p x d. hold p (Some x) (with_bytes_in members p x d)) a.ins told.ins in
    let (stamp, there, has) = stamp_of u.build.folder step.outs last.outs a.outs out c in
    let (file, at) = stand out c in
    let stamp_is : file.stamp ≡ stamp = (let g : Some file.stamp ≡ Some stamp = ap (option_map (λ (x : File). x.stamp)) (sym at) ∙ has in cc) in
    let made = u.build.made last.text told.held out in
    let this : Stood disk.past out (record { stamp = file.stamp; bytes = made }) = subst (λ s. Stood disk.past out (record { stamp = s; bytes = made })) (sym stamp_is) (told.outs out stamp there) in
    let content : file.bytes ≡ made = sound.keeps.one_each out file.stamp file.bytes made (sound.entry_stood out file at) this in
    let all : file.bytes ≡ u.build.made step.text (with_bytes members) out = content ∙ ap₂ (λ t h. u.build.made t h out) a.text same in
    ap (option_map (λ (x : File). x.bytes)) at ∙ (λ i. Some (all i))

-- the digests that a true record has
digests_of : (m : Making) (past : List Past) (r : Record) (t : IsTrueRecord m past r) (d : Digests) → r.digests ≡ Some d → AreTrueDigests m r t.held (Some d)
digests_of m past r t d e = subst (AreTrueDigests m r t.held) e t.digests

-- a record that agrees by digests with members that stand now: at entry stood what the text makes of them
bytes_by_digests : (u : Update) (events : List ChildEvent) (disk : Disk) → IsSound u events disk → (step : Step) (members : List (List ℕ × Value)) (last : Record) → IsTrueRecord (making u) disk.past last → map path_of last.outs ≡ step.outs → u.by_digest ≡ true → AgreesByDigests u step members last
    → ((path : List ℕ) (value : Value) → Contains members (path, value) → Holds disk.now path value)
    → (out : List ℕ) → Contains step.outs out → Holds u.build.folder out (Some (u.build.made step.text (with_bytes members) out))
bytes_by_digests u events disk sound step members last told outs on a hold out c =
    let distinct = sound.distinct on in
    let (outs_are, ins_are) = digests_of (making u) disk.past last told a.digests a.has in
    let same : told.held ≡ with_bytes members =
    same_by_digest u.digest disk.past distinct (with_bytes members) last.ins told.held a.paths told.ins (sym ins_are ∙ a.ins)
    (λ p x d. held_now disk.past disk.now sound.keeps.stands p x (hold p (Some x) (with_bytes_in members p x d))) in
    let stood = out_by_digest u.digest disk.past u.build.folder (u.build.made last.text told.held) distinct sound.entry_stood step.outs last.outs a.digests.outs outs a.outs outs_are told.outs out c in
    let all = ap₂ (λ t h. u.build.made t h out) a.text same in
    stood ∙ (λ i. Some (all i))

-- A step that is fresh had the clean build's bytes at entry, where its members stand with theirs, and stood so at entry unless
-- a step that is done makes one of them.
fresh_bytes : (u : Update) (events : List ChildEvent) (disk : Disk) → IsSound u events disk → (step : Step) (members : List (List ℕ × Value))
    → IsFresh u events step members → (NoneDone u events members → (path : List ℕ) (value : Value) → Contains members (path, value) → Holds u.build.folder path value) → ((path : List ℕ) (value : Value) → Contains members (path, value) → Holds disk.now path value)
    → (out : List ℕ) → Contains step.outs out → Holds u.build.folder out (Some (u.build.made step.text (with_bytes members) out))
fresh_bytes u events disk sound step members f entry now out c = go f.recorded.agrees
  where
    found : Contains u.log (lines.Record f.recorded.last) × (map path_of f.recorded.last.outs ≡ step.outs)
    found = found_is_there step.outs u.log f.recorded.last f.recorded.found

    told : IsTrueRecord (making u) disk.past f.recorded.last
    told = sound.records_true f.not_all f.recorded.last found.0

    go : Agrees u events step members f.recorded.last → Holds u.build.folder out (Some (u.build.made step.text (with_bytes members) out))
    go (by_stamps a) = bytes_by_stamps u events disk sound step members f.recorded.last told a (entry a.none_done) f.stand out c
    go (by_digests on a) = bytes_by_digests u events disk sound step members f.recorded.last told found.1 on a now out c

-- What is settled has a value of the clean build, and stands so; and stood so at entry, where no step that is done makes it.
pub settled_whole : (u : Update) (events : List ChildEvent) (disk : Disk) → Apart u.build.steps u.build.roots → IsSound u events disk → (path : List ℕ) → Settled u events path
    → (value : Value) × Clean u.build path value × Holds disk.now path value × (((i : ℕ) (step : Step) (well : Bool) → Makes u.build.steps i step path → Contains events (Done i well) → ⊥) → Holds u.build.folder path value)
settled_whole u events disk apart sound path (source p bytes s) =
    (Some bytes, source_clean u.build apart p bytes s, holds_same u.build.folder disk.now p (Some bytes) (source_kept u events disk apart sound p bytes s) s.stands, λ none. s.stands)
settled_whole u events disk apart sound path (done_well i step p makes done) =
    let (value, clean, holds) = sound.done_well i step p makes done in
    (value, clean, holds, λ none. absurd (none i step true makes done))
settled_whole u events disk apart sound path (fresh i step p members makes not_started closure inside f) =
    let entry : NoneDone u events members → (m : List ℕ) (x : Value) → Contains members (m, x) → Holds u.build.folder m x = λ none m x c.
    let (y, clean, holds, before) = settled_whole u events disk apart sound m (inside m x c) in
    subst (Holds u.build.folder m) (clean_is_one u.build apart m y x clean (closure.each m x c).1) (before (λ k s well makes_m done. none m x k s well c makes_m done)) in
    let now : (m : List ℕ) (x : Value) → Contains members (m, x) → Holds disk.now m x = λ m x c.
    let (y, clean, holds, before) = settled_whole u events disk apart sound m (inside m x c) in
    subst (Holds disk.now m) (clean_is_one u.build apart m y x clean (closure.each m x c).1) holds in
    let stood = fresh_bytes u events disk sound step members f entry now p makes.among in
    let kept = unstarted_kept u events disk apart sound i step p makes not_started in
    let made = u.build.made step.text (with_bytes members) p in
    (Some made, subst (Clean u.build p) (value_file u.build step members p f.not_notfile) (clean_is_made u.build i step p members apart makes closure), holds_same u.build.folder disk.now p (Some made) kept stood, λ none. stood)

-- what is settled stands clean
pub settled_is_clean : SettledIsClean
settled_is_clean u events disk path apart sound settled =
    let (value, clean, holds, entry) = settled_whole u events disk apart sound path settled in
    (value, clean, holds)

-- a value by the clean build of what is settled stands
pub settled_holds : (u : Update) (events : List ChildEvent) (disk : Disk) → Apart u.build.steps u.build.roots → IsSound u events disk → (path : List ℕ) (value : Value) → Settled u events path → Clean u.build path value → Holds disk.now path value
settled_holds u events disk apart sound path value settled clean =
    let (x, is, holds) = settled_is_clean u events disk path apart sound settled in
    subst (Holds disk.now path) (clean_is_one u.build apart path x value is clean) holds

-- the outputs of a fresh step stand clean
pub fresh_is_clean : FreshIsClean
fresh_is_clean u events disk i step path members apart sound makes not_started closure inside f =
    let clean = clean_is_made u.build i step path members apart makes closure in
    (clean, settled_holds u events disk apart sound path (value_of u.build step members path) (fresh i step path members makes not_started closure inside f) clean)

-- an output that is asked for has bytes
pub out_bytes : (b : Build) → Apart b.steps b.roots → (n : ℕ) (i : ℕ) (step : Step) (path : List ℕ) (value : Value) → Makes b.steps i step path → step.notfile ≡ false → Val b n path value → (bytes : List ℕ) × (value ≡ Some bytes)
out_bytes b apart zero i step path value makes file (bytes, s, e) = (bytes, e)
out_bytes b apart (suc n) i step path value makes file (inl (bytes, s, e)) = (bytes, e)
out_bytes b apart (suc n) i step path value makes file (inr s) =
    let same : s.step ≡ step = maker_is_one b apart s.number i s.step step path s.makes makes in
    (b.made s.step.text (with_bytes s.members) path, s.is ∙ value_file b s.step s.members path (ap (λ (t : Step). t.notfile) same ∙ file))

-- an output that a step owes which was done well stands
pub none_is_short : NoneIsShort
none_is_short u events disk i step path apart sound makes file done =
    let (value, clean, holds) = sound.done_well i step path makes done in
    let (bytes, e) = out_bytes u.build apart (length u.build.steps) i step path value makes file clean in
    let (f, at, same) = file_with disk.now path bytes (subst (Holds disk.now path) e holds) in
    (f, at)

-- each settled output of a needed step stands clean
pub outputs_are_clean : OutputsAreClean
outputs_are_clean u events disk apart sound i step path needed makes settled file =
    let (value, clean, holds) = settled_is_clean u events disk path apart sound settled in
    let (bytes, e) = out_bytes u.build apart (length u.build.steps) i step path value makes file clean in
    (bytes, subst (Clean u.build path) e clean, subst (Holds disk.now path) e holds)

-- where all went well, each wanted file is settled
pub wanted_settled : (u : Update) (events : List ChildEvent) → AllWent u events → (path : List ℕ) → Contains u.build.wanted path → Settled u events path
wanted_settled u events went path c = elim (went.given path c) [
  | inl (bytes, s) ↦ source path bytes s
  | inr (i, step, makes) ↦ elim (went.none_stuck i (wanted i step path c makes)) [
    | inl done ↦ done step path makes
    | inr (inl bad) ↦ absurd (went.none_failed i bad)
    | inr (inr bad) ↦ absurd (went.none_skipped i bad)
  ]
]

-- and stands clean
pub wanted_is_clean : WantedIsClean
wanted_is_clean u events disk apart sound went path c = elim (went.given path c) [
  | inl (bytes, s) ↦ inl (bytes, source_clean u.build apart path bytes s, settled_holds u events disk apart sound path (Some bytes) (source path bytes s) (source_clean u.build apart path bytes s))
  | inr (i, step, makes) ↦ go i step makes step.notfile refl
]
  where
    go : (i : ℕ) (step : Step) → Makes u.build.steps i step path → (t : Bool) → step.notfile ≡ t
        → ((bytes : List ℕ) × Clean u.build path (Some bytes) × (bytes_at disk.now path ≡ Some bytes)) ⊎ ((k : ℕ) × (other : Step) × Makes u.build.steps k other path × (other.notfile ≡ true))
    go i step makes true e = inr (i, step, makes, e)
    go i step makes false e = inl (outputs_are_clean u events disk apart sound i step path (wanted i step path c makes) makes (wanted_settled u events went path c) e)
