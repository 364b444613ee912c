-- In a run the members are what the step is known to read.
use Rattle.std.proofs.Common.{◌≡◌, inl, inr, ℕ, zero, suc, ◌<◌, true, false, List, [], length, Option, Some, None, option_map, if◌then◌else◌, refl, sym, ap, subst, ◌∙◌}
use Rattle.std.specs.List.{Contains}
use Rattle.std.proofs.lemmas.Option.{slice_get_within}
use Rattle.b2_host.specs.declared.children.ChildEvent.{ChildEvent}
use Rattle.b2_host.specs.declared.children.ChildEvent.TheVariants.{Done}
use Rattle.b2_host.specs.Disks.{File, Disk, bytes_at}
use Rattle.b2_host.specs.FileCalls.{stamp_at}
use Rattle.b2_plan.specs.declared.step.Step.{Step}
use Rattle.b2_plan.specs.Plans.{Makes, step_at}
use Rattle.b2_plan.specs.Sources.{Include, IsInRoots, IsSource, IsGiven, IsMissing, Includes}
use Rattle.b2_plan.specs.Closures.{Known, with_bytes, Known.input, Known.include as known_include}
use Rattle.b2_plan.specs.Cleans.{Val, Clean}
use Rattle.b2_runs.specs.Staleness.{Update}
use Rattle.b2_runs.specs.Runs.{Settled, Settled.source as settled_source, Settled.done_well, Settled.fresh, on_settled}
use Rattle.b2_runs.specs.Outcomes.{IsSettledStep}
use Rattle.b2_runs.specs.Soundness.{Holds}
use Rattle.b2_runs.specs.FileReads.{StandsWithLine}
use Rattle.b2_log.specs.declared.line.LogLine.{LogLine}
use Rattle.b2_reach.specs.Sightings.{AreLined}
use Rattle.b2_runs.proofs.FirstElementOrLater.{Contains_nil}
use Rattle.b2_runs.proofs.NumberHasOneStep.{one_step}
use Rattle.b2_runs.proofs.MakerIsOne.{source_not_made, maker_is_one}
use Rattle.b2_runs.proofs.SourcesAreKept.{source_clean}
use Rattle.b2_runs.proofs.OutputsAreClean.{settled_is_clean, settled_holds, out_bytes}
use Rattle.jam_scan.specs.Scans.{is_scanned}
use Rattle.jam_scan.specs.IncludeLines.{includes_of}
use Rattle.b2_sched.specs.Schedules.{IsSettled}
use Rattle.b2_facts.specs.declared.file_facts.FileFacts.{FileFacts}
use Rattle.b2_facts.specs.declared.file_facts.FileLook.TheVariants as seen
use Rattle.b2_facts.specs.Facts.{Knowledge, IsFile, IsPlanned, path_at, file_at, dirs_at}
use Rattle.b2_facts.specs.Truth.{IncludesFrom}
use Rattle.std.specs.Option.{IfSome}
use Rattle.b2_facts.specs.declared.fault.ReadFault.TheVariants as faults
use Rattle.b2_facts.specs.Asks.{IsTooBigFor, IsGivenBy, IsGivenBy.made as given_made, IsGivenBy.source as given_source, IsNotGivenBy}
use Rattle.b2_facts.proofs.ListsAtPlaces.{some_is, none_some, at_place}
use Rattle.b2_reach.specs.declared.reach.Reach.{Reach}
use Rattle.b2_reach.specs.Files.{IsAtHand, IsAtHand.source as hand_source, IsAtHand.made as hand_made}
use Rattle.b2_reach.specs.Reaches.{Reaches, Reaches.first, Reaches.include, IsNumberOf, IsDone.plain, IsDone.no_file, IsDone.gone, IsDone.found, IsTaken, IsTaken.waits, IsTaken.lacks, IsTaken.done, IsReachOf}
use Rattle.b2_reach.specs.Laws.{IsTrueInRun, IsAsFarInRun, MembersAreKnown, MembersAreAllKnown, LacksMissing, KnownHasLine, ReadIsKnown, TooBigIsKnown, StaysAsFar}
use Rattle.b2_reach.proofs.FoundMakerMakesPath.{maker_makes, none_makes}
use Rattle.b2_reach.proofs.ReachGrows.{has_file, has_path, was_file}
use Rattle.b2_reach.proofs.TruthIsKept.{no_stamp_no_bytes, seen_gone, seen_stands}

-- ---- one file

stamp_has_bytes : (o : Option File) (stamp : ℕ) → option_map (λ (x : File). x.stamp) o ≡ Some stamp → (bytes : List ℕ) × (option_map (λ (x : File). x.bytes) o ≡ Some bytes)
stamp_has_bytes None stamp e = absurd (none_some stamp e)
stamp_has_bytes (Some file) stamp e = (file.bytes, refl)

false_true : false ≡ true → ⊥
false_true e = let f : false ≡ true = e in cc

module _ (u : Update) (events : List ChildEvent) (disk : Disk) (settled : ℕ → Type 0) (f : Knowledge) (t : IsTrueInRun u events disk settled f) where
  planned : (n : ℕ) (path : List ℕ) (file : FileFacts) → IsFile f n path file → IsPlanned u.build.steps u.build.roots path file
  planned n path file is = t.about.planned n path file is

  made_by : (n : ℕ) (path : List ℕ) (file : FileFacts) (number : ℕ) → IsFile f n path file → file.maker ≡ Some number → (step : Step) × Makes u.build.steps number step path
  made_by n path file number is made = maker_makes u.build.steps path number (sym (planned n path file is).maker ∙ made)

  outside : (n : ℕ) (path : List ℕ) (file : FileFacts) → IsFile f n path file → file.rooted ≡ false → IsInRoots u.build.roots path → ⊥
  outside n path file is unrooted inside = let told : file.rooted ≡ true = (planned n path file is).rooted.1 inside in false_true (sym unrooted ∙ told)

  stands : (n : ℕ) (path : List ℕ) (file : FileFacts) (stamp : ℕ) → IsFile f n path file → file.seen ≡ seen.Stands stamp → (bytes : List ℕ) × (bytes_at disk.now path ≡ Some bytes)
  stands n path file stamp is seen_so = stamp_has_bytes (disk.now path) stamp (seen_stands file.seen stamp (stamp_at disk.now path) seen_so (t.facts.files n path file is).seen)

  gone_from : (n : ℕ) (path : List ℕ) (file : FileFacts) (bytes : List ℕ) → IsFile f n path file → file.seen ≡ seen.Gone → bytes_at disk.now path ≡ Some bytes → ⊥
  gone_from n path file bytes is seen_so at = no_stamp_no_bytes (disk.now path) bytes (seen_gone file.seen (stamp_at disk.now path) seen_so (t.facts.files n path file is).seen) at

  is_source : (n : ℕ) (path : List ℕ) (file : FileFacts) (bytes : List ℕ) → IsFile f n path file → file.rooted ≡ false → bytes_at disk.now path ≡ Some bytes → IsSource u.build path bytes
  is_source n path file bytes is unrooted at =
      let away = outside n path file is unrooted in
      record { outside = away; stands = ap (option_map (λ (x : File). x.bytes)) (sym (t.sources path away)) ∙ at }

  source_stands : (path bytes : List ℕ) → IsSource u.build path bytes → bytes_at disk.now path ≡ Some bytes
  source_stands path bytes s = ap (option_map (λ (x : File). x.bytes)) (t.sources path s.outside) ∙ s.stands

  -- a file that is given by what is known is given
  given_so : (n : ℕ) (path : List ℕ) (file : FileFacts) → IsFile f n path file → IsGivenBy file → IsGiven u.build path
  given_so n path file is (given_made number made) = let (step, makes) = made_by n path file number is made in inr (number, step, makes)
  given_so n path file is (given_source stamp unrooted seen_so) = let (bytes, at) = stands n path file stamp is seen_so in inl (bytes, is_source n path file bytes is unrooted at)

  hand_given : (file : FileFacts) → IsAtHand u.build.steps settled file → IsGivenBy file
  hand_given file (hand_source stamp unmade unrooted seen_so) = given_source stamp unrooted seen_so
  hand_given file (hand_made number owed is) = given_made number owed.made

  -- one that is not is missing
  missing_so : (n : ℕ) (path : List ℕ) (file : FileFacts) → IsFile f n path file → IsNotGivenBy file → IsMissing u.build path
  missing_so n path file is none given = elim given [
    | inl source ↦ (let (bytes, s) = source in elim none.no_source [
      | inl rooted ↦ s.outside ((planned n path file is).rooted.0 rooted)
      | inr away ↦ gone_from n path file bytes is away (source_stands path bytes s)
    ])
    | inr output ↦ (let (number, step, makes) = output in none_makes u.build.steps path (sym (planned n path file is).maker ∙ none.unmade) number step makes)
  ]

  settled_given : (path : List ℕ) → Settled u events path → IsGiven u.build path
  settled_given path (settled_source p bytes s) = inl (bytes, s)
  settled_given path (done_well i step p makes ended) = inr (i, step, makes)
  settled_given path (fresh i step p members makes not_started closure inside is) = inr (i, step, makes)

  -- a step of which one output is settled is settled
  step_settles : (path : List ℕ) (k : ℕ) (step : Step) → Settled u events path → Makes u.build.steps k step path → IsSettledStep u events k
  step_settles path k step (settled_source p bytes s) makes other q among = absurd (source_not_made u.build t.apart p bytes s k step makes)
  step_settles path k step (done_well i by p by_makes ended) makes other q among =
      done_well k other q among (subst (λ j. Contains events (Done j true)) (t.apart.one_maker i k by step p by_makes makes) ended)
  step_settles path k step (fresh i by p members by_makes not_started closure inside is) makes other q among =
      let same : other ≡ by = one_step u.build.steps k other by among.at (subst (λ j. step_at u.build.steps j ≡ Some by) (t.apart.one_maker i k by step p by_makes makes) by_makes.at) in
      fresh i by q members (record { at = by_makes.at; among = subst (λ (s : Step). Contains s.outs q) same among.among }) not_started closure inside is

  -- a file at hand is settled with the bytes that stand
  at_hand_settled : (n : ℕ) (path : List ℕ) (file : FileFacts) (bytes : List ℕ) → IsFile f n path file → IsAtHand u.build.steps settled file → bytes_at disk.now path ≡ Some bytes → on_settled u events path (Some bytes)
  at_hand_settled n path file bytes is (hand_source stamp unmade unrooted seen_so) at =
      let s = is_source n path file bytes is unrooted at in
      (settled_source path bytes s, source_clean u.build t.apart path bytes s)
  at_hand_settled n path file bytes is (hand_made number owed so) at =
      let (step, makes) = made_by n path file number is owed.made in
      let is_settled : Settled u events path = t.so number so step path makes in
      let (value, clean, holds) = settled_is_clean u events disk path t.apart t.sound is_settled in
      let same : owed.step ≡ step = one_step u.build.steps number owed.step step owed.at makes.at in
      let file_owed : step.notfile ≡ false = ap (λ (s : Step). s.notfile) (sym same) ∙ owed.owes in
      let (had, value_is) = out_bytes u.build t.apart (length u.build.steps) number step path value makes file_owed clean in
      let bytes_are : had ≡ bytes = some_is had bytes (sym (subst (Holds disk.now path) value_is holds) ∙ at) in
      (is_settled, subst (λ b. Clean u.build path (Some b)) bytes_are (subst (Clean u.build path) value_is clean))

  -- an output of a step that owes none has no bytes
  no_bytes : (rounds : ℕ) (path bytes : List ℕ) (k : ℕ) (step : Step) → Makes u.build.steps k step path → step.notfile ≡ true → Val u.build rounds path (Some bytes) → ⊥
  no_bytes zero path bytes k step makes none (had, s, e) = source_not_made u.build t.apart path had s k step makes
  no_bytes (suc rounds) path bytes k step makes none (inl (had, s, e)) = source_not_made u.build t.apart path had s k step makes
  no_bytes (suc rounds) path bytes k step makes none (inr built) =
      let same : built.step ≡ step = maker_is_one u.build t.apart built.number k built.step step path built.makes makes in
      let file : built.step.notfile ≡ true = ap (λ (s : Step). s.notfile) same ∙ none in
      none_some bytes (sym (built.is ∙ ap (λ b. if b then None else Some (u.build.made built.step.text (with_bytes built.members) path)) file))

  -- ---- members are known

  includes_so : (step : Step) (path bytes found_at : List ℕ) → IncludesFrom u.build step.dirs path bytes found_at → Includes u.build step path bytes found_at
  includes_so step path bytes found_at i = record { include = i.include; listed = i.listed; first = i.first }

  reached_known : (step : Step) (list : ℕ) → dirs_at f list ≡ Some step.dirs → (n : ℕ) (path : List ℕ) → Reaches u.build.steps settled f list (IsNumberOf f step.ins) n → path_at f n ≡ Some path → Known u.build (on_settled u events) step path
  reached_known step list dirs m path (first n is) at = input path (subst (Contains step.ins) (some_is is.path path (sym is.path_is ∙ at)) is.among)
  reached_known step list dirs j path (include n m file from known hand target) at =
      let (p, p_at) = has_path u.build.steps u.build.roots f n file t.about known in
      let told = t.facts.found list n p step.dirs target.targets p_at dirs target.found in
      let (q, q_at, includes) = told.each m target.among in
      let same : q ≡ path = some_is q path (sym q_at ∙ at) in
      known_include p told.bytes path (reached_known step list dirs n p from p_at)
      (at_hand_settled n p file told.bytes (record { path_is = p_at; file_is = known }) hand told.stands)
      (includes_so step p told.bytes path (subst (IncludesFrom u.build step.dirs p told.bytes) same includes))

  -- ---- what is known is a member

  module _ (step : Step) (r : Reach) (is : IsReachOf u.build.steps settled step f r) (far : IsAsFarInRun u events f r) where
    -- how a member was taken
    taken_so : (n : ℕ) → Contains r.members n → (file : FileFacts) × (file_at f n ≡ Some file) × IsTaken u.build.steps settled f r n file
    taken_so n among =
        let order = is.in_order in
        let (file, known) = has_file u.build.steps u.build.roots f n t.about (order.numbered n among) in
        let (place, at) = at_place r.members n among in
        let low : place < r.done = subst (λ k. place < k) (sym far.whole) (slice_get_within r.members place n at) in
        (file, known, order.taken place n file low at known)

    -- the includes of a member that is settled are members
    includes_in : (n : ℕ) (path bytes other : List ℕ) (file : FileFacts) → IsFile f n path file → IsTaken u.build.steps settled f r n file → on_settled u events path (Some bytes) → Includes u.build step path bytes other → (m : ℕ) × Contains r.members m × (path_at f m ≡ Some other)
    includes_in n path bytes other file at (waits among) v i =
        let wait = is.in_order.waiting n file among at.file_is in
        let (by, makes) = made_by n path file wait.number at wait.owed.made in
        absurd (far.waiting n wait.number file among at.file_is wait.owed.made (step_settles path wait.number by v.0 makes))
    includes_in n path bytes other file at (lacks told none) v i = absurd (missing_so n path file at none (settled_given path v.0))
    includes_in n path bytes other file at (done (plain given unscanned)) v i =
        let plainly : is_scanned path ≡ false = sym (planned n path file at).scanned ∙ unscanned in
        let empty : u.build.inc path bytes ≡ [] = ap (λ (scan : List ℕ → List ℕ → List Include). scan path bytes) t.update.build.inc ∙ ap (λ b. if b then includes_of bytes else []) plainly in
        absurd (Contains_nil i.include (subst (λ l. Contains l i.include) empty i.listed))
    includes_in n path bytes other file at (done (no_file none)) v i =
        let (by, makes) = made_by n path file none.number at none.made in
        let same : none.step ≡ by = one_step u.build.steps none.number none.step by none.at makes.at in
        absurd (no_bytes (length u.build.steps) path bytes none.number by makes (ap (λ (s : Step). s.notfile) (sym same) ∙ none.notfile) v.1)
    includes_in n path bytes other file at (done (gone hand so)) v i = absurd (gone_from n path file bytes at so (settled_holds u events disk t.apart t.sound path (Some bytes) v.0 v.1))
    includes_in n path bytes other file at (done (found targets hand so within)) v i =
        let told = t.facts.found r.list n path step.dirs targets at.path_is is.of_step.dirs so in
        let same : told.bytes ≡ bytes = some_is told.bytes bytes (sym told.stands ∙ settled_holds u events disk t.apart t.sound path (Some bytes) v.0 v.1) in
        let from : IncludesFrom u.build step.dirs path bytes other = record { include = i.include; listed = i.listed; first = i.first } in
        let (m, among, m_at) = told.whole other (subst (λ b. IncludesFrom u.build step.dirs path b other) (sym same) from) in
        (m, within m among, m_at)

    known_member : (path : List ℕ) → Known u.build (on_settled u events) step path → (n : ℕ) × Contains r.members n × (path_at f n ≡ Some path)
    known_member path (input p among) = is.of_step.ins p among
    known_member path (known_include p bytes other known v i) =
        let (n, among, at) = known_member p known in
        let (file, known_file, taken) = taken_so n among in
        includes_in n p bytes other file (record { path_is = at; file_is = known_file }) taken v i

    -- a member with bytes that is scanned has its scan line
    line_of : (log : List LogLine) → AreLined f log → (n : ℕ) (path bytes : List ℕ) (file : FileFacts) → IsFile f n path file → IsTaken u.build.steps settled f r n file → is_scanned path ≡ true → on_settled u events path (Some bytes) → (stamp : ℕ) × StandsWithLine u events disk.now log path stamp
    line_of log lined n path bytes file at (waits among) scanned v =
        let wait = is.in_order.waiting n file among at.file_is in
        let (by, makes) = made_by n path file wait.number at wait.owed.made in
        absurd (far.waiting n wait.number file among at.file_is wait.owed.made (step_settles path wait.number by v.0 makes))
    line_of log lined n path bytes file at (lacks told none) scanned v = absurd (missing_so n path file at none (settled_given path v.0))
    line_of log lined n path bytes file at (done (plain given unscanned)) scanned v = absurd (false_true (sym unscanned ∙ (planned n path file at).scanned ∙ scanned))
    line_of log lined n path bytes file at (done (no_file none)) scanned v =
        let (by, makes) = made_by n path file none.number at none.made in
        let same : none.step ≡ by = one_step u.build.steps none.number none.step by none.at makes.at in
        absurd (no_bytes (length u.build.steps) path bytes none.number by makes (ap (λ (s : Step). s.notfile) (sym same) ∙ none.notfile) v.1)
    line_of log lined n path bytes file at (done (gone hand so)) scanned v = absurd (gone_from n path file bytes at so (settled_holds u events disk t.apart t.sound path (Some bytes) v.0 v.1))
    line_of log lined n path bytes file at (done (found targets hand so within)) scanned v =
        let h = lined n path file at ((t.about.found r.list n targets so).read file at.file_is) in
        (h.stamp, record { settled = v.0; stands = seen_stands file.seen h.stamp (stamp_at disk.now path) h.stands (t.facts.files n path file at).seen; line = h.line; found = h.found })

    -- a missing member was told to lack
    lack_told : (n : ℕ) (path : List ℕ) (file : FileFacts) → IsFile f n path file → IsTaken u.build.steps settled f r n file → IsMissing u.build path → r.lacks ≡ true
    lack_told n path file at (waits among) missing =
        let wait = is.in_order.waiting n file among at.file_is in
        absurd (missing (given_so n path file at (given_made wait.number wait.owed.made)))
    lack_told n path file at (lacks told none) missing = told
    lack_told n path file at (done (plain given unscanned)) missing = absurd (missing (given_so n path file at given))
    lack_told n path file at (done (no_file none)) missing = absurd (missing (given_so n path file at (given_made none.number none.made)))
    lack_told n path file at (done (gone hand so)) missing = absurd (missing (given_so n path file at (hand_given file hand)))
    lack_told n path file at (done (found targets hand so within)) missing = absurd (missing (given_so n path file at (hand_given file hand)))

-- ---- the laws

pub members_are_known : MembersAreKnown
members_are_known u events disk s step f r t is n path among at = reached_known u events disk (IsSettled s) f t step r.list is.of_step.dirs n path (is.of_step.each n among) at

pub members_are_all_known : MembersAreAllKnown
members_are_all_known u events disk s step f r t is far path = (
  λ known. known_member u events disk (IsSettled s) f t step r is far path known,
  λ member. let (n, among, at) = member in members_are_known u events disk s step f r t is n path among at,
)

pub lacks_missing : LacksMissing
lacks_missing u events disk s step f r t is far = (
  λ told.
      (let (n, missing) = is.in_order.lacks told in
      let (path, at) = has_path u.build.steps u.build.roots f n missing.file t.about missing.file_is in
      (path, members_are_known u events disk s step f r t is n path missing.among at, missing_so u events disk (IsSettled s) f t n path missing.file (record { path_is = at; file_is = missing.file_is }) missing.missing)),
  λ lack.
      (let (path, known, missing) = lack in
      let (n, among, at) = known_member u events disk (IsSettled s) f t step r is far path known in
      let (file, known_file, taken) = taken_so u events disk (IsSettled s) f t step r is far n among in
      lack_told u events disk (IsSettled s) f t step r is far n path file (record { path_is = at; file_is = known_file }) taken missing),
)

pub known_has_line : KnownHasLine
known_has_line u events disk s step f r t is far log path bytes lined known scanned v =
    let (n, among, at) = known_member u events disk (IsSettled s) f t step r is far path known in
    let (file, known_file, taken) = taken_so u events disk (IsSettled s) f t step r is far n among in
    line_of u events disk (IsSettled s) f t step r is far log lined n path bytes file (record { path_is = at; file_is = known_file }) taken scanned v

pub read_is_known : ReadIsKnown
read_is_known u events disk s step f r t is log path stamp read =
    let at = read.is_file in
    let told = t.facts.files read.number path read.file at in
    let (bytes, has) = stands u events disk (IsSettled s) f t read.number path read.file stamp at read.stands in (
      members_are_known u events disk s step f r t is read.number path read.among at.path_is,
      sym (t.about.planned read.number path read.file at).scanned ∙ read.scanned,
      seen_stands read.file.seen stamp (stamp_at disk.now path) read.stands told.seen,
      (bytes, at_hand_settled u events disk (IsSettled s) f t read.number path read.file bytes at read.at_hand has),
    )

pub too_big_is_known : TooBigIsKnown
too_big_is_known u events disk s step f r number size after true_so is told e =
    let (bytes, has, many, more) = subst (λ o. IfSome o (λ d. IsTooBigFor 16777216 told.path d.now (faults.TooBig size))) e told.told in (
      members_are_known u events disk s step f r true_so is number told.path told.among told.is_file.path_is,
      sym (true_so.about.planned number told.path told.file told.is_file).scanned ∙ told.scanned,
      (bytes, at_hand_settled u events disk (IsSettled s) f true_so number told.path told.file bytes told.is_file told.at_hand has, many, more),
    )

pub stays_as_far : StaysAsFar
stays_as_far u before after s step f g r about is grown far stays = record {
  whole = far.whole;
  waiting = λ n number later among known made settles.
      (let order = is.in_order in
      let (file, was) = has_file u.build.steps u.build.roots f n about (order.numbered n (order.pending n among)) in
      let grows = was_file f g n file later grown was known in
      far.waiting n number file among was (sym grows.maker ∙ made) (stays n number later among known made settles));
}
