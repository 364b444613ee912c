-- A verdict by true facts is that of the update, and a record that is made by them is the one that is appended.
use Rattle.std.proofs.Common.{◌≡◌, ◌⊎◌, inl, inr, ℕ, ◌<◌, Bool, true, false, List, Option, Some, None, length, get_or, refl, sym, ap, subst, ◌∙◌, arith}
use Rattle.std.specs.List.{Contains}
use Rattle.std.proofs.lemmas.Bool.{true≢false}
use Rattle.b2_host.specs.declared.children.ChildEvent.{ChildEvent}
use Rattle.b2_host.specs.Disks.{File, Folder, Disk, bytes_at}
use Rattle.b2_plan.specs.declared.step.Step.{Step}
use Rattle.b2_plan.specs.Plans.{Makes}
use Rattle.b2_plan.specs.Sources.{Build}
use Rattle.b2_plan.specs.Closures.{Value, with_bytes}
use Rattle.b2_log.specs.declared.line.Record.{Record}
use Rattle.b2_log.specs.declared.line.Digests.{Digests}
use Rattle.b2_log.specs.Finding.{find_record}
use Rattle.b2_runs.specs.Staleness.{Update, AreStamped, AreDigested, paths_with_bytes, NoneOlder as NoneOlderNow, NoneDone, AgreesByStamps, AgreesByDigests, Agrees, Agrees.by_stamps, Agrees.by_digests, IsFresh, StalePoint, StalePoint.runs_all, StalePoint.is_always, StalePoint.is_notfile, StalePoint.lacks, StalePoint.is_older, StalePoint.from_notfile, StalePoint.is_done, StalePoint.unrecorded}
use Rattle.b2_runs.specs.Records.{HasDigestsOf}
use Rattle.b2_runs.proofs.SameByStamp.{stamped_file, with_bytes_in as with_bytes_out}
use Rattle.b2_facts.specs.Facts.{Knowledge, path_at}
use Rattle.b2_facts.specs.Truth.{AreTrue}
use Rattle.b2_facts.proofs.ListsAtPlaces.{some_is, none_some, among_at}
use Rattle.b2_verdicts.specs.declared.point.Point.{Point}
use Rattle.b2_verdicts.specs.declared.point.Point.TheVariants as points
use Rattle.b2_verdicts.specs.declared.step_numbers.StepNumbers.{StepNumbers}
use Rattle.b2_verdicts.specs.Sights.{AllAsked, AllStand}
use Rattle.b2_verdicts.specs.Stamps.{NoneOlder, IsFirstOlder, AreLogged}
use Rattle.b2_verdicts.specs.Points.{HasText, IsDisagreement, HasOutputs, IsUpToDate, IsLacking, IsByStamps, IsSaved, IsNotSaved, IsNotSaved.other_text, IsNotSaved.no_digests, IsNotSaved.other_outs, IsNotSaved.other_ins, IsNotSaved.out_differs, IsNotSaved.in_differs, IsSavedBy, IsNotSavedBy, IsOpenToDigests, IsByDigests, IsPointBy}
use Rattle.b2_verdicts.specs.Made.{HasDigestsBy}
use Rattle.b2_verdicts.specs.Cases.{AreNumbersOf, IsNotfileTold, IsDoneMember, IsDoneTold, IsCase, Tells}
use Rattle.b2_verdicts.specs.Laws.{VerdictTells, MadeIsRecord}
use Rattle.b2_verdicts.proofs.WhatIsKnownStays.{standing_asked, stands_asked}
use Rattle.b2_verdicts.proofs.TrueFactsTell.{Names, stamp_tells, no_file, file_stamp, name_forth, name_among, logged_stand, other_stand, digests_stand, other_digest, paths_named, named_paths, path_among, bytes_among, digests_of_members, members_digested}

-- A step is judged in an update by facts that are true of the files that it is said of.
record Judging (u : Update) (events : List ChildEvent) (step : Step) (members : List (List ℕ × Value)) (numbers : StepNumbers) (last : Option Record) (b : Build) (g : Knowledge) : Type 0 where
  of : IsCase u events step members numbers last g
  holds : AreTrue b u.build.folder g

-- ---- files

-- an output that was seen to stand does
out_stands : (b : Build) (now : Folder) (g : Knowledge) (outs : List ℕ) (paths : List (List ℕ)) → AreTrue b now g → Names g outs paths → AllStand g outs → (out : List ℕ) → Contains paths out → (file : File) × (now out ≡ Some file)
out_stands b now g outs paths holds names stand out among =
    let (k, within, name) = name_among g outs paths out names among in
    let (stamp, e) = stand k within in
    let (file, at, is) = stamped_file now out stamp (stamp_tells b now g (get_or outs k 0) out holds name (standing_asked g (get_or outs k 0) stamp e) ∙ e) in
    (file, at)

-- no output is older than a member, where each member has bytes
older_none : (b : Build) (now : Folder) (g : Knowledge) (step : Step) (members : List (List ℕ × Value)) (numbers : StepNumbers) → AreTrue b now g → AreNumbersOf step members g numbers → ((member : List ℕ) → Contains members (member, None) → ⊥)
    → AllStand g numbers.outs → AllAsked g numbers.ins → NoneOlder g numbers.outs numbers.ins → NoneOlderNow now step members
older_none b now g step members numbers holds named bare stand asked none out member None written read co cm at_out at_member = absurd (bare member cm)
older_none b now g step members numbers holds named bare stand asked none out member (Some bytes) written read co cm at_out at_member =
    let (k, k_within, k_name) = name_among g numbers.outs step.outs out named.outs co in
    let (m, m_within, m_name) = name_among g numbers.ins (paths_with_bytes members) member named.ins (path_among members member bytes cm) in
    none k k_within written.stamp (sym (stamp_tells b now g (get_or numbers.outs k 0) out holds k_name (stands_asked g numbers.outs stand k k_within)) ∙ file_stamp now out written at_out)
    m m_within read.stamp (sym (stamp_tells b now g (get_or numbers.ins m 0) member holds m_name (asked m m_within)) ∙ file_stamp now member read at_member)

-- a member of a list at a place
path_at_place : (g : Knowledge) (ns : List ℕ) (paths : List (List ℕ)) (k : ℕ) → Names g ns paths → k < length ns → (path : List ℕ) × Contains paths path × (path_at g (get_or ns k 0) ≡ Some path)
path_at_place g ns paths k names within = let (path, at, name) = name_forth g ns paths k names within in (path, among_at paths k path at, name)

-- ---- the last record by stamps

agrees_stamps : (u : Update) (events : List ChildEvent) (step : Step) (members : List (List ℕ × Value)) (numbers : StepNumbers) (last : Option Record) (b : Build) (g : Knowledge) → Judging u events step members numbers last b g
    → numbers.done ≡ None → (found : Record) → HasText step last found → AreLogged g found.outs numbers.outs → AreLogged g found.ins numbers.ins → AgreesByStamps u events step members found
agrees_stamps u events step members numbers last b g j undone found text outs ins = record {
  text = text.text;
  outs = logged_stand b u.build.folder g numbers.outs step.outs found.outs j.holds j.of.named.outs outs;
  ins = logged_stand b u.build.folder g numbers.ins (paths_with_bytes members) found.ins j.holds j.of.named.ins ins;
  none_done = subst (IsDoneTold u events members g) undone j.of.done;
}

-- a member is an output of a step that is done
done_member : (u : Update) (events : List ChildEvent) (members : List (List ℕ × Value)) (g : Knowledge) (n : ℕ) → IsDoneTold u events members g (Some n) → (member : List ℕ) × IsDoneMember u events members member
done_member u events members g n (member, name, is) = (member, is)

-- where the last record does not agree by stamps, it does not
disagrees : (u : Update) (events : List ChildEvent) (step : Step) (members : List (List ℕ × Value)) (numbers : StepNumbers) (last : Option Record) (b : Build) (g : Knowledge) → Judging u events step members numbers last b g
    → AllAsked g numbers.outs → AllAsked g numbers.ins → (point : Point) → IsDisagreement step numbers last g (Some point) → (r : Record) → last ≡ Some r → AgreesByStamps u events step members r → ⊥
disagrees u events step members numbers last b g j asked_outs asked_ins points.All d r e a = d
disagrees u events step members numbers last b g j asked_outs asked_ins points.Always d r e a = d
disagrees u events step members numbers last b g j asked_outs asked_ins points.Notfile d r e a = d
disagrees u events step members numbers last b g j asked_outs asked_ins (points.Lacks out) d r e a = d
disagrees u events step members numbers last b g j asked_outs asked_ins (points.Older out member) d r e a = d
disagrees u events step members numbers last b g j asked_outs asked_ins (points.FromNotfile member) d r e a = d
disagrees u events step members numbers last b g j asked_outs asked_ins (points.Done n) d r e a =
    let (member, is) = done_member u events members g n (subst (IsDoneTold u events members g) d j.of.done) in
    a.none_done member is.value is.number is.maker is.well is.among is.makes is.done
disagrees u events step members numbers last b g j asked_outs asked_ins points.NoRecord (undone, none) r e a = none_some r (sym none ∙ e)
disagrees u events step members numbers last b g j asked_outs asked_ins points.Text (undone, found, is, other) r e a = other (ap (λ (x : Record). x.text) (some_is found r (sym is ∙ e)) ∙ a.text)
disagrees u events step members numbers last b g j asked_outs asked_ins (points.Outputs place) (undone, found, text, other) r e a =
    let same : r ≡ found = some_is r found (sym e ∙ text.is) in
    other_stand b u.build.folder g numbers.outs step.outs found.outs place j.holds j.of.named.outs asked_outs other (subst (λ (x : Record). AreStamped u.build.folder step.outs x.outs) same a.outs)
disagrees u events step members numbers last b g j asked_outs asked_ins (points.Inputs place) (undone, found, text, outs, other) r e a =
    let same : r ≡ found = some_is r found (sym e ∙ text.is) in
    other_stand b u.build.folder g numbers.ins (paths_with_bytes members) found.ins place j.holds j.of.named.ins asked_ins other (subst (λ (x : Record). AreStamped u.build.folder (paths_with_bytes members) x.ins) same a.ins)

-- ---- the last record by digests

-- each member that has bytes stands with them
members_stand : (u : Update) (events : List ChildEvent) (step : Step) (members : List (List ℕ × Value)) (numbers : StepNumbers) (last : Option Record) (g : Knowledge) → IsCase u events step members numbers last g
    → (path bytes : List ℕ) → Contains (with_bytes members) (path, bytes) → bytes_at u.build.folder path ≡ Some bytes
members_stand u events step members numbers last g of path bytes among = (of.seen path (Some bytes) (with_bytes_out members path bytes among)).0

agrees_digests : (u : Update) (events : List ChildEvent) (step : Step) (members : List (List ℕ × Value)) (numbers : StepNumbers) (last : Option Record) (b : Build) (g : Knowledge) → Judging u events step members numbers last b g
    → (found : Record) → IsSaved step numbers g found → AgreesByDigests u step members found
agrees_digests u events step members numbers last b g j found saved = record {
  text = saved.text;
  digests = saved.digests;
  has = saved.has;
  outs = digests_stand u.digest b u.build.folder g numbers.outs step.outs saved.digests.outs j.of.digest j.holds j.of.named.outs saved.outs;
  paths = paths_named g numbers.ins (paths_with_bytes members) found.ins j.of.named.ins saved.ins_named;
  ins = digests_of_members u.digest u.build.folder (with_bytes members) saved.digests.ins (members_stand u events step members numbers last g j.of)
      (digests_stand u.digest b u.build.folder g numbers.ins (paths_with_bytes members) saved.digests.ins j.of.digest j.holds j.of.named.ins saved.ins);
}

not_saved : (u : Update) (events : List ChildEvent) (step : Step) (members : List (List ℕ × Value)) (numbers : StepNumbers) (last : Option Record) (b : Build) (disk : Disk) (g : Knowledge) → u.build.folder ≡ disk.now → Judging u events step members numbers last b g
    → (found : Record) → last ≡ Some found → IsNotSaved (Some disk) step numbers g found → AgreesByDigests u step members found → ⊥
not_saved u events step members numbers last b disk g at j found is (other_text other) a = other a.text
not_saved u events step members numbers last b disk g at j found is (no_digests none) a = none_some a.digests (sym none ∙ a.has)
not_saved u events step members numbers last b disk g at j found is (other_outs other) a = other (named_paths g numbers.outs step.outs found.outs j.of.named.outs (j.of.outs_named found is))
not_saved u events step members numbers last b disk g at j found is (other_ins other) a = other (named_paths g numbers.ins (paths_with_bytes members) found.ins j.of.named.ins a.paths)
not_saved u events step members numbers last b disk g at j found is (out_differs digests has other) a =
    let same : a.digests ≡ digests = some_is a.digests digests (sym a.has ∙ has) in
    other_digest u.digest b disk g numbers.outs step.outs digests.outs j.of.digest (subst (λ f. AreTrue b f g) at j.holds) j.of.named.outs other
    (subst (λ f. AreDigested u.digest f step.outs digests.outs) at (subst (λ (d : Digests). AreDigested u.digest u.build.folder step.outs d.outs) same a.outs))
not_saved u events step members numbers last b disk g at j found is (in_differs digests has other) a =
    let same : a.digests ≡ digests = some_is a.digests digests (sym a.has ∙ has) in
    let own = members_digested u.digest u.build.folder (with_bytes members) (members_stand u events step members numbers last g j.of) in
    let all : AreDigested u.digest u.build.folder (paths_with_bytes members) digests.ins = subst (AreDigested u.digest u.build.folder (paths_with_bytes members)) (sym a.ins ∙ ap (λ (d : Digests). d.ins) same) own in
    other_digest u.digest b disk g numbers.ins (paths_with_bytes members) digests.ins j.of.digest (subst (λ f. AreTrue b f g) at j.holds) j.of.named.ins other
    (subst (λ f. AreDigested u.digest f (paths_with_bytes members) digests.ins) at all)

not_saved_by : (u : Update) (events : List ChildEvent) (step : Step) (members : List (List ℕ × Value)) (numbers : StepNumbers) (last : Option Record) (b : Build) (disk : Disk) (g : Knowledge) → u.build.folder ≡ disk.now → Judging u events step members numbers last b g
    → IsNotSavedBy (Some disk) step numbers g last → (r : Record) → last ≡ Some r → AgreesByDigests u step members r → ⊥
not_saved_by u events step members numbers last b disk g at j not r is a = not_saved u events step members numbers last b disk g at j r is (subst (IsNotSavedBy (Some disk) step numbers g) is not) a

-- ---- fresh and stale

-- the files of a step that lacks no output, and reads no output of a notfile step
fresh : (u : Update) (events : List ChildEvent) (step : Step) (members : List (List ℕ × Value)) (numbers : StepNumbers) (last : Option Record) (b : Build) (g : Knowledge) → Judging u events step members numbers last b g
    → HasOutputs u.all step numbers g → numbers.notfile ≡ None → (u.by_digest ≡ false → NoneOlderNow u.build.folder step members) → (u.by_digest ≡ false → NoneDone u events members) → (found : Record) → last ≡ Some found → Agrees u events step members found → IsFresh u events step members
fresh u events step members numbers last b g j has no_notfile none_older none_done found is agrees = record {
  not_all = has.ordinary.not_all;
  not_always = has.ordinary.not_always;
  not_notfile = has.ordinary.not_notfile;
  stand = out_stands b u.build.folder g numbers.outs step.outs j.holds j.of.named.outs has.stand;
  none_older = none_older;
  none_notfile = made;
  none_done = none_done;
  recorded = record { last = found; found = j.of.found ∙ is; agrees = agrees };
}
  where
    made : (member : List ℕ) (value : Value) (i : ℕ) (other : Step) → Contains members (member, value) → Makes u.build.steps i other member → other.notfile ≡ false
    made member None i other among makes = absurd (subst (IsNotfileTold members g) no_notfile j.of.notfile member among)
    made member (Some bytes) i other among makes = (j.of.seen member (Some bytes) among).1 i other makes

-- an output that is missing
lacking : (u : Update) (events : List ChildEvent) (step : Step) (members : List (List ℕ × Value)) (numbers : StepNumbers) (last : Option Record) (b : Build) (g : Knowledge) (out : ℕ) → Judging u events step members numbers last b g → IsLacking u.all step numbers g out → StalePoint u events step members
lacking u events step members numbers last b g out j (ordinary, asked, first) =
    let (path, among, name) = path_at_place g numbers.outs step.outs out j.of.named.outs first.within in
    lacks path among (no_file u.build.folder path (stamp_tells b u.build.folder g (get_or numbers.outs out 0) path j.holds name (asked out first.within) ∙ first.gone))

-- a member that is an output of a notfile step
of_notfile : (u : Update) (events : List ChildEvent) (step : Step) (members : List (List ℕ × Value)) (numbers : StepNumbers) (last : Option Record) (g : Knowledge) (n : ℕ) → IsCase u events step members numbers last g → numbers.notfile ≡ Some n → StalePoint u events step members
of_notfile u events step members numbers last g n of is =
    let (member, name, among) = subst (IsNotfileTold members g) is of.notfile in
    let (i, other, makes, notfile) = of.seen member None among in
    from_notfile member None i other among makes notfile

-- an output that is older than a member
older : (u : Update) (events : List ChildEvent) (step : Step) (members : List (List ℕ × Value)) (numbers : StepNumbers) (last : Option Record) (b : Build) (g : Knowledge) (out member : ℕ) → u.by_digest ≡ false → Judging u events step members numbers last b g → IsFirstOlder g numbers.outs numbers.ins out member → StalePoint u events step members
older u events step members numbers last b g out member off j first =
    let (written_path, written_among, written_name) = path_at_place g numbers.outs step.outs out j.of.named.outs first.within in
    let (read_path, read_among, read_name) = path_at_place g numbers.ins (paths_with_bytes members) member j.of.named.ins first.newer.within in
    let (bytes, among) = bytes_among members read_path read_among in
    let (written, written_at, written_is) = stamped_file u.build.folder written_path first.written (stamp_tells b u.build.folder g (get_or numbers.outs out 0) written_path j.holds written_name (standing_asked g (get_or numbers.outs out 0) first.written first.written_is) ∙ first.written_is) in
    let (stamp, stamp_is, newer) = first.newer.newer in
    let (read, read_at, read_is) = stamped_file u.build.folder read_path stamp (stamp_tells b u.build.folder g (get_or numbers.ins member 0) read_path j.holds read_name (standing_asked g (get_or numbers.ins member 0) stamp stamp_is) ∙ stamp_is) in
    is_older off written_path read_path (Some bytes) written read written_among among written_at read_at (omega (arith, newer, written_is, read_is))

-- a record that is found is the last
found_last : (u : Update) (events : List ChildEvent) (step : Step) (members : List (List ℕ × Value)) (numbers : StepNumbers) (last : Option Record) (g : Knowledge) → IsCase u events step members numbers last g → (r : Record) → find_record step.outs u.log ≡ Some r → last ≡ Some r
found_last u events step members numbers last g of r found = sym of.found ∙ found

-- judged by stamps, a record that does not agree by them does not agree
other_stamps : (u : Update) (events : List ChildEvent) (step : Step) (members : List (List ℕ × Value)) (numbers : StepNumbers) (last : Option Record) (b : Build) (g : Knowledge) (point : Point) → u.by_digest ≡ false → Judging u events step members numbers last b g → IsUpToDate u.all step numbers g
    → IsDisagreement step numbers last g (Some point) → StalePoint u events step members
other_stamps u events step members numbers last b g point off j up d = unrecorded (λ r. go r.last (found_last u events step members numbers last g j.of r.last r.found) r.agrees)
  where
    go : (r : Record) → last ≡ Some r → Agrees u events step members r → ⊥
    go r is (by_stamps a) = disagrees u events step members numbers last b g j (stands_asked g numbers.outs up.has_outputs.stand) up.asked point d r is a
    go r is (by_digests on a) = true≢false (sym on ∙ off)

-- judged by digests, a record that agrees in neither way does not agree
other_digests : (u : Update) (events : List ChildEvent) (step : Step) (members : List (List ℕ × Value)) (numbers : StepNumbers) (last : Option Record) (b : Build) (disk : Disk) (g : Knowledge) (point : Point) → u.build.folder ≡ disk.now → Judging u events step members numbers last b g → IsOpenToDigests u.all step numbers g
    → IsDisagreement step numbers last g (Some point) → IsNotSavedBy (Some disk) step numbers g last → StalePoint u events step members
other_digests u events step members numbers last b disk g point at j open_to d not = unrecorded (λ r. go r.last (found_last u events step members numbers last g j.of r.last r.found) r.agrees)
  where
    go : (r : Record) → last ≡ Some r → Agrees u events step members r → ⊥
    go r is (by_stamps a) = disagrees u events step members numbers last b g j (stands_asked g numbers.outs open_to.has_outputs.stand) open_to.asked point d r is a
    go r is (by_digests on a) = not_saved_by u events step members numbers last b disk g at j not r is a

-- ---- the verdict

by_stamps_tells : (u : Update) (events : List ChildEvent) (step : Step) (members : List (List ℕ × Value)) (numbers : StepNumbers) (last : Option Record) (b : Build) (g : Knowledge) (point : Option Point) → u.by_digest ≡ false → Judging u events step members numbers last b g
    → IsByStamps u.all step numbers last g point → Tells u events step members point
by_stamps_tells u events step members numbers last b g None off j (up, no_notfile, (undone, found, text, outs, ins)) =
    fresh u events step members numbers last b g j up.has_outputs no_notfile
    (λ h. older_none b u.build.folder g step members numbers j.holds j.of.named (subst (IsNotfileTold members g) no_notfile j.of.notfile) up.has_outputs.stand up.asked up.none_older)
    (λ h. subst (IsDoneTold u events members g) undone j.of.done) found text.is (by_stamps (agrees_stamps u events step members numbers last b g j undone found text outs ins))
by_stamps_tells u events step members numbers last b g (Some points.All) off j is = runs_all is
by_stamps_tells u events step members numbers last b g (Some points.Always) off j is = is_always is.1
by_stamps_tells u events step members numbers last b g (Some points.Notfile) off j is = is_notfile is.2
by_stamps_tells u events step members numbers last b g (Some (points.Lacks out)) off j is = lacking u events step members numbers last b g out j is
by_stamps_tells u events step members numbers last b g (Some (points.Older out member)) off j (has, asked, first) = older u events step members numbers last b g out member off j first
by_stamps_tells u events step members numbers last b g (Some (points.FromNotfile n)) off j (up, is) = of_notfile u events step members numbers last g n j.of is
by_stamps_tells u events step members numbers last b g (Some (points.Done n)) off j (up, no_notfile, is) =
    let (member, of) = done_member u events members g n (subst (IsDoneTold u events members g) is j.of.done) in
    is_done off member of.value of.number of.maker of.well of.among of.makes of.done
by_stamps_tells u events step members numbers last b g (Some points.NoRecord) off j (up, no_notfile, d) = other_stamps u events step members numbers last b g points.NoRecord off j up d
by_stamps_tells u events step members numbers last b g (Some points.Text) off j (up, no_notfile, d) = other_stamps u events step members numbers last b g points.Text off j up d
by_stamps_tells u events step members numbers last b g (Some (points.Outputs place)) off j (up, no_notfile, d) = other_stamps u events step members numbers last b g (points.Outputs place) off j up d
by_stamps_tells u events step members numbers last b g (Some (points.Inputs place)) off j (up, no_notfile, d) = other_stamps u events step members numbers last b g (points.Inputs place) off j up d

-- the last record agrees by digests
saved_tells : (u : Update) (events : List ChildEvent) (step : Step) (members : List (List ℕ × Value)) (numbers : StepNumbers) (last : Option Record) (b : Build) (g : Knowledge) → Judging u events step members numbers last b g → u.by_digest ≡ true → (held : Option Record) → last ≡ held → IsSavedBy step numbers g held
    → (found : Record) × (last ≡ Some found) × Agrees u events step members found
saved_tells u events step members numbers last b g j on None e saved = absurd saved
saved_tells u events step members numbers last b g j on (Some found) e saved = (found, e, by_digests on (agrees_digests u events step members numbers last b g j found saved))

by_digests_tells : (u : Update) (events : List ChildEvent) (step : Step) (members : List (List ℕ × Value)) (numbers : StepNumbers) (last : Option Record) (b : Build) (disk : Disk) (g : Knowledge) (point : Option Point) → u.by_digest ≡ true → u.build.folder ≡ disk.now → Judging u events step members numbers last b g
    → IsByDigests (Some disk) u.all step numbers last g point → Tells u events step members point
by_digests_tells u events step members numbers last b disk g None on at j (open_to, agreed) =
    let (found, is, agrees) = go agreed in
    fresh u events step members numbers last b g j open_to.has_outputs open_to.no_notfile (λ off. absurd (true≢false (sym on ∙ off))) (λ off. absurd (true≢false (sym on ∙ off))) found is agrees
  where
    go : IsDisagreement step numbers last g None ⊎ IsSavedBy step numbers g last → (found : Record) × (last ≡ Some found) × Agrees u events step members found
    go (inl (undone, found, text, outs, ins)) = (found, text.is, by_stamps (agrees_stamps u events step members numbers last b g j undone found text outs ins))
    go (inr saved) = saved_tells u events step members numbers last b g j on last refl saved
by_digests_tells u events step members numbers last b disk g (Some points.All) on at j is = runs_all is
by_digests_tells u events step members numbers last b disk g (Some points.Always) on at j is = is_always is.1
by_digests_tells u events step members numbers last b disk g (Some points.Notfile) on at j is = is_notfile is.2
by_digests_tells u events step members numbers last b disk g (Some (points.Lacks out)) on at j is = lacking u events step members numbers last b g out j is
by_digests_tells u events step members numbers last b disk g (Some (points.Older out member)) on at j is = absurd is
by_digests_tells u events step members numbers last b disk g (Some (points.FromNotfile n)) on at j (has, is) = of_notfile u events step members numbers last g n j.of is
by_digests_tells u events step members numbers last b disk g (Some (points.Done n)) on at j (open_to, d, not) = other_digests u events step members numbers last b disk g (points.Done n) at j open_to d not
by_digests_tells u events step members numbers last b disk g (Some points.NoRecord) on at j (open_to, d, not) = other_digests u events step members numbers last b disk g points.NoRecord at j open_to d not
by_digests_tells u events step members numbers last b disk g (Some points.Text) on at j (open_to, d, not) = other_digests u events step members numbers last b disk g points.Text at j open_to d not
by_digests_tells u events step members numbers last b disk g (Some (points.Outputs place)) on at j (open_to, d, not) = other_digests u events step members numbers last b disk g (points.Outputs place) at j open_to d not
by_digests_tells u events step members numbers last b disk g (Some (points.Inputs place)) on at j (open_to, d, not) = other_digests u events step members numbers last b disk g (points.Inputs place) at j open_to d not

pub verdict_tells : VerdictTells
verdict_tells u events step members numbers last disk b g point at of holds is = go u.by_digest refl is
  where
    j : Judging u events step members numbers last b g
    j = record { of = of; holds = subst (λ f. AreTrue b f g) (sym at) holds }

    go : (way : Bool) → u.by_digest ≡ way → IsPointBy way (Some disk) u.all step numbers last g point → Tells u events step members point
    go false off p = by_stamps_tells u events step members numbers last b g point off j p
    go true on p = by_digests_tells u events step members numbers last b disk g point on at j p

-- ---- the record

pub made_is_record : MadeIsRecord
made_is_record u step members numbers disk b g made same named holds is = record {
  text = is.text;
  outs = logged_stand b disk.now g numbers.outs step.outs made.outs holds named.outs is.outs;
  ins = logged_stand b disk.now g numbers.ins (paths_with_bytes members) made.ins holds named.ins is.ins;
  digests = go made.digests is.digests;
}
  where
    go : (digests : Option Digests) → HasDigestsBy u.by_digest numbers g digests → HasDigestsOf u disk.now step members digests
    go None off = off
    go (Some d) (on, outs, ins) = (on, digests_stand u.digest b disk.now g numbers.outs step.outs d.outs same holds named.outs outs, digests_stand u.digest b disk.now g numbers.ins (paths_with_bytes members) d.ins same holds named.ins ins)
