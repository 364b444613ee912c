use Rattle.std.proofs.Common.{◌≡◌, ℕ, List, [], ◌∷◌, sym, ap, subst, ◌∙◌, Some, map, option_map}
use Rattle.std.specs.List.{Contains, AllZip}
use Rattle.b2_host.specs.declared.children.ChildEvent.{ChildEvent}
use Rattle.b2_host.specs.Disks.{File, Folder, Disk, Stood, IsConsistent, bytes_at}
use Rattle.b2_host.specs.FileCalls.{stamp_at}
use Rattle.b2_plan.specs.declared.step.Step.{Step}
use Rattle.b2_plan.specs.Closures.{Value}
use Rattle.b2_log.specs.declared.line.Record.{Record}
use Rattle.b2_runs.specs.Logs.{Making, InputStood, AreTrueDigests}
use Rattle.b2_runs.specs.LogLaws.{TellsDigest, DigestsTell}
use Rattle.b2_runs.specs.Staleness.{Update, making, AreStamped, AreDigested, paths_with_bytes, Agrees, Agrees.by_stamps, Agrees.by_digests}
use Rattle.b2_runs.specs.Records.{HasDigestsOf}
use Rattle.b2_runs.specs.Afterwards.{at_present}
use Rattle.b2_runs.specs.LogCourseLaws.{AlreadyIsNoted}
use Rattle.b2_runs.proofs.FirstElementOrLater.{Contains_here, Contains_there}
use Rattle.b2_runs.proofs.LastLineIsFound.{found_is_there}
use Rattle.b2_runs.proofs.SameByStamp.{whole_file, stamped_file}

-- of outputs, each of which stood as it was made
outs_tell : (m : Making) (disk : Disk) (made : List ℕ → List ℕ) (outs : List (List ℕ × ℕ)) (texts : List (List ℕ)) → IsConsistent disk → texts ≡ map (λ (out : List ℕ × ℕ). m.digest (made out.0)) outs
    → ((path : List ℕ) (stamp : ℕ) → Contains outs (path, stamp) → Stood disk.past path (record { stamp = stamp; bytes = made path })) → AllZip (TellsDigest m disk.now) outs texts
outs_tell m disk made [] [] keeps e stood = tt
outs_tell m disk made [] (t ∷ ts) keeps e stood = absurd (let f : t ∷ ts ≡ [] = e in cc)
outs_tell m disk made (o ∷ os) [] keeps e stood = absurd (let f : [] ≡ m.digest (made o.0) ∷ map (λ (out : List ℕ × ℕ). m.digest (made out.0)) os = e in cc)
outs_tell m disk made (o ∷ os) (t ∷ ts) keeps e stood =
    let f : t ∷ ts ≡ m.digest (made o.0) ∷ map (λ (out : List ℕ × ℕ). m.digest (made out.0)) os = e in
    let first : t ≡ m.digest (made o.0) = cc in
    let rest : ts ≡ map (λ (out : List ℕ × ℕ). m.digest (made out.0)) os = cc in (
      λ bytes stamp at. first ∙ ap m.digest (keeps.one_each o.0 o.1 (made o.0) bytes (stood o.0 o.1 (Contains_here o os)) (keeps.stands o.0 _ (whole_file disk.now o.0 o.1 bytes stamp at))),
      outs_tell m disk made os ts keeps rest (λ p n c. stood p n (Contains_there o (p, n) os c)),
    )

-- of inputs, each of which stood
ins_tell : (m : Making) (disk : Disk) (ins : List (List ℕ × ℕ)) (held : List (List ℕ × List ℕ)) (texts : List (List ℕ)) → IsConsistent disk → AllZip (InputStood disk.past) ins held → texts ≡ map (λ (input : List ℕ × List ℕ). m.digest input.1) held
    → AllZip (TellsDigest m disk.now) ins texts
ins_tell m disk [] [] [] keeps z e = tt
ins_tell m disk [] [] (t ∷ ts) keeps z e = absurd (let f : t ∷ ts ≡ [] = e in cc)
ins_tell m disk [] (h ∷ hs) texts keeps z e = absurd z
ins_tell m disk (q ∷ qs) [] texts keeps z e = absurd z
ins_tell m disk (q ∷ qs) (h ∷ hs) [] keeps z e = absurd (let f : [] ≡ m.digest h.1 ∷ map (λ (input : List ℕ × List ℕ). m.digest input.1) hs = e in cc)
ins_tell m disk (q ∷ qs) (h ∷ hs) (t ∷ ts) keeps (z, more) e =
    let f : t ∷ ts ≡ m.digest h.1 ∷ map (λ (input : List ℕ × List ℕ). m.digest input.1) hs = e in
    let first : t ≡ m.digest h.1 = cc in
    let rest : ts ≡ map (λ (input : List ℕ × List ℕ). m.digest input.1) hs = cc in (
      λ bytes stamp at. first ∙ ap m.digest (keeps.one_each q.0 q.1 h.1 bytes z.stood (keeps.stands q.0 _ (whole_file disk.now q.0 q.1 bytes stamp at))),
      ins_tell m disk qs hs ts keeps more rest,
    )

pub digests_tell : DigestsTell
digests_tell m disk r d keeps t e =
    let are : AreTrueDigests m r t.held (Some d) = subst (AreTrueDigests m r t.held) e t.digests in
    (outs_tell m disk (m.made r.text t.held) r.outs d.outs keeps are.0 t.outs, ins_tell m disk r.ins t.held d.ins keeps t.ins are.1)

-- so where the files stand with their stamps, these are their digests
digested_by : (m : Making) (now : Folder) (paths : List (List ℕ)) (pairs : List (List ℕ × ℕ)) (texts : List (List ℕ)) → AreStamped now paths pairs → AllZip (TellsDigest m now) pairs texts → AreDigested m.digest now paths texts
digested_by m now [] [] [] a z = tt
digested_by m now [] [] (t ∷ ts) a z = absurd z
digested_by m now [] (q ∷ qs) texts a z = absurd a
digested_by m now (p ∷ ps) [] texts a z = absurd a
digested_by m now (p ∷ ps) (q ∷ qs) [] a z = absurd z
digested_by m now (p ∷ ps) (q ∷ qs) (t ∷ ts) (a, more) (z, rest) =
    let (file, stands, e) = stamped_file now p q.1 a.1 in
    let at : bytes_at now p ≡ Some file.bytes = ap (option_map (λ (x : File). x.bytes)) stands in
    ((file.bytes, at, z file.bytes (subst (λ x. stamp_at now x ≡ Some q.1) (sym a.0) a.1) (subst (λ x. bytes_at now x ≡ Some file.bytes) (sym a.0) at)), digested_by m now ps qs ts more rest)

-- the text of a record that agrees
agreed_text : (u : Update) (events : List ChildEvent) (step : Step) (members : List (List ℕ × Value)) (r : Record) → Agrees u events step members r → r.text ≡ step.text
agreed_text u events step members r (by_stamps a) = a.text
agreed_text u events step members r (by_digests on a) = a.text

pub already_is_noted : AlreadyIsNoted
already_is_noted u events disk log step members r keeps true_records on f is h =
    let same : f.recorded.last ≡ h.last = (let g : Some f.recorded.last ≡ Some h.last = sym f.recorded.found ∙ h.found in cc) in
    let tell = digests_tell (making u) disk h.last h.digests keeps (true_records h.last (found_is_there step.outs log h.last h.found).0) h.has in
    let outs : AreStamped disk.now step.outs h.last.outs = subst (AreStamped disk.now step.outs) (sym h.outs_same) is.outs in
    let ins : AreStamped disk.now (paths_with_bytes members) h.last.ins = subst (AreStamped disk.now (paths_with_bytes members)) (sym h.ins_same) is.ins in
    record {
      last = h.last;
      found = h.found;
      is_record = record {
        text = subst (λ (x : Record). x.text ≡ step.text) same (agreed_text (at_present u disk.now log) events step members f.recorded.last f.recorded.agrees);
        outs = outs;
        ins = ins;
        digests = subst (HasDigestsOf u disk.now step members) (sym h.has) (
          on,
          digested_by (making u) disk.now step.outs h.last.outs h.digests.outs outs tell.0,
          digested_by (making u) disk.now (paths_with_bytes members) h.last.ins h.digests.ins ins tell.1,
        );
      };
    }
