use Rattle.std.proofs.Common.{◌≡◌, ℕ, List, [], ◌∷◌, sym, ap, subst, ◌∙◌, Option, Some, None, map}
use Rattle.std.specs.List.{Contains, AllZip}
use Rattle.b2_host.specs.Disks.{File, Folder, Disk, Past, Stood, IsConsistent, bytes_at}
use Rattle.b2_plan.specs.declared.step.Step.{Step}
use Rattle.b2_plan.specs.Plans.{Makes}
use Rattle.b2_plan.specs.Closures.{Value, with_bytes}
use Rattle.b2_plan.specs.Cleans.{value_of}
use Rattle.b2_log.specs.declared.line.Record.{Record}
use Rattle.b2_log.specs.declared.line.Digests.{Digests}
use Rattle.b2_runs.specs.Logs.{InputStood, AreTrueDigests, IsTrueRecord}
use Rattle.b2_runs.specs.Staleness.{Update, making, AreStamped, path_in}
use Rattle.b2_runs.specs.Records.{HasDigestsOf, IsRecordOf}
use Rattle.b2_runs.specs.Soundness.{Holds}
use Rattle.b2_runs.specs.SoundLaws.{DistinguishesLess, RecordIsTrue}
use Rattle.b2_runs.proofs.FirstElementOrLater.{Contains_here, Contains_there}
use Rattle.b2_runs.proofs.CleanIsOne.{clean_is_made}
use Rattle.b2_runs.proofs.SameByStamp.{whole_file, with_bytes_in, stamp_back}
use Rattle.b2_runs.proofs.SameByDigest.{digested_outs, digested_inputs}
use Rattle.b2_runs.proofs.SourcesAreKept.{value_file}
use Rattle.b2_runs.proofs.OutputsAreClean.{settled_holds}

-- digests that told apart more told apart less
pub distinguishes_less : DistinguishesLess
distinguishes_less u past more grows distinct on x y c d same = distinct on x y (grows x c) (grows y d) same

-- the inputs that a record names stood
inputs_stood : (past : List Past) (folder : Folder) → ((path : List ℕ) (file : File) → folder path ≡ Some file → Stood past path file) → (inputs : List (List ℕ × List ℕ)) (pairs : List (List ℕ × ℕ)) → AreStamped folder (map path_in inputs) pairs
    → ((path bytes : List ℕ) → Contains inputs (path, bytes) → bytes_at folder path ≡ Some bytes) → AllZip (InputStood past) pairs inputs
inputs_stood past folder stands [] [] a h = tt
inputs_stood past folder stands [] (q ∷ qs) a h = absurd a
inputs_stood past folder stands (w ∷ ws) [] a h = absurd a
inputs_stood past folder stands (w ∷ ws) (q ∷ qs) (a, rest) h =
    let stood = stands w.0 _ (whole_file folder w.0 q.1 w.1 a.1 (h w.0 w.1 (Contains_here w ws))) in (
      record { path = sym a.0; stood = subst (λ p. Stood past p (record { stamp = q.1; bytes = w.1 })) (sym a.0) stood },
      inputs_stood past folder stands ws qs rest (λ p x c. h p x (Contains_there w (p, x) ws c)),
    )

-- digests of what stands are true
true_digests : (u : Update) (now : Folder) (step : Step) (members : List (List ℕ × Value)) (r : Record) → r.text ≡ step.text → AreStamped now step.outs r.outs → ((path bytes : List ℕ) → Contains (with_bytes members) (path, bytes) → bytes_at now path ≡ Some bytes)
    → ((out : List ℕ) → Contains step.outs out → bytes_at now out ≡ Some (u.build.made step.text (with_bytes members) out)) → (d : Option Digests) → HasDigestsOf u now step members d → AreTrueDigests (making u) r (with_bytes members) d
true_digests u now step members r text outs held made None h = tt
true_digests u now step members r text outs held made (Some d) (on, d_outs, d_ins) = (
  digested_outs u.digest now (u.build.made step.text (with_bytes members)) step.outs r.outs d.outs made outs d_outs
      ∙ ap (λ t. map (λ (out : List ℕ × ℕ). u.digest (u.build.made t (with_bytes members) out.0)) r.outs) (sym text),
  digested_inputs u.digest now (with_bytes members) d.ins held d_ins,
)

-- the record of what stands is true
pub record_true : (u : Update) (disk : Disk) → IsConsistent disk → (step : Step) (members : List (List ℕ × Value)) (r : Record) → IsRecordOf u disk.now step members r
    → ((path bytes : List ℕ) → Contains (with_bytes members) (path, bytes) → bytes_at disk.now path ≡ Some bytes)
    → ((out : List ℕ) → Contains step.outs out → bytes_at disk.now out ≡ Some (u.build.made step.text (with_bytes members) out))
    → IsTrueRecord (making u) disk.past r
record_true u disk keeps step members r is held made =
    let inputs : List (List ℕ × List ℕ) = with_bytes members in
    record {
      held = inputs;
      ins = inputs_stood disk.past disk.now keeps.stands inputs r.ins is.ins held;
      outs = λ path stamp c.
          let (there, has) = stamp_back disk.now step.outs r.outs is.outs path stamp c in
          let stood = keeps.stands path _ (whole_file disk.now path stamp (u.build.made step.text inputs path) has (made path there)) in
          subst (λ t. Stood disk.past path (record { stamp = stamp; bytes = u.build.made t inputs path })) (sym is.text) stood;
      digests = true_digests u disk.now step members r is.text is.outs held made r.digests is.digests;
    }

-- the record of a step whose closure and outputs are settled is true
pub record_is_true : RecordIsTrue
record_is_true u events disk i step members r apart sound at file settled closure inside is =
    record_true u disk sound.keeps step members r is
    (λ path bytes c.
    let m = with_bytes_in members path bytes c in
    settled_holds u events disk apart sound path (Some bytes) (inside path (Some bytes) m) (closure.each path (Some bytes) m).1)
    (λ out c.
    let makes : Makes u.build.steps i step out = record { at = at; among = c } in
    let holds = settled_holds u events disk apart sound out (value_of u.build step members out) (settled out c) (clean_is_made u.build i step out members apart makes closure) in
    subst (Holds disk.now out) (value_file u.build step members out file) holds)
