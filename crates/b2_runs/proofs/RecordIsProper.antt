use Rattle.std.proofs.Common.{◌≡◌, ◌≢◌, ℕ, suc, ◌<◌, List, [], ◌∷◌, length, refl, sym, ap, subst, ◌∙◌, arith, Option, Some, None}
use Rattle.std.specs.List.{AllPairs, AllByRecursion}
use Rattle.b2_host.specs.Disks.{Folder}
use Rattle.b2_plan.specs.Closures.{Value, with_bytes}
use Rattle.b2_base.specs.Bytes.{Before}
use Rattle.b2_plan.specs.declared.step.Step.{Step}
use Rattle.b2_log.specs.declared.line.Record.{Record}
use Rattle.b2_log.specs.declared.line.Digests.{Digests}
use Rattle.b2_log.specs.Good.{IsDigest, HasDigests}
use Rattle.b2_runs.specs.Staleness.{Update, AreStamped, AreDigested, paths_with_bytes}
use Rattle.b2_runs.specs.Records.{HasDigestsOf}
use Rattle.b2_runs.specs.LogFileLaws.{RecordIsProper, DropIsProper}
use Rattle.b2_runs.proofs.FirstElementOrLater.{AllPairs_head, AllPairs_tail}
use Rattle.b2_runs.proofs.SameByStamp.{with_bytes_in, path_in_back, stamp_back}
use Rattle.b2_runs.proofs.ValuesCanBeGathered.{Sooner}
use Rattle.b2_runs.proofs.OthersAreLeft.{pairs_first}

abbrev Rises : List ℕ × ℕ → List ℕ × ℕ → Type 0
Rises x y = Before x.0 y.0

-- stamped members that have bytes stand in byte order, as the members do
rising : (now : Folder) (members : List (List ℕ × Value)) (pairs : List (List ℕ × ℕ)) → AllPairs Sooner members → AreStamped now (paths_with_bytes members) pairs → AllPairs Rises pairs
rising now [] [] o a = λ i j d lt h. absurd (omega arith)
rising now [] (q ∷ qs) o a = absurd a
rising now ((p, None) ∷ ms) pairs o a = rising now ms pairs (AllPairs_tail Sooner (p, None) ms o) a
rising now ((p, Some x) ∷ ms) [] o a = absurd a
rising now ((p, Some x) ∷ ms) (q ∷ qs) o (a, more) =
    pairs_first Rises q qs
    (λ r c.
    let named = (stamp_back now (paths_with_bytes ms) qs more r.0 r.1 c).0 in
    let (bytes, there) = path_in_back (with_bytes ms) r.0 named in
    subst (λ z. Before z r.0) (sym a.0) (AllPairs_head Sooner (p, Some x) (r.0, Some bytes) ms o (with_bytes_in ms r.0 bytes there)))
    (rising now ms qs (AllPairs_tail Sooner (p, Some x) ms o) more)

some_long : {X : Type 0} (xs : List X) → xs ≢ [] → 0 < length xs
some_long [] some = absurd (some refl)
some_long (x ∷ xs) some = omega arith

some_stamped : (now : Folder) (paths : List (List ℕ)) (pairs : List (List ℕ × ℕ)) → paths ≢ [] → AreStamped now paths pairs → 0 < length pairs
some_stamped now [] pairs some a = absurd (some refl)
some_stamped now (p ∷ ps) [] some a = absurd a
some_stamped now (p ∷ ps) (q ∷ qs) some a = omega arith

-- digests of files are digests, one for each path
digests_are : (digest : List ℕ → List ℕ) → ((bytes : List ℕ) → IsDigest (digest bytes)) → (now : Folder) (paths : List (List ℕ)) (texts : List (List ℕ)) → AreDigested digest now paths texts → (length texts ≡ length paths) × AllByRecursion IsDigest texts
digests_are digest form now [] [] a = (refl, tt)
digests_are digest form now [] (t ∷ ts) a = absurd a
digests_are digest form now (p ∷ ps) [] a = absurd a
digests_are digest form now (p ∷ ps) (t ∷ ts) ((bytes, at, is), rest) =
    let (count, each) = digests_are digest form now ps ts rest in
    (ap suc count, (subst IsDigest (sym is) (form bytes), each))

stamped_count : (now : Folder) (paths : List (List ℕ)) (pairs : List (List ℕ × ℕ)) → AreStamped now paths pairs → length paths ≡ length pairs
stamped_count now [] [] a = refl
stamped_count now [] (q ∷ qs) a = absurd a
stamped_count now (p ∷ ps) [] a = absurd a
stamped_count now (p ∷ ps) (q ∷ qs) (a, rest) = ap suc (stamped_count now ps qs rest)

has_digests : (u : Update) (now : Folder) (step : Step) (members : List (List ℕ × Value)) (r : Record) → ((bytes : List ℕ) → IsDigest (u.digest bytes)) → AreStamped now step.outs r.outs → AreStamped now (paths_with_bytes members) r.ins → (d : Option Digests) → HasDigestsOf u now step members d → HasDigests r d
has_digests u now step members r form outs ins None h = tt
has_digests u now step members r form outs ins (Some d) (on, d_outs, d_ins) =
    let (count, each) = digests_are u.digest form now step.outs d.outs d_outs in
    let (count_in, each_in) = digests_are u.digest form now (paths_with_bytes members) d.ins d_ins in
    record {
      outs = record { count = count ∙ stamped_count now step.outs r.outs outs; each = each };
      ins = record { count = count_in ∙ stamped_count now (paths_with_bytes members) r.ins ins; each = each_in };
    }

pub record_is_proper : RecordIsProper
record_is_proper u now i step members r apart at closure form is = record {
  some_out = some_stamped now step.outs r.outs (apart.some_out i step at) is.outs;
  rising = rising now members r.ins closure.ordered is.ins;
  digests = has_digests u now step members r form is.outs is.ins r.digests is.digests;
}

pub drop_is_proper : DropIsProper
drop_is_proper b i step apart at = some_long step.outs (apart.some_out i step at)
