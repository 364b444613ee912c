use Rattle.std.proofs.Common.{◌≡◌, ℕ, ◌≤◌, true, List, [], ◌∷◌, ◌++◌, length, inl, inr, refl, sym, ap, subst, ◌∙◌, arith, Some, option_map}
use Rattle.std.specs.List.{Contains}
use Rattle.std.proofs.lemmas.List.Elements.{Contains-append_left}
use Rattle.b2_host.specs.declared.children.ChildEvent.{ChildEvent}
use Rattle.b2_host.specs.declared.children.ChildEvent.TheVariants.{Start, Done}
use Rattle.b2_host.specs.Disks.{File, Disk, bytes_at}
use Rattle.b2_plan.specs.Plans.{Apart}
use Rattle.b2_plan.specs.Cleans.{Clean}
use Rattle.b2_runs.specs.Staleness.{Update}
use Rattle.b2_runs.specs.Runs.{Settled, Settled.done_well, on_settled}
use Rattle.b2_runs.specs.Soundness.{Holds, IsSound}
use Rattle.b2_runs.specs.FileReads.{scan_limit, digest_limit, IsInput, IsNeededOut, IsToScan, IsToDigest, IsToDigest.input, IsToDigest.output, IsTooBig, IsTooBig.to_scan, IsTooBig.to_digest}
use Rattle.b2_runs.specs.ReadLaws.{LargeIsTooBig, TooBigIsLarge, NothingTooBig, TooBigThroughEnd, TooBigThroughChange}
use Rattle.b2_runs.proofs.ClosureStays.{known_grows, closure_stays}
use Rattle.b2_runs.proofs.CleanIsOne.{clean_is_one}
use Rattle.b2_runs.proofs.SourcesAreKept.{unstarted_kept, out_not_log}
use Rattle.b2_runs.proofs.OutputsAreClean.{settled_holds, out_bytes}
use Rattle.b2_runs.proofs.OneEventMore.{start_in_done}
use Rattle.b2_runs.proofs.SettledStays.{settled_after_end, needed_up}
use Rattle.b2_runs.proofs.NotedAfterEachEvent.{settled_still}

-- what is settled with bytes stands with them
stands_so : (u : Update) (events : List ChildEvent) (disk : Disk) (path bytes : List ℕ) → Apart u.build.steps u.build.roots → IsSound u events disk → on_settled u events path (Some bytes) → bytes_at disk.now path ≡ Some bytes
stands_so u events disk path bytes apart sound s = settled_holds u events disk apart sound path (Some bytes) s.0 s.1

pub large_is_too_big : LargeIsTooBig
large_is_too_big u events disk path bytes apart sound to more = (to_scan bytes to refl more, stands_so u events disk path bytes apart sound to.settled)

pub too_big_is_large : TooBigIsLarge
too_big_is_large u events disk path size apart sound (to_scan bytes to size_is more) = (bytes, stands_so u events disk path bytes apart sound to.settled, size_is, more)
too_big_is_large u events disk path size apart sound (to_digest bytes to size_is more) = (bytes, go to, size_is, omega (arith, more))
  where
    go : IsToDigest u events disk.now path bytes → bytes_at disk.now path ≡ Some bytes
    go (input on read s) = stands_so u events disk path bytes apart sound s
    go (output out members on owes closure still stands) = stands

pub nothing_too_big : NothingTooBig
nothing_too_big u events disk path size apart sound none (to_scan bytes to size_is more) = let low : length bytes ≤ scan_limit = none.scanned path bytes to in omega (arith, low, size_is, more)
nothing_too_big u events disk path size apart sound none (to_digest bytes to size_is more) = let low : length bytes ≤ digest_limit = go to in omega (arith, low, size_is, more)
  where
    go : IsToDigest u events disk.now path bytes → length bytes ≤ digest_limit
    go (input on read s) = none.inputs on path bytes read s
    go (output out members on owes closure (inl not_started) stands) =
        none.at_entry on path bytes out (ap (option_map (λ (file : File). file.bytes)) (sym (unstarted_kept u events disk apart sound out.number out.step path out.makes not_started)) ∙ stands)
    go (output out members on owes closure (inr well) stands) =
        let (value, clean, holds) = sound.done_well out.number out.step path out.makes well in
        let (b, e) = out_bytes u.build apart (length u.build.steps) out.number out.step path value out.makes owes clean in
        let at : bytes_at disk.now path ≡ Some b = subst (Holds disk.now path) e holds in
        none.in_clean on path bytes out (subst (Clean u.build path) (e ∙ sym at ∙ stands) clean)

-- what a needed step reads or makes stays so where more is settled
pub input_up : (u : Update) (events more : List ChildEvent) (path : List ℕ) → ((p : List ℕ) → Settled u events p → Settled u more p) → IsInput u events path → IsInput u more path
input_up u events more path grows i = record {
  number = i.number;
  needed = needed_up u events more grows i.number i.needed;
  step = i.step;
  at = i.at;
  known = known_grows (on_settled u events) (on_settled u more) u.build i.step path (λ p x s. (grows p s.0, s.1)) i.known;
}

-- and what is to be scanned
pub to_scan_up : (u : Update) (events more : List ChildEvent) (path bytes : List ℕ) → ((p : List ℕ) → Settled u events p → Settled u more p) → IsToScan u events path bytes → IsToScan u more path bytes
to_scan_up u events more path bytes grows to = record { scanned = to.scanned; input = input_up u events more path grows to.input; settled = (grows path to.settled.0, to.settled.1) }

abbrev pub out_up : (u : Update) (events more : List ChildEvent) (path : List ℕ) → ((p : List ℕ) → Settled u events p → Settled u more p) → IsNeededOut u events path → IsNeededOut u more path
out_up u events more path grows o = record { number = o.number; needed = needed_up u events more grows o.number o.needed; step = o.step; makes = o.makes }

pub too_big_through_end : TooBigThroughEnd
too_big_through_end u events now path size i well apart opened big = go big
  where
    grows : (p : List ℕ) → Settled u events p → Settled u (events ++ Done i well ∷ []) p
    grows p s = settled_after_end u events i well p apart opened s

    digested : (bytes : List ℕ) → IsToDigest u events now path bytes → IsToDigest u (events ++ Done i well ∷ []) now path bytes
    digested bytes (input on read s) = input on (input_up u events (events ++ Done i well ∷ []) path grows read) (grows path s.0, s.1)
    digested bytes (output out members on owes closure still stands) =
        output (out_up u events (events ++ Done i well ∷ []) path grows out) members on owes
        (closure_stays (on_settled u events) (on_settled u (events ++ Done i well ∷ [])) u.build out.step members (λ p x s. (grows p s.0, s.1)) (λ p x y s t. clean_is_one u.build apart p x y s.1 t.1) closure)
        (elim still [ inl not_started ↦ inl (λ c. not_started (start_in_done events i out.number well c)) | inr done ↦ inr (Contains-append_left events (Done i well ∷ []) (Done out.number true) done) ])
        stands

    go : IsTooBig u events now path size → IsTooBig u (events ++ Done i well ∷ []) now path size
    go (to_scan bytes to size_is more) = to_scan bytes (to_scan_up u events (events ++ Done i well ∷ []) path bytes grows to) size_is more
    go (to_digest bytes to size_is more) = to_digest bytes (digested bytes to) size_is more

pub too_big_through_change : TooBigThroughChange
too_big_through_change u events before after path size apart d (to_scan bytes to size_is more) = to_scan bytes to size_is more
too_big_through_change u events before after path size apart d (to_digest bytes to size_is more) = to_digest bytes (go to) size_is more
  where
    go : IsToDigest u events before.now path bytes → IsToDigest u events after.now path bytes
    go (input on read s) = input on read s
    go (output out members on owes closure (inl not_started) stands) =
        output out members on owes closure (inl not_started)
        (ap (option_map (λ (file : File). file.bytes)) (d.others path (out_not_log u.build apart out.number out.step path out.makes) (λ k other makes loose. not_started (subst (λ j. Contains events (Start j)) (apart.one_maker k out.number other out.step path makes out.makes) loose.0))) ∙ stands)
    go (output out members on owes closure (inr done) stands) =
        output out members on owes closure (inr done) (ap (option_map (λ (file : File). file.bytes)) (settled_still u events before after apart d path (done_well out.number out.step path out.makes done)) ∙ stands)
