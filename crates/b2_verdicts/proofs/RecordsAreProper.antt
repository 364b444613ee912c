-- What is asked of a record holds of one that is made of known files.
use Rattle.std.proofs.Common.{◌≡◌, ℕ, suc, ◌<◌, Bool, List, [], ◌∷◌, Option, Some, None, length, get_or, slice_get, refl, sym, ap, ◌∙◌, arith}
use Rattle.std.specs.List.{AllByRecursion}
use Rattle.std.specs.Option.{IfSome}
use Rattle.std.proofs.lemmas.Option.{slice_get-get_or, slice_get_within}
use Rattle.b2_host.specs.Disks.{Disk}
use Rattle.b2_plan.specs.declared.step.Step.{Step}
use Rattle.b2_log.specs.declared.line.Record.{Record}
use Rattle.b2_log.specs.declared.line.Digests.{Digests}
use Rattle.b2_log.specs.Good.{IsDigest, IsRising, AreDigests, HasDigests, IsProperRecord}
use Rattle.b2_facts.specs.Facts.{Knowledge, IsNumber, IsAbout}
use Rattle.b2_facts.specs.Growth.{Grows, Learns}
use Rattle.b2_facts.proofs.ListsAtPlaces.{get_some}
use Rattle.b2_verdicts.specs.declared.step_numbers.StepNumbers.{StepNumbers}
use Rattle.b2_verdicts.specs.Sights.{digest_in, digest_at, AreNumbers}
use Rattle.b2_verdicts.specs.Stamps.{AreLogged}
use Rattle.b2_verdicts.specs.Points.{HaveDigests}
use Rattle.b2_verdicts.specs.VerdictCalls.{IsOfStep, KnowsMore, Always}
use Rattle.b2_verdicts.specs.Made.{HasDigestsBy, IsMadeOf, AreRising}
use Rattle.b2_verdicts.proofs.WhatIsKnownStays.{numbers_stay}
use Rattle.b2_verdicts.proofs.DisagreementsStay.{path_before}

-- files rise as their numbers do
rising : (f g : Knowledge) (ns : List ℕ) (files : List (List ℕ × ℕ)) → Grows f g → AreNumbers f ns → AreRising f ns → AreLogged g files ns → IsRising files
rising f g ns files grows numbers rise have i j d less within =
    let count = have.count in
    let last : j < length ns = omega (arith, within, count) in
    let first : i < length ns = omega (arith, last, less) in
    let front : i < length files = omega (arith, within, less) in
    rise i j 0 less last (get_or files i d).0 (get_or files j d).0
    (path_before f g (get_or ns i 0) (get_or files i d).0 grows (numbers i first) (have.each i (get_or files i d) first (slice_get-get_or files i d front)).0)
    (path_before f g (get_or ns j 0) (get_or files j d).0 grows (numbers j last) (have.each j (get_or files j d) last (slice_get-get_or files j d within)).0)

-- a digest that is known of a file is one
known_is : (steps : List Step) (roots : List (List ℕ)) (g : Knowledge) (n : ℕ) (digest : List ℕ) → IsAbout steps roots g → IsNumber g n → digest_at g n ≡ Some digest → IsDigest digest
known_is steps roots g n digest about number known =
    let (path, name) = get_some g.paths n number.0 in
    let (file, at) = get_some g.files n number.1 in
    (about.planned n path file (record { path_is = name; file_is = at })).digested digest (sym (ap digest_in at) ∙ known)

all_of : (P : List ℕ → Type 0) (xs : List (List ℕ)) → ((k : ℕ) (x : List ℕ) → slice_get xs k ≡ Some x → P x) → AllByRecursion P xs
all_of P [] each = tt
all_of P (x ∷ xs) each = (each 0 x refl, all_of P xs (λ k y at. each (suc k) y at))

-- digests that are known of the files of a record are digests, one for each
known_are : (steps : List Step) (roots : List (List ℕ)) (g : Knowledge) (ns : List ℕ) (files : List (List ℕ × ℕ)) (digests : List (List ℕ)) → IsAbout steps roots g → AreNumbers g ns → AreLogged g files ns → HaveDigests g ns digests → AreDigests files digests
known_are steps roots g ns files digests about numbers logged have = record {
  count = have.count ∙ sym logged.count;
  each = all_of IsDigest digests (λ k digest at.
      (let low = slice_get_within digests k digest at in
      let count = have.count in
      let within : k < length ns = omega (arith, low, count) in
      known_is steps roots g (get_or ns k 0) digest about (numbers k within) (have.each k digest within at)));
}

digests_proper : (steps : List Step) (roots : List (List ℕ)) (by_digest : Bool) (numbers : StepNumbers) (g : Knowledge) (made : Record) (digests : Option Digests) → IsAbout steps roots g → AreNumbers g numbers.outs → AreNumbers g numbers.ins
    → AreLogged g made.outs numbers.outs → AreLogged g made.ins numbers.ins → HasDigestsBy by_digest numbers g digests → HasDigests made digests
digests_proper steps roots by_digest numbers g made None about outs ins logged_outs logged_ins has = tt
digests_proper steps roots by_digest numbers g made (Some d) about outs ins logged_outs logged_ins has = record {
  outs = known_are steps roots g numbers.outs made.outs d.outs about outs logged_outs has.1;
  ins = known_are steps roots g numbers.ins made.ins d.ins about ins logged_ins has.2;
}

-- a record that is made of files is as is asked of a record
pub made_is_proper : (steps : List Step) (roots : List (List ℕ)) (by_digest : Bool) (step : Step) (numbers : StepNumbers) (f g : Knowledge) (made : Record) → Learns steps roots (IsOfStep numbers) f g → IsAbout steps roots f → AreNumbers f numbers.outs → AreNumbers f numbers.ins
    → 0 < length numbers.outs → AreRising f numbers.ins → IsMadeOf by_digest step numbers g made → IsProperRecord made
made_is_proper steps roots by_digest step numbers f g made learns about outs ins some rise is =
    let count = is.outs.count in record {
      some_out = omega (arith, count, some);
      rising = rising f g numbers.ins made.ins learns.grows ins rise is.ins;
      digests = digests_proper steps roots by_digest numbers g made made.digests (learns.about about) (numbers_stay f g numbers.outs learns.grows outs) (numbers_stay f g numbers.ins learns.grows ins) is.outs is.ins is.digests;
    }

pub proper_made : (by_digest : Bool) (step : Step) (numbers : StepNumbers) (disk : Option Disk) (f g : Knowledge) (made : Option Record) → KnowsMore (IsOfStep numbers) disk Always f g → AreNumbers f numbers.outs → AreNumbers f numbers.ins → IfSome made (IsMadeOf by_digest step numbers g)
    → IfSome made (λ r. (steps : List Step) (roots : List (List ℕ)) → IsAbout steps roots f → 0 < length numbers.outs → AreRising f numbers.ins → IsProperRecord r)
proper_made by_digest step numbers disk f g None knows outs ins is = tt
proper_made by_digest step numbers disk f g (Some r) knows outs ins is = λ steps roots about some rise. made_is_proper steps roots by_digest step numbers f g r (knows.learns steps roots) about outs ins some rise is
