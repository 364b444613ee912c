-- What a record has of members stays known as facts grow.
use Rattle.std.proofs.Common.{◌≡◌, ℕ, List, Bool, Option, Some, None, Result, Ok, Err, subst}
use Rattle.std.specs.Prelude.{OnOk}
use Rattle.b2_host.specs.Disks.{Disk}
use Rattle.b2_facts.specs.declared.stop.FilesStop.{FilesStop}
use Rattle.b2_facts.specs.Facts.{Knowledge, IsNumber}
use Rattle.b2_facts.specs.Growth.{Grows}
use Rattle.b2_verdicts.specs.Sights.{AllAsked}
use Rattle.b2_verdicts.specs.Digested.{IsGoneIfUnknown, AllDigested, AreFound}
use Rattle.b2_verdicts.proofs.WhatIsKnownStays.{unknown_before, all_asked_more}
use Rattle.b2_verdicts.proofs.DisagreementsStay.{path_before}

pub gone_stays : (disk : Option Disk) (f g : Knowledge) (n : ℕ) → Grows f g → IsNumber f n → IsGoneIfUnknown disk f n → IsGoneIfUnknown disk g n
gone_stays None f g n grows number gone unknown = tt
gone_stays (Some d) f g n grows number gone unknown = λ path name. gone (unknown_before f g n grows unknown) path (path_before f g n path grows number name)

-- files were asked for, and then digested
pub found_by : (by_digest : Bool) (disk later : Option Disk) (f g : Knowledge) (ns ms : List ℕ) (r : Result (Unit {0}) FilesStop) (P : Type 0) → later ≡ disk → ms ≡ ns → Grows f g → AllAsked f ns → OnOk r (AllDigested later g ms) → OnOk r (P → AreFound by_digest disk g ns)
found_by by_digest disk later f g ns ms (Ok x) P same along grows asked digested = λ p. record {
  asked = all_asked_more f g ns grows asked;
  digested = λ e. subst (λ ks. AllDigested disk g ks) along (subst (λ d. AllDigested d g ms) same digested);
}
found_by by_digest disk later f g ns ms (Err stop) P same along grows asked digested = tt
