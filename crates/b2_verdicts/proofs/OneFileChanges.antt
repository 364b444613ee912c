-- What is known of a file after its facts changed.
use Rattle.std.proofs.Common.{◌≡◌, ℕ, Option, Some, None, refl, sym, ap, subst, ◌∙◌, inl, inr, Result, Ok, Err, OnErr}
use Rattle.std.specs.Prelude.{IfOk}
use Rattle.b2_host.specs.declared.fault.Failed.{Failed}
use Rattle.b2_facts.specs.declared.file_facts.FileFacts.{FileFacts}
use Rattle.b2_facts.specs.Facts.{Knowledge, IsNumber, file_at, with_file}
use Rattle.b2_facts.specs.Growth.{IncludesStay}
use Rattle.b2_facts.specs.Asks.{seen_of}
use Rattle.b2_facts.proofs.ListsAtPlaces.{set_here, some_is, get_some}
use Rattle.b2_facts.proofs.OneFileChanges.{file_after}
use Rattle.b2_facts.proofs.IncludesAreNotLearned.{includes_same}
use Rattle.b2_verdicts.specs.Sights.{seen_in, stamp_in, IsAsked}

stamp_seen : (stamp : Option ℕ) → seen_of stamp ≡ seen_of (stamp_in (seen_of stamp))
stamp_seen None = refl
stamp_seen (Some stamp) = refl

-- a file whose stamp was just seen was asked for
pub asked_now : (f g : Knowledge) (n : ℕ) (file : FileFacts) (stamp : Option ℕ) → file_at f n ≡ Some file → g ≡ with_file f n (record file { seen = seen_of stamp }) → IsAsked g n
asked_now f g n file stamp at same =
    let here : file_at g n ≡ Some (record file { seen = seen_of stamp }) = ap (λ k. file_at k n) same ∙ set_here f.files n (record file { seen = seen_of stamp }) file at in
    subst (λ o. seen_in o ≡ seen_of (stamp_in (seen_in o))) (sym here) (stamp_seen stamp)

-- what files include stays, where something else of one file changes
includes_stay : (f g : Knowledge) (n : ℕ) (old new : FileFacts) → file_at f n ≡ Some old → new.includes ≡ old.includes → g ≡ with_file f n new → IncludesStay f g
includes_stay f g n old new was same after k file later a b = elim (file_after f n old new was k later (subst (λ (h : Knowledge). file_at h k ≡ Some later) after b)) [
  | inl (here, is) ↦ (
      let one : old ≡ file = some_is old file (sym was ∙ subst (λ (m : ℕ). file_at f m ≡ Some file) here a) in
      ap (λ (x : FileFacts). x.includes) (sym is) ∙ same ∙ ap (λ (x : FileFacts). x.includes) one)
  | inr before ↦ ap (λ (x : FileFacts). x.includes) (some_is later file (sym before ∙ a))
]

-- so it does as stamps are asked for
pub includes_seen : (f g : Knowledge) (n : ℕ) (r : Result (Option ℕ) Failed) → IsNumber f n → IfOk r (λ stamp. (file : FileFacts) → file_at f n ≡ Some file → g ≡ with_file f n (record file { seen = seen_of stamp })) → OnErr r (g ≡ f) → IncludesStay f g
includes_seen f g n (Ok stamp) number exact err = let (file, at) = get_some f.files n number.1 in includes_stay f g n file (record file { seen = seen_of stamp }) at refl (exact file at)
includes_seen f g n (Err e) number exact err = subst (IncludesStay f) (sym err) (includes_same f)
