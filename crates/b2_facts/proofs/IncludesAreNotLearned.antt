-- What files include stays as a digest comes to be known.
use Rattle.std.proofs.Common.{◌≡◌, ◌⊎◌, inl, inr, ℕ, List, Option, Some, None, sym, ap, subst, ◌∙◌}
use Rattle.b2_facts.specs.declared.file_facts.FileFacts.{FileFacts}
use Rattle.b2_facts.specs.Facts.{Knowledge, with_file, IsNumber, file_at}
use Rattle.b2_facts.specs.Growth.{IncludesStay}
use Rattle.b2_facts.proofs.ListsAtPlaces.{some_is}
use Rattle.b2_facts.proofs.LooksAreKept.{number_file}
use Rattle.b2_facts.proofs.OneFileChanges.{file_after}

pub includes_same : (f : Knowledge) → IncludesStay f f
includes_same f n file later a b = ap (λ (x : FileFacts). x.includes) (some_is later file (sym b ∙ a))

pub includes_digest : (f g : Knowledge) (n : ℕ) (digest : List ℕ) → IsNumber f n → ((file : FileFacts) → file_at f n ≡ Some file → g ≡ with_file f n (record file { digest = Some digest })) → IncludesStay f g
includes_digest f g n digest number after k file later a b =
    let old = number_file f n number in
    let new = record old.0 { digest = Some digest } in
    let now : file_at (with_file f n new) k ≡ Some later = subst (λ (h : Knowledge). file_at h k ≡ Some later) (after old.0 old.1) b in
    elim (file_after f n old.0 new old.1 k later now) [
      | inl (same, at) ↦ (
          let one : old.0 ≡ file = some_is old.0 file (sym old.1 ∙ subst (λ (m : ℕ). file_at f m ≡ Some file) same a) in
          ap (λ (x : FileFacts). x.includes) (sym at) ∙ ap (λ (x : FileFacts). x.includes) one)
      | inr before ↦ ap (λ (x : FileFacts). x.includes) (some_is later file (sym before ∙ a))
    ]
