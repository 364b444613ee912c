-- What was seen of a file is kept, and tells whether it is given.
use Rattle.std.proofs.Common.{◌≡◌, inl, inr, ℕ, true, false, is_some, List, Option, Some, None, refl, sym, ap, subst, ◌∙◌}
use Rattle.b2_host.specs.Disks.{Folder, StatTold}
use Rattle.b2_host.specs.FileCalls.{stamp_at}
use Rattle.b2_plan.specs.declared.step.Step.{Step}
use Rattle.b2_plan.specs.Sources.{Build}
use Rattle.b2_facts.specs.declared.file_facts.FileLook.{FileLook}
use Rattle.b2_facts.specs.declared.file_facts.FileLook.TheVariants as seen
use Rattle.b2_facts.specs.declared.file_facts.FileFacts.{FileFacts}
use Rattle.b2_facts.specs.Facts.{Knowledge, with_file, IsNumber, IsRead, IsAbout, path_at, file_at}
use Rattle.b2_facts.specs.Growth.{StaysSeen, IsOutside, Learns, OfOne}
use Rattle.b2_facts.specs.Truth.{IsSeen, AreTrue, StaysTrue}
use Rattle.b2_facts.specs.Asks.{seen_of, IsGivenBy, IsNotGivenBy, IsToldGiven}
use Rattle.b2_facts.proofs.ListsAtPlaces.{get_some, some_is, none_some, set_here}
use Rattle.b2_facts.proofs.FactsGrow.{stays_same}
use Rattle.b2_facts.proofs.OneFileChanges.{about_file, learns_file, true_file, file_as_was}

-- there are facts of the file with a number
pub number_file : (f : Knowledge) (n : ℕ) → IsNumber f n → (file : FileFacts) × (file_at f n ≡ Some file)
number_file f n is = get_some f.files n is.1

-- ---- a stamp

-- what was seen is set by a stamp
pub seen_by : (f g : Knowledge) (n : ℕ) (s : FileLook) (stamp : Option ℕ) → s ≡ seen_of stamp → ((file : FileFacts) → file_at f n ≡ Some file → g ≡ with_file f n (record file { seen = s }))
    → (file : FileFacts) → file_at f n ≡ Some file → g ≡ with_file f n (record file { seen = seen_of stamp })
seen_by f g n s stamp same set = subst (λ (t : FileLook). (file : FileFacts) → file_at f n ≡ Some file → g ≡ with_file f n (record file { seen = t })) same set

module _ (f g : Knowledge) (n : ℕ) (file : FileFacts) (was : file_at f n ≡ Some file) (unasked : file.seen ≡ seen.Unasked) (stamp : Option ℕ) (after : g ≡ with_file f n (record file { seen = seen_of stamp })) where
  pub stamp_learns : (steps : List Step) (roots : List (List ℕ)) → Learns steps roots (OfOne n) f g
  stamp_learns steps roots = subst (Learns steps roots (OfOne n) f) (sym after) (learns_file steps roots (OfOne n) f n file (record file { seen = seen_of stamp }) was
      (record { maker = refl; rooted = refl; scanned = refl; seen = subst (λ (s : FileLook). StaysSeen s (seen_of stamp)) (sym unasked) tt; includes = stays_same file.includes; digest = stays_same file.digest })
      (λ path p. record { maker = p.maker; rooted = p.rooted; scanned = p.scanned; read = p.read; digested = p.digested }) refl)

  pub stamp_true : (steps : List Step) (roots : List (List ℕ)) (now : Folder) (path : List ℕ) → path_at f n ≡ Some path → StatTold path stamp now → StaysTrue steps roots now f g
  stamp_true steps roots now path there told = subst (StaysTrue steps roots now f) (sym after) (λ b build kept about holds. true_file b now f n file (record file { seen = seen_of stamp }) was
      (λ other is t. record { seen = seen_so other (some_is path other (sym there ∙ is)); includes = t.includes; digest = t.digest }) holds)
    where
      by_stamp : (s t : Option ℕ) → s ≡ t → IsSeen (seen_of s) t
      by_stamp None t e = sym e
      by_stamp (Some s) t e = sym e

      seen_so : (other : List ℕ) → path ≡ other → IsSeen (seen_of stamp) (stamp_at now other)
      seen_so other same = subst (λ (p : List ℕ). IsSeen (seen_of stamp) (stamp_at now p)) same (by_stamp stamp (stamp_at now path) told)

-- a stamp that is known is told again
pub stamp_known : (f : Knowledge) (n : ℕ) (known : FileFacts) (stamp : Option ℕ) → file_at f n ≡ Some known → known.seen ≡ seen_of stamp → (file : FileFacts) → file_at f n ≡ Some file → f ≡ with_file f n (record file { seen = seen_of stamp })
stamp_known f n known stamp was is file e =
    let same : known ≡ file = some_is known file (sym was ∙ e) in
    let seen_is : file.seen ≡ seen_of stamp = subst (λ (x : FileFacts). x.seen ≡ seen_of stamp) same is in
    sym (ap (λ (s : FileLook). with_file f n (record file { seen = s })) (sym seen_is) ∙ file_as_was f n file e)

-- ---- given

-- no includes are learned by a stamp
pub unread_equal : (f g : Knowledge) (n : ℕ) (file : FileFacts) → g ≡ f → file_at f n ≡ Some file → (later : FileFacts) → file_at g n ≡ Some later → IsRead later → IsRead file
unread_equal f g n file same was later is read = subst IsRead (sym (some_is file later (sym was ∙ subst (λ (k : Knowledge). file_at k n ≡ Some later) same is))) read

pub unread_seen : (f g : Knowledge) (n : ℕ) (file : FileFacts) (s : FileLook) → g ≡ with_file f n (record file { seen = s }) → file_at f n ≡ Some file → (later : FileFacts) → file_at g n ≡ Some later → IsRead later → IsRead file
unread_seen f g n file s after was later is read =
    let one : record file { seen = s } ≡ later = some_is (record file { seen = s }) later (sym (set_here f.files n (record file { seen = s }) file was) ∙ subst (λ (k : Knowledge). file_at k n ≡ Some later) after is) in
    let back : IsRead (record file { seen = s }) = subst IsRead (sym one) read in
    (back.0, back.1)

-- what is learned of a file outside the output roots that no step makes
pub learns_unmade : (steps : List Step) (roots : List (List ℕ)) (P : ℕ → Type 0) (f g : Knowledge) (n : ℕ) (file : FileFacts) → file_at f n ≡ Some file → file.maker ≡ None → file.rooted ≡ false → ((later : FileFacts) → file_at g n ≡ Some later → IsRead later → IsRead file) → Learns steps roots (OfOne n) f g → Learns steps roots P f g
learns_unmade steps roots P f g n file was none free unread a = record {
  about = a.about;
  grows = a.grows;
  only = λ k x e. elim (a.only k x e) [ inl out ↦ inl out | inr rest ↦ elim rest [ inl same ↦ inl (record { outside = outside k x e same; read = λ read. (file, subst (λ (m : ℕ). file_at f m ≡ Some file) (sym same) was, unread x (subst (λ (m : ℕ). file_at g m ≡ Some x) same e) read) }) | inr last ↦ inr (inr last) ] ];
}
  where
    outside : (k : ℕ) (x : FileFacts) → file_at g k ≡ Some x → k ≡ n → IsOutside x
    outside k x e same =
        let later = a.grows.files n file was in
        let one : later.0 ≡ x = some_is later.0 x (sym later.1 ∙ subst (λ (m : ℕ). file_at g m ≡ Some x) same e) in
        subst IsOutside one (later.2.maker ∙ none, later.2.rooted ∙ free)

-- a file that a step makes is given
pub given_made : (f : Knowledge) (n : ℕ) (known : FileFacts) → file_at f n ≡ Some known → is_some known.maker ≡ true → (file : FileFacts) → file_at f n ≡ Some file → IsToldGiven file true
given_made f n known was some file e = subst (λ (x : FileFacts). IsGivenBy x) (some_is known file (sym was ∙ e)) (go known.maker refl some)
  where
    go : (m : Option ℕ) → known.maker ≡ m → is_some m ≡ true → IsGivenBy known
    go None is h = absurd (let x : false ≡ true = h in cc)
    go (Some number) is h = IsGivenBy.made number is

pub no_maker : (m : Option ℕ) → is_some m ≡ false → m ≡ None
no_maker None h = refl
no_maker (Some number) h = absurd (let x : true ≡ false = h in cc)

-- a file that no step makes is not given under an output root
pub given_rooted : (f : Knowledge) (n : ℕ) (known : FileFacts) → file_at f n ≡ Some known → is_some known.maker ≡ false → known.rooted ≡ true → (file : FileFacts) → file_at f n ≡ Some file → IsToldGiven file false
given_rooted f n known was none rooted file e = subst (λ (x : FileFacts). IsNotGivenBy x) (some_is known file (sym was ∙ e)) (record { unmade = no_maker known.maker none; no_source = inl rooted })

-- elsewhere its stamp tells
pub given_stamp : (f g : Knowledge) (n : ℕ) (known : FileFacts) (stamp : Option ℕ) → file_at f n ≡ Some known → is_some known.maker ≡ false → known.rooted ≡ false → g ≡ with_file f n (record known { seen = seen_of stamp }) → (file : FileFacts) → file_at g n ≡ Some file → IsToldGiven file (is_some stamp)
given_stamp f g n known stamp was none outside after file e =
    let now : file_at g n ≡ Some (record known { seen = seen_of stamp }) = subst (λ (h : Knowledge). file_at h n ≡ Some (record known { seen = seen_of stamp })) (sym after) (set_here f.files n (record known { seen = seen_of stamp }) known was) in
    let same : record known { seen = seen_of stamp } ≡ file = some_is (record known { seen = seen_of stamp }) file (sym now ∙ e) in
    subst (λ (x : FileFacts). IsToldGiven x (is_some stamp)) same (by_stamp stamp)
  where
    by_stamp : (s : Option ℕ) → IsToldGiven (record known { seen = seen_of s }) (is_some s)
    by_stamp None = record { unmade = no_maker known.maker none; no_source = inr refl }
    by_stamp (Some s) = IsGivenBy.source s outside refl

-- ---- forgotten

abbrev forgotten : FileFacts → FileFacts
forgotten file = record file { seen = seen.Unasked; digest = None }

pub forget_about : (steps : List Step) (roots : List (List ℕ)) (f g : Knowledge) (n : ℕ) → IsNumber f n → ((file : FileFacts) → file_at f n ≡ Some file → file.includes ≡ None) → ((file : FileFacts) → file_at f n ≡ Some file → g ≡ with_file f n (record file { seen = seen.Unasked; digest = None })) → IsAbout steps roots f → IsAbout steps roots g
forget_about steps roots f g n number unread after about =
    let file = number_file f n number in
    subst (IsAbout steps roots) (sym (after file.0 file.1)) (about_file steps roots f n file.0 (forgotten file.0) file.1
    (λ path p. record { maker = p.maker; rooted = p.rooted; scanned = p.scanned; read = p.read; digested = λ digest e. absurd (none_some digest e) }) (λ read. read) about)

pub forget_true : (b : Build) (now : Folder) (f g : Knowledge) (n : ℕ) → IsNumber f n → ((file : FileFacts) → file_at f n ≡ Some file → g ≡ with_file f n (record file { seen = seen.Unasked; digest = None })) → AreTrue b now f → AreTrue b now g
forget_true b now f g n number after holds =
    let file = number_file f n number in
    subst (AreTrue b now) (sym (after file.0 file.1)) (true_file b now f n file.0 (forgotten file.0) file.1 (λ path is t. record { seen = tt; includes = t.includes; digest = tt }) holds)
