-- What is known of one file changes.
use Rattle.std.proofs.Common.{◌≡◌, ◌⊎◌, inl, inr, ℕ, ◌<◌, List, Some, sym, ap, subst, ◌∙◌}
use Rattle.std.proofs.lemmas.Bool.{cases_eq}
use Rattle.b2_host.specs.Disks.{Folder}
use Rattle.b2_plan.specs.declared.step.Step.{Step}
use Rattle.b2_plan.specs.Sources.{Build}
use Rattle.b2_facts.specs.declared.file_facts.FileFacts.{FileFacts}
use Rattle.b2_facts.specs.Facts.{Knowledge, with_file, IsNumber, IsPlanned, IsAbout, IsRead, path_at, file_at}
use Rattle.b2_facts.specs.Growth.{FileGrows, Learns}
use Rattle.b2_facts.specs.Truth.{AreTrueOfFile, AreTrue}
use Rattle.b2_facts.proofs.ListsAtPlaces.{set_here, set_there, set_same, set_again, set_length, some_is}
use Rattle.b2_facts.proofs.FactsGrow.{file_same, stays_known}

-- the file that a number has after the change
pub file_after : (f : Knowledge) (n : ℕ) (old new : FileFacts) → file_at f n ≡ Some old → (k : ℕ) (file : FileFacts) → file_at (with_file f n new) k ≡ Some file → ((k ≡ n) × (new ≡ file)) ⊎ (file_at f k ≡ Some file)
file_after f n old new was k file is = elim (cases_eq k n) [
  | inl same ↦ inl (same, some_is new file (sym (set_here f.files n new old was) ∙ subst (λ (m : ℕ). file_at (with_file f n new) m ≡ Some file) same is))
  | inr other ↦ inr (sym (set_there f.files n k new other) ∙ is)
]

pub number_stays : (f : Knowledge) (n : ℕ) (new : FileFacts) (k : ℕ) → IsNumber f k → IsNumber (with_file f n new) k
number_stays f n new k h = (h.0, subst (λ (m : ℕ). k < m) (sym (set_length f.files n new)) h.1)

-- the facts stay about the plan's files
pub about_file : (steps : List Step) (roots : List (List ℕ)) (f : Knowledge) (n : ℕ) (old new : FileFacts) → file_at f n ≡ Some old → ((path : List ℕ) → IsPlanned steps roots path old → IsPlanned steps roots path new) → (IsRead old → IsRead new) → IsAbout steps roots f → IsAbout steps roots (with_file f n new)
about_file steps roots f n old new was planned read about = record {
  sizes = set_length f.files n new ∙ about.sizes;
  distinct = about.distinct;
  planned = λ k path file is. elim (file_after f n old new was k file is.file_is) [
    | inl (same, at) ↦ subst (IsPlanned steps roots path) at (planned path (about.planned n path old (record { path_is = subst (λ (m : ℕ). path_at f m ≡ Some path) same is.path_is; file_is = was })))
    | inr before ↦ about.planned k path file (record { path_is = is.path_is; file_is = before })
  ];
  found = λ list k targets e. (let l = about.found list k targets e in record {
    listed = l.listed;
    numbered = number_stays f n new k l.numbered;
    each = λ target among. number_stays f n new target (l.each target among);
    read = λ file is. elim (file_after f n old new was k file is) [
      | inl (same, at) ↦ subst IsRead at (read (l.read old (subst (λ (m : ℕ). file_at f m ≡ Some old) (sym same) was)))
      | inr before ↦ l.read file before
    ];
  });
}

-- more is known of one file
pub learns_file : (steps : List Step) (roots : List (List ℕ)) (P : ℕ → Type 0) (f : Knowledge) (n : ℕ) (old new : FileFacts) → file_at f n ≡ Some old → FileGrows old new → ((path : List ℕ) → IsPlanned steps roots path old → IsPlanned steps roots path new) → P n → Learns steps roots P f (with_file f n new)
learns_file steps roots P f n old new was grown planned allowed = record {
  about = about_file steps roots f n old new was planned (λ read. (read.0, stays_known old.includes new.includes read.0 read.1 grown.includes));
  grows = record {
    paths = λ k path e. e;
    files = λ k file e. files k file e (cases_eq k n);
    dirs = λ list dirs e. e;
    found = λ list k targets e. e;
  };
  only = λ k file e. elim (file_after f n old new was k file e) [
    | inl (same, at) ↦ inr (inl (subst P (sym same) allowed))
    | inr before ↦ inr (inr (inl before))
  ];
}
  where
    files : (k : ℕ) (file : FileFacts) → file_at f k ≡ Some file → (k ≡ n) ⊎ (k ≡ n → ⊥) → (later : FileFacts) × (file_at (with_file f n new) k ≡ Some later) × FileGrows file later
    files k file e (inl same) =
        let one : old ≡ file = some_is old file (sym was ∙ subst (λ (m : ℕ). file_at f m ≡ Some file) same e) in
        (new, subst (λ (m : ℕ). file_at (with_file f n new) m ≡ Some new) (sym same) (set_here f.files n new old was), subst (λ (x : FileFacts). FileGrows x new) one grown)
    files k file e (inr other) = (file, set_there f.files n k new other ∙ e, file_same file)

-- true facts stay true
pub true_file : (b : Build) (now : Folder) (f : Knowledge) (n : ℕ) (old new : FileFacts) → file_at f n ≡ Some old → ((path : List ℕ) → path_at f n ≡ Some path → AreTrueOfFile b now path old → AreTrueOfFile b now path new) → AreTrue b now f → AreTrue b now (with_file f n new)
true_file b now f n old new was stays holds = record {
  files = λ k path file is. elim (file_after f n old new was k file is.file_is) [
    | inl (same, at) ↦ (let here : path_at f n ≡ Some path = subst (λ (m : ℕ). path_at f m ≡ Some path) same is.path_is in subst (AreTrueOfFile b now path) at (stays path here (holds.files n path old (record { path_is = here; file_is = was }))))
    | inr before ↦ holds.files k path file (record { path_is = is.path_is; file_is = before })
  ];
  found = λ list k path dirs targets p d t. (let a = holds.found list k path dirs targets p d t in record { bytes = a.bytes; stands = a.stands; each = a.each; whole = a.whole });
}

pub true_changed : (b : Build) (now : Folder) (f g : Knowledge) (n : ℕ) (old new : FileFacts) → file_at f n ≡ Some old → g ≡ with_file f n new → ((path : List ℕ) → path_at f n ≡ Some path → AreTrueOfFile b now path old → AreTrueOfFile b now path new) → AreTrue b now f → AreTrue b now g
true_changed b now f g n old new was after stays holds = subst (AreTrue b now) (sym after) (true_file b now f n old new was stays holds)

-- a file that is set to what it is
pub file_as_was : (f : Knowledge) (n : ℕ) (file : FileFacts) → file_at f n ≡ Some file → with_file f n file ≡ f
file_as_was f n file was = ap (λ (files : List FileFacts). let r : Knowledge = record { paths = f.paths; files = files; lists = f.lists; found = f.found } in r) (set_same f.files n file was)

-- a file that is set twice
pub file_again : (f : Knowledge) (n : ℕ) (x y : FileFacts) → with_file (with_file f n x) n y ≡ with_file f n y
file_again f n x y = ap (λ (files : List FileFacts). let r : Knowledge = record { paths = f.paths; files = files; lists = f.lists; found = f.found } in r) (set_again f.files n x y)
