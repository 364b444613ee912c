-- Facts that grow, and grow again, have grown, and true facts stay true.
use Rattle.std.proofs.Common.{◌≡◌, ◌⊎◌, inl, inr, ℕ, List, Option, Some, None, Result, Ok, Err, OnErr, refl, sym, subst, ◌∙◌}
use Rattle.std.specs.Prelude.{OnOk}
use Rattle.std.proofs.lemmas.Option.{slice_get_within}
use Rattle.std.specs.Option.{IfSome}
use Rattle.b2_host.specs.Disks.{Folder, Disk}
use Rattle.b2_plan.specs.declared.step.Step.{Step}
use Rattle.b2_plan.specs.Sources.{Build, Include}
use Rattle.b2_facts.specs.declared.file_facts.FileLook.{FileLook}
use Rattle.b2_facts.specs.declared.file_facts.FileLook.TheVariants as seen
use Rattle.b2_facts.specs.declared.file_facts.FileFacts.{FileFacts}
use Rattle.b2_facts.specs.Facts.{Knowledge, IsNumber, IsList, IsBlank, file_at}
use Rattle.b2_facts.specs.Growth.{StaysSeen, Stays, FileGrows, Grows, IsLookedAt, LearnsOf, Learns}
use Rattle.b2_facts.specs.Truth.{StaysTrue, StaysTrueOf}
use Rattle.b2_facts.specs.Asks.{IsGivenBy, IsNotGivenBy}
use Rattle.b2_facts.proofs.ListsAtPlaces.{get_some, none_some}

-- ---- one file

seen_same : (s : FileLook) → StaysSeen s s
seen_same seen.Unasked = tt
seen_same seen.Gone = refl
seen_same (seen.Stands stamp) = refl

seen_then : (r s t : FileLook) → StaysSeen r s → StaysSeen s t → StaysSeen r t
seen_then seen.Unasked s t a b = tt
seen_then seen.Gone s t a b = subst (λ x. StaysSeen x t) a b
seen_then (seen.Stands stamp) s t a b = subst (λ x. StaysSeen x t) a b

pub stays_same : {X : Type 0} (x : Option X) → Stays x x
stays_same None = tt
stays_same (Some x) = refl

stays_then : {X : Type 0} (x y z : Option X) → Stays x y → Stays y z → Stays x z
stays_then None y z a b = tt
stays_then (Some x) y z a b = subst (λ o. Stays o z) a b

pub file_same : (file : FileFacts) → FileGrows file file
file_same file = record { maker = refl; rooted = refl; scanned = refl; seen = seen_same file.seen; includes = stays_same file.includes; digest = stays_same file.digest }

file_then : (x y z : FileFacts) → FileGrows x y → FileGrows y z → FileGrows x z
file_then x y z a b = record {
  maker = b.maker ∙ a.maker;
  rooted = b.rooted ∙ a.rooted;
  scanned = b.scanned ∙ a.scanned;
  seen = seen_then x.seen y.seen z.seen a.seen b.seen;
  includes = stays_then x.includes y.includes z.includes a.includes b.includes;
  digest = stays_then x.digest y.digest z.digest a.digest b.digest;
}

-- what is known of a file as facts stay known
pub stays_known : {X : Type 0} (x y : Option X) (known : X) → x ≡ Some known → Stays x y → y ≡ Some known
stays_known x y known e h = subst (λ o. Stays o y) e h

pub seen_known : (s t : FileLook) (stamp : ℕ) → s ≡ seen.Stands stamp → StaysSeen s t → t ≡ seen.Stands stamp
seen_known s t stamp e h = subst (λ x. StaysSeen x t) e h

pub gone_known : (s t : FileLook) → s ≡ seen.Gone → StaysSeen s t → t ≡ seen.Gone
gone_known s t e h = subst (λ x. StaysSeen x t) e h

-- ---- all

pub grows_same : (f : Knowledge) → Grows f f
grows_same f = record { paths = λ n path e. e; files = λ n file e. (file, e, file_same file); dirs = λ list dirs e. e; found = λ list n targets e. e }

pub grows_then : (f g h : Knowledge) → Grows f g → Grows g h → Grows f h
grows_then f g h a b = record {
  paths = λ n path e. b.paths n path (a.paths n path e);
  files = λ n file e. (let x = a.files n file e in let y = b.files n x.0 x.1 in (y.0, y.1, file_then file x.0 y.0 x.2 y.2));
  dirs = λ list dirs e. b.dirs list dirs (a.dirs list dirs e);
  found = λ list n targets e. b.found list n targets (a.found list n targets e);
}

only_then : (P : ℕ → Type 0) (f g h : Knowledge) → LearnsOf P f g → LearnsOf P g h → LearnsOf P f h
only_then P f g h a b n file e = elim (b n file e) [
  | inl looked ↦ looked_then file.includes refl looked
  | inr more ↦ elim more [
    | inl p ↦ inr (inl p)
    | inr last ↦ elim last [
      | inl before ↦ a n file before
      | inr blank ↦ inr (inr (inr blank))
    ]
  ]
]
  where
    looked_then : (o : Option (List Include)) → file.includes ≡ o → IsLookedAt g n file → IsLookedAt f n file ⊎ (P n ⊎ ((file_at f n ≡ Some file) ⊎ IsBlank file))
    looked_then None none looked = inl (record { outside = looked.outside; read = λ read. absurd (none_some read.0 (sym none ∙ read.1)) })
    looked_then (Some includes) is looked =
        let (was, at, read) = looked.read (includes, is) in
        elim (a n was at) [
          | inl before ↦ inl (record { outside = looked.outside; read = λ again. before.read read })
          | inr more ↦ elim more [
            | inl p ↦ inr (inl p)
            | inr last ↦ elim last [
              | inl same ↦ inl (record { outside = looked.outside; read = λ again. (was, same, read) })
              | inr blank ↦ absurd (none_some read.0 (sym blank.unread ∙ read.1))
            ]
          ]
        ]

-- a number stays one
pub number_grows : (f g : Knowledge) → Grows f g → (n : ℕ) → IsNumber f n → IsNumber g n
number_grows f g grows n is =
    let path = get_some f.paths n is.0 in
    let file = get_some f.files n is.1 in
    let later = grows.files n file.0 file.1 in
    (slice_get_within g.paths n path.0 (grows.paths n path.0 path.1), slice_get_within g.files n later.0 later.1)

-- the number of a list stays one
pub list_grows : (f g : Knowledge) → Grows f g → (list : ℕ) → IsList f list → IsList g list
list_grows f g grows list is = let dirs = get_some f.lists list is in slice_get_within g.lists list dirs.0 (grows.dirs list dirs.0 dirs.1)

-- what is given, or not, stays so
pub given_stays : (x y : FileFacts) → FileGrows x y → IsGivenBy x → IsGivenBy y
given_stays x y grown (IsGivenBy.made number is) = IsGivenBy.made number (grown.maker ∙ is)
given_stays x y grown (IsGivenBy.source stamp outside is) = IsGivenBy.source stamp (grown.rooted ∙ outside) (seen_known x.seen y.seen stamp is grown.seen)

pub not_given_stays : (x y : FileFacts) → FileGrows x y → IsNotGivenBy x → IsNotGivenBy y
not_given_stays x y grown none = record {
  unmade = grown.maker ∙ none.unmade;
  no_source = elim none.no_source [ inl rooted ↦ inl (grown.rooted ∙ rooted) | inr gone ↦ inr (gone_known x.seen y.seen gone grown.seen) ];
}

-- nothing new is learned where the facts stay
pub learns_same : (steps : List Step) (roots : List (List ℕ)) (P : ℕ → Type 0) (f : Knowledge) → Learns steps roots P f f
learns_same steps roots P f = record { about = λ about. about; grows = grows_same f; only = λ n file e. inr (inr (inl e)) }

pub learns_equal : (steps : List Step) (roots : List (List ℕ)) (P : ℕ → Type 0) (f g : Knowledge) → g ≡ f → Learns steps roots P f g
learns_equal steps roots P f g e = subst (Learns steps roots P f) (sym e) (learns_same steps roots P f)

-- what is learned of some files, and then of them again, is learned of them
pub learns_then : (steps : List Step) (roots : List (List ℕ)) (P : ℕ → Type 0) (f g h : Knowledge) → Learns steps roots P f g → Learns steps roots P g h → Learns steps roots P f h
learns_then steps roots P f g h a b = record { about = λ about. b.about (a.about about); grows = grows_then f g h a.grows b.grows; only = only_then P f g h a.only b.only }

-- what is learned of some files is learned of more
pub learns_more : (steps : List Step) (roots : List (List ℕ)) (P Q : ℕ → Type 0) (f g : Knowledge) → ((n : ℕ) → P n → Q n) → Learns steps roots P f g → Learns steps roots Q f g
learns_more steps roots P Q f g more a = record {
  about = a.about;
  grows = a.grows;
  only = λ n file e. elim (a.only n file e) [ inl out ↦ inl out | inr rest ↦ elim rest [ inl p ↦ inr (inl (more n p)) | inr last ↦ inr (inr last) ] ];
}

-- ---- truth

pub true_same : (steps : List Step) (roots : List (List ℕ)) (now : Folder) (f : Knowledge) → StaysTrue steps roots now f f
true_same steps roots now f b build kept about holds = holds

pub true_equal : (steps : List Step) (roots : List (List ℕ)) (now : Folder) (f g : Knowledge) → g ≡ f → StaysTrue steps roots now f g
true_equal steps roots now f g e = subst (StaysTrue steps roots now f) (sym e) (true_same steps roots now f)

pub true_of_then : (steps : List Step) (roots : List (List ℕ)) (P : ℕ → Type 0) (now : Folder) (f g h : Knowledge) (b : Build) → Learns steps roots P f g → StaysTrueOf steps roots now f g b → StaysTrueOf steps roots now g h b → StaysTrueOf steps roots now f h b
true_of_then steps roots P now f g h b learns first next build kept about holds = next build kept (learns.about about) (first build kept about holds)

pub true_then : (steps : List Step) (roots : List (List ℕ)) (P : ℕ → Type 0) (now : Folder) (f g h : Knowledge) → Learns steps roots P f g → StaysTrue steps roots now f g → StaysTrue steps roots now g h → StaysTrue steps roots now f h
true_then steps roots P now f g h learns first next b = true_of_then steps roots P now f g h b learns (first b) (next b)

-- what holds of either outcome
pub on_either : {T E : Type 0} (r : Result T E) (P A B : Type 0) → OnOk r A → OnErr r B → (A → P) → (B → P) → P
on_either (Ok x) P A B a b f g = f a
on_either (Err e) P A B a b f g = g b

-- what holds always holds of an error
pub on_err : {T E : Type 0} (r : Result T E) (P : Type 0) → P → OnErr r P
on_err (Ok x) P p = tt
on_err (Err e) P p = p

-- ---- what is told by a visible disk

pub told_map : {X : Type 0} (o : Option X) (P Q : X → Type 0) → ((x : X) → P x → Q x) → IfSome o P → IfSome o Q
told_map None P Q f h = tt
told_map (Some x) P Q f h = f x h

pub told_all : {X : Type 0} (o : Option X) (Q : X → Type 0) → ((x : X) → Q x) → IfSome o Q
told_all None Q f = tt
told_all (Some x) Q f = f x

pub told_both : {X : Type 0} (o : Option X) (P Q R : X → Type 0) → ((x : X) → P x → Q x → R x) → IfSome o P → IfSome o Q → IfSome o R
told_both None P Q R f a b = tt
told_both (Some x) P Q R f a b = f x a b

-- one call of a plan, and then another, on the same disk
pub told_then : (steps : List Step) (roots : List (List ℕ)) (P : ℕ → Type 0) (o later : Option Disk) (f g h : Knowledge) → later ≡ o → Learns steps roots P f g → IfSome o (λ d. StaysTrue steps roots d.now f g) → IfSome later (λ d. StaysTrue steps roots d.now g h) → IfSome o (λ d. StaysTrue steps roots d.now f h)
told_then steps roots P o later f g h same learns first next =
    told_both o (λ d. StaysTrue steps roots d.now f g) (λ d. StaysTrue steps roots d.now g h) (λ d. StaysTrue steps roots d.now f h) (λ d a b. true_then steps roots P d.now f g h learns a b) first (subst (λ x. IfSome x (λ d. StaysTrue steps roots d.now g h)) same next)
