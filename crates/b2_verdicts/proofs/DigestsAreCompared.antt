-- Digests of a record and of files.
use Rattle.std.proofs.Common.{◌≡◌, ◌⊎◌, inl, inr, ℕ, ◌+◌, ◌<◌, ◌≤◌, List, [], ◌∷◌, ◌++◌, Option, Some, None, Result, Ok, length, get_or, slice_get, sym, ap, subst, ◌∙◌, arith, option_map}
use Rattle.std.specs.List.{Contains}
use Rattle.std.specs.Option.{IfSome}
use Rattle.std.proofs.lemmas.Bool.{cases_lt}
use Rattle.std.proofs.lemmas.Option.{slice_get_read, slice_get_within}
use Rattle.b2_host.specs.Disks.{File, Folder, Disk, bytes_at}
use Rattle.b2_host.specs.FileCalls.{stamp_at}
use Rattle.b2_host.specs.Outside.{Outside}
use Rattle.b2_plan.specs.declared.step.Step.{Step}
use Rattle.b2_plan.specs.Sources.{Build}
use Rattle.b2_log.specs.declared.line.Record.{Record}
use Rattle.b2_log.specs.declared.line.Digests.{Digests}
use Rattle.b2_runs.specs.LogLaws.{TellsDigest}
use Rattle.b2_runs.proofs.SameByStamp.{stamped_file}
use Rattle.b2_facts.specs.Digests.{digest_of}
use Rattle.b2_facts.specs.Facts.{Knowledge, path_at}
use Rattle.b2_facts.specs.Growth.{Grows, Learns, OfOne, IncludesStay}
use Rattle.b2_facts.specs.Truth.{IsReadAs, AreTrue, StaysTrue}
use Rattle.b2_facts.proofs.ListsAtPlaces.{some_is, get_more}
use Rattle.b2_verdicts.specs.declared.step_numbers.StepNumbers.{StepNumbers}
use Rattle.b2_facts.specs.declared.stop.FilesStop.{FilesStop}
use Rattle.b2_verdicts.specs.Sights.{stamp_of, digest_at}
use Rattle.b2_verdicts.specs.Points.{HavePaths, HaveDigests, IsOtherDigest, IsSaved}
use Rattle.b2_verdicts.specs.VerdictCalls.{IsOfStep, LastTells, KnowsMore, Asks}
use Rattle.b2_verdicts.specs.Digested.{TellsOne, TellEach, TellsBoth, HasNames, IsGoneIfUnknown}
use Rattle.b2_verdicts.proofs.WhatIsKnownStays.{standing_asked, digest_stays}
use Rattle.b2_verdicts.proofs.MoreIsKnown.{knows_grows}
use Rattle.b2_verdicts.proofs.ListsAtPlaces.{index_among, zip_forth}
use Rattle.b2_verdicts.proofs.TrueFactsTell.{stamp_tells}
use Rattle.b2_verdicts.proofs.AskingGoesOn.{asks_then, asks_weaker}

-- a digest that is taken from a record at the file's present stamp is that of the file
pub logged_known : (f g : Knowledge) (n stamp : ℕ) (digest made : List ℕ) (disk : Option Disk) → made ≡ digest → stamp_of f n ≡ Some stamp → ((steps : List Step) (roots : List (List ℕ)) → Learns steps roots (OfOne n) f g) → IncludesStay f g
    → ((b : Build) (now : Folder) → ((path : List ℕ) → path_at f n ≡ Some path → IsReadAs digest_of (bytes_at now path) (Some made)) → AreTrue b now f → AreTrue b now g) → KnowsMore (OfOne n) disk (TellsOne f n stamp digest) f g
logged_known f g n stamp digest made disk same at learns includes told = record { learns = learns; includes = includes; stays = go disk }
  where
    read : (b : Build) (now : Folder) → TellsOne f n stamp digest now → AreTrue b now f → (path : List ℕ) → path_at f n ≡ Some path → IsReadAs digest_of (bytes_at now path) (Some made)
    read b now tells holds path name =
        let stands : stamp_at now path ≡ Some stamp = stamp_tells b now f n path holds name (standing_asked f n stamp at) ∙ at in
        let (file, there, is) = stamped_file now path stamp stands in
        let bytes : bytes_at now path ≡ Some file.bytes = ap (option_map (λ (x : File). x.bytes)) there in
        (file.bytes, bytes, same ∙ tells.tells path name file.bytes stands bytes ∙ ap (λ d. d file.bytes) tells.same)

    go : (disk : Option Disk) → IfSome disk (λ d. TellsOne f n stamp digest d.now → (steps : List Step) (roots : List (List ℕ)) → StaysTrue steps roots d.now f g)
    go None = tt
    go (Some d) = λ tells steps roots b build kept about holds. told b d.now (read b d.now tells holds) holds

-- the digests of a record tell of the file at a place
pub one_told : (f : Knowledge) (ns : List ℕ) (logged : List (List ℕ × ℕ)) (digests : List (List ℕ)) (k : ℕ) (one : List ℕ × ℕ) (digest : List ℕ) (now : Folder) → HavePaths f logged ns → k < length ns → slice_get logged k ≡ Some one → slice_get digests k ≡ Some digest
    → TellEach logged digests now → TellsOne f (get_or ns k 0) one.1 digest now
one_told f ns logged digests k one digest now have within at told each =
    let (own, e, tells) = zip_forth (TellsDigest each.m now) logged digests k one each.tells at in record {
      m = each.m;
      same = each.same;
      tells = λ path name.
          (let own_is : own ≡ digest = some_is own digest (sym e ∙ told) in
          let path_is : one.0 ≡ path = some_is one.0 path (sym (have.each k one within at) ∙ name) in
          subst (λ p. TellsDigest each.m now (p, one.1) digest) path_is (subst (TellsDigest each.m now one) own_is tells));
    }

pub paths_more : (f g : Knowledge) (ns : List ℕ) (logged : List (List ℕ × ℕ)) → Grows f g → HavePaths f logged ns → HavePaths g logged ns
paths_more f g ns logged grows have = record { count = have.count; each = λ k one within e. grows.paths (get_or ns k 0) one.0 (have.each k one within e) }

pub digests_more : (f g : Knowledge) (ns : List ℕ) (digests : List (List ℕ)) → Grows f g → HaveDigests f ns digests → HaveDigests g ns digests
digests_more f g ns digests grows have = record { count = have.count; each = λ k digest within e. digest_stays f g (get_or ns k 0) digest grows (have.each k digest within e) }

-- all so far have their digests, and one more is asked for
pub asks_one_more : {T U : Type 0} (P : ℕ → Type 0) (n : ℕ) (Q S : Folder → Type 0) (f g h : Knowledge) (x y z : Outside) (a : T) (r : Result U FilesStop) → P n → ((now : Folder) → Q now → S now) → Asks {T = T} P Q f g x y (Ok a) → Asks {T = U} (OfOne n) S g h y z r → Asks {T = U} P Q f h x z r
asks_one_more {T} {U} P n Q S f g h x y z a r p more first next = asks_then {T = T} {U = U} P Q f g h x y z a r first (asks_weaker {T = U} (OfOne n) P S Q g h y z r (λ m e. subst P (sym e) p) more next)

-- the last record's digests tell of both lists
pub last_both : (found : Record) (digests : Digests) (now : Folder) → found.digests ≡ Some digests → LastTells (Some found) now → TellsBoth found digests now
last_both found digests now has last =
    let (outs, ins) = last.tells digests has in
    record { outs = record { m = last.m; same = last.digest; tells = outs }; ins = record { m = last.m; same = last.digest; tells = ins } }

-- a file has another digest than the record
pub differs_at : (disk : Option Disk) (g : Knowledge) (ns : List ℕ) (digests : List (List ℕ)) (k : ℕ) (digest : List ℕ) → k < length ns → slice_get digests k ≡ Some digest → (digest_at g (get_or ns k 0) ≡ Some digest → ⊥) → IsGoneIfUnknown disk g (get_or ns k 0) → IsOtherDigest disk g ns digests
differs_at disk g ns digests k digest within told other gone = record { place = k; within = within; digest = digest; told = told; other = other; gone = gone }

-- ---- one file after another

-- A file is compared with what a record has at its place.
pub record IsCompared (f : Knowledge) (ns : List ℕ) (logged : List (List ℕ × ℕ)) (digests : List (List ℕ)) (k : ℕ) (one : List ℕ × ℕ) (digest : List ℕ) : Type 0 where
  pub have : HavePaths f logged ns
  pub within : k < length ns
  pub at : slice_get logged k ≡ Some one
  pub told : slice_get digests k ≡ Some digest

pub compared : (f : Knowledge) (ns : List ℕ) (logged : List (List ℕ × ℕ)) (digests : List (List ℕ)) (k : ℕ) (one : List ℕ × ℕ) (digest : List ℕ) → HavePaths f logged ns → length digests ≡ length ns → k < length ns → one ≡ get_or logged k one → digest ≡ get_or digests k digest
    → IsCompared f ns logged digests k one digest
compared f ns logged digests k one digest have count within one_is digest_is = record {
  have = have;
  within = within;
  at = slice_get_read logged (length ns) k one (sym have.count) within one_is;
  told = slice_get_read digests (length ns) k digest (sym count) within digest_is;
}

-- the files so far were asked for, and then one more
pub asks_next : {T U : Type 0} (ns : List ℕ) (logged : List (List ℕ × ℕ)) (digests : List (List ℕ)) (f g h : Knowledge) (x y z : Outside) (a : T) (r : Result U FilesStop) (k : ℕ) (one : List ℕ × ℕ) (digest : List ℕ) → IsCompared f ns logged digests k one digest
    → Asks {T = T} (Contains ns) (TellEach logged digests) f g x y (Ok a) → Asks {T = U} (OfOne (get_or ns k 0)) (TellsOne g (get_or ns k 0) one.1 digest) g h y z r → Asks {T = U} (Contains ns) (TellEach logged digests) f h x z r
asks_next {T} {U} ns logged digests f g h x y z a r k one digest at first next =
    let grows = knows_grows (Contains ns) x.disk (TellEach logged digests) f g first.learns in
    asks_one_more {T = T} {U = U} (Contains ns) (get_or ns k 0) (TellEach logged digests) (TellsOne g (get_or ns k 0) one.1 digest) f g h x y z a r (index_among ns k at.within)
    (λ now each. one_told g ns logged digests k one digest now (paths_more f g ns logged grows at.have) at.within at.at at.told each) first next

-- the digests so far are known, and one more
pub known_next : (g h : Knowledge) (ns : List ℕ) (digests : List (List ℕ)) (place : ℕ) (digest : List ℕ) → Grows g h → ((k : ℕ) (d : List ℕ) → k < place → slice_get digests k ≡ Some d → digest_at g (get_or ns k 0) ≡ Some d) → slice_get digests place ≡ Some digest
    → digest_at h (get_or ns place 0) ≡ Some digest → (k : ℕ) (d : List ℕ) → k < place + 1 → slice_get digests k ≡ Some d → digest_at h (get_or ns k 0) ≡ Some d
known_next g h ns digests place digest grows known told now k d below at = go (cases_lt k place)
  where
    go : (k < place) ⊎ (place ≤ k) → digest_at h (get_or ns k 0) ≡ Some d
    go (inl less) = digest_stays g h (get_or ns k 0) d grows (known k d less at)
    go (inr past) =
        let e : k ≡ place = omega arith in
        subst (λ j. digest_at h (get_or ns j 0) ≡ Some d) (sym e) (now ∙ ap Some (some_is digest d (sym told ∙ subst (λ j. slice_get digests j ≡ Some d) e at)))

-- the digests so far are known, and one more that is put behind them
pub known_behind : (g h : Knowledge) (ns : List ℕ) (made : List (List ℕ)) (place : ℕ) (digest : List ℕ) → Grows g h → length made ≡ place → ((k : ℕ) (d : List ℕ) → k < place → slice_get made k ≡ Some d → digest_at g (get_or ns k 0) ≡ Some d)
    → digest_at h (get_or ns place 0) ≡ Some digest → (k : ℕ) (d : List ℕ) → k < place + 1 → slice_get (made ++ digest ∷ []) k ≡ Some d → digest_at h (get_or ns k 0) ≡ Some d
known_behind g h ns made place digest grows count known now k d below at = elim (get_more made digest k d at) [
  | inl front ↦ (let low = slice_get_within made k d front in digest_stays g h (get_or ns k 0) d grows (known k d (omega (arith, low, count)) front))
  | inr last ↦ subst (λ j. digest_at h (get_or ns j 0) ≡ Some d) (sym (last.0 ∙ count)) (now ∙ ap Some last.1)
]

-- ---- both lists of a record

tell_along : (logged xs : List (List ℕ × ℕ)) (texts ys : List (List ℕ)) (now : Folder) → logged ≡ xs → texts ≡ ys → TellEach xs ys now → TellEach logged texts now
tell_along logged xs texts ys now e f each = subst (λ l. TellEach l texts now) (sym e) (subst (λ t. TellEach xs t now) (sym f) each)

pub asks_of_outs : {T : Type 0} (numbers : StepNumbers) (last : Record) (digests : Digests) (f g : Knowledge) (x y : Outside) (r : Result T FilesStop) (ns : List ℕ) (logged : List (List ℕ × ℕ)) (texts : List (List ℕ)) → ns ≡ numbers.outs → logged ≡ last.outs → texts ≡ digests.outs
    → Asks {T = T} (Contains ns) (TellEach logged texts) f g x y r → Asks {T = T} (IsOfStep numbers) (TellsBoth last digests) f g x y r
asks_of_outs {T} numbers last digests f g x y r ns logged texts of_step of_last of_digests asks =
    asks_weaker {T = T} (Contains ns) (IsOfStep numbers) (TellEach logged texts) (TellsBoth last digests) f g x y r (λ n among. inl (subst (λ l. Contains l n) of_step among)) (λ now both. tell_along logged last.outs texts digests.outs now of_last of_digests both.outs) asks

pub asks_of_ins : {T : Type 0} (numbers : StepNumbers) (last : Record) (digests : Digests) (f g : Knowledge) (x y : Outside) (r : Result T FilesStop) (ns : List ℕ) (logged : List (List ℕ × ℕ)) (texts : List (List ℕ)) → ns ≡ numbers.ins → logged ≡ last.ins → texts ≡ digests.ins
    → Asks {T = T} (Contains ns) (TellEach logged texts) f g x y r → Asks {T = T} (IsOfStep numbers) (TellsBoth last digests) f g x y r
asks_of_ins {T} numbers last digests f g x y r ns logged texts of_step of_last of_digests asks =
    asks_weaker {T = T} (Contains ns) (IsOfStep numbers) (TellEach logged texts) (TellsBoth last digests) f g x y r (λ n among. inr (subst (λ l. Contains l n) of_step among)) (λ now both. tell_along logged last.ins texts digests.ins now of_last of_digests both.ins) asks

pub paths_along : (f : Knowledge) (ns ms : List ℕ) (logged xs : List (List ℕ × ℕ)) → ns ≡ ms → logged ≡ xs → HavePaths f xs ms → HavePaths f logged ns
paths_along f ns ms logged xs e l have = subst (HavePaths f logged) (sym e) (subst (λ y. HavePaths f y ms) (sym l) have)

pub digests_along : (g : Knowledge) (ns ms : List ℕ) (texts ys : List (List ℕ)) → ns ≡ ms → texts ≡ ys → HaveDigests g ns texts → HaveDigests g ms ys
digests_along g ns ms texts ys e t have = subst (λ l. HaveDigests g l ys) e (subst (HaveDigests g ns) t have)

pub other_along : (disk later : Option Disk) (g : Knowledge) (ns ms : List ℕ) (texts ys : List (List ℕ)) → later ≡ disk → ns ≡ ms → texts ≡ ys → IsOtherDigest later g ns texts → IsOtherDigest disk g ms ys
other_along disk later g ns ms texts ys same e t other = subst (λ d. IsOtherDigest d g ms ys) same (subst (λ l. IsOtherDigest later g l ys) e (subst (IsOtherDigest later g ns) t other))

-- a record whose digests are those of the files is saved
pub saved_by : (step : Step) (numbers : StepNumbers) (f g : Knowledge) (found : Record) (digests : Digests) → Grows f g → HasNames step numbers f found → found.digests ≡ Some digests → HaveDigests g numbers.outs digests.outs × HaveDigests g numbers.ins digests.ins → IsSaved step numbers g found
saved_by step numbers f g found digests grows names has (outs, ins) = record {
  text = names.text;
  digests = digests;
  has = has;
  outs_named = paths_more f g numbers.outs found.outs grows names.outs;
  ins_named = paths_more f g numbers.ins found.ins grows names.ins;
  outs = outs;
  ins = ins;
}
