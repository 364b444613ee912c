-- True facts tell what is a source or an output, and what is included.
use Rattle.std.proofs.Common.{◌≡◌, ◌⊎◌, inl, inr, ℕ, zero, suc, ◌+◌, Bool, true, false, cond, List, [], ◌∷◌, ◌++◌, Option, Some, None, slice_get, refl, sym, ap, subst, ◌∙◌}
use Rattle.std.specs.Prelude.{◌||◌}
use Rattle.std.specs.Option.{option_map}
use Rattle.std.specs.List.{Contains, AllByRecursion, list_any}
use Rattle.std.specs.Str.{bytes_eq}
use Rattle.std.proofs.lemmas.Slice.Eq.{bytes_eq-Decides}
use Rattle.std.proofs.lemmas.List.Elements.{Contains-append_right}
use Rattle.b2_host.specs.Disks.{File, Folder, bytes_at}
use Rattle.b2_host.specs.FileCalls.{stamp_at}
use Rattle.b2_plan.specs.declared.step.Step.{Step}
use Rattle.b2_plan.specs.Plans.{maker_from}
use Rattle.b2_plan.specs.Sources.{Build, Include, IsInRoots, IsSource, IsGiven, IsMissing, IsFound, Includes}
use Rattle.jam_scan.specs.Places.{places}
use Rattle.b2_facts.specs.declared.file_facts.FileLook.{FileLook}
use Rattle.b2_facts.specs.declared.file_facts.FileLook.TheVariants as seen
use Rattle.b2_facts.specs.declared.file_facts.FileFacts.{FileFacts}
use Rattle.b2_facts.specs.Facts.{Knowledge, with_found, IsFile, IsPlanned, IsAbout, IsBlank, path_at}
use Rattle.b2_facts.specs.Truth.{IsBuildOf, KeepsSources, IsSeen, IsReadAs, AreTrueOfFile, AreTargets, AreTrue, StaysTrue}
use Rattle.b2_facts.specs.Asks.{IsGivenBy, IsNotGivenBy, IsMissingAt, IsFirstGiven, IsLooking, AreFirsts}
use Rattle.b2_facts.specs.Digests.{digest_of}
use Rattle.b2_facts.specs.Laws.{TrueAsFilesChange, FactsTellGiven, FactsTellIncludes, FoundStands}
use Rattle.b2_facts.proofs.ListsAtPlaces.{some_is, none_some, at_place, among_at, all_map, all_at, get_some}
use Rattle.b2_facts.proofs.BytesAreKept.{stands_bytes}
use Rattle.b2_facts.proofs.FactsAreEntered.{blank_true, found_true}

-- ---- makers

among_any : (outs : List (List ℕ)) (path : List ℕ) → list_any (bytes_eq path) outs ≡ true → (k : ℕ) × (slice_get outs k ≡ Some path)
among_any [] path e = absurd (let x : false ≡ true = e in cc)
among_any (out ∷ outs) path e = go (among_any outs path) (bytes_eq path out) refl e
  where
    go : (list_any (bytes_eq path) outs ≡ true → (k : ℕ) × (slice_get outs k ≡ Some path)) → (b : Bool) → bytes_eq path out ≡ b → (b || list_any (bytes_eq path) outs) ≡ true → (k : ℕ) × (slice_get (out ∷ outs) k ≡ Some path)
    go rest true same h = (0, ap Some (sym ((bytes_eq-Decides path out).0 same)))
    go rest false other h = let r = rest h in (suc r.0, r.1)

any_among : (outs : List (List ℕ)) (path : List ℕ) (k : ℕ) → slice_get outs k ≡ Some path → list_any (bytes_eq path) outs ≡ true
any_among [] path k e = absurd (none_some path e)
any_among (out ∷ outs) path zero e = ap (λ (b : Bool). b || list_any (bytes_eq path) outs) ((bytes_eq-Decides path out).1 (sym (some_is out path e)))
any_among (out ∷ outs) path (suc k) e = go (bytes_eq path out) (any_among outs path k e)
  where
    go : (b : Bool) → list_any (bytes_eq path) outs ≡ true → (b || list_any (bytes_eq path) outs) ≡ true
    go true h = refl
    go false h = h

maker_there : (steps : List Step) (number : ℕ) (path : List ℕ) (found : ℕ) → maker_from number steps path ≡ Some found → (k : ℕ) × (step : Step) × (slice_get steps k ≡ Some step) × Contains step.outs path
maker_there [] number path found e = absurd (none_some found e)
maker_there (step ∷ steps) number path found e = go (maker_there steps (number + 1) path found) (list_any (bytes_eq path) step.outs) refl e
  where
    go : (maker_from (number + 1) steps path ≡ Some found → (k : ℕ) × (other : Step) × (slice_get steps k ≡ Some other) × Contains other.outs path) → (b : Bool) → list_any (bytes_eq path) step.outs ≡ b → cond b (Some number) (maker_from (number + 1) steps path) ≡ Some found → (k : ℕ) × (other : Step) × (slice_get (step ∷ steps) k ≡ Some other) × Contains other.outs path
    go rest true is h = (let r = among_any step.outs path is in (0, step, refl, among_at step.outs r.0 path r.1))
    go rest false is h = (let r = rest h in (suc r.0, r.1, r.2, r.3))

maker_absent : (steps : List Step) (number : ℕ) (path : List ℕ) → maker_from number steps path ≡ None → (k : ℕ) (step : Step) → slice_get steps k ≡ Some step → Contains step.outs path → ⊥
maker_absent [] number path e k step is among = none_some step is
maker_absent (first ∷ steps) number path e k step is among = go (λ none k at. maker_absent steps (number + 1) path none k step at among) (list_any (bytes_eq path) first.outs) refl e k is
  where
    go : (maker_from (number + 1) steps path ≡ None → (k : ℕ) → slice_get steps k ≡ Some step → ⊥) → (b : Bool) → list_any (bytes_eq path) first.outs ≡ b → cond b (Some number) (maker_from (number + 1) steps path) ≡ None → (k : ℕ) → slice_get (first ∷ steps) k ≡ Some step → ⊥
    go rest true any h k at = none_some number (sym h)
    go rest false any h zero at =
        let same : first ≡ step = some_is first step at in
        let there = at_place step.outs path among in
        let so : list_any (bytes_eq path) first.outs ≡ true = subst (λ (s : Step). list_any (bytes_eq path) s.outs ≡ true) (sym same) (any_among step.outs path there.0 there.1) in
        let x : false ≡ true = sym any ∙ so in
        cc
    go rest false any h (suc k) at = rest h k at

-- ---- given

module _ (steps : List Step) (roots : List (List ℕ)) (b : Build) (now : Folder) (build : IsBuildOf steps roots b) (kept : KeepsSources b now) where
  source_now : (path bytes : List ℕ) → (IsInRoots roots path → ⊥) → bytes_at now path ≡ Some bytes → IsSource b path bytes
  source_now path bytes outside there =
      let out : IsInRoots b.roots path → ⊥ = λ inside. outside (subst (λ (r : List (List ℕ)). IsInRoots r path) build.roots_are inside) in
      record { outside = out; stands = sym (ap (option_map (λ (x : File). x.bytes)) (kept path out)) ∙ there }

  pub given_so : (path : List ℕ) (file : FileFacts) → IsPlanned steps roots path file → AreTrueOfFile b now path file → IsGivenBy file → IsGiven b path
  given_so path file planned t (IsGivenBy.made number is) =
      let r = maker_there steps 1 path number (sym planned.maker ∙ is) in
      inr (suc r.0, r.1, record { at = subst (λ (ss : List Step). slice_get ss r.0 ≡ Some r.1) (sym build.steps_are) r.2; among = r.3 })
  given_so path file planned t (IsGivenBy.source stamp outside is) =
      let there = stands_bytes now path stamp (subst (λ (s : FileLook). IsSeen s (stamp_at now path)) is t.seen) in
      inl (there.0, source_now path there.0 (λ inside. let x : false ≡ true = sym outside ∙ planned.rooted.1 inside in cc) there.1)

  pub missing_so : (path : List ℕ) (file : FileFacts) → IsPlanned steps roots path file → AreTrueOfFile b now path file → IsNotGivenBy file → IsGiven b path → ⊥
  missing_so path file planned t none (inr (zero, step, makes)) = none_some step makes.at
  missing_so path file planned t none (inr (suc k, step, makes)) =
      maker_absent steps 1 path (sym planned.maker ∙ none.unmade) k step (subst (λ (ss : List Step). slice_get ss k ≡ Some step) build.steps_are makes.at) makes.among
  missing_so path file planned t none (inl (bytes, source)) = elim none.no_source [
    | inl rooted ↦ source.outside (subst (λ (r : List (List ℕ)). IsInRoots r path) (sym build.roots_are) (planned.rooted.0 rooted))
    | inr gone ↦ no_bytes (now path) (subst (λ (s : FileLook). IsSeen s (stamp_at now path)) gone t.seen) (ap (option_map (λ (x : File). x.bytes)) (kept path source.outside) ∙ source.stands)
  ]
    where
      no_bytes : (o : Option File) → option_map (λ (x : File). x.stamp) o ≡ None → option_map (λ (x : File). x.bytes) o ≡ Some bytes → ⊥
      no_bytes None none is = none_some bytes is
      no_bytes (Some x) none is = none_some x.stamp (sym none)

pub facts_tell_given : FactsTellGiven
facts_tell_given steps roots b now f n path file build kept about holds is = (
  given_so steps roots b now build kept path file (about.planned n path file is) (holds.files n path file is),
  missing_so steps roots b now build kept path file (about.planned n path file is) (holds.files n path file is),
)

-- ---- found

-- the first that is given is one
first_is_one : (b : Build) (before after : List (List ℕ)) (p : List ℕ) (others rest : List (List ℕ)) (q : List ℕ) → before ++ p ∷ after ≡ others ++ q ∷ rest → AllByRecursion (IsMissing b) before → IsGiven b p → AllByRecursion (IsMissing b) others → IsGiven b q → p ≡ q
first_is_one b [] after p [] rest q e none given others_none is = (let x : p ∷ after ≡ q ∷ rest = e in cc)
first_is_one b [] after p (o ∷ others) rest q e none given others_none is = absurd (let x : p ∷ after ≡ o ∷ (others ++ q ∷ rest) = e in let same : o ≡ p = cc in others_none.0 (subst (IsGiven b) (sym same) given))
first_is_one b (o ∷ before) after p [] rest q e none given others_none is = absurd (let x : o ∷ (before ++ p ∷ after) ≡ q ∷ rest = e in let same : o ≡ q = cc in none.0 (subst (IsGiven b) (sym same) is))
first_is_one b (o ∷ before) after p (u ∷ others) rest q e none given others_none is = (let x : o ∷ (before ++ p ∷ after) ≡ u ∷ (others ++ q ∷ rest) = e in let tails : before ++ p ∷ after ≡ others ++ q ∷ rest = cc in first_is_one b before after p others rest q tails none.1 given others_none.1 is)

module _ (steps : List Step) (roots : List (List ℕ)) (b : Build) (now : Folder) (f : Knowledge) (build : IsBuildOf steps roots b) (kept : KeepsSources b now) (about : IsAbout steps roots f) (holds : AreTrue b now f) where
  missing_path : (path : List ℕ) → IsMissingAt f path → IsMissing b path
  missing_path path m = (facts_tell_given steps roots b now f m.number path m.file build kept about holds m.is_file).1 m.not_given

  none_given : (tried : List (List ℕ)) → AllByRecursion (IsMissingAt f) tried → AllByRecursion (IsMissing b) tried
  none_given tried none = all_map (IsMissingAt f) (IsMissing b) missing_path tried none

  looks_are : (dirs : List (List ℕ)) (path : List ℕ) (include : Include) → b.looks dirs path include ≡ places dirs path include
  looks_are dirs path include = ap (λ (looks : List (List ℕ) → List ℕ → Include → List (List ℕ)). looks dirs path include) build.looks

  first_given : (tried : List (List ℕ)) (m : ℕ) (first : IsFirstGiven f tried m) → IsGiven b first.path
  first_given tried m first = (facts_tell_given steps roots b now f m first.path first.file build kept about holds first.is_file).0 first.given

  pub targets_so : (dirs : List (List ℕ)) (n : ℕ) (path : List ℕ) (file : FileFacts) (includes : List Include) (targets : List ℕ) → IsFile f n path file → file.includes ≡ Some includes → AreFirsts f dirs path includes targets → AreTargets b now f dirs path targets
  targets_so dirs n path file includes targets is known firsts = record {
    bytes = read.0;
    stands = read.1;
    each = λ target among. (let e = firsts.each target among in (
      e.2.path,
      e.2.is_file.path_is,
      record {
        include = e.0;
        listed = subst (λ (is : List Include). Contains is e.0) read.2 e.1;
        first = record { before = e.2.before; after = e.2.after; places_are = looks_are dirs path e.0 ∙ e.2.places_are; there = first_given (places dirs path e.0) target e.2; none_before = none_given e.2.before e.2.none_before };
      },
    ));
    whole = λ found inc. elim (firsts.whole inc.include (subst (λ (is : List Include). Contains is inc.include) (sym read.2) inc.listed)) [
      | inl (target, among, first) ↦ (
        target,
        among,
        subst (λ (p : List ℕ). path_at f target ≡ Some p)
            (first_is_one b first.before first.after first.path inc.first.before inc.first.after found (sym first.places_are ∙ sym (looks_are dirs path inc.include) ∙ inc.first.places_are) (none_given first.before first.none_before) (first_given (places dirs path inc.include) target first) inc.first.none_before inc.first.there)
            first.is_file.path_is,
      )
      | inr none ↦ absurd (all_at (IsMissing b) (places dirs path inc.include) (none_given (places dirs path inc.include) none) found
          (subst (λ (ps : List (List ℕ)). Contains ps found) (sym (sym (looks_are dirs path inc.include) ∙ inc.first.places_are)) (middle inc.first.before found inc.first.after)) inc.first.there)
    ];
  }
    where
      read : (bytes : List ℕ) × (bytes_at now path ≡ Some bytes) × (includes ≡ b.inc path bytes)
      read = subst (λ (o : Option (List Include)). IsReadAs (b.inc path) (bytes_at now path) o) known ((holds.files n path file is).includes)

      middle : (before : List (List ℕ)) (found : List ℕ) (after : List (List ℕ)) → Contains (before ++ found ∷ after) found
      middle before found after = Contains-append_right before (found ∷ after) found (among_at (found ∷ after) 0 found refl)

-- what was found of true facts is true
pub found_so : (steps : List Step) (roots : List (List ℕ)) (now : Folder) (f : Knowledge) (list n : ℕ) (path : List ℕ) (dirs : List (List ℕ)) (includes : List Include) (targets : List ℕ) → IsLooking f list n path dirs includes → AreFirsts f dirs path includes targets → StaysTrue steps roots now f (with_found f list n targets)
found_so steps roots now f list n path dirs includes targets looking firsts b build kept about holds = found_true b now f list n targets (λ p ds is there.
    let a = targets_so steps roots b now f build kept about holds dirs n path looking.file includes targets (record { path_is = looking.path_is; file_is = looking.file_is }) looking.includes_are firsts in
    subst (λ (q : List ℕ). AreTargets b now f ds q targets) (some_is path p (sym looking.path_is ∙ is)) (subst (λ (d : List (List ℕ)). AreTargets b now f d path targets) (some_is dirs ds (sym looking.dirs_are ∙ there)) a)) holds

-- ---- laws

seen_unasked : (s : FileLook) → (s ≡ seen.Unasked) ⊎ (s ≡ seen.Unasked → ⊥)
seen_unasked seen.Unasked = inl refl
seen_unasked seen.Gone = inr (λ e. cc)
seen_unasked (seen.Stands stamp) = inr (λ e. cc)

is_none : {X : Type 0} (o : Option X) → (o ≡ None) ⊎ (o ≡ None → ⊥)
is_none None = inl refl
is_none (Some x) = inr (λ e. none_some x (sym e))

blank_or_not : (file : FileFacts) → IsBlank file ⊎ (IsBlank file → ⊥)
blank_or_not file = elim (seen_unasked file.seen) [
  | inl unseen ↦ elim (is_none file.includes) [
    | inl unread ↦ elim (is_none file.digest) [
      | inl undigested ↦ inl (record { unseen = unseen; unread = unread; undigested = undigested })
      | inr other ↦ inr (λ blank. other blank.undigested)
    ]
    | inr other ↦ inr (λ blank. other blank.unread)
  ]
  | inr other ↦ inr (λ blank. other blank.unseen)
]

pub true_as_files_change : TrueAsFilesChange
true_as_files_change steps roots b before after f about holds same = record {
  files = λ n path file is. elim (blank_or_not file) [
    | inl blank ↦ blank_true b after path file blank
    | inr known ↦ (let e = same n path file is known in let t = holds.files n path file is in record {
      seen = subst (λ (o : Option File). IsSeen file.seen (option_map (λ (x : File). x.stamp) o)) (sym e) t.seen;
      includes = subst (λ (o : Option File). IsReadAs (b.inc path) (option_map (λ (x : File). x.bytes) o) file.includes) (sym e) t.includes;
      digest = subst (λ (o : Option File). IsReadAs digest_of (option_map (λ (x : File). x.bytes) o) file.digest) (sym e) t.digest;
    })
  ];
  found = λ list n path dirs targets p d t. (
      let a = holds.found list n path dirs targets p d t in
      let l = about.found list n targets t in
      let file = get_some f.files n l.numbered.1 in
      let read = l.read file.0 file.1 in
      let e = same n path file.0 (record { path_is = p; file_is = file.1 }) (λ blank. none_some read.0 (sym blank.unread ∙ read.1)) in
      record { bytes = a.bytes; stands = ap (option_map (λ (x : File). x.bytes)) e ∙ a.stands; each = a.each; whole = a.whole });
}

pub facts_tell_includes : FactsTellIncludes
facts_tell_includes b now f step list n path bytes targets holds p d t there found = (
  λ inc. a.whole found (record { include = inc.include; listed = subst (λ (bs : List ℕ). Contains (b.inc path bs) inc.include) (sym same) inc.listed; first = inc.first }),
  λ w. back w.0 w.1 w.2,
)
  where
    a : AreTargets b now f step.dirs path targets
    a = holds.found list n path step.dirs targets p d t

    same : a.bytes ≡ bytes
    same = some_is a.bytes bytes (sym a.stands ∙ there)

    back : (target : ℕ) → Contains targets target → path_at f target ≡ Some found → Includes b step path bytes found
    back target among is =
        let e = a.each target among in
        let one : e.0 ≡ found = some_is e.0 found (sym e.1 ∙ is) in
        record {
          include = e.2.include;
          listed = subst (λ (bs : List ℕ). Contains (b.inc path bs) e.2.include) same e.2.listed;
          first = subst (λ (q : List ℕ). IsFound b (b.looks step.dirs path e.2.include) q) one e.2.first;
        }

pub found_stands : FoundStands
found_stands b now f list n path dirs targets holds p d t = let a = holds.found list n path dirs targets p d t in (a.bytes, a.stands)
