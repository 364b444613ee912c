use Rattle.std.proofs.Common.{◌≡◌, ◌⊎◌, ℕ, ◌<◌, Bool, true, false, List, [], ◌∷◌, ◌++◌, length, inl, inr, refl, sym, ap, subst, ◌∙◌, arith, Some, None, codes, if◌then◌else◌}
use Rattle.std.specs.List.{Contains, AllByRecursion}
use Rattle.std.specs.Str.{bytes_eq}
use Rattle.std.proofs.lemmas.List.Elements.{Contains-append_right}
use Rattle.b2_base.specs.Normal.{IsUnder, parts}
use Rattle.b2_host.specs.declared.children.ChildEvent.TheVariants.{Done}
use Rattle.b2_host.specs.Disks.{File, Folder, bytes_at}
use Rattle.b2_plan.specs.declared.step.Step.{Step}
use Rattle.b2_plan.specs.Sources.{Build, Include, IsInRoots, IsSource, IsGiven, IsMissing, Includes}
use Rattle.b2_plan.specs.Closures.{Value, Values, Known, Known.input as input_of, Known.include as include_of}
use Rattle.b2_runs.specs.Staleness.{Update, NoneOlder, NoneDone, Agrees, Agrees.by_stamps, Agrees.by_digests, IsFresh, IsStale}
use Rattle.b2_run_examples.specs.Examples.{in_path, out_path, copy_step}
use Rattle.b2_run_examples.specs.HeaderPlaces.{including, update_with, file_with, both_record, first_place, second_place, in_includes, two_places, in_both, in_second, log_both, members_both, members_second, HeaderLostHolds, header_path, circle_includes, by_name, circle_stands, HeaderCircleHolds}
use Rattle.b2_runs.proofs.FirstElementOrLater.{Contains_here, Contains_cases, Contains_nil}
use Rattle.b2_run_examples.proofs.OneStepPlan.{one_of, longer, different, only_is, only_out, is_apart}
use Rattle.b2_run_examples.proofs.DigestsHold.{last_agrees}
use Rattle.b2_run_examples.proofs.TwoSources as two

-- a path of another folder lies under no root
outside : (path : List ℕ) → (IsUnder path (codes "bin") → ⊥) → IsInRoots (codes "bin" ∷ []) path → ⊥
outside path none (root, c, u) = none (subst (IsUnder path) (sym (one_of (codes "bin") root c)) u)

short_outside : (path : List ℕ) → length (parts path) ≡ 1 → IsUnder path (codes "bin") → ⊥
short_outside path one u = let h : length (parts (codes "bin")) < length (parts path) = longer path (codes "bin") u in let small : 1 < length (parts path) = h in omega (arith, small, one)

abbrev first_part : List (List ℕ) → List ℕ
first_part [] = []
first_part (part ∷ more) = part

other_outside : (path : List ℕ) (first : List ℕ) → bytes_eq (codes "bin") first ≡ false → first_part (parts path) ≡ first → IsUnder path (codes "bin") → ⊥
other_outside path first differ is u = different (codes "bin") first differ (sym (ap first_part u.goes_on) ∙ is)

module _ (folder : Folder) (inc : List ℕ → List ℕ → List Include) (looks : List (List ℕ) → List ℕ → Include → List (List ℕ)) where
  -- a path that stands nowhere is missing
  missing_at : (path : List ℕ) → bytes_at folder path ≡ None → bytes_eq out_path path ≡ false → IsMissing (including folder inc looks) path
  missing_at path none other (inl (bytes, s)) = let e : None ≡ Some bytes = sym none ∙ s.stands in cc
  missing_at path none other (inr (i, step, makes)) = different out_path path other (only_out (in_path ∷ []) i step path makes)

  in_source : bytes_at folder in_path ≡ Some (7 ∷ []) → IsSource (including folder inc looks) in_path (7 ∷ [])
  in_source stands = record { outside = outside in_path (short_outside in_path refl); stands = stands }

-- ---- lost from the first place

-- what is found in the two places, where the first is given, or is not
first_found : (b : Build) (found : List ℕ) (before after : List (List ℕ)) → IsGiven b first_place → first_place ∷ second_place ∷ [] ≡ before ++ found ∷ after → AllByRecursion (IsMissing b) before → first_place ≡ found
first_found b found [] after given e none = let f : first_place ∷ second_place ∷ [] ≡ found ∷ after = e in cc
first_found b found (z ∷ before) after given e none =
    let f : first_place ∷ second_place ∷ [] ≡ z ∷ (before ++ found ∷ after) = e in
    let same : first_place ≡ z = cc in
    absurd (none.0 (subst (IsGiven b) same given))

second_found : (b : Build) (found : List ℕ) (before after : List (List ℕ)) → IsMissing b first_place → first_place ∷ second_place ∷ [] ≡ before ++ found ∷ after → IsGiven b found → second_place ≡ found
second_found b found [] after none e given =
    let f : first_place ∷ second_place ∷ [] ≡ found ∷ after = e in
    let same : first_place ≡ found = cc in
    absurd (none (subst (IsGiven b) (sym same) given))
second_found b found (z ∷ []) after none e given =
    let f : first_place ∷ second_place ∷ [] ≡ z ∷ found ∷ after = e in
    let tails : second_place ∷ [] ≡ found ∷ after = cc in
    cc
second_found b found (z ∷ w ∷ before) after none e given =
    let f : first_place ∷ second_place ∷ [] ≡ z ∷ w ∷ (before ++ found ∷ after) = e in
    let tails : second_place ∷ [] ≡ w ∷ (before ++ found ∷ after) = cc in
    no_more before found after (let g : [] ≡ before ++ found ∷ after = cc in g)
  where
    no_more : (before : List (List ℕ)) (found : List ℕ) (after : List (List ℕ)) → [] ≡ before ++ found ∷ after → second_place ≡ found
    no_more [] found after e = absurd (let f : [] ≡ found ∷ after = e in cc)
    no_more (v ∷ before) found after e = absurd (let f : [] ≡ v ∷ (before ++ found ∷ after) = e in cc)

abbrev Both : Build
Both = including in_both in_includes two_places

abbrev Second : Build
Second = including in_second in_includes two_places

first_source : IsSource Both first_place (8 ∷ [])
first_source = record { outside = outside first_place (other_outside first_place (codes "x") refl refl); stands = refl }

second_source : IsSource Second second_place (9 ∷ [])
second_source = record { outside = outside second_place (other_outside second_place (codes "y") refl refl); stands = refl }

both_includes : Includes Both copy_step in_path (7 ∷ []) first_place
both_includes = record { include = (codes "h", true); listed = Contains_here (codes "h", true) []; first = record { before = []; after = second_place ∷ []; places_are = refl; there = inl (8 ∷ [], first_source); none_before = tt } }

first_missing : IsMissing Second first_place
first_missing = missing_at in_second in_includes two_places first_place refl refl

second_includes : Includes Second copy_step in_path (7 ∷ []) second_place
second_includes = record {
  include = (codes "h", true);
  listed = Contains_here (codes "h", true) [];
  first = record { before = first_place ∷ []; after = []; places_are = refl; there = inl (9 ∷ [], second_source); none_before = (first_missing, tt) };
}

both_known : (v : Values) → v in_path (Some (7 ∷ [])) → v first_place (Some (8 ∷ [])) → Known Both v copy_step in_path × Known Both v copy_step first_place
both_known v p q = (input_of in_path (Contains_here in_path []), include_of in_path (7 ∷ []) first_place (input_of in_path (Contains_here in_path [])) p both_includes)

both_two : (v : Values) (path : List ℕ) → Known Both v copy_step path → (in_path ≡ path) ⊎ (first_place ≡ path)
both_two v path (input_of p c) = inl (one_of in_path p c)
both_two v path (include_of p bytes found k says i) = inr (first_found Both found i.first.before i.first.after (inl (8 ∷ [], first_source)) i.first.places_are i.first.none_before)

second_known : (v : Values) → v in_path (Some (7 ∷ [])) → v second_place (Some (9 ∷ [])) → Known Second v copy_step in_path × Known Second v copy_step second_place
second_known v p q = (input_of in_path (Contains_here in_path []), include_of in_path (7 ∷ []) second_place (input_of in_path (Contains_here in_path [])) p second_includes)

second_two : (v : Values) (path : List ℕ) → Known Second v copy_step path → (in_path ≡ path) ⊎ (second_place ≡ path)
second_two v path (input_of p c) = inl (one_of in_path p c)
second_two v path (include_of p bytes found k says i) = inr (second_found Second found i.first.before i.first.after first_missing i.first.places_are i.first.there)

abbrev U_both : Update
U_both = update_with in_both in_includes two_places log_both

abbrev U_second : Update
U_second = update_with in_second in_includes two_places log_both

-- a member of the closure is one of two
member_is : (member : List ℕ) (value : Value) → Contains members_both (member, value) → (in_path ≡ member) ⊎ (first_place ≡ member)
member_is member value c = elim (Contains_cases (in_path, Some (7 ∷ [])) (member, value) ((first_place, Some (8 ∷ [])) ∷ []) c) [
  | inl e ↦ inl (ap (λ (z : List ℕ × Value). z.0) e)
  | inr d ↦ inr (ap (λ (z : List ℕ × Value). z.0) (one_of (first_place, Some (8 ∷ [])) (member, value) d))
]

-- the stamp of a file that stands
stamp_is : (path other : List ℕ) (stamp byte : ℕ) (file : File) → path ≡ other → in_both path ≡ file_with stamp byte → in_both other ≡ Some file → file.stamp ≡ stamp
stamp_is path other stamp byte file e at at_other =
    let f : Some (record { stamp = stamp; bytes = byte ∷ [] }) ≡ Some file = sym at ∙ ap in_both e ∙ at_other in
    let same : record { stamp = stamp; bytes = byte ∷ [] } ≡ file = cc in
    sym (ap (λ (z : File). z.stamp) same)

older : NoneOlder in_both copy_step members_both
older out member value written read c d at_out at_member =
    let w = stamp_is out_path out 4 0 written (one_of out_path out c) refl at_out in
    elim (member_is member value d) [
      | inl e ↦ (let r = stamp_is in_path member 1 7 read e refl at_member in omega (arith, w, r))
      | inr e ↦ (let r = stamp_is first_place member 2 8 read e refl at_member in omega (arith, w, r))
    ]

none_done : NoneDone U_both [] members_both
none_done member value i other well c makes d = Contains_nil (Done i well) d

fresh_both : IsFresh U_both [] copy_step members_both
fresh_both = record {
  not_all = refl;
  not_always = refl;
  not_notfile = refl;
  stand = λ out c. (record { stamp = 4; bytes = 0 ∷ [] }, subst (λ o. in_both o ≡ file_with 4 0) (one_of out_path out c) refl);
  none_older = λ off. older;
  none_notfile = λ member value i other c makes. subst (λ (s : Step). s.notfile ≡ false) (only_is (in_path ∷ []) i other makes.at) refl;
  none_done = λ off. none_done;
  recorded = record { last = both_record; found = refl; agrees = by_stamps (record { text = refl; outs = ((refl, refl), tt); ins = ((refl, refl), ((refl, refl), tt)); none_done = none_done }) };
}

stale_second : IsStale U_second [] copy_step members_second
stale_second f = go (last_agrees U_second [] copy_step members_second both_record refl f.recorded)
  where
    go : Agrees U_second [] copy_step members_second both_record → ⊥
    go (by_stamps a) = different first_place second_place refl a.ins.1.0.0
    go (by_digests on a) = let e : false ≡ true = on in cc

in_both_source : IsSource Both in_path (7 ∷ [])
in_both_source = in_source in_both in_includes two_places refl

in_second_source : IsSource Second in_path (7 ∷ [])
in_second_source = in_source in_second in_includes two_places refl

pub header_lost_holds : HeaderLostHolds
header_lost_holds = record {
  apart = is_apart (in_path ∷ []);
  close_both = two.closure in_both in_includes two_places log_both in_path first_place (7 ∷ []) (8 ∷ []) in_both_source first_source refl both_known both_two;
  fresh_both = fresh_both;
  idle = two.idles in_both in_includes two_places log_both in_path first_place (7 ∷ []) (8 ∷ []) in_both_source first_source refl both_known both_two fresh_both;
  close_second = two.closure in_second in_includes two_places log_both in_path second_place (7 ∷ []) (9 ∷ []) in_second_source second_source refl second_known second_two;
  stale_second = stale_second;
  runs = two.runs in_second in_includes two_places log_both in_path second_place (7 ∷ []) (9 ∷ []) in_second_source second_source refl second_known second_two stale_second;
}

-- ---- headers in a circle

abbrev Circle : Build
Circle = including circle_stands circle_includes by_name

header_source : IsSource Circle header_path (8 ∷ [])
header_source = record { outside = outside header_path (short_outside header_path refl); stands = refl }

in_circle_source : IsSource Circle in_path (7 ∷ [])
in_circle_source = in_source circle_stands circle_includes by_name refl

header_included : Includes Circle copy_step in_path (7 ∷ []) header_path
header_included = record { include = (header_path, true); listed = Contains_here (header_path, true) []; first = record { before = []; after = []; places_are = refl; there = inl (8 ∷ [], header_source); none_before = tt } }

-- what is included is one of two
included_is : (path bytes : List ℕ) (include : Include) → Contains (circle_includes path bytes) include → (header_path ≡ include.0) ⊎ (in_path ≡ include.0)
included_is path bytes include c = go (bytes_eq path in_path) (bytes_eq path header_path) c
  where
    go : (s t : Bool) → Contains {X = Include} (if s then (header_path, true) ∷ [] else (if t then (in_path, true) ∷ [] else [])) include → (header_path ≡ include.0) ⊎ (in_path ≡ include.0)
    go true t c = inl (ap (λ (z : Include). z.0) (one_of (header_path, true) include c))
    go false true c = inr (ap (λ (z : Include). z.0) (one_of (in_path, true) include c))
    go false false c = absurd (Contains_nil include c)

circle_known : (v : Values) → v header_path (Some (8 ∷ [])) → v in_path (Some (7 ∷ [])) → Known Circle v copy_step header_path × Known Circle v copy_step in_path
circle_known v p q = (include_of in_path (7 ∷ []) header_path (input_of in_path (Contains_here in_path [])) q header_included, input_of in_path (Contains_here in_path []))

circle_two : (v : Values) (path : List ℕ) → Known Circle v copy_step path → (header_path ≡ path) ⊎ (in_path ≡ path)
circle_two v path (input_of p c) = inr (one_of in_path p c)
circle_two v path (include_of p bytes found k says i) =
    let here : i.include.0 ≡ found = one_of i.include.0 found (subst (λ l. Contains l found) (sym i.first.places_are) (Contains-append_right i.first.before (found ∷ i.first.after) found (Contains_here found i.first.after))) in
    elim (included_is p bytes i.include i.listed) [ inl e ↦ inl (e ∙ here) | inr e ↦ inr (e ∙ here) ]

circle_stale : IsStale (update_with circle_stands circle_includes by_name []) [] copy_step ((header_path, Some (8 ∷ [])) ∷ (in_path, Some (7 ∷ [])) ∷ [])
circle_stale f = let e : None ≡ Some f.recorded.last = f.recorded.found in cc

pub header_circle_holds : HeaderCircleHolds
header_circle_holds = record {
  apart = is_apart (in_path ∷ []);
  closure = two.closure circle_stands circle_includes by_name [] header_path in_path (8 ∷ []) (7 ∷ []) header_source in_circle_source refl circle_known circle_two;
  run = two.runs circle_stands circle_includes by_name [] header_path in_path (8 ∷ []) (7 ∷ []) header_source in_circle_source refl circle_known circle_two circle_stale;
}
