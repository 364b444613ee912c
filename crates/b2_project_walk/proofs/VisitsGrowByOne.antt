-- With a further project the map of places, the parents and the directories that are new stay what is defined.
use Rattle.std.proofs.Common.{◌≡◌, ℕ, zero, suc, ◌+◌, ◌<◌, Bool, true, false, cond, List, [], ◌∷◌, ◌++◌, length, take, drop, get_or, Option, Some, None, is_some, refl, sym, ap, ◌∙◌, subst, arith}
use Rattle.std.specs.Prelude.{slice_get, if◌then◌else◌}
use Rattle.std.specs.Option.{option_or}
use Rattle.std.specs.Ordering.{nat_cmp}
use Rattle.std.specs.Cmp.Lexicographic.{slice_cmp}
use Rattle.std.specs.FinMap.{FinMap, from_entries, get, insert, get-insert, get-from_entries}
use Rattle.std.specs.Str.{bytes_eq}
use Rattle.std.proofs.Math.Seq.{take-append_seam}
use Rattle.std.proofs.lemmas.Cmp.{nat_list_cmp_total}
use Rattle.std.proofs.lemmas.List.{take_more, drop_more, append_assoc, append-nil, length-append}
use Rattle.std.proofs.lemmas.Option.{same_Some}
use Rattle.std.proofs.lemmas.Slice.Eq.{bytes_eq-Decides}
use Rattle.std.proofs.lemmas.Map.Text.{is_eq-slice_cmp}
use Rattle.b2_declared.specs.declared.visit.Visit.{Visit}
use Rattle.jam_journal.specs.Tables.{Text}
use Rattle.b2_project_walk.specs.Directories.{IsBefore, HaveParentsBefore, way_to, parent_of, place_after, place_of, is_visited, first_new, last_visited}
use Rattle.b2_base.specs.Segments.{here}
use Rattle.b2_project_walk.specs.Indexing.{IsIndex}

-- ---- a further project

abbrev one_place : ℕ → Text → Visit → Option ℕ
one_place count dir visit = if bytes_eq dir visit.dir then Some count else None

more_choice : (b : Bool) (count : ℕ) (rest more last : Option ℕ) → more ≡ option_or rest last
    → (if b then Some count else more) ≡ option_or (if b then Some count else rest) last
more_choice true count rest more last h = refl
more_choice false count rest more last h = h

place_more : (count : ℕ) (dir : Text) (visits : List Visit) (visit : Visit)
    → place_after count dir (visits ++ visit ∷ []) ≡ option_or (place_after count dir visits) (one_place (count + length visits) dir visit)
place_more count dir [] visit = ap (λ n. one_place n dir visit) (let e : count ≡ count + 0 = omega arith in e)
place_more count dir (first ∷ visits) visit =
    more_choice (bytes_eq dir first.dir) count (place_after (suc count) dir visits) (place_after (suc count) dir (visits ++ visit ∷ [])) (one_place (count + length (first ∷ visits)) dir visit)
    (place_more (suc count) dir visits visit
    ∙ ap (λ n. option_or (place_after (suc count) dir visits) (one_place n dir visit)) (let e : suc count + length visits ≡ count + length (first ∷ visits) = omega arith in e))

or_none : (o : Option ℕ) → option_or o None ≡ o
or_none None = refl
or_none (Some n) = refl

index_choice : (b : Bool) (place : ℕ) (found : Option ℕ) → (b ≡ true → found ≡ None) → cond b (Some place) found ≡ option_or found (if b then Some place else None)
index_choice true place found absent = ap (λ o. option_or o (Some place)) (sym (absent refl))
index_choice false place found absent = sym (or_none found)

-- the map with the place of a further project
pub index_more : (places : FinMap (slice_cmp nat_cmp) ℕ) (visits : List Visit) (visit : Visit) → IsIndex places visits → place_of visit.dir visits ≡ None
    → IsIndex (insert places visit.dir (length visits)) (visits ++ visit ∷ [])
index_more places visits visit is absent dir =
    get-insert nat_list_cmp_total places visit.dir (length visits) dir
    ∙ ap (λ b. cond b (Some (length visits)) (get places dir)) (is_eq-slice_cmp dir visit.dir)
    ∙ index_choice (bytes_eq dir visit.dir) (length visits) (get places dir) (λ e. is dir ∙ ap (λ d. place_of d visits) ((bytes_eq-Decides dir visit.dir).0 e) ∙ absent)
    ∙ ap (λ o. option_or o (one_place (length visits) dir visit)) (is dir)
    ∙ ap (λ n. option_or (place_of dir visits) (one_place n dir visit)) (let e : length visits ≡ 0 + length visits = omega arith in e)
    ∙ sym (place_more 0 dir visits visit)

some_or : (a b : Option ℕ) → is_some a ≡ true → is_some (option_or a b) ≡ true
some_or None b h = cc
some_or (Some n) b h = refl

-- a directory that was visited stays so
pub visited_more : (visits : List Visit) (visit : Visit) (dir : Text) → is_visited dir visits ≡ true → is_visited dir (visits ++ visit ∷ []) ≡ true
visited_more visits visit dir h = ap is_some (place_more 0 dir visits visit) ∙ some_or (place_of dir visits) _ h

pub visited_later : (visits more : List Visit) (dir : Text) → is_visited dir visits ≡ true → is_visited dir (visits ++ more) ≡ true
visited_later visits [] dir h = subst (λ vs. is_visited dir vs ≡ true) (sym (append-nil visits)) h
visited_later visits (visit ∷ more) dir h =
    subst (λ vs. is_visited dir vs ≡ true) (append_assoc visits (visit ∷ []) more) (visited_later (visits ++ visit ∷ []) more dir (visited_more visits visit dir h))

-- ---- the last one of some directories

or_assoc : (a b c : Option ℕ) → option_or a (option_or b c) ≡ option_or (option_or a b) c
or_assoc None b c = refl
or_assoc (Some n) b c = refl

pub last_step : (visits : List Visit) (dirs : List Text) (at : ℕ) (dir : Text) (last whole : Option ℕ) → at < length dirs → dir ≡ get_or dirs at dir
    → whole ≡ option_or (last_visited visits (drop at dirs)) last → whole ≡ option_or (last_visited visits (drop (at + 1) dirs)) (option_or (place_of dir visits) last)
last_step visits dirs at dir last whole inside is h =
    h ∙ ap (λ ds. option_or (last_visited visits ds) last) (drop_more dirs at dir inside ∙ ap (λ d. d ∷ drop (at + 1) dirs) (sym is))
    ∙ sym (or_assoc (last_visited visits (drop (at + 1) dirs)) (place_of dir visits) last)

-- ---- the first one that is new

new_choice : (b : Bool) (rest more : Option Text) (dir : Text) (last : Option Text) → more ≡ option_or rest last
    → (if b then more else Some dir) ≡ option_or (if b then rest else Some dir) last
new_choice true rest more dir last h = h
new_choice false rest more dir last h = refl

pub new_append : (visits : List Visit) (dirs more : List Text) → first_new visits (dirs ++ more) ≡ option_or (first_new visits dirs) (first_new visits more)
new_append visits [] more = refl
new_append visits (dir ∷ dirs) more = new_choice (is_visited dir visits) (first_new visits dirs) (first_new visits (dirs ++ more)) dir (first_new visits more) (new_append visits dirs more)

-- one more of the first directories was visited
pub passed_one : (visits : List Visit) (dirs : List Text) (passed : ℕ) (d : Text) → passed < length dirs → first_new visits (take passed dirs) ≡ None → is_visited (get_or dirs passed d) visits ≡ true
    → first_new visits (take (passed + 1) dirs) ≡ None
passed_one visits dirs passed d inside none seen =
    ap (first_new visits) (take_more dirs passed d inside) ∙ new_append visits (take passed dirs) (get_or dirs passed d ∷ [])
    ∙ ap (λ o. option_or o (first_new visits (get_or dirs passed d ∷ []))) none ∙ ap (λ b. if b then None else Some (get_or dirs passed d)) seen

-- where no directory is new, none is with a further project
none_choice : (b c : Bool) (rest more : Option Text) (dir : Text) → (b ≡ true → c ≡ true) → (rest ≡ None → more ≡ None)
    → (if b then rest else Some dir) ≡ None → (if c then more else Some dir) ≡ None
none_choice true true rest more dir known next h = next h
none_choice true false rest more dir known next h = let e = known refl in cc
none_choice false c rest more dir known next h = cc

pub none_more : (visits : List Visit) (visit : Visit) (dirs : List Text) → first_new visits dirs ≡ None → first_new (visits ++ visit ∷ []) dirs ≡ None
none_more visits visit [] h = refl
none_more visits visit (dir ∷ dirs) h =
    none_choice (is_visited dir visits) (is_visited dir (visits ++ visit ∷ [])) (first_new visits dirs) (first_new (visits ++ visit ∷ []) dirs) dir
    (visited_more visits visit dir) (none_more visits visit dirs) h

pub none_later : (visits more : List Visit) (dirs : List Text) → first_new visits dirs ≡ None → first_new (visits ++ more) dirs ≡ None
none_later visits [] dirs h = subst (λ vs. first_new vs dirs ≡ None) (sym (append-nil visits)) h
none_later visits (visit ∷ more) dirs h =
    subst (λ vs. first_new vs dirs ≡ None) (append_assoc visits (visit ∷ []) more) (none_later (visits ++ visit ∷ []) more dirs (none_more visits visit dirs h))

-- the first new directory was not visited
new_first : (b : Bool) (rest : Option Text) (next dir : Text) (visits : List Visit) → is_visited next visits ≡ b → (rest ≡ Some dir → is_visited dir visits ≡ false)
    → (if b then rest else Some next) ≡ Some dir → is_visited dir visits ≡ false
new_first true rest next dir visits is more h = more h
new_first false rest next dir visits is more h = ap (λ d. is_visited d visits) (sym (same_Some next dir h)) ∙ is

pub first_is_new : (visits : List Visit) (dirs : List Text) (dir : Text) → first_new visits dirs ≡ Some dir → is_visited dir visits ≡ false
first_is_new visits [] dir h = cc
first_is_new visits (next ∷ dirs) dir h = new_first (is_visited next visits) (first_new visits dirs) next dir visits refl (first_is_new visits dirs dir) h

-- the first new directory of a queue stands where those that were passed end
at_choice : (b : Bool) (rest : Option Text) (dir : Text) → (if b then rest else Some dir) ≡ None → (b ≡ true) × (rest ≡ None)
at_choice true rest dir h = (refl, h)
at_choice false rest dir h = cc

pub new_at : (visits : List Visit) (dirs : List Text) (passed : ℕ) (d : Text) → first_new visits (take passed dirs) ≡ None
    → (passed < length dirs → is_visited (get_or dirs passed d) visits ≡ false) → slice_get dirs passed ≡ first_new visits dirs
new_at visits [] passed d none ends = refl
new_at visits (dir ∷ dirs) zero d none ends = ap (λ b. if b then first_new visits dirs else Some dir) (sym (ends (omega arith)))
new_at visits (dir ∷ dirs) (suc passed) d none ends =
    let parts = at_choice (is_visited dir visits) (first_new visits (take passed dirs)) dir none in
    new_at visits dirs passed d parts.1 (λ h. ends (omega (arith, h))) ∙ ap (λ b. if b then first_new visits dirs else Some dir) (sym parts.0)

-- where a directory was visited in the end, and not at first, there are more projects
pub longer : (visits more later : List Visit) (dir : Text) → later ≡ visits ++ more → is_visited dir visits ≡ false → is_visited dir later ≡ true → length visits < length later
longer visits [] later dir is new old =
    let same : later ≡ visits = is ∙ append-nil visits in
    let both : false ≡ true = sym new ∙ ap (is_visited dir) (sym same) ∙ old in cc
longer visits (visit ∷ more) later dir is new old =
    let count : length later ≡ length visits + length (visit ∷ more) = ap length is ∙ length-append visits (visit ∷ more) in omega (arith, count)

-- ---- parents

abbrev AreBeforeFrom : ℕ → List Visit → Type 0
AreBeforeFrom count visits = (place : ℕ) (visit : Visit) → slice_get visits place ≡ Some visit → IsBefore (count + place) visit.parent

more_before : (count : ℕ) (visits : List Visit) (last : Visit) → AreBeforeFrom count visits → IsBefore (count + length visits) last.parent → AreBeforeFrom count (visits ++ last ∷ [])
more_before count [] last all before zero visit at = subst (λ v. IsBefore (count + 0) v.parent) (same_Some last visit at) before
more_before count [] last all before (suc place) visit at = cc
more_before count (first ∷ visits) last all before zero visit at = all zero visit at
more_before count (first ∷ visits) last all before (suc place) visit at =
    subst (λ n. IsBefore n visit.parent) (let e : suc count + place ≡ count + suc place = omega arith in e)
    (more_before (suc count) visits last
    (λ p v h. subst (λ n. IsBefore n v.parent) (let e : count + suc p ≡ suc count + p = omega arith in e) (all (suc p) v h))
    (subst (λ n. IsBefore n last.parent) (let e : count + length (first ∷ visits) ≡ suc count + length visits = omega arith in e) before) place visit at)

-- with one more project, whose parent stands before it
pub parents_more : (visits : List Visit) (last : Visit) → HaveParentsBefore visits → IsBefore (length visits) last.parent → HaveParentsBefore (visits ++ last ∷ [])
parents_more visits last all before place visit at =
    subst (λ n. IsBefore n visit.parent) (let e : 0 + place ≡ place = omega arith in e)
    (more_before 0 visits last
    (λ p v h. subst (λ n. IsBefore n v.parent) (let e : p ≡ 0 + p = omega arith in e) (all p v h))
    (subst (λ n. IsBefore n last.parent) (let e : length visits ≡ 0 + length visits = omega arith in e) before) place visit at)

before_choice : (b : Bool) (count most : ℕ) (rest : Option ℕ) → count < most → IsBefore most rest → IsBefore most (if b then Some count else rest)
before_choice true count most rest h g = h
before_choice false count most rest h g = g

place_before : (count : ℕ) (dir : Text) (visits : List Visit) → IsBefore (count + length visits) (place_after count dir visits)
place_before count dir [] = tt
place_before count dir (visit ∷ visits) =
    before_choice (bytes_eq dir visit.dir) count (count + length (visit ∷ visits)) (place_after (suc count) dir visits) (omega arith)
    (subst (λ n. IsBefore n (place_after (suc count) dir visits)) (let e : suc count + length visits ≡ count + length (visit ∷ visits) = omega arith in e) (place_before (suc count) dir visits))

or_before : (most : ℕ) (a b : Option ℕ) → IsBefore most a → IsBefore most b → IsBefore most (option_or a b)
or_before most None b h g = g
or_before most (Some n) b h g = h

last_before : (visits : List Visit) (dirs : List Text) → IsBefore (length visits) (last_visited visits dirs)
last_before visits [] = tt
last_before visits (dir ∷ dirs) =
    or_before (length visits) (last_visited visits dirs) (place_of dir visits) (last_before visits dirs)
    (subst (λ n. IsBefore n (place_of dir visits)) (let e : 0 + length visits ≡ length visits = omega arith in e) (place_before 0 dir visits))

-- the parent of a project stands before it
pub parent_before : (dir : Text) (visits : List Visit) → IsBefore (length visits) (parent_of dir visits)
parent_before dir visits = last_before visits (here ∷ way_to dir)

-- a directory that was not visited has no place
pub no_place : (found : Option ℕ) → is_some found ≡ false → found ≡ None
no_place None h = refl
no_place (Some place) h = cc

-- ---- the map, and the list beside it

pub none_visited : (places : FinMap (slice_cmp nat_cmp) ℕ) (visits : List Visit) → places ≡ from_entries [] → visits ≡ [] → IsIndex places visits × HaveParentsBefore visits
none_visited places visits empty none =
    subst (λ (vs : List Visit). IsIndex places vs × HaveParentsBefore vs) (sym none)
    (subst (λ (ps : FinMap (slice_cmp nat_cmp) ℕ). IsIndex ps []) (sym empty) (λ dir. get-from_entries nat_list_cmp_total [] dir), λ place visit at. cc)

pub one_visited : (places placed : FinMap (slice_cmp nat_cmp) ℕ) (visits more : List Visit) (visit : Visit) (dir : Text) (place : ℕ) → IsIndex places visits × HaveParentsBefore visits
    → place_of visit.dir visits ≡ None → IsBefore (length visits) visit.parent → dir ≡ visit.dir → place ≡ length visits → placed ≡ insert places dir place → more ≡ visits ++ visit ∷ []
    → IsIndex placed more × HaveParentsBefore more
one_visited places placed visits more visit dir place (is, all) new parent same count put added =
    subst (λ (vs : List Visit). IsIndex placed vs × HaveParentsBefore vs) (sym added) (
      subst (λ (ps : FinMap (slice_cmp nat_cmp) ℕ). IsIndex ps (visits ++ visit ∷ [])) (sym (put ∙ ap (λ d. insert places d place) same ∙ ap (insert places visit.dir) count))
          (index_more places visits visit is new),
      parents_more visits visit all parent,
    )

pub none_added : (visits more less : List Visit) (visit : Visit) (count : ℕ) → more ≡ visits ++ visit ∷ [] → count ≡ length visits → less ≡ take count more → less ≡ visits
none_added visits more less visit count added is taken = taken ∙ ap (λ n. take n more) is ∙ ap (take (length visits)) added ∙ take-append_seam visits (visit ∷ [])
