-- Whether a claim is right by what is known of files.
use Rattle.std.proofs.Common.{◌≡◌, ◌⊎◌, inl, inr, ℕ, ◌+◌, ◌<◌, Bool, true, false, List, length, map, get_or, slice_get, Option, Some, None, option_map, is_some, nat_eq, IsTrue, ◌↔◌, refl, sym, ap, subst, ◌∙◌, arith, Equal, Greater, nat_cmp}
use Rattle.std.specs.Prelude.{MatchOption}
use Rattle.std.specs.Option.{option_eq}
use Rattle.std.specs.Str.{bytes_eq}
use Rattle.std.specs.Cmp.Lexicographic.{slice_cmp}
use Rattle.std.proofs.lemmas.Option.{slice_get_within, slice_get-map}
use Rattle.std.proofs.lemmas.Bool.{cases_lt}
use Rattle.std.proofs.lemmas.Bool.Decides.{Decides-eqb}
use Rattle.std.proofs.lemmas.Slice.Eq.{bytes_eq-Decides}
use Rattle.b2_base.specs.Bytes.{Before}
use Rattle.b2_log.specs.declared.line.Record.{Record}
use Rattle.b2_log.specs.Finding.{path_of}
use Rattle.b2_facts.specs.Facts.{Knowledge, IsNumber, path_at}
use Rattle.b2_facts.proofs.ListsAtPlaces.{some_is, none_some, get_some}
use Rattle.b2_verdicts.specs.Sights.{stamp_of, IsStanding, AllStand, AreNumbers}
use Rattle.b2_verdicts.specs.Stamps.{IsFirstGone, IsLogged, AgreeUpTo, AreLogged, IsFirstOther}
use Rattle.b2_explain.specs.Sights.{IsFirstFile, IsFirstNumber}
use Rattle.b2_explain.specs.Checks.{IsFirstGonePath, IsOtherOutputAt, IsCountBefore, AreBefore, IsLoggedAt, IsPresentAt, IsOtherInputAt}
use Rattle.b2_explain.proofs.OrderOfPaths.{before_or, equal_not, greater_not}
use Rattle.b2_explain.proofs.FirstMembers.{number_is_file}
use Rattle.b2_explain.proofs.CausesAreTold.{given_there}

-- the path is that of the first file exactly where it is the path of the first number
pub first_is : (f : Knowledge) (Q : ℕ → Type 0) (n : ℕ) (own path : List ℕ) (r : Bool) → r ≡ bytes_eq own path → path_at f n ≡ Some own → IsFirstNumber f Q n → IsTrue r ↔ IsFirstFile f Q path
first_is f Q n own path r e at first = (λ t. subst (IsFirstFile f Q) ((bytes_eq-Decides own path).0 (sym e ∙ t)) (number_is_file f Q n own at first), λ is. e ∙ (bytes_eq-Decides own path).1 (same is))
  where
    same : IsFirstFile f Q path → own ≡ path
    same is = elim (before_or own path) [
      | inl one ↦ one
      | inr apart ↦ elim apart [
        | inl less ↦ absurd (is.none_before n own first.so at less)
        | inr more ↦ absurd (first.none_before is.number own path is.so at is.path_is more)
      ]
    ]

-- there is none
pub first_none_is : (f : Knowledge) (Q : ℕ → Type 0) (path : List ℕ) → ((n : ℕ) → Q n → ⊥) → IsTrue false ↔ IsFirstFile f Q path
first_none_is f Q path none = (λ t. absurd (let e : false ≡ true = t in cc), λ is. absurd (none is.number is.so))

-- whether there is one
pub any_is : (f : Knowledge) (Q : ℕ → Type 0) (o : Option ℕ) (r : Bool) → r ≡ is_some o → MatchOption o ((n : ℕ) → Q n → ⊥) (λ n. IsNumber f n × IsFirstNumber f Q n) → IsTrue r ↔ ((n : ℕ) × Q n)
any_is f Q None r e none = (λ t. absurd (let g : true ≡ false = sym t ∙ e in cc), λ found. absurd (none found.0 found.1))
any_is f Q (Some n) r e first = (λ t. (n, first.1.so), λ found. e)

-- ---- the first file that is gone

module _ (f : Knowledge) (ns : List ℕ) (path : List ℕ) where
  pub gone_here : (i : ℕ) (own : List ℕ) (r : Bool) → i < length ns → stamp_of f (get_or ns i 0) ≡ None → ((k : ℕ) → k < i → IsStanding f (get_or ns k 0)) → path_at f (get_or ns i 0) ≡ Some own → r ≡ bytes_eq own path → IsTrue r ↔ IsFirstGonePath f ns path
  gone_here i own r low gone stand at e = (
    λ t. (i, record { within = low; gone = gone; others = stand }, at ∙ ap Some ((bytes_eq-Decides own path).0 (sym e ∙ t))),
    λ told. e ∙ (bytes_eq-Decides own path).1 (some_is own path (sym at ∙ subst (λ k. path_at f (get_or ns k 0) ≡ Some path) (same told.0 told.1) told.2)),
  )
    where
      same : (place : ℕ) → IsFirstGone f ns place → place ≡ i
      same place first = elim (cases_lt place i) [
        | inl less ↦ absurd (let (s, stands) = stand place less in none_some s (sym first.gone ∙ stands))
        | inr past ↦ elim (cases_lt i place) [
          | inl more ↦ absurd (let (s, stands) = first.others i more in none_some s (sym gone ∙ stands))
          | inr also ↦ omega (arith, past, also)
        ]
      ]

  pub gone_none : AllStand f ns → IsTrue false ↔ IsFirstGonePath f ns path
  gone_none all = (
    λ t. absurd (let e : false ≡ true = t in cc),
    λ told. absurd (let (s, stands) = all told.0 told.1.within in none_some s (sym told.1.gone ∙ stands)),
  )

-- a file that was not seen to stand is not among those that stand
pub none_stands : (f : Knowledge) (ns : List ℕ) (i : ℕ) → i < length ns → stamp_of f (get_or ns i 0) ≡ None → IsTrue false ↔ AllStand f ns
none_stands f ns i low gone = (λ t. absurd (let e : false ≡ true = t in cc), λ all. absurd (let (s, stands) = all i low in none_some s (sym gone ∙ stands)))

-- a stamp was seen where it is not told that there is none
pub stamp_seen_so : (f : Knowledge) (n : ℕ) (o : Option ℕ) → o ≡ stamp_of f n → is_some o ≡ true → IsStanding f n
stamp_seen_so f n None e some = absurd (let g : false ≡ true = some in cc)
stamp_seen_so f n (Some stamp) e some = (stamp, sym e)

pub stamp_unseen : (f : Knowledge) (n : ℕ) (o : Option ℕ) → o ≡ stamp_of f n → is_some o ≡ false → stamp_of f n ≡ None
stamp_unseen f n None e none = sym e
stamp_unseen f n (Some stamp) e none = absurd (let g : true ≡ false = none in cc)

-- ---- how many stand before a path

-- a path that compares so does not stand before the other
pub not_before : (p q : List ℕ) → (slice_cmp nat_cmp p q ≡ Equal) ⊎ (slice_cmp nat_cmp p q ≡ Greater) → Before p q → ⊥
not_before p q is before = elim is [ inl e ↦ equal_not p q e before | inr e ↦ greater_not p q e before ]

-- one more stands before
pub before_more : (paths : List (List ℕ)) (path own : List ℕ) (count : ℕ) → slice_get paths count ≡ Some own → Before own path → ((place : ℕ) (other : List ℕ) → place < count → slice_get paths place ≡ Some other → Before other path)
    → (place : ℕ) (other : List ℕ) → place < count + 1 → slice_get paths place ≡ Some other → Before other path
before_more paths path own count at less before place other low there = elim (cases_lt place count) [
  | inl old ↦ before place other old there
  | inr past ↦ (let same : place ≡ count = omega (arith, low, past) in subst (λ p. Before p path) (some_is own other (sym at ∙ ap (slice_get paths) (sym same) ∙ there)) less)
]

-- the next one does not
pub count_here : (paths : List (List ℕ)) (path own : List ℕ) (count : ℕ) → slice_get paths count ≡ Some own → (Before own path → ⊥) → ((place : ℕ) (other : List ℕ) → place < count → slice_get paths place ≡ Some other → Before other path) → IsCountBefore paths path count
count_here paths path own count at not before = record {
  within = (let low = slice_get_within paths count own at in omega (arith, low));
  before = before;
  next = λ other there less. not (subst (λ p. Before p path) (some_is other own (sym there ∙ at)) less);
}

-- all do
pub count_all : (paths : List (List ℕ)) (path : List ℕ) (count : ℕ) → count ≡ length paths → ((place : ℕ) (other : List ℕ) → place < count → slice_get paths place ≡ Some other → Before other path) → IsCountBefore paths path count
count_all paths path count e before = record {
  within = omega (arith, e);
  before = before;
  next = λ other there less. (let low = slice_get_within paths count other there in absurd (omega (arith, low, e)));
}

module _ (f : Knowledge) (ns : List ℕ) (path : List ℕ) where
  pub members_more : (own : List ℕ) (count : ℕ) → path_at f (get_or ns count 0) ≡ Some own → Before own path → ((place : ℕ) (other : List ℕ) → place < count → path_at f (get_or ns place 0) ≡ Some other → Before other path)
      → (place : ℕ) (other : List ℕ) → place < count + 1 → path_at f (get_or ns place 0) ≡ Some other → Before other path
  members_more own count at less before place other low there = elim (cases_lt place count) [
    | inl old ↦ before place other old there
    | inr past ↦ (let same : place ≡ count = omega (arith, low, past) in subst (λ p. Before p path) (some_is own other (sym at ∙ ap (λ k. path_at f (get_or ns k 0)) (sym same) ∙ there)) less)
  ]

  pub members_here : (own : List ℕ) (count : ℕ) → count < length ns → path_at f (get_or ns count 0) ≡ Some own → (Before own path → ⊥) → ((place : ℕ) (other : List ℕ) → place < count → path_at f (get_or ns place 0) ≡ Some other → Before other path) → AreBefore f ns path count
  members_here own count low at not before = record {
    within = omega (arith, low);
    before = before;
    next = λ other within there less. not (subst (λ p. Before p path) (some_is other own (sym there ∙ at)) less);
  }

  pub members_all : (count : ℕ) → count ≡ length ns → ((place : ℕ) (other : List ℕ) → place < count → path_at f (get_or ns place 0) ≡ Some other → Before other path) → AreBefore f ns path count
  members_all count e before = record { within = omega (arith, e); before = before; next = λ other within there less. absurd (omega (arith, within, e)) }

-- ---- a record and files

module _ (f : Knowledge) (logged : List (List ℕ × ℕ)) (ns : List ℕ) where
  -- one more agrees
  pub agree_more : (i : ℕ) (one : List ℕ × ℕ) → slice_get logged i ≡ Some one → IsLogged f one (get_or ns i 0) → AgreeUpTo f logged ns i → AgreeUpTo f logged ns (i + 1)
  agree_more i one at is before k other low there = elim (cases_lt k i) [
    | inl old ↦ before k other old there
    | inr past ↦ (let same : k ≡ i = omega (arith, low, past) in
        subst (λ n. IsLogged f other (get_or ns n 0)) (sym same) (subst (λ x. IsLogged f x (get_or ns i 0)) (some_is one other (sym at ∙ ap (slice_get logged) (sym same) ∙ there)) is))
  ]

  -- one does not, so they do not agree beyond it
  pub not_agree : (i count : ℕ) (one : List ℕ × ℕ) → slice_get logged i ≡ Some one → i < count → (IsLogged f one (get_or ns i 0) → ⊥) → IsTrue false ↔ AgreeUpTo f logged ns count
  not_agree i count one at low differs = (λ t. absurd (let e : false ≡ true = t in cc), λ agree. absurd (differs (agree i one low at)))

  pub not_logged : (i : ℕ) (one : List ℕ × ℕ) → slice_get logged i ≡ Some one → i < length ns → (IsLogged f one (get_or ns i 0) → ⊥) → IsTrue false ↔ AreLogged f logged ns
  not_logged i one at low differs = (λ t. absurd (let e : false ≡ true = t in cc), λ is. absurd (differs (is.each i one low at)))

  pub not_counted : (length logged ≡ length ns → ⊥) → IsTrue false ↔ AreLogged f logged ns
  not_counted differs = (λ t. absurd (let e : false ≡ true = t in cc), λ is. absurd (differs is.count))

  pub agree_all : (r : Bool) → length logged ≡ length ns → IsTrue r ↔ AgreeUpTo f logged ns (length ns) → IsTrue r ↔ AreLogged f logged ns
  agree_all r count is = (λ t. record { count = count; each = is.0 t }, λ so. is.1 so.each)

-- an output with another stamp is the first one exactly where this one is told
module _ (f : Knowledge) (outs : List ℕ) (r : Record) (path : List ℕ) (logged now : ℕ) where
  pub other_here : (i : ℕ) (one : List ℕ × ℕ) (result : Bool) → i < length outs → length r.outs ≡ length outs → slice_get r.outs i ≡ Some one → path_at f (get_or outs i 0) ≡ Some one.0 → (stamp_of f (get_or outs i 0) ≡ Some one.1 → ⊥) → AgreeUpTo f r.outs outs i
      → IsTrue result ↔ ((path_at f (get_or outs i 0) ≡ Some path) × (stamp_of f (get_or outs i 0) ≡ Some now) × (one.1 ≡ logged)) → IsTrue result ↔ IsOtherOutputAt f outs r path logged now
  other_here i one result low count at named differs agree is = (forth, back)
    where
      first : IsFirstOther f r.outs outs i
      first = record {
        within = inr low;
        in_logged = omega (arith, low, count);
        in_files = omega (arith, low);
        before = agree;
        other = λ other there within so. differs (subst (λ (x : List ℕ × ℕ). stamp_of f (get_or outs i 0) ≡ Some x.1) (some_is other one (sym there ∙ at)) so.1);
      }

      forth : result ≡ true → IsOtherOutputAt f outs r path logged now
      forth t =
          let seen = is.0 t in
          let same_path : one.0 ≡ path = some_is one.0 path (sym named ∙ seen.0) in
          let same_stamp : one.1 ≡ logged = seen.2 in
          (i, first, record { within = low; path_is = seen.0; stamp_is = seen.1 }, at ∙ ap (λ p. Some (p, one.1)) same_path ∙ ap (λ s. Some (path, s)) same_stamp)

      place_is : (place : ℕ) → IsFirstOther f r.outs outs place → place < length outs → place ≡ i
      place_is place own within = elim (cases_lt place i) [
        | inl less ↦ (let (other, there) = get_some r.outs place (omega (arith, within, count)) in absurd (own.other other there within (agree place other less there)))
        | inr past ↦ elim (cases_lt i place) [
          | inl more ↦ absurd (differs (own.before i one more at).1)
          | inr also ↦ omega (arith, past, also)
        ]
      ]

      back : IsOtherOutputAt f outs r path logged now → result ≡ true
      back told =
          let same = place_is told.0 told.1 told.2.within in
          let path_is = subst (λ k. path_at f (get_or outs k 0) ≡ Some path) same told.2.path_is in
          let stamp_is = subst (λ k. stamp_of f (get_or outs k 0) ≡ Some now) same told.2.stamp_is in
          let there = subst (λ k. slice_get r.outs k ≡ Some (path, logged)) same told.3 in
          is.1 (path_is, stamp_is, ap (λ (x : List ℕ × ℕ). x.1) (some_is one (path, logged) (sym at ∙ there)))

  pub other_none : length r.outs ≡ length outs → AgreeUpTo f r.outs outs (length outs) → IsTrue false ↔ IsOtherOutputAt f outs r path logged now
  other_none count agree = (
    λ t. absurd (let e : false ≡ true = t in cc),
    λ told. absurd (told.1.other (path, logged) told.3 told.2.within (agree told.0 (path, logged) told.2.within told.3)),
  )

-- ---- inputs that differ

-- the path that stands at a place
pub named_there : (ins given : List (List ℕ × ℕ)) (i count : ℕ) (one : List ℕ × ℕ) → given ≡ ins → count ≡ i → i < length given → one ≡ get_or given i one → slice_get (map path_of ins) count ≡ Some one.0
named_there ins given i count one e same low at = subst (λ k. slice_get (map path_of ins) k ≡ Some one.0) (sym same) (slice_get-map path_of ins i ∙ ap (option_map path_of) (given_there ins given i one e low at))

module _ (r : Record) (place : ℕ) (path : List ℕ) where
  pub logged_same : (one : List ℕ × ℕ) (same : Bool) → slice_get r.ins place ≡ Some one → same ≡ bytes_eq one.0 path → same ≡ true → IsLoggedAt r place path (Some one.1)
  logged_same one same at test t = at ∙ ap (λ p. Some (p, one.1)) ((bytes_eq-Decides one.0 path).0 (sym test ∙ t))

  pub logged_other : (one : List ℕ × ℕ) (same : Bool) → slice_get r.ins place ≡ Some one → same ≡ bytes_eq one.0 path → same ≡ false → IsLoggedAt r place path None
  logged_other one same at test off = λ stamp there. (let e : true ≡ false = sym (test ∙ (bytes_eq-Decides one.0 path).1 (ap (λ (x : List ℕ × ℕ). x.0) (some_is one (path, stamp) (sym at ∙ there)))) ∙ off in cc)

  pub logged_none : slice_get r.ins place ≡ None → IsLoggedAt r place path None
  logged_none none = λ stamp there. none_some (path, stamp) (sym none ∙ there)

  -- one stamp alone is told
  pub logged_one : (a b : Option ℕ) → IsLoggedAt r place path a → IsLoggedAt r place path b → a ≡ b
  logged_one None None one other = refl
  logged_one None (Some stamp) one other = absurd (one stamp other)
  logged_one (Some stamp) None one other = absurd (other stamp one)
  logged_one (Some a) (Some b) one other = ap (λ (x : Option (List ℕ × ℕ)). stamp_in_pair x) (sym one ∙ other)
    where
      stamp_in_pair : Option (List ℕ × ℕ) → Option ℕ
      stamp_in_pair None = None
      stamp_in_pair (Some pair) = Some pair.1

  pub logged_is : (own claimed : Option ℕ) (same : Bool) → IsLoggedAt r place path own → (same ≡ true → own ≡ claimed) → (own ≡ claimed → same ≡ true) → IsTrue same ↔ IsLoggedAt r place path claimed
  logged_is own claimed same told forth back = (λ t. subst (IsLoggedAt r place path) (forth t) told, λ is. back (logged_one own claimed told is))

module _ (f : Knowledge) (ns : List ℕ) (place : ℕ) (path : List ℕ) where
  pub present_one : (a b : Option ℕ) → IsPresentAt f ns place path a → IsPresentAt f ns place path b → a ≡ b
  present_one None None one other = refl
  present_one None (Some stamp) one other = absurd (one stamp other)
  present_one (Some stamp) None one other = absurd (other stamp one)
  present_one (Some a) (Some b) one other = sym one.stamp_is ∙ other.stamp_is

  pub present_is : (own claimed : Option ℕ) (same : Bool) → IsPresentAt f ns place path own → (same ≡ true → own ≡ claimed) → (own ≡ claimed → same ≡ true) → IsTrue same ↔ IsPresentAt f ns place path claimed
  present_is own claimed same told forth back = (λ t. subst (IsPresentAt f ns place path) (forth t) told, λ is. back (present_one own claimed told is))

-- so many stand before a path, and no other number does
count_one : (paths : List (List ℕ)) (path : List ℕ) (a b : ℕ) → IsCountBefore paths path a → IsCountBefore paths path b → a ≡ b
count_one paths path a b one other = elim (cases_lt a b) [
  | inl less ↦ (let low = other.within in let (p, at) = get_some paths a (omega (arith, less, low)) in absurd (one.next p at (other.before a p less at)))
  | inr past ↦ elim (cases_lt b a) [
    | inl more ↦ (let low = one.within in let (p, at) = get_some paths b (omega (arith, more, low)) in absurd (other.next p at (one.before b p more at)))
    | inr also ↦ omega (arith, past, also)
  ]
]

-- the same of members
members_one : (f : Knowledge) (ns : List ℕ) (path : List ℕ) (a b : ℕ) → AreNumbers f ns → AreBefore f ns path a → AreBefore f ns path b → a ≡ b
members_one f ns path a b numbers one other = elim (cases_lt a b) [
  | inl less ↦ (let low = other.within in let within : a < length ns = omega (arith, less, low) in let (p, at) = get_some f.paths (get_or ns a 0) (numbers a within).0 in absurd (one.next p within at (other.before a p less at)))
  | inr past ↦ elim (cases_lt b a) [
    | inl more ↦ (let low = one.within in let within : b < length ns = omega (arith, more, low) in let (p, at) = get_some f.paths (get_or ns b 0) (numbers b within).0 in absurd (other.next p within at (one.before b p more at)))
    | inr also ↦ omega (arith, past, also)
  ]
]

-- where another number of members stands before the path, these are not the ones
pub not_members : (f : Knowledge) (ns : List ℕ) (path : List ℕ) (place count : ℕ) (A : Type 0) → AreNumbers f ns → AreBefore f ns path count → (place ≡ count → ⊥) → IsTrue (nat_eq place count) ↔ (AreBefore f ns path place × A)
not_members f ns path place count A numbers members differs = (λ t. absurd (differs ((Decides-eqb place count).0 t)), λ is. absurd (differs (members_one f ns path place count numbers is.0 members)))

-- where so many do, the rest decides
pub members_so : (f : Knowledge) (ns : List ℕ) (path : List ℕ) (place count : ℕ) (A : Type 0) (r : Bool) → place ≡ count → AreBefore f ns path count → IsTrue r ↔ A → IsTrue r ↔ (AreBefore f ns path place × A)
members_so f ns path place count A r same members is = (λ t. (subst (AreBefore f ns path) (sym same) members, is.0 t), λ both. is.1 both.1)

-- stamps that do not compare as equal differ
pub options_differ : (a b : Option ℕ) (same : Bool) → same ≡ option_eq nat_eq a b → same ≡ false → a ≡ b → ⊥
options_differ a b same is off e = (let t : true ≡ false = sym (own a) ∙ ap (option_eq nat_eq a) e ∙ sym is ∙ off in cc)
  where
    own : (o : Option ℕ) → option_eq nat_eq o o ≡ true
    own None = refl
    own (Some n) = (Decides-eqb n n).1 refl

module _ (f : Knowledge) (ins : List ℕ) (r : Record) (path : List ℕ) (logged now : Option ℕ) (place : ℕ) where
  -- as far as a place both agree and stand before the path, and there they have these stamps
  abbrev pub IsPlace : Type 0
  IsPlace = (AreBefore f ins path place × AgreeUpTo f r.ins ins place) × (IsLoggedAt r place path logged × IsPresentAt f ins place path now)

  pub other_input : (result : Bool) → IsCountBefore (map path_of r.ins) path place → (logged ≡ now → ⊥) → IsTrue result ↔ IsPlace → IsTrue result ↔ IsOtherInputAt f ins r path logged now
  other_input result inputs other is = (forth, back)
    where
      forth : result ≡ true → IsOtherInputAt f ins r path logged now
      forth t =
          let ((members, agree), (logged_is, present_is)) = is.0 t in
          record { place = place; inputs = inputs; members = members; agree = agree; logged_is = logged_is; present_is = present_is; other = other }

      back : IsOtherInputAt f ins r path logged now → result ≡ true
      back told = is.1 (subst (λ (p : ℕ). (AreBefore f ins path p × AgreeUpTo f r.ins ins p) × (IsLoggedAt r p path logged × IsPresentAt f ins p path now)) (count_one (map path_of r.ins) path told.place place told.inputs inputs)
          ((told.members, told.agree), (told.logged_is, told.present_is)))
