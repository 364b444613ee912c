-- A step has one cause, and the needed steps are explained in one way.
use Rattle.std.proofs.Common.{◌≡◌, inl, inr, ℕ, zero, suc, ◌<◌, ◌≤◌, Bool, true, false, List, [], ◌∷◌, ◌++◌, Option, Some, None, map, refl, sym, ap, subst, ◌∙◌, arith}
use Rattle.std.specs.Bool.{⊤}
use Rattle.std.specs.List.{Contains}
use Rattle.std.proofs.lemmas.Bool.{cases_lt, cases_eq}
use Rattle.b2_base.specs.Bytes.{Before}
use Rattle.b2_host.specs.Disks.{File}
use Rattle.b2_host.specs.FileCalls.{stamp_at}
use Rattle.b2_plan.specs.declared.step.Step.{Step}
use Rattle.b2_plan.specs.Plans.{step_at}
use Rattle.b2_log.specs.declared.line.Record.{Record}
use Rattle.b2_log.specs.Good.{IsRising}
use Rattle.b2_runs.specs.Staleness.{Update}
use Rattle.b2_runs.specs.Runs.{Settled}
use Rattle.b2_runs.proofs.FirstElementOrLater.{Contains_here, Contains_there, Contains_cases, Contains_nil, AllPairs_head, AllPairs_tail, same_ordered}
use Rattle.b2_runs.proofs.ClosureIsOne.{Before_irrefl}
use Rattle.b2_facts.proofs.ListsAtPlaces.{some_is, none_some}
use Rattle.b2_explain.specs.declared.cause.Cause.{Cause}
use Rattle.b2_explain.specs.declared.cause.Cause.TheVariants as causes
use Rattle.b2_explain.specs.declared.cause.Why.{Why}
use Rattle.b2_explain.specs.Firsts.{IsFirstPath, IsFirstIn}
use Rattle.b2_explain.specs.Whys.{IsRead, IsLacked, IsWaitedFor, IsGone, IsNewer, IsOlder, IsFound, HasProperRecords, HasOtherStamp, IsLogged, IsPresent, Differs, LacksNothing, IsClosed, IsOrdinary, HasOutputs, IsUpToDate, HasText, HasStamps, IsCause, IsWhy, step_in}
use Rattle.b2_explain.specs.Laws.{CauseIsOne, ExplanationIsOne}
use Rattle.b2_explain.proofs.OrderOfPaths.{before_or}

-- ---- what is first is one

pub first_path_one : (P : List ℕ → Type 0) (p q : List ℕ) → IsFirstPath P p → IsFirstPath P q → p ≡ q
first_path_one P p q a b = elim (before_or p q) [
  | inl same ↦ same
  | inr apart ↦ elim apart [ inl less ↦ absurd (b.none_before p less a.so) | inr more ↦ absurd (a.none_before q more b.so) ]
]

head_of : {X : Type 0} (x y : X) (xs ys : List X) → x ∷ xs ≡ y ∷ ys → x ≡ y
head_of x y xs ys e = let f : x ∷ xs ≡ y ∷ ys = e in cc

tail_of : {X : Type 0} (x y : X) (xs ys : List X) → x ∷ xs ≡ y ∷ ys → xs ≡ ys
tail_of x y xs ys e = let f : x ∷ xs ≡ y ∷ ys = e in cc

-- the first element of two cuts of a list
cut_one : {X : Type 0} (P : X → Type 0) (front rest other after : List X) (x y : X) → front ++ x ∷ rest ≡ other ++ y ∷ after → P x → P y
    → ((z : X) → Contains front z → P z → ⊥) → ((z : X) → Contains other z → P z → ⊥) → x ≡ y
cut_one P [] rest [] after x y e px py none_front none_other = head_of x y rest after e
cut_one P [] rest (z ∷ other) after x y e px py none_front none_other =
    absurd (none_other z (Contains_here z other) (subst P (head_of x z rest (other ++ y ∷ after) e) px))
cut_one P (w ∷ front) rest [] after x y e px py none_front none_other =
    absurd (none_front w (Contains_here w front) (subst P (sym (head_of w y (front ++ x ∷ rest) after e)) py))
cut_one P (w ∷ front) rest (z ∷ other) after x y e px py none_front none_other =
    cut_one P front rest other after x y (tail_of w z (front ++ x ∷ rest) (other ++ y ∷ after) e) px py
    (λ v among. none_front v (Contains_there w v front among)) (λ v among. none_other v (Contains_there z v other among))

pub first_in_one : {X : Type 0} (P : X → Type 0) (list : List X) (x y : X) → IsFirstIn P list x → IsFirstIn P list y → x ≡ y
first_in_one P list x y a b = cut_one P a.before a.after b.before b.after x y (sym a.list_is ∙ b.list_is) a.so b.so a.none_before b.none_before

-- the first is one of the list
pub first_in_among : {X : Type 0} (P : X → Type 0) (list : List X) (x : X) → IsFirstIn P list x → Contains list x
first_in_among {X = X} P list x a = subst (λ l. Contains l x) (sym a.list_is) (go a.before)
  where
    go : (front : List X) → Contains (front ++ x ∷ a.after) x
    go [] = Contains_here x a.after
    go (y ∷ front) = Contains_there y x (front ++ x ∷ a.after) (go front)

-- ---- records

-- the one path stands before the other
abbrev InOrder : List ℕ × ℕ → List ℕ × ℕ → Type 0
InOrder x y = Before x.0 y.0

-- an input of a record in byte order has one stamp
stamp_one : (files : List (List ℕ × ℕ)) (path : List ℕ) (s t : ℕ) → IsRising files → Contains files (path, s) → Contains files (path, t) → s ≡ t
stamp_one [] path s t rising a b = absurd (Contains_nil (path, s) a)
stamp_one (file ∷ files) path s t rising a b = elim (Contains_cases file (path, s) files a) [
  | inl here ↦ elim (Contains_cases file (path, t) files b) [
    | inl there ↦ ap (λ (x : List ℕ × ℕ). x.1) (sym here ∙ there)
    | inr later ↦ absurd (Before_irrefl path (subst (λ (x : List ℕ × ℕ). Before x.0 path) here (AllPairs_head InOrder file (path, t) files rising later)))
  ]
  | inr later ↦ elim (Contains_cases file (path, t) files b) [
    | inl there ↦ absurd (Before_irrefl path (subst (λ (x : List ℕ × ℕ). Before x.0 path) there (AllPairs_head InOrder file (path, s) files rising later)))
    | inr also ↦ stamp_one files path s t (AllPairs_tail InOrder file files rising) later also
  ]
]

logged_one : (r : Record) (path : List ℕ) (a b : Option ℕ) → IsRising r.ins → IsLogged r path a → IsLogged r path b → a ≡ b
logged_one r path None None rising x y = refl
logged_one r path None (Some t) rising x y = absurd (x t y)
logged_one r path (Some s) None rising x y = absurd (y s x)
logged_one r path (Some s) (Some t) rising x y = ap Some (stamp_one r.ins path s t rising x y)

present_one : (u : Update) (step : Step) (path : List ℕ) (a b : Option ℕ) → IsPresent u step path a → IsPresent u step path b → a ≡ b
present_one u step path None None x y = refl
present_one u step path None (Some t) x y = absurd (x t y.0 y.1)
present_one u step path (Some s) None x y = absurd (y s x.0 x.1)
present_one u step path (Some s) (Some t) x y = sym x.1 ∙ y.1

-- ---- the places of causes in their order

-- the place of a cause
abbrev row : Cause → ℕ
row (causes.Lacks path) = 0
row (causes.Waits path) = 1
row causes.All = 2
row causes.Always = 3
row causes.NotFile = 4
row (causes.NoOutput path) = 5
row (causes.Older out out_stamp member member_stamp) = 6
row causes.NoRecord = 7
row (causes.OtherText logged) = 8
row (causes.OtherOutput path logged now) = 9
row (causes.OtherInput path logged now) = 10
row causes.Fresh = 11

-- what a cause tells
record Parts : Type 0 where
  path : List ℕ
  stamp : ℕ
  other : List ℕ
  other_stamp : ℕ
  logged : Option ℕ
  now : Option ℕ

abbrev no_parts : Parts
no_parts = record { path = []; stamp = 0; other = []; other_stamp = 0; logged = None; now = None }

abbrev parts : Cause → Parts
parts (causes.Lacks path) = record no_parts { path = path }
parts (causes.Waits path) = record no_parts { path = path }
parts causes.All = no_parts
parts causes.Always = no_parts
parts causes.NotFile = no_parts
parts (causes.NoOutput path) = record no_parts { path = path }
parts (causes.Older out out_stamp member member_stamp) = record no_parts { path = out; stamp = out_stamp; other = member; other_stamp = member_stamp }
parts causes.NoRecord = no_parts
parts (causes.OtherText logged) = record no_parts { path = logged }
parts (causes.OtherOutput path logged now) = record no_parts { path = path; stamp = logged; other_stamp = now }
parts (causes.OtherInput path logged now) = record no_parts { path = path; logged = logged; now = now }
parts causes.Fresh = no_parts

-- the cause at a place that tells these
abbrev by_row : ℕ → Parts → Cause
by_row zero p = causes.Lacks p.path
by_row (suc zero) p = causes.Waits p.path
by_row (suc (suc zero)) p = causes.All
by_row (suc (suc (suc zero))) p = causes.Always
by_row (suc (suc (suc (suc zero)))) p = causes.NotFile
by_row (suc (suc (suc (suc (suc zero))))) p = causes.NoOutput p.path
by_row (suc (suc (suc (suc (suc (suc zero)))))) p = causes.Older p.path p.stamp p.other p.other_stamp
by_row (suc (suc (suc (suc (suc (suc (suc zero))))))) p = causes.NoRecord
by_row (suc (suc (suc (suc (suc (suc (suc (suc zero)))))))) p = causes.OtherText p.path
by_row (suc (suc (suc (suc (suc (suc (suc (suc (suc zero))))))))) p = causes.OtherOutput p.path p.stamp p.other_stamp
by_row (suc (suc (suc (suc (suc (suc (suc (suc (suc (suc zero)))))))))) p = causes.OtherInput p.path p.logged p.now
by_row (suc (suc (suc (suc (suc (suc (suc (suc (suc (suc (suc more))))))))))) p = causes.Fresh

rebuilt : (cause : Cause) → cause ≡ by_row (row cause) (parts cause)
rebuilt (causes.Lacks path) = refl
rebuilt (causes.Waits path) = refl
rebuilt causes.All = refl
rebuilt causes.Always = refl
rebuilt causes.NotFile = refl
rebuilt (causes.NoOutput path) = refl
rebuilt (causes.Older out out_stamp member member_stamp) = refl
rebuilt causes.NoRecord = refl
rebuilt (causes.OtherText logged) = refl
rebuilt (causes.OtherOutput path logged now) = refl
rebuilt (causes.OtherInput path logged now) = refl
rebuilt causes.Fresh = refl

module _ (u : Update) (step : Step) where
  -- no cause at this place holds; the last one always does
  abbrev Passes : ℕ → Type 0
  Passes zero = LacksNothing u step
  Passes (suc zero) = (path : List ℕ) → IsRead u step path → Settled u [] path
  Passes (suc (suc zero)) = u.all ≡ false
  Passes (suc (suc (suc zero))) = step.always ≡ false
  Passes (suc (suc (suc (suc zero)))) = step.notfile ≡ false
  Passes (suc (suc (suc (suc (suc zero))))) = (out : List ℕ) → Contains step.outs out → (file : File) × (u.build.folder out ≡ Some file)
  Passes (suc (suc (suc (suc (suc (suc zero)))))) = (out member : List ℕ) (written read : ℕ) → Contains step.outs out → IsRead u step member → stamp_at u.build.folder out ≡ Some written → stamp_at u.build.folder member ≡ Some read → read ≤ written
  Passes (suc (suc (suc (suc (suc (suc (suc zero))))))) = (r : Record) × IsFound u step r
  Passes (suc (suc (suc (suc (suc (suc (suc (suc zero)))))))) = (r : Record) → IsFound u step r → r.text ≡ step.text
  Passes (suc (suc (suc (suc (suc (suc (suc (suc (suc zero))))))))) = (r : Record) (one : List ℕ × ℕ) → IsFound u step r → Contains r.outs one → stamp_at u.build.folder one.0 ≡ Some one.1
  Passes (suc (suc (suc (suc (suc (suc (suc (suc (suc (suc zero)))))))))) = (r : Record) (path : List ℕ) → IsFound u step r → Differs u step r path → ⊥
  Passes (suc (suc (suc (suc (suc (suc (suc (suc (suc (suc (suc more))))))))))) = ⊥

  abbrev AllPass : ℕ → Type 0
  AllPass zero = ⊤
  AllPass (suc k) = AllPass k × Passes k

  -- ---- what each condition says of the places before it

  all_0 : LacksNothing u step → AllPass 1
  all_0 nothing = (tt, nothing)

  all_1 : IsClosed u step → AllPass 2
  all_1 is = (all_0 is.lacks_nothing, is.settled)

  all_4 : IsOrdinary u step → AllPass 5
  all_4 is = (((all_1 is.closed, is.not_all), is.not_always), is.not_notfile)

  all_5 : HasOutputs u step → AllPass 6
  all_5 is = (all_4 is.ordinary, is.stand)

  all_6 : IsUpToDate u step → AllPass 7
  all_6 is = (all_5 is.has_outputs, is.none_older)

  all_7 : (r : Record) → IsUpToDate u step → IsFound u step r → AllPass 8
  all_7 r is found = (all_6 is, (r, found))

  -- the record is one
  same_record : (r s : Record) → IsFound u step r → IsFound u step s → r ≡ s
  same_record r s a b = some_is r s (sym a ∙ b)

  all_8 : (r : Record) → HasText u step r → AllPass 9
  all_8 r is = (all_7 r is.up_to_date is.found, λ s found. subst (λ (x : Record). x.text ≡ step.text) (same_record r s is.found found) is.text)

  all_9 : (r : Record) → HasStamps u step r → AllPass 10
  all_9 r is = (all_8 r is.has_text, λ s one found among. is.stamps one (subst (λ (x : Record). Contains x.outs one) (same_record s r found is.has_text.found) among))

  all_10 : (r : Record) → HasStamps u step r → ((path : List ℕ) → Differs u step r path → ⊥) → AllPass 11
  all_10 r is same = (all_9 r is, λ s path found differs. same path (subst (λ (x : Record). Differs u step x path) (same_record s r found is.has_text.found) differs))

  -- no cause before the cause of a step holds
  before_pass : (cause : Cause) → IsCause u step cause → AllPass (row cause)
  before_pass (causes.Lacks path) is = tt
  before_pass (causes.Waits path) is = all_0 is.0
  before_pass causes.All is = all_1 is.0
  before_pass causes.Always is = (all_1 is.0, is.1)
  before_pass causes.NotFile is = ((all_1 is.0, is.1), is.2)
  before_pass (causes.NoOutput path) is = all_4 is.0
  before_pass (causes.Older out out_stamp member member_stamp) is = all_5 is.0
  before_pass causes.NoRecord is = all_6 is.0
  before_pass (causes.OtherText logged) is = all_7 is.1 is.0 is.2
  before_pass (causes.OtherOutput path logged now) is = all_8 is.0 is.1
  before_pass (causes.OtherInput path logged now) is = all_9 is.0 is.1
  before_pass causes.Fresh is = all_10 is.0 is.1 is.2

  true_not : {A : Type 0} (b : Bool) → b ≡ true → b ≡ false → A
  true_not b so not = absurd (let e : true ≡ false = sym so ∙ not in cc)

  -- it does not pass itself
  own_holds : (cause : Cause) → IsCause u step cause → Passes (row cause) → ⊥
  own_holds (causes.Lacks path) is passes = passes path is.so
  own_holds (causes.Waits path) is passes = is.1.so.unsettled (passes path is.1.so.read)
  own_holds causes.All is passes = true_not u.all is.1 passes
  own_holds causes.Always is passes = true_not step.always is.2 passes
  own_holds causes.NotFile is passes = true_not step.notfile is.3 passes
  own_holds (causes.NoOutput path) is passes =
      let (file, stands) = passes path (first_in_among (IsGone u) step.outs path is.1) in
      none_some file (sym is.1.so ∙ stands)
  own_holds (causes.Older out out_stamp member member_stamp) is passes =
      let older = is.1.so in
      let newer = older.newer in
      let not = passes out older.member older.stamp newer.stamp (first_in_among (IsOlder u step) step.outs out is.1) newer.read older.stands newer.stands in
      let low = newer.newer in
      omega (arith, not, low)
  own_holds causes.NoRecord is passes = none_some passes.0 (sym is.1 ∙ passes.1)
  own_holds (causes.OtherText logged) is passes = is.4 (sym is.3 ∙ passes is.1 is.2)
  own_holds (causes.OtherOutput path logged now) is passes = is.2.so (passes is.0 (path, logged) is.1.found (first_in_among (HasOtherStamp u) is.0.outs (path, logged) is.2))
  own_holds (causes.OtherInput path logged now) is passes = passes is.0 path is.1.has_text.found is.2.so
  own_holds causes.Fresh is passes = passes

  -- what holds of all places before one holds of each
  pass_at : (n k : ℕ) → k < n → AllPass n → Passes k
  pass_at zero k low all = absurd (omega (arith, low))
  pass_at (suc n) k low all = elim (cases_eq k n) [
    | inl same ↦ subst Passes (sym same) all.1
    | inr other ↦ pass_at n k (omega (arith, low, other)) all.0
  ]

  same_row : (cause other : Cause) → IsCause u step cause → IsCause u step other → row cause ≡ row other
  same_row cause other a b = elim (cases_lt (row cause) (row other)) [
    | inl less ↦ absurd (own_holds cause a (pass_at (row other) (row cause) less (before_pass other b)))
    | inr past ↦ elim (cases_lt (row other) (row cause)) [
      | inl less ↦ absurd (own_holds other b (pass_at (row cause) (row other) less (before_pass cause a)))
      | inr also ↦ omega (arith, past, also)
    ]
  ]

  stamps_are : (path : List ℕ) (s t : ℕ) → stamp_at u.build.folder path ≡ Some s → stamp_at u.build.folder path ≡ Some t → s ≡ t
  stamps_are path s t a b = some_is s t (sym a ∙ b)

  older_one : (out member another : List ℕ) (s t m n : ℕ) (other : List ℕ) → IsCause u step (causes.Older out s member m) → IsCause u step (causes.Older other t another n) → causes.Older out s member m ≡ causes.Older other t another n
  older_one out member another s t m n other a b =
      let outs : out ≡ other = first_in_one (IsOlder u step) step.outs out other a.1 b.1 in
      let stamps : s ≡ t = stamps_are other s t (subst (λ p. stamp_at u.build.folder p ≡ Some s) outs a.2) b.2 in
      let members : member ≡ another = first_path_one (IsNewer u step t) member another (subst (λ k. IsFirstPath (IsNewer u step k) member) stamps a.3) b.3 in
      let read : m ≡ n = stamps_are another m n (subst (λ p. stamp_at u.build.folder p ≡ Some m) members a.4) b.4 in
      λ i. causes.Older (outs i) (stamps i) (members i) (read i)

  output_one : (path other : List ℕ) (s t m n : ℕ) → IsCause u step (causes.OtherOutput path s m) → IsCause u step (causes.OtherOutput other t n) → causes.OtherOutput path s m ≡ causes.OtherOutput other t n
  output_one path other s t m n (r, text, first, now) (q, text_q, first_q, now_q) =
      let same = same_record q r text_q.found text.found in
      let pair : ◌≡◌ {A = List ℕ × ℕ} (path, s) (other, t) = first_in_one (HasOtherStamp u) r.outs (path, s) (other, t) first (subst (λ (x : Record). IsFirstIn (HasOtherStamp u) x.outs (other, t)) same first_q) in
      let paths : path ≡ other = ap (λ (x : List ℕ × ℕ). x.0) pair in
      let logged : s ≡ t = ap (λ (x : List ℕ × ℕ). x.1) pair in
      let stamps : m ≡ n = stamps_are other m n (subst (λ p. stamp_at u.build.folder p ≡ Some m) paths now) now_q in
      λ i. causes.OtherOutput (paths i) (logged i) (stamps i)

  input_one : HasProperRecords u → (path other : List ℕ) (s t m n : Option ℕ) → IsCause u step (causes.OtherInput path s m) → IsCause u step (causes.OtherInput other t n) → causes.OtherInput path s m ≡ causes.OtherInput other t n
  input_one proper path other s t m n (r, stamps, first, logged, now) (q, stamps_q, first_q, logged_q, now_q) =
      let same = same_record q r stamps_q.has_text.found stamps.has_text.found in
      let paths : path ≡ other = first_path_one (Differs u step r) path other first (subst (λ (x : Record). IsFirstPath (Differs u step x) other) same first_q) in
      let logs : s ≡ t = logged_one r other s t (proper step.outs r stamps.has_text.found) (subst (λ p. IsLogged r p s) paths logged) (subst (λ (x : Record). IsLogged x other t) same logged_q) in
      let nows : m ≡ n = present_one u step other m n (subst (λ p. IsPresent u step p m) paths now) now_q in
      λ i. causes.OtherInput (paths i) (logs i) (nows i)

  text_one : (a b : List ℕ) → IsCause u step (causes.OtherText a) → IsCause u step (causes.OtherText b) → causes.OtherText a ≡ causes.OtherText b
  text_one a b (up, r, found, is, other) (up_q, q, found_q, is_q, other_q) =
      ap causes.OtherText (sym is ∙ ap (λ (x : Record). x.text) (same_record r q found found_q) ∙ is_q)

  -- at one place there is one cause
  one_at : HasProperRecords u → (k : ℕ) (p q : Parts) → IsCause u step (by_row k p) → IsCause u step (by_row k q) → by_row k p ≡ by_row k q
  one_at proper zero p q a b = ap causes.Lacks (first_path_one (IsLacked u step) p.path q.path a b)
  one_at proper (suc zero) p q a b = ap causes.Waits (first_path_one (IsWaitedFor u step) p.path q.path a.1 b.1)
  one_at proper (suc (suc zero)) p q a b = refl
  one_at proper (suc (suc (suc zero))) p q a b = refl
  one_at proper (suc (suc (suc (suc zero)))) p q a b = refl
  one_at proper (suc (suc (suc (suc (suc zero))))) p q a b = ap causes.NoOutput (first_in_one (IsGone u) step.outs p.path q.path a.1 b.1)
  one_at proper (suc (suc (suc (suc (suc (suc zero)))))) p q a b = older_one p.path p.other q.other p.stamp q.stamp p.other_stamp q.other_stamp q.path a b
  one_at proper (suc (suc (suc (suc (suc (suc (suc zero))))))) p q a b = refl
  one_at proper (suc (suc (suc (suc (suc (suc (suc (suc zero)))))))) p q a b = text_one p.path q.path a b
  one_at proper (suc (suc (suc (suc (suc (suc (suc (suc (suc zero))))))))) p q a b = output_one p.path q.path p.stamp q.stamp p.other_stamp q.other_stamp a b
  one_at proper (suc (suc (suc (suc (suc (suc (suc (suc (suc (suc zero)))))))))) p q a b = input_one proper p.path q.path p.logged q.logged p.now q.now a b
  one_at proper (suc (suc (suc (suc (suc (suc (suc (suc (suc (suc (suc more))))))))))) p q a b = refl

pub cause_is_one : CauseIsOne
cause_is_one u step cause other proper a b =
    let rows : row other ≡ row cause = sym (same_row u step cause other a b) in
    let placed : other ≡ by_row (row cause) (parts other) = rebuilt other ∙ ap (λ k. by_row k (parts other)) rows in
    rebuilt cause
    ∙ one_at u step proper (row cause) (parts cause) (parts other) (subst (IsCause u step) (rebuilt cause) a) (subst (IsCause u step) placed b)
    ∙ sym placed

-- ---- all needed steps

why_one : (u : Update) (why other : Why) → HasProperRecords u → IsWhy u why → IsWhy u other → why.step ≡ other.step → why ≡ other
why_one u why other proper a b same =
    let steps : a.step ≡ b.step = some_is a.step b.step (sym a.at ∙ ap (step_at u.build.steps) same ∙ b.at) in
    let causes_are : why.cause ≡ other.cause = cause_is_one u b.step why.cause other.cause proper (subst (λ (s : Step). IsCause u s why.cause) steps a.cause) b.cause in
    λ i. record { step = same i; cause = causes_are i }

lists_one : (u : Update) (whys others : List Why) → HasProperRecords u → ((why : Why) → Contains whys why → IsWhy u why) → ((why : Why) → Contains others why → IsWhy u why) → map step_in whys ≡ map step_in others → whys ≡ others
lists_one u [] [] proper a b same = refl
lists_one u [] (y ∷ others) proper a b same = absurd (let e : [] ≡ step_in y ∷ map step_in others = same in cc)
lists_one u (x ∷ whys) [] proper a b same = absurd (let e : step_in x ∷ map step_in whys ≡ [] = same in cc)
lists_one u (x ∷ whys) (y ∷ others) proper a b same =
    let here : x ≡ y = why_one u x y proper (a x (Contains_here x whys)) (b y (Contains_here y others)) (head_of (step_in x) (step_in y) (map step_in whys) (map step_in others) same) in
    let rest : whys ≡ others = lists_one u whys others proper (λ w among. a w (Contains_there x w whys among)) (λ w among. b w (Contains_there y w others among)) (tail_of (step_in x) (step_in y) (map step_in whys) (map step_in others) same) in
    λ i. here i ∷ rest i

pub explanation_is_one : ExplanationIsOne
explanation_is_one u whys others proper a b =
    lists_one u whys others proper a.each b.each
    (same_ordered {X = ℕ} (λ i k. i < k) (λ i low. omega (arith, low)) (λ i j k one two. omega (arith, one, two)) (map step_in whys) (map step_in others) a.steps.rising b.steps.rising
    (λ i among. b.steps.whole i (a.steps.each i among)) (λ i among. a.steps.whole i (b.steps.each i among)))
