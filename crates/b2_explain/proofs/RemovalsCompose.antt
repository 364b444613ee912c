-- Removals, one after another.
use Rattle.std.proofs.Common.{◌≡◌, inl, inr, ℕ, zero, suc, ◌+◌, Bool, true, false, cond, List, [], ◌∷◌, ◌++◌, length, take, Option, Some, None, is_some, Result, Ok, Err, refl, sym, ap, subst, ◌∙◌, arith, append_assoc, append-nil}
use Rattle.std.specs.Bool.{⊤}
use Rattle.std.specs.List.{Contains, flat_map}
use Rattle.std.specs.Option.{IfSome}
use Rattle.std.specs.Str.{bytes_eq}
use Rattle.std.proofs.lemmas.Bool.{cases_Bool}
use Rattle.std.proofs.lemmas.List.{length-append}
use Rattle.std.proofs.Math.Seq.{take-append-add, take-length}
use Rattle.std.proofs.lemmas.List.Elements.{Contains-append_left, Contains-append_cases, Contains-push}
use Rattle.std.proofs.lemmas.Slice.Eq.{bytes_eq-Decides}
use Rattle.b2_base.specs.Counts.{Rose}
use Rattle.b2_host.specs.Disks.{Folder, Disk, put}
use Rattle.b2_host.specs.ChildProcesses.{BothTold}
use Rattle.b2_host.specs.Outside.{Outside, Risks}
use Rattle.b2_host.specs.Output.{Output}
use Rattle.b2_host.specs.OutsideLaws.{keeps_same, keeps_then, only_one}
use Rattle.b2_host.specs.OutputLaws.{out_keeps_same, out_keeps_then}
use Rattle.b2_runs.proofs.FirstElementOrLater.{Contains_here, Contains_there, Contains_cases, Contains_nil}
use Rattle.b2_explain.specs.declared.fault.CleanFault.{CleanFault}
use Rattle.b2_explain.specs.declared.fault.CleanFault.TheVariants as faults
use Rattle.b2_explain.specs.Faults.{CleanCounts}
use Rattle.b2_explain.specs.Lines.{removed_line}
use Rattle.b2_explain.specs.Cleaning.{standing, AreFirstLines}
use Rattle.b2_explain.specs.Removing.{IsUpTo, Wrote, TakesAway, TakenAway, RemovesSome, one_if, OneTaken, RemovesOne}

-- ---- lines of lists

pub flat_more : {X A : Type 0} (g : X → List A) (xs ys : List X) → flat_map g (xs ++ ys) ≡ flat_map g xs ++ flat_map g ys
flat_more g [] ys = refl
flat_more g (x ∷ xs) ys = ap (λ l. g x ++ l) (flat_more g xs ys) ∙ sym (append_assoc (g x) (flat_map g xs) (flat_map g ys))

-- some first ones of a list are first ones of a longer one
take_longer : {X : Type 0} (n : ℕ) (xs ys : List X) → (m : ℕ) × (take n xs ≡ take m (xs ++ ys))
take_longer zero xs ys = (zero, refl)
take_longer (suc n) [] ys = (zero, refl)
take_longer (suc n) (x ∷ xs) ys = let (m, same) = take_longer n xs ys in (suc m, ap (λ l. x ∷ l) same)

-- ---- what is written

-- nothing is the first part of all lines
none_up_to : (T : Type 0) (paths : List (List ℕ)) (fault : CleanFault) → IsUpTo {T = T} paths (Err fault) []
none_up_to T paths faults.Host = (0, refl)
none_up_to T paths faults.Sink = (flat_map removed_line paths, refl)
none_up_to T paths faults.OutOfMemory = (0, refl)

pub wrote_none : {T : Type 0} (before after : Output) (v : T) → after ≡ before → Wrote [] before after (Ok v)
wrote_none before after v same = go before.written refl
  where
    go : (o : Option (List ℕ)) → before.written ≡ o → IfSome o (λ so_far. (text : List ℕ) × (after.written ≡ Some (so_far ++ text)) × (text ≡ []))
    go None e = tt
    go (Some so_far) e = ([], ap (λ (o : Output). o.written) same ∙ e ∙ ap Some (sym (append-nil so_far)), refl)

-- where nothing was written and a fault came, no lines were
pub wrote_cut : (T : Type 0) (paths : List (List ℕ)) (before after : Output) (fault : CleanFault) → after ≡ before → Wrote {T = T} paths before after (Err fault)
wrote_cut T paths before after fault same = go before.written refl
  where
    go : (o : Option (List ℕ)) → before.written ≡ o → IfSome o (λ so_far. (text : List ℕ) × (after.written ≡ Some (so_far ++ text)) × IsUpTo {T = T} paths (Err fault) text)
    go None e = tt
    go (Some so_far) e = ([], ap (λ (o : Output). o.written) same ∙ e ∙ ap Some (sym (append-nil so_far)), none_up_to T paths fault)

-- all lines of the first removals, and then first lines of the others
first_then : (a b : List (List ℕ)) (text : List ℕ) → AreFirstLines b text → AreFirstLines (a ++ b) (flat_map removed_line a ++ text)
first_then a b text (n, is) = (
  length a + n,
  ap (λ t. flat_map removed_line a ++ t) is ∙ sym (flat_more removed_line a (take n b)) ∙ ap (flat_map removed_line) (sym (take-append-add a b n)),
)

up_to_then : {T : Type 0} (a b : List (List ℕ)) (text : List ℕ) (r : Result T CleanFault) → IsUpTo b r text → IsUpTo (a ++ b) r (flat_map removed_line a ++ text)
up_to_then a b text (Ok v) is = ap (λ t. flat_map removed_line a ++ t) is ∙ sym (flat_more removed_line a b)
up_to_then a b text (Err faults.Host) is = first_then a b text is
up_to_then a b text (Err faults.Sink) (rest, is) = (rest, flat_more removed_line a b ∙ ap (λ t. flat_map removed_line a ++ t) is ∙ sym (append_assoc (flat_map removed_line a) text rest))
up_to_then a b text (Err faults.OutOfMemory) is = first_then a b text is

pub wrote_then : {T S : Type 0} (a b : List (List ℕ)) (x y z : Output) (v : T) (r : Result S CleanFault) → Wrote a x y (Ok v) → Wrote b y z r → Wrote (a ++ b) x z r
wrote_then a b x y z v r first next = go x.written first
  where
    go : (o : Option (List ℕ)) → IfSome o (λ so_far. (text : List ℕ) × (y.written ≡ Some (so_far ++ text)) × (text ≡ flat_map removed_line a)) → IfSome o (λ so_far. (text : List ℕ) × (z.written ≡ Some (so_far ++ text)) × IsUpTo (a ++ b) r text)
    go None told = tt
    go (Some so_far) (text, at, is) = (
        let here : y.written ≡ Some (so_far ++ flat_map removed_line a) = at ∙ ap (λ t. Some (so_far ++ t)) is in
        let (more, then, up) = subst (λ o. IfSome o (λ s. (text : List ℕ) × (z.written ≡ Some (s ++ text)) × IsUpTo b r text)) here next in
        (flat_map removed_line a ++ more, then ∙ ap Some (append_assoc so_far (flat_map removed_line a) more), up_to_then a b more r up))

-- the fault came after all was written, or it is the one that cut the lines off
abbrev pub StopsWith : {T : Type 0} → Result T CleanFault → CleanFault → Type 0
StopsWith (Ok v) fault = ⊤
StopsWith (Err own) fault = own ≡ fault

all_first : (paths : List (List ℕ)) (text : List ℕ) → text ≡ flat_map removed_line paths → AreFirstLines paths text
all_first paths text is = (length paths, is ∙ ap (flat_map removed_line) (sym (take-length paths)))

all_up_to : (S : Type 0) (paths : List (List ℕ)) (text : List ℕ) (fault : CleanFault) → text ≡ flat_map removed_line paths → IsUpTo {T = S} paths (Err fault) text
all_up_to S paths text faults.Host is = all_first paths text is
all_up_to S paths text faults.Sink is = ([], sym is ∙ sym (append-nil text))
all_up_to S paths text faults.OutOfMemory is = all_first paths text is

same_up_to : (T S : Type 0) (paths : List (List ℕ)) (text : List ℕ) (fault : CleanFault) → IsUpTo {T = T} paths (Err fault) text → IsUpTo {T = S} paths (Err fault) text
same_up_to T S paths text faults.Host is = is
same_up_to T S paths text faults.Sink is = is
same_up_to T S paths text faults.OutOfMemory is = is

stopped_up_to : {T : Type 0} (S : Type 0) (paths : List (List ℕ)) (text : List ℕ) (r : Result T CleanFault) (fault : CleanFault) → StopsWith r fault → IsUpTo paths r text → IsUpTo {T = S} paths (Err fault) text
stopped_up_to S paths text (Ok v) fault stops is = all_up_to S paths text fault is
stopped_up_to {T} S paths text (Err own) fault same is = subst (λ f. IsUpTo {T = S} paths (Err f) text) same (same_up_to T S paths text own is)

pub wrote_err : {T : Type 0} (S : Type 0) (paths : List (List ℕ)) (x y : Output) (r : Result T CleanFault) (fault : CleanFault) → StopsWith r fault → Wrote paths x y r → Wrote {T = S} paths x y (Err fault)
wrote_err S paths x y r fault stops told = go x.written told
  where
    go : (o : Option (List ℕ)) → IfSome o (λ so_far. (text : List ℕ) × (y.written ≡ Some (so_far ++ text)) × IsUpTo paths r text) → IfSome o (λ so_far. (text : List ℕ) × (y.written ≡ Some (so_far ++ text)) × IsUpTo {T = S} paths (Err fault) text)
    go None told = tt
    go (Some so_far) (text, at, is) = (text, at, stopped_up_to S paths text r fault stops is)

-- first lines of less are first lines of more
first_longer : (a b : List (List ℕ)) (text : List ℕ) → AreFirstLines a text → AreFirstLines (a ++ b) text
first_longer a b text (n, is) = let (m, same) = take_longer n a b in (m, is ∙ ap (flat_map removed_line) same)

longer_up_to : (T : Type 0) (a b : List (List ℕ)) (text : List ℕ) (fault : CleanFault) → IsUpTo {T = T} a (Err fault) text → IsUpTo {T = T} (a ++ b) (Err fault) text
longer_up_to T a b text faults.Host is = first_longer a b text is
longer_up_to T a b text faults.Sink (rest, is) = (rest ++ flat_map removed_line b, flat_more removed_line a b ∙ ap (λ t. t ++ flat_map removed_line b) is ∙ append_assoc text rest (flat_map removed_line b))
longer_up_to T a b text faults.OutOfMemory is = first_longer a b text is

pub wrote_longer : (T : Type 0) (a b : List (List ℕ)) (x y : Output) (fault : CleanFault) → Wrote {T = T} a x y (Err fault) → Wrote {T = T} (a ++ b) x y (Err fault)
wrote_longer T a b x y fault told = go x.written told
  where
    go : (o : Option (List ℕ)) → IfSome o (λ so_far. (text : List ℕ) × (y.written ≡ Some (so_far ++ text)) × IsUpTo {T = T} a (Err fault) text) → IfSome o (λ so_far. (text : List ℕ) × (y.written ≡ Some (so_far ++ text)) × IsUpTo {T = T} (a ++ b) (Err fault) text)
    go None told = tt
    go (Some so_far) (text, at, is) = (text, at, longer_up_to T a b text fault is)

-- ---- counts of faults

pub counts_err : (T S : Type 0) (x : Outside) (a : Output) (y : Outside) (b : Output) (fault : CleanFault) → CleanCounts {T = T} x a y b (Err fault) → CleanCounts {T = S} x a y b (Err fault)
counts_err T S x a y b faults.Host counts = counts
counts_err T S x a y b faults.Sink counts = counts
counts_err T S x a y b faults.OutOfMemory counts = counts

pub counts_then : {T S : Type 0} (x : Outside) (a : Output) (y : Outside) (b : Output) (z : Outside) (c : Output) (v : T) (r : Result S CleanFault) → y.risks ≡ x.risks → b.may_fail ≡ a.may_fail → CleanCounts x a y b (Ok v) → CleanCounts y b z c r → CleanCounts x a z c r
counts_then x a y b z c v (Ok w) risks may first next = (next.0 ∙ first.0, next.1 ∙ first.1)
counts_then x a y b z c v (Err faults.Host) risks may first next = (ap (λ (r : Risks). r.may_fail) (sym risks) ∙ next.0, subst (λ n. Rose n z.faults) first.0 next.1, next.2 ∙ first.1)
counts_then x a y b z c v (Err faults.Sink) risks may first next = (next.0 ∙ first.0, record { may = sym may ∙ next.1.may; faults = subst (λ n. Rose n c.faults) first.1 next.1.faults })
counts_then x a y b z c v (Err faults.OutOfMemory) risks may first next = (next.0 ∙ first.0, next.1 ∙ first.1)

-- ---- what stands

none_of : {X : Type 0} (o : Option X) → is_some o ≡ false → o ≡ None
none_of None e = refl
none_of (Some x) e = (let f : true ≡ false = e in cc)

-- where the path stands it is put first, else it is left out
pub standing_yes : (f : Folder) (path : List ℕ) (paths : List (List ℕ)) → is_some (f path) ≡ true → standing f (path ∷ paths) ≡ path ∷ standing (put path None f) paths
standing_yes f path paths e = ap (λ b. cond b (path ∷ standing (put path None f) paths) (standing f paths)) e

pub standing_no : (f : Folder) (path : List ℕ) (paths : List (List ℕ)) → is_some (f path) ≡ false → standing f (path ∷ paths) ≡ standing f paths
standing_no f path paths e = ap (λ b. cond b (path ∷ standing (put path None f) paths) (standing f paths)) e

put_here : (f : Folder) (path : List ℕ) → put path None f path ≡ None
put_here f path = ap (λ b. cond b None (f path)) ((bytes_eq-Decides path path).1 refl)

put_there : (f : Folder) (path other : List ℕ) → bytes_eq path other ≡ false → put path None f other ≡ f other
put_there f path other e = ap (λ b. cond b None (f other)) e

-- a file is as in the other folder, unless it was taken from it
pub record IsWithout (paths : List (List ℕ)) (f g : Folder) (path : List ℕ) : Type 0 where
  pub taken : Contains paths path → g path ≡ None
  pub left : (Contains paths path → ⊥) → g path ≡ f path

-- what stands of some paths and one more: what stands of these, and the one where it still does
pub standing_more : (front : List (List ℕ)) (f g : Folder) (path : List ℕ) → IsWithout front f g path → standing f (front ++ path ∷ []) ≡ standing f front ++ standing g (path ∷ [])
standing_more [] f g path is = one (is_some (f path)) refl
  where
    same : g path ≡ f path
    same = is.left (λ among. Contains_nil path among)

    one : (b : Bool) → is_some (f path) ≡ b → standing f (path ∷ []) ≡ standing g (path ∷ [])
    one true e = standing_yes f path [] e ∙ sym (standing_yes g path [] (ap is_some same ∙ e))
    one false e = standing_no f path [] e ∙ sym (standing_no g path [] (ap is_some same ∙ e))
standing_more (p ∷ front) f g path is = go (is_some (f p)) refl (λ h w. standing_more front h g path w)
  where
    -- the other paths are taken from the folder without the first
    go_yes : IsWithout front (put p None f) g path
    go_yes = record {
      taken = λ among. is.taken (Contains_there p path front among);
      left = λ none. elim (cases_Bool (bytes_eq p path)) [
        | inl same ↦ (let e : p ≡ path = (bytes_eq-Decides p path).0 same in is.taken (subst (Contains (p ∷ front)) e (Contains_here p front)) ∙ sym (ap (λ b. cond b None (f path)) same))
        | inr other ↦ is.left (λ among. elim (Contains_cases p path front among) [ inl e ↦ absurd (let h : bytes_eq p path ≡ true = (bytes_eq-Decides p path).1 e in let f : true ≡ false = sym h ∙ other in cc) | inr later ↦ none later ]) ∙ sym (put_there f p path other)
      ];
    }

    -- or from the same folder, where the first does not stand
    go_no : is_some (f p) ≡ false → IsWithout front f g path
    go_no gone = record {
      taken = λ among. is.taken (Contains_there p path front among);
      left = λ none. elim (cases_Bool (bytes_eq p path)) [
        | inl same ↦ (let e : p ≡ path = (bytes_eq-Decides p path).0 same in is.taken (subst (Contains (p ∷ front)) e (Contains_here p front)) ∙ sym (subst (λ q. f q ≡ None) e (none_of (f p) gone)))
        | inr other ↦ is.left (λ among. elim (Contains_cases p path front among) [ inl e ↦ absurd (let h : bytes_eq p path ≡ true = (bytes_eq-Decides p path).1 e in let f : true ≡ false = sym h ∙ other in cc) | inr later ↦ none later ])
      ];
    }

    go : (b : Bool) → is_some (f p) ≡ b → ((h : Folder) → IsWithout front h g path → standing h (front ++ path ∷ []) ≡ standing h front ++ standing g (path ∷ []))
        → standing f (p ∷ front ++ path ∷ []) ≡ standing f (p ∷ front) ++ standing g (path ∷ [])
    go true e more = standing_yes f p (front ++ path ∷ []) e ∙ ap (λ l. p ∷ l) (more (put p None f) go_yes) ∙ sym (ap (λ l. l ++ standing g (path ∷ [])) (standing_yes f p front e))
    go false e more = standing_no f p (front ++ path ∷ []) e ∙ more f (go_no e) ∙ sym (ap (λ l. l ++ standing g (path ∷ [])) (standing_no f p front e))

-- ---- one removal more

-- what two removals take away
pub away_then : (front : List (List ℕ)) (path : List ℕ) (a b c : Disk) → TakesAway front a b → TakesAway (path ∷ []) b c → TakesAway (front ++ path ∷ []) a c
away_then front path a b c first next = record {
  others = λ other none. next.others other (λ among. none (subst (Contains (front ++ path ∷ [])) (only_one path other among) (Contains-push front path))) ∙ first.others other (λ among. none (Contains-append_left front (path ∷ []) other among));
  gone = λ other. elim (next.gone other) [
    | inl same ↦ elim (first.gone other) [ inl before ↦ inl (same ∙ before) | inr away ↦ inr (same ∙ away) ]
    | inr away ↦ inr away
  ];
  past = next.past ∙ first.past;
}

-- the path is as before unless it was one of those that were taken
pub without_first : (front : List (List ℕ)) (path : List ℕ) (a b : Disk) → TakesAway front a b → ((other : List ℕ) → Contains front other → b.now other ≡ None) → IsWithout front a.now b.now path
without_first front path a b away none = record { taken = λ among. none path among; left = λ not. away.others path not }

pub removes_none : (count : ℕ) (x : Outside) (before : Output) → RemovesSome [] count x before x before (Ok count)
removes_none count x before = record {
  counts = (refl, refl);
  rest = refl;
  files = go x.disk;
  wrote = some_wrote x.disk;
  keeps = keeps_same x x refl;
  out_keeps = out_keeps_same before before refl;
}
  where
    go : (o : Option Disk) → BothTold (λ old new. TakesAway [] old new × TakenAway [] count old new (Ok count)) o o
    go None = tt
    go (Some disk) = (record { others = λ path none. refl; gone = λ path. inl refl; past = refl }, (λ path among. absurd (Contains_nil path among), omega arith))

    some_wrote : (o : Option Disk) → IfSome o (λ disk. Wrote [] before before (Ok count))
    some_wrote None = tt
    some_wrote (Some disk) = wrote_none before before count refl

module _ (front : List (List ℕ)) (path : List ℕ) (count total : ℕ) (x y z : Outside) (a b c : Output) (first : RemovesSome front count x a y b (Ok total)) where
  -- the files and what was written, where both are visible
  both : (r : Result Bool CleanFault) (q : Result ℕ CleanFault) → RemovesOne path y b z c r
      → ((old new last : Disk) → TakesAway front old new × TakenAway front count old new (Ok total) → TakesAway (path ∷ []) new last × OneTaken path new last r → TakenAway (front ++ path ∷ []) count old last q)
      → BothTold (λ old new. TakesAway (front ++ path ∷ []) old new × TakenAway (front ++ path ∷ []) count old new q) x.disk z.disk
  both r q next tells = go x.disk y.disk z.disk first.files next.files
    where
      go : (o p l : Option Disk) → BothTold (λ old new. TakesAway front old new × TakenAway front count old new (Ok total)) o p → BothTold (λ old new. TakesAway (path ∷ []) old new × OneTaken path old new r) p l → BothTold (λ old new. TakesAway (front ++ path ∷ []) old new × TakenAway (front ++ path ∷ []) count old new q) o l
      go None None None one two = tt
      go None None (Some l) one two = absurd two
      go None (Some p) l one two = absurd one
      go (Some o) None l one two = absurd one
      go (Some o) (Some p) None one two = absurd two
      go (Some o) (Some p) (Some l) one two = (away_then front path o p l one.0 two.0, tells o p l one two)

  -- the lines of both
  lines : (r : Result Bool CleanFault) → RemovesOne path y b z c r → IfSome x.disk (λ disk. Wrote (standing disk.now (front ++ path ∷ [])) a c r)
  lines r next = go x.disk y.disk first.files first.wrote next.wrote
    where
      go : (o p : Option Disk) → BothTold (λ old new. TakesAway front old new × TakenAway front count old new (Ok total)) o p → IfSome o (λ disk. Wrote (standing disk.now front) a b (Ok total)) → IfSome p (λ disk. Wrote (standing disk.now (path ∷ [])) b c r)
          → IfSome o (λ disk. Wrote (standing disk.now (front ++ path ∷ [])) a c r)
      go None p files one two = tt
      go (Some o) None files one two = absurd files
      go (Some o) (Some p) files one two =
          subst (λ paths. Wrote paths a c r) (sym (standing_more front o.now p.now path (without_first front path o p files.0 files.1.0)))
          (wrote_then (standing o.now front) (standing p.now (path ∷ [])) a b c total r one two)

  -- nothing but the files and the count of faults has changed
  rest_then : {r : Result Bool CleanFault} → RemovesOne path y b z c r → z ≡ record x { disk = z.disk; faults = z.faults }
  rest_then next = subst (λ (o : Outside). z ≡ record o { disk = z.disk; faults = z.faults }) first.rest next.rest

  pub removes_next : (stood : Bool) (more : ℕ) → more ≡ total + one_if stood → RemovesOne path y b z c (Ok stood) → RemovesSome (front ++ path ∷ []) count x a z c (Ok more)
  removes_next stood more e next = record {
    counts = counts_then x a y b z c total (Ok more) first.keeps.risks first.out_keeps.may_fail first.counts next.counts;
    rest = rest_then {r = Ok stood} next;
    files = both (Ok stood) (Ok more) next (λ old new last one two. (
      λ other among. elim (Contains-append_cases front (path ∷ []) other among) [
        | inl before ↦ elim (two.0.gone other) [ inl same ↦ same ∙ one.1.0 other before | inr away ↦ away ]
        | inr here ↦ subst (λ p. last.now p ≡ None) (only_one path other here) two.1.0
      ],
      (let told = one.1.1 in let own = two.1.1 in let whole = ap length (standing_more front old.now new.now path (without_first front path old new one.0 one.1.0)) ∙ length-append (standing old.now front) (standing new.now (path ∷ [])) in omega (arith, e, told, own, whole)),
    ));
    wrote = lines_ok x.disk (lines (Ok stood) next);
    keeps = keeps_then x y z first.keeps next.keeps;
    out_keeps = out_keeps_then a b c first.out_keeps next.out_keeps;
  }
    where
      lines_ok : (o : Option Disk) → IfSome o (λ disk. Wrote (standing disk.now (front ++ path ∷ [])) a c (Ok stood)) → IfSome o (λ disk. Wrote (standing disk.now (front ++ path ∷ [])) a c (Ok more))
      lines_ok None told = tt
      lines_ok (Some disk) told = told

  -- it stopped, or the count could not be told
  pub removes_stop : (r : Result Bool CleanFault) (fault : CleanFault) → StopsWith r fault → RemovesOne path y b z c r → CleanCounts {T = ℕ} x a z c (Err fault) → RemovesSome (front ++ path ∷ []) count x a z c (Err fault)
  removes_stop r fault stops next counts = record {
    counts = counts;
    rest = rest_then {r = r} next;
    files = both r (Err fault) next (λ old new last one two. tt);
    wrote = lines_err x.disk (lines r next);
    keeps = keeps_then x y z first.keeps next.keeps;
    out_keeps = out_keeps_then a b c first.out_keeps next.out_keeps;
  }
    where
      lines_err : (o : Option Disk) → IfSome o (λ disk. Wrote (standing disk.now (front ++ path ∷ [])) a c r) → IfSome o (λ disk. Wrote {T = ℕ} (standing disk.now (front ++ path ∷ [])) a c (Err fault))
      lines_err None told = tt
      lines_err (Some disk) told = wrote_err ℕ (standing disk.now (front ++ path ∷ [])) a c r fault stops told

  pub removes_fault : (fault : CleanFault) → RemovesOne path y b z c (Err fault) → RemovesSome (front ++ path ∷ []) count x a z c (Err fault)
  removes_fault fault next = removes_stop (Err fault) fault refl next (counts_then {S = ℕ} x a y b z c total (Err fault) first.keeps.risks first.out_keeps.may_fail first.counts (counts_err Bool ℕ y b z c fault next.counts))

-- ---- a fault before all were removed

-- what stands of more paths begins with what stands of the first ones
standing_front : (f : Folder) (front rest : List (List ℕ)) → (more : List (List ℕ)) × (standing f (front ++ rest) ≡ standing f front ++ more)
standing_front f [] rest = (standing f rest, refl)
standing_front f (p ∷ front) rest = go (is_some (f p)) refl (λ h. standing_front h front rest)
  where
    go : (b : Bool) → is_some (f p) ≡ b → ((h : Folder) → (more : List (List ℕ)) × (standing h (front ++ rest) ≡ standing h front ++ more)) → (more : List (List ℕ)) × (standing f (p ∷ front ++ rest) ≡ standing f (p ∷ front) ++ more)
    go true e next = let (more, same) = next (put p None f) in (more, standing_yes f p (front ++ rest) e ∙ ap (λ l. p ∷ l) same ∙ sym (ap (λ l. l ++ more) (standing_yes f p front e)))
    go false e next = let (more, same) = next f in (more, standing_no f p (front ++ rest) e ∙ same ∙ sym (ap (λ l. l ++ more) (standing_no f p front e)))

pub removes_early : (front rest : List (List ℕ)) (count : ℕ) (x y : Outside) (a b : Output) (fault : CleanFault) → RemovesSome front count x a y b (Err fault) → RemovesSome (front ++ rest) count x a y b (Err fault)
removes_early front rest count x y a b fault is = record {
  counts = is.counts;
  rest = is.rest;
  files = go x.disk y.disk is.files;
  wrote = written x.disk is.wrote;
  keeps = is.keeps;
  out_keeps = is.out_keeps;
}
  where
    go : (o p : Option Disk) → BothTold (λ old new. TakesAway front old new × TakenAway front count old new (Err fault)) o p → BothTold (λ old new. TakesAway (front ++ rest) old new × TakenAway (front ++ rest) count old new (Err fault)) o p
    go None None told = tt
    go None (Some p) told = absurd told
    go (Some o) None told = absurd told
    go (Some o) (Some p) told = (record { others = λ path none. told.0.others path (λ among. none (Contains-append_left front rest path among)); gone = told.0.gone; past = told.0.past }, tt)

    written : (o : Option Disk) → IfSome o (λ disk. Wrote {T = ℕ} (standing disk.now front) a b (Err fault)) → IfSome o (λ disk. Wrote {T = ℕ} (standing disk.now (front ++ rest)) a b (Err fault))
    written None told = tt
    written (Some disk) told = (
        let (more, same) = standing_front disk.now front rest in
        subst (λ paths. Wrote {T = ℕ} paths a b (Err fault)) (sym same) (wrote_longer ℕ (standing disk.now front) more a b fault told))
