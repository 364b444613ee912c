-- What is listed to fail, or to end badly, is among what may go wrong, and stays so as its entries come nearer.
use Rattle.std.proofs.Common.{◌≡◌, ℕ, ◌-◌, ◌==◌, nat_lt, Bool, true, false, ◌&&◌, ◌||◌, cond, List, [], ◌∷◌, map, Option, None, Some, is_some, refl, ap, sym, subst, arith}
use Rattle.std.specs.List.{list_any}
use Rattle.std.proofs.lemmas.Bool.{false≢true}
use Rattle.b2_host.specs.Outside.{Risks}
use Rattle.b2_memory.specs.declared.script.CallKind.{CallKind}
use Rattle.b2_memory.specs.declared.script.CallKind.TheVariants as kinds
use Rattle.b2_memory.specs.Scripts.{Listed, is_same, is_listed, is_spent, is_to_fail, call_after, calls_after, fuse_after, is_bad, starts_after, some_call_fails, some_wait_fails, risks_by, risks_of, AreAmong, MayFail}

-- ---- booleans and lists

or_less : (a b c d : Bool) → (a ≡ true → c ≡ true) → (b ≡ true → d ≡ true) → (a || b) ≡ true → (c || d) ≡ true
or_less true b c d f g h = ap (λ x. x || d) (f refl)
or_less false b true d f g h = refl
or_less false b false d f g h = g h

and_less : (a b c d : Bool) → (a ≡ true → c ≡ true) → (b ≡ true → d ≡ true) → (a && b) ≡ true → (c && d) ≡ true
and_less true b true d f g h = g h
and_less true b false d f g h = absurd (false≢true (f refl))
and_less false b c d f g h = absurd (false≢true h)

any_less : {X : Type 0} (p q : X → Bool) → ((x : X) → p x ≡ true → q x ≡ true) → (xs : List X) → list_any p xs ≡ true → list_any q xs ≡ true
any_less p q less [] h = h
any_less p q less (x ∷ xs) h = or_less (p x) (list_any p xs) (q x) (list_any q xs) (less x) (any_less p q less xs) h

any_map : {X : Type 0} (p : X → Bool) (f : X → X) → ((x : X) → p (f x) ≡ true → p x ≡ true) → (xs : List X) → list_any p (map f xs) ≡ true → list_any p xs ≡ true
any_map p f less [] h = h
any_map p f less (x ∷ xs) h = or_less (p (f x)) (list_any p (map f xs)) (p x) (list_any p xs) (less x) (any_map p f less xs) h

less_down : (n : ℕ) → nat_lt 0 (n - 1) ≡ true → nat_lt 0 n ≡ true
less_down n h = grind arith

one_is_more : (n : ℕ) → (n == 1) ≡ true → nat_lt 0 n ≡ true
one_is_more n h = grind arith

-- ---- an entry that comes nearer

call_nearer : (kind : CallKind) (call : CallKind × ℕ) → nat_lt 0 (call_after kind call).1 ≡ true → nat_lt 0 call.1 ≡ true
call_nearer kind call = go (is_same kind call.0)
  where
    go : (b : Bool) → nat_lt 0 (cond b (call.0, call.1 - 1) call).1 ≡ true → nat_lt 0 call.1 ≡ true
    go true h = less_down call.1 h
    go false h = h

wait_nearer : (kind : CallKind) (call : CallKind × ℕ) → (is_same kinds.Wait (call_after kind call).0 && nat_lt 0 (call_after kind call).1) ≡ true → (is_same kinds.Wait call.0 && nat_lt 0 call.1) ≡ true
wait_nearer kind call = go (is_same kind call.0)
  where
    go : (b : Bool) → (is_same kinds.Wait (cond b (call.0, call.1 - 1) call).0 && nat_lt 0 (cond b (call.0, call.1 - 1) call).1) ≡ true → (is_same kinds.Wait call.0 && nat_lt 0 call.1) ≡ true
    go true h = and_less (is_same kinds.Wait call.0) (nat_lt 0 (call.1 - 1)) (is_same kinds.Wait call.0) (nat_lt 0 call.1) (λ e. e) (less_down call.1) h
    go false h = h

fuse_nearer : (fuse : Option ℕ) → is_some (fuse_after fuse) ≡ true → is_some fuse ≡ true
fuse_nearer None h = h
fuse_nearer (Some left) h = h

-- ---- what may go wrong

-- a call was made
pub after_call : (kind : CallKind) (fuse later : Option ℕ) (calls left : List (CallKind × ℕ)) (starts : List ℕ) (risks : Risks) → later ≡ fuse_after fuse → left ≡ calls_after kind calls
    → AreAmong (risks_by fuse calls starts) risks → AreAmong (risks_by later left starts) risks
after_call kind fuse later calls left starts risks same_fuse same_calls among =
    subst (λ f. AreAmong (risks_by f left starts) risks) (sym same_fuse) (subst (λ l. AreAmong (risks_by (fuse_after fuse) l starts) risks) (sym same_calls) (record {
      fail = λ h. among.fail (or_less (is_some (fuse_after fuse)) (some_call_fails (calls_after kind calls)) (is_some fuse) (some_call_fails calls) (fuse_nearer fuse)
          (any_map (λ call. nat_lt 0 call.1) (call_after kind) (call_nearer kind) calls) h);
      wait = λ h. among.wait (or_less (is_some (fuse_after fuse)) (some_wait_fails (calls_after kind calls)) (is_some fuse) (some_wait_fails calls) (fuse_nearer fuse)
          (any_map (λ call. is_same kinds.Wait call.0 && nat_lt 0 call.1) (call_after kind) (wait_nearer kind) calls) h);
      badly = among.badly;
    }))

-- a child was started
pub after_start : (fuse : Option ℕ) (calls : List (CallKind × ℕ)) (starts left : List ℕ) (risks : Risks) → left ≡ starts_after starts → AreAmong (risks_by fuse calls starts) risks → AreAmong (risks_by fuse calls left) risks
after_start fuse calls starts left risks same among = subst (λ l. AreAmong (risks_by fuse calls l) risks) (sym same)
    (record { fail = among.fail; wait = among.wait; badly = λ h. among.badly (any_map (λ start. nat_lt 0 start) (λ start. start - 1) less_down starts h) })

-- a call that is listed to fail may fail
pub expected : (kind : CallKind) (listed : Listed) (risks : Risks) → AreAmong (risks_of listed) risks → is_to_fail kind listed ≡ true → MayFail kind risks
expected kind listed risks among h = go kind (among.fail fails) waits
  where
    spent : (fuse : Option ℕ) → is_spent fuse ≡ true → is_some fuse ≡ true
    spent None e = e
    spent (Some left) e = refl

    fails : (risks_of listed).may_fail ≡ true
    fails = or_less (is_spent listed.fuse) (is_listed kind listed.calls) (is_some listed.fuse) (some_call_fails listed.calls) (spent listed.fuse)
        (any_less (λ call. is_same kind call.0 && call.1 == 1) (λ call. nat_lt 0 call.1) (λ call. and_less (is_same kind call.0) (call.1 == 1) true (nat_lt 0 call.1) (λ e. refl) (one_is_more call.1)) listed.calls) h

    waits : (kinds.Wait ≡ kind) → risks.wait_may_fail ≡ true
    waits same = among.wait (or_less (is_spent listed.fuse) (is_listed kinds.Wait listed.calls) (is_some listed.fuse) (some_wait_fails listed.calls) (spent listed.fuse)
        (any_less (λ call. is_same kinds.Wait call.0 && call.1 == 1) (λ call. is_same kinds.Wait call.0 && nat_lt 0 call.1)
        (λ call. and_less (is_same kinds.Wait call.0) (call.1 == 1) (is_same kinds.Wait call.0) (nat_lt 0 call.1) (λ e. e) (one_is_more call.1)) listed.calls)
        (subst (λ k. is_to_fail k listed ≡ true) (sym same) h))

    go : (k : CallKind) → risks.may_fail ≡ true → (kinds.Wait ≡ k → risks.wait_may_fail ≡ true) → MayFail k risks
    go kinds.Wait may wait = (may, wait refl)
    go kinds.Stat may wait = may
    go kinds.Read may wait = may
    go kinds.List may wait = may
    go kinds.Append may wait = may
    go kinds.Replace may wait = may
    go kinds.Remove may wait = may
    go kinds.Start may wait = may

-- a child that is listed to end badly may do so
pub bad_expected : (listed : Listed) (risks : Risks) → AreAmong (risks_of listed) risks → is_bad listed.starts ≡ true → risks.may_end_badly ≡ true
bad_expected listed risks among h = among.badly (any_less (λ start. start == 1) (λ start. nat_lt 0 start) one_is_more listed.starts h)
