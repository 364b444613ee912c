-- A target is met, unless a look-up says that it was seen.
use Rattle.std.proofs.Common.{◌≡◌, Bool, true, false, cond, ◌||◌, [], ◌∷◌, ◌++◌, reverse, Option, Some, None, Result, Ok, Err, OnOk, is_some, refl, sym, ap, ◌∙◌}
use Rattle.std.specs.Borrow.{Bor}
use Rattle.std.proofs.lemmas.Bool.{true≢false}
use Rattle.std.specs.FinMap.{get, insert}
use Rattle.std.specs.Option.{option_copied}
use Rattle.jam_journal.specs.Tables.{Text, Names}
use Rattle.jam_journal.specs.Scopes.{Value}
use Rattle.jam_graph.specs.declared.graph.Graph.{Graph}
use Rattle.jam_engine.specs.Spreading.{MeetsOne}
use Rattle.jam_engine.specs.Spreads.{next}
use Rattle.jam_engine.specs.Tables.{is_in}

some_copied : (o : Option (Bor Bool)) → is_some (option_copied o) ≡ is_some o
some_copied None = refl
some_copied (Some x) = refl

pub by_look : (set : Names Bool) (text : Text) (found : Option (Bor Bool)) (is b : Bool) → option_copied found ≡ get set text → is ≡ is_some found → is ≡ b → is_in set text ≡ b
by_look set text found is b look test e = sym (ap is_some look) ∙ some_copied found ∙ sym test ∙ e

pub on_ok : {T E A B : Type 0} (r : Result T E) → (A → B) → OnOk r A → OnOk r B
on_ok (Ok x) f h = f h
on_ok (Err e) f h = tt

pub met_old : (g : Graph) (target : Text) (seen : Names Bool) (met stack : Value) → is_in seen target ≡ true → MeetsOne g target seen seen met met stack stack
met_old g target seen met stack e = record {
  set = ap (λ b. cond b seen (insert seen target true)) (sym e);
  met_now = ap (λ b. cond b met (met ++ target ∷ [])) (sym e);
  waiting = ap (λ b. cond b stack (stack ++ reverse (next g target))) (sym e);
}

pub met_new : (g : Graph) (target key own : Text) (seen after : Names Bool) (met later stack waits : Value) → is_in seen target ≡ false → key ≡ target → after ≡ insert seen key true → own ≡ target → later ≡ met ++ own ∷ []
    → waits ≡ stack ++ reverse (next g target) → MeetsOne g target seen after met later stack waits
met_new g target key own seen after met later stack waits e key_is inserts own_is pushes puts = record {
  set = inserts ∙ ap (λ (k : Text). insert seen k true) key_is ∙ ap (λ b. cond b seen (insert seen target true)) (sym e);
  met_now = pushes ∙ ap (λ (t : Text). met ++ t ∷ []) own_is ∙ ap (λ b. cond b met (met ++ target ∷ [])) (sym e);
  waiting = puts ∙ ap (λ b. cond b stack (stack ++ reverse (next g target))) (sym e);
}

pub or_then : (n a x : Bool) → x ≡ true → n ≡ true → x ≡ (n || a)
or_then true a x e f = e
or_then false a x e f = absurd (true≢false (sym f))

pub or_else : (n a x : Bool) → x ≡ a → n ≡ false → x ≡ (n || a)
or_else true a x e f = absurd (true≢false f)
or_else false a x e f = e
