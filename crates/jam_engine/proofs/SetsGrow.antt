-- A set of texts grows by a text, and numbers of a text by one more.
use Rattle.std.proofs.Common.{◌≡◌, ℕ, ◌+◌, ◌<◌, Bool, true, false, cond, ◌||◌, [], ◌∷◌, ◌++◌, length, get_or, take, Option, Some, None, is_some, refl, sym, ap, ◌∙◌}
use Rattle.std.specs.Cmp.Lexicographic.{nat_list_cmp_total}
use Rattle.std.specs.FinMap.{get, insert, from_entries, get-insert, get-from_entries}
use Rattle.std.specs.Str.{bytes_eq}
use Rattle.std.proofs.lemmas.List.{take_more}
use Rattle.std.proofs.lemmas.List.Folds.{list_any-append}
use Rattle.std.proofs.lemmas.Map.Text.{is_eq-slice_cmp}
use Rattle.jam_journal.specs.Tables.{Text, Names}
use Rattle.jam_journal.specs.Scopes.{Value}
use Rattle.jam_engine.specs.Targets.{has}
use Rattle.jam_engine.specs.Tables.{is_in}

or_there : (b : Bool) (o : Option Bool) → is_some (cond b (Some true) o) ≡ (is_some o || b)
or_there true None = refl
or_there true (Some x) = refl
or_there false None = refl
or_there false (Some x) = refl

-- nothing is in a set that was just made
pub none_in : (set : Names Bool) (text : Text) → set ≡ from_entries [] → is_in set text ≡ false
none_in set text made = ap (λ (m : Names Bool). is_in m text) made ∙ ap is_some (get-from_entries nat_list_cmp_total [] text)

-- what is in a set with one text more
pub in_more : (set : Names Bool) (text other : Text) → is_in (insert set text true) other ≡ (is_in set other || bytes_eq other text)
in_more set text other =
    ap is_some (get-insert nat_list_cmp_total set text true other ∙ ap (λ b. cond b (Some true) (get set other)) (is_eq-slice_cmp other text))
    ∙ or_there (bytes_eq other text) (get set other)

or_assoc : (a b c : Bool) → ((a || b) || c) ≡ (a || (b || c))
or_assoc true b c = refl
or_assoc false b c = refl

or_false : (a : Bool) → (a || false) ≡ a
or_false true = refl
or_false false = refl

-- a text has one more element
pub has_more : (texts : Value) (text other : Text) → has (texts ++ text ∷ []) other ≡ (has texts other || bytes_eq other text)
has_more texts text other = list_any-append (bytes_eq other) texts (text ∷ []) ∙ ap (λ b. has texts other || b) (or_false (bytes_eq other text))

-- in one round of a loop over texts
pub set_step : (texts : Value) (i : ℕ) (text key : Text) (before now next : Names Bool) → i < length texts → text ≡ get_or texts i text → key ≡ text
    → ((t : Text) → is_in now t ≡ (is_in before t || has (take i texts) t)) → next ≡ insert now key true
    → (t : Text) → is_in next t ≡ (is_in before t || has (take (i + 1) texts) t)
set_step texts i text key before now next low is key_is was inserts t =
    ap (λ (m : Names Bool). is_in m t) (inserts ∙ ap (λ (k : Text). insert now k true) key_is)
    ∙ in_more now text t
    ∙ ap (λ b. b || bytes_eq t text) (was t)
    ∙ or_assoc (is_in before t) (has (take i texts) t) (bytes_eq t text)
    ∙ ap (λ b. is_in before t || b) (sym (ap (λ l. has l t) (take_more texts i text low ∙ ap (λ y. take i texts ++ y ∷ []) (sym is)) ∙ has_more (take i texts) text t))
