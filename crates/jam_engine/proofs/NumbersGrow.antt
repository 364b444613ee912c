-- Numbers of a text grow by one more, and places of pairs are such numbers.
use Rattle.std.proofs.Common.{◌≡◌, ℕ, suc, ◌+◌, ◌<◌, Bool, true, false, cond, List, [], ◌∷◌, ◌++◌, length, get_or, take, Some, refl, sym, ap, ◌∙◌, arith}
use Rattle.std.specs.Prelude.{unwrap_or}
use Rattle.std.specs.Cmp.Lexicographic.{nat_list_cmp_total}
use Rattle.std.specs.FinMap.{get, insert, from_entries, get-insert, get-from_entries}
use Rattle.std.specs.Str.{bytes_eq}
use Rattle.std.proofs.lemmas.List.{append-nil, length-take-le}
use Rattle.std.proofs.lemmas.Map.Text.{is_eq-slice_cmp}
use Rattle.std.proofs.lemmas.Slice.Eq.{bytes_eq-Decides}
use Rattle.jam_journal.specs.Tables.{Text, Names}
use Rattle.jam_graph.proofs.ListsGrow.{taken}
use Rattle.jam_engine.specs.Tables.{places_in, HasOneMore}

abbrev numbers : Names (List ℕ) → Text → List ℕ
numbers m text = unwrap_or (get m text) []

-- what is found where one text got other numbers
found_after : (m : Names (List ℕ)) (text other : Text) (ns : List ℕ) → numbers (insert m text ns) other ≡ cond (bytes_eq other text) ns (numbers m other)
found_after m text other ns =
    ap (λ o. unwrap_or o []) (get-insert nat_list_cmp_total m text ns other ∙ ap (λ b. cond b (Some ns) (get m other)) (is_eq-slice_cmp other text))
    ∙ go (bytes_eq other text)
  where
    go : (b : Bool) → unwrap_or (cond b (Some ns) (get m other)) [] ≡ cond b ns (numbers m other)
    go true = refl
    go false = refl

-- the numbers are taken out, get one more, and are put back
pub one_more : (text : Text) (number : ℕ) (before taken after : Names (List ℕ)) → taken ≡ insert before text [] → after ≡ insert taken text (numbers before text ++ number ∷ []) → HasOneMore text number before after
one_more text number before taken after takes puts other =
    ap (λ (m : Names (List ℕ)). numbers m other) puts
    ∙ found_after taken text other (numbers before text ++ number ∷ [])
    ∙ go (bytes_eq other text) refl
  where
    go : (b : Bool) → bytes_eq other text ≡ b → cond b (numbers before text ++ number ∷ []) (numbers taken other) ≡ cond b (numbers before other ++ number ∷ []) (numbers before other)
    go true e = ap (λ (t : Text). numbers before t ++ number ∷ []) (sym ((bytes_eq-Decides other text).0 e))
    go false e = ap (λ (m : Names (List ℕ)). numbers m other) takes ∙ found_after before text other [] ∙ ap (λ b. cond b [] (numbers before other)) e

-- the same, as it is put back
pub put_back : (text : Text) (number : ℕ) (before taken after : Names (List ℕ)) (found more : List ℕ) (key : Text) → taken ≡ insert before text [] → found ≡ numbers before text → more ≡ found ++ number ∷ [] → key ≡ text
    → after ≡ insert taken key more → HasOneMore text number before after
put_back text number before taken after found more key takes found_is more_is key_is puts =
    one_more text number before taken after takes (
    puts ∙ ap (λ (k : Text). insert taken k more) key_is ∙ ap (λ (ns : List ℕ). insert taken text ns) (more_is ∙ ap (λ (ns : List ℕ). ns ++ number ∷ []) found_is))

-- no text has numbers in a map that was just made
pub no_numbers : (m : Names (List ℕ)) (text : Text) → m ≡ from_entries [] → numbers m text ≡ []
no_numbers m text made = ap (λ (n : Names (List ℕ)). numbers n text) made ∙ ap (λ o. unwrap_or o []) (get-from_entries nat_list_cmp_total [] text)

-- one more pair
pub places_push : (place : ℕ) (pairs : List (Text × Text)) (pair : Text × Text) (text : Text) → places_in place (pairs ++ pair ∷ []) text ≡ places_in place pairs text ++ cond (bytes_eq text pair.0) ((place + length pairs) ∷ []) []
places_push place [] pair text = go (bytes_eq text pair.0)
  where
    same : place ≡ place + 0
    same = omega arith

    go : (b : Bool) → cond b (place ∷ []) [] ≡ [] ++ cond b ((place + 0) ∷ []) []
    go true = ap (λ (n : ℕ). let made : List ℕ = n ∷ [] in made) same
    go false = refl
places_push place (first ∷ pairs) pair text =
    ap (λ (ns : List ℕ). cond (bytes_eq text first.0) (place ∷ ns) ns) (places_push (place + 1) pairs pair text ∙ ap (λ (n : ℕ). places_in (place + 1) pairs text ++ cond (bytes_eq text pair.0) (n ∷ []) []) next)
    ∙ go (bytes_eq text first.0)
  where
    next : (place + 1) + length pairs ≡ place + suc (length pairs)
    next = omega arith

    last : List ℕ
    last = cond (bytes_eq text pair.0) ((place + suc (length pairs)) ∷ []) []

    go : (b : Bool) → cond b (place ∷ (places_in (place + 1) pairs text ++ last)) (places_in (place + 1) pairs text ++ last) ≡ cond b (place ∷ places_in (place + 1) pairs text) (places_in (place + 1) pairs text) ++ last
    go true = refl
    go false = refl

-- in one round of a loop over pairs
pub places_step : (pairs : List (Text × Text)) (i : ℕ) (pair : Text × Text) (now next : Names (List ℕ)) → i < length pairs → pair ≡ get_or pairs i pair → ((t : Text) → numbers now t ≡ places_in 0 (take i pairs) t)
    → HasOneMore pair.0 i now next → (t : Text) → numbers next t ≡ places_in 0 (take (i + 1) pairs) t
places_step pairs i pair now next low is was more t =
    more t ∙ go (bytes_eq t pair.0)
    ∙ sym (places_push 0 (take i pairs) pair t ∙ ap (λ (n : ℕ). places_in 0 (take i pairs) t ++ cond (bytes_eq t pair.0) (n ∷ []) []) count)
    ∙ ap (λ (l : List (Text × Text)). places_in 0 l t) (taken pairs i pair low is)
  where
    count : 0 + length (take i pairs) ≡ i
    count = let e = length-take-le i pairs (omega (arith, low)) in omega (arith, e)

    go : (b : Bool) → cond b (numbers now t ++ i ∷ []) (numbers now t) ≡ places_in 0 (take i pairs) t ++ cond b (i ∷ []) []
    go true = ap (λ (ns : List ℕ). ns ++ i ∷ []) (was t)
    go false = was t ∙ sym (append-nil (places_in 0 (take i pairs) t))
