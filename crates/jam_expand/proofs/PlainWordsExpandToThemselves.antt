-- A word in which no part begins expands to itself, and a part that is a bare name expands to the list of that name.
use Rattle.std.proofs.Common.{◌≡◌, ◌≢◌, ℕ, ◌<◌, ◌≤◌, ◌+◌, ◌-◌, Bool, true, false, ◌||◌, eqb, ltb, suc, zero, List, [], ◌∷◌, ◌++◌, length, refl, ap, sym, ◌∙◌, arith, cond, map, subst, ◌⊎◌, Option, Some, None, Ok, Err}
use Rattle.std.specs.List.{All, AllByRecursion}
use Rattle.std.proofs.lemmas.List.{append-nil, length-append}
use Rattle.std.proofs.lemmas.List.Elements.{recursion_from_All, All-from_recursion}
use Rattle.std.proofs.lemmas.Bool.{ne_eqb, le-ltb, true≢false}
use Rattle.b2_base.specs.Numbers.{is_among}
use Rattle.b2_base.specs.declared.expand_fault.ExpandFault.{ExpandFault}
use Rattle.b2_base.specs.declared.expand_fault.ExpandFault.TheVariants as faults
use Rattle.b2_base.specs.Results.{and_then}
use Rattle.jam_expand.specs.Cuts.{up_to, from_on}
use Rattle.jam_expand.specs.Indexes.{selected}
use Rattle.jam_expand.specs.Limits.{Answer, limit, first_above, unless_above, within, IsWithin}
use Rattle.jam_expand.specs.Modifiers.{no_modifiers, modified_after, edited}
use Rattle.jam_expand.specs.References.{reference_of}
use Rattle.jam_expand.specs.Values.{values_of, joined_after, values_of_all}
use Rattle.jam_expand.specs.Words.{part, inside_len, literal_of, before_pieces, pieces_of, any_part, too_deep, deeper}
use Rattle.jam_expand.specs.WordCuts.{IsBalanced, HasNoPart, HasNoSigns, no_bytes, one_byte, at_end, at_part}
use Rattle.jam_expand.specs.Products.{product}
use Rattle.jam_expand.specs.Expansions.{lists_of, product_of, elements_at, expansion}
use Rattle.jam_expand.specs.PlainNames.{IsNameByte, IsPlainName}
use Rattle.jam_expand.proofs.SumTellsIfTooLarge.{within_is_ok}
use Rattle.jam_expand.proofs.PiecesGrowAlongTheWord.{after_literal}
use Rattle.jam_expand.proofs.PiecesAreTheOnlyCut.{no_len, cut_is_one}
use Rattle.jam_expand.proofs.ProductGrowsFromLastList.{cross_right}
use Rattle.jam_expand.proofs.PiecesExpandOneByOne.{deep_more, elements_zero, elements_more}

-- ---- a word that is one literal piece is itself

before_literal : (byte : ℕ) (bytes : List ℕ) → before_pieces byte (literal_of bytes) ≡ literal_of (byte ∷ bytes)
before_literal byte [] = refl
before_literal byte (next ∷ bytes) = refl

literal_flat : (test : List ℕ → Bool) (word : List ℕ) → any_part test (literal_of word) ≡ false
literal_flat test [] = refl
literal_flat test (byte ∷ bytes) = refl

literal_lists : (values : List ℕ → Answer) (word : List ℕ) → and_then (λ lists. within (product lists)) (lists_of values (literal_of word)) ≡ within (word ∷ [])
literal_lists values [] = refl
literal_lists values (byte ∷ bytes) = ap (λ s. within (s ∷ [])) (append-nil (byte ∷ bytes))

literal_product : (values : List ℕ → Answer) (word : List ℕ) → pieces_of word ≡ literal_of word → product_of values word ≡ within (word ∷ [])
literal_product values word h = ap (λ pieces. and_then (λ lists. within (product lists)) (lists_of values pieces)) h ∙ literal_lists values word

literal_elements : (levels : ℕ) (names : List ℕ → List (List ℕ)) (word : List ℕ) → pieces_of word ≡ literal_of word → elements_at levels names word ≡ within (word ∷ [])
literal_elements zero names word h = elements_zero 0 names word refl
literal_elements (suc levels) names word h = elements_more (suc levels) names word (λ e. omega (arith, e)) ∙ literal_product (λ inside. and_then (values_of_all names) (elements_at (suc levels - 1) names inside)) word h

literal_depth : (levels : ℕ) (word : List ℕ) → pieces_of word ≡ literal_of word → deeper levels word ≡ false
literal_depth levels word h = ap (any_part (too_deep levels)) h ∙ literal_flat (too_deep levels) word

unless_deep : (deep : Bool) (answer : Answer) → deep ≡ false → cond deep (Err faults.TooDeep) answer ≡ answer
unless_deep deep answer e = ap (λ b. cond b (Err faults.TooDeep) answer) e

literal_expansion : (names : List ℕ → List (List ℕ)) (word : List ℕ) → pieces_of word ≡ literal_of word → expansion names word ≡ within (word ∷ [])
literal_expansion names word h = unless_deep (deeper 16 word) (elements_at 16 names word) (literal_depth 16 word h) ∙ literal_elements 16 names word h

-- ---- a word without `$`

no_dollar_here : (byte : ℕ) (bytes : List ℕ) → byte ≢ 36 → inside_len (byte ∷ bytes) ≡ None
no_dollar_here byte [] h = refl
no_dollar_here byte (next ∷ bytes) h = rw (ne_eqb byte 36 h) refl

plain_pieces : (word : List ℕ) → AllByRecursion (λ byte. byte ≢ 36) word → pieces_of word ≡ literal_of word
plain_pieces [] h = refl
plain_pieces (byte ∷ bytes) h = after_literal byte bytes (no_dollar_here byte bytes h.0) ∙ ap (before_pieces byte) (plain_pieces bytes h.1) ∙ before_literal byte bytes

pub plain_expansion : (names : List ℕ → List (List ℕ)) (word : List ℕ) → AllByRecursion (λ byte. byte ≢ 36) word → expansion names word ≡ within (word ∷ [])
plain_expansion names word h = literal_expansion names word (plain_pieces word h)

pub word_is_itself : (names : List ℕ → List (List ℕ)) (word : List ℕ) → All (λ byte. byte ≢ 36) word → expansion names word ≡ within (word ∷ [])
word_is_itself names word all = plain_expansion names word (recursion_from_All (λ byte. byte ≢ 36) word all)

-- ---- a word in which no part begins

partless_pieces : (word : List ℕ) → HasNoPart word → pieces_of word ≡ literal_of word
partless_pieces [] h = refl
partless_pieces (byte ∷ bytes) h =
    let later : HasNoPart bytes = λ before rest e. h (byte ∷ before) rest (ap (λ s. byte ∷ s) e) in
    after_literal byte bytes (no_len (byte ∷ bytes) (h [] (byte ∷ bytes) refl)) ∙ ap (before_pieces byte) (partless_pieces bytes later) ∙ before_literal byte bytes

pub no_part_is_itself : (names : List ℕ → List (List ℕ)) (word : List ℕ) → HasNoPart word → expansion names word ≡ within (word ∷ [])
no_part_is_itself names word h = literal_expansion names word (partless_pieces word h)

no_signs_no_part : (word : List ℕ) → HasNoSigns word → HasNoPart word
no_signs_no_part word h before rest e inside more balanced f = h before (inside ++ 41 ∷ more) (e ∙ ap (λ s. before ++ s) f)

pub no_signs_is_itself : (names : List ℕ → List (List ℕ)) (word : List ℕ) → HasNoSigns word → expansion names word ≡ within (word ∷ [])
no_signs_is_itself names word h = no_part_is_itself names word (no_signs_no_part word h)

-- ---- a part that is a bare name

no_dollars : (name : List ℕ) → AllByRecursion IsNameByte name → AllByRecursion (λ byte. byte ≢ 36) name
no_dollars [] h = tt
no_dollars (byte ∷ name) h = (h.0.dollar, no_dollars name h.1)

name_balanced : (name : List ℕ) → AllByRecursion IsNameByte name → IsBalanced name
name_balanced [] h = no_bytes
name_balanced (byte ∷ name) h = one_byte byte name h.0.opening h.0.closing (name_balanced name h.1)

name_ends : (name : List ℕ) → AllByRecursion IsNameByte name → (up_to (91 ∷ 58 ∷ []) name ≡ name) × (from_on (91 ∷ 58 ∷ []) name ≡ [])
name_ends [] h = (refl, refl)
name_ends (byte ∷ name) h =
    let bracket : eqb 91 byte ≡ false = ne_eqb 91 byte (λ e. h.0.bracket (sym e)) in
    let colon : eqb 58 byte ≡ false = ne_eqb 58 byte (λ e. h.0.colon (sym e)) in
    let more : (up_to (91 ∷ 58 ∷ []) name ≡ name) × (from_on (91 ∷ 58 ∷ []) name ≡ []) = name_ends name h.1 in
    (rw (bracket, colon) (ap (λ s. byte ∷ s) more.0), rw (bracket, colon) more.1)

no_reference : reference_of [] ≡ Ok (record { index = None; modifiers = no_modifiers })
unfolding modified_after
no_reference = refl

unchanged : (texts : List (List ℕ)) → edited no_modifiers texts ≡ texts
unchanged [] = refl
unchanged (first ∷ texts) = ap (λ s. first ∷ s) (unchanged texts)

name_values : (names : List ℕ → List (List ℕ)) (name : List ℕ) → AllByRecursion IsNameByte name → values_of names name ≡ Ok (names name)
name_values names name h =
    let ends : (up_to (91 ∷ 58 ∷ []) name ≡ name) × (from_on (91 ∷ 58 ∷ []) name ≡ []) = name_ends name h in
    ap (λ s. and_then (λ found. Ok (edited found.modifiers (selected found.index (names (up_to (91 ∷ 58 ∷ []) name))))) (reference_of s)) ends.1
    ∙ ap (λ r. and_then (λ found. Ok (edited found.modifiers (selected found.index (names (up_to (91 ∷ 58 ∷ []) name))))) r) no_reference
    ∙ ap (λ s. Ok s) (unchanged (names (up_to (91 ∷ 58 ∷ []) name)))
    ∙ ap (λ s. Ok (names s)) ends.0

given_on : (answer : Answer) → and_then (λ value. Ok value) answer ≡ answer
given_on (Ok value) = refl
given_on (Err fault) = refl

joined_one : (names : List ℕ → List (List ℕ)) (name : List ℕ) (list : List (List ℕ)) → values_of names name ≡ Ok list → values_of_all names (name ∷ []) ≡ within list
unfolding joined_after
joined_one names name list e = ap (λ found. and_then (λ values. and_then (λ longer. joined_after names longer []) (within ([] ++ values))) found) e ∙ given_on (within list)

small_name : (name : List ℕ) → length name < limit → within (name ∷ []) ≡ Ok (name ∷ [])
small_name name h = let small : ltb limit (0 + (length name + 1)) ≡ false = le-ltb limit (0 + (length name + 1)) (omega (arith, h)) in rw small refl

name_list : (levels : ℕ) (names : List ℕ → List (List ℕ)) (name : List ℕ) → AllByRecursion IsNameByte name → length name < limit → and_then (values_of_all names) (elements_at levels names name) ≡ within (names name)
name_list levels names name h small =
    ap (λ r. and_then (values_of_all names) r) (literal_elements levels names name (plain_pieces name (no_dollars name h)) ∙ small_name name small)
    ∙ joined_one names name (names name) (name_values names name h)

one_list : (list : List (List ℕ)) → and_then (λ lists. within (product lists)) (and_then (λ first. Ok (first ∷ [])) (within list)) ≡ within list
one_list list = go (first_above 0 list) refl
  where
    go : (found : Option ℕ) → first_above 0 list ≡ found → and_then (λ lists. within (product lists)) (and_then (λ first. Ok (first ∷ [])) (unless_above list found)) ≡ unless_above list found
    go None e = ap within (cross_right list) ∙ ap (unless_above list) e
    go (Some bytes) e = refl

name_product : (values : List ℕ → Answer) (name : List ℕ) (list : List (List ℕ)) → values name ≡ within list → and_then (λ lists. within (product lists)) (lists_of values (part name ∷ [])) ≡ within list
name_product values name list e = ap (λ r. and_then (λ lists. within (product lists)) (and_then (λ first. Ok (first ∷ [])) r)) e ∙ one_list list

name_pieces : (name : List ℕ) → AllByRecursion IsNameByte name → pieces_of (36 ∷ 40 ∷ (name ++ 41 ∷ [])) ≡ part name ∷ []
name_pieces name h = sym (cut_is_one (36 ∷ 40 ∷ (name ++ 41 ∷ [])) (part name ∷ []) (at_part name [] [] (name_balanced name h) at_end))

or_false : (b : Bool) → b ≡ false → (b || false) ≡ false
or_false b e = ap (λ c. c || false) e

name_depth : (name : List ℕ) → AllByRecursion IsNameByte name → deeper 16 (36 ∷ 40 ∷ (name ++ 41 ∷ [])) ≡ false
name_depth name h =
    ap (any_part (too_deep 16)) (name_pieces name h)
    ∙ or_false (too_deep 16 name) (deep_more 16 name (λ e. omega (arith, e)) ∙ literal_depth (16 - 1) name (plain_pieces name (no_dollars name h)))

pub name_is_its_list : (names : List ℕ → List (List ℕ)) (name : List ℕ) → IsPlainName name → length name < limit → expansion names (36 ∷ 40 ∷ (name ++ 41 ∷ [])) ≡ within (names name)
name_is_its_list names name all small =
    let h : AllByRecursion IsNameByte name = recursion_from_All IsNameByte name all in
    let word : List ℕ = 36 ∷ 40 ∷ (name ++ 41 ∷ []) in
    unless_deep (deeper 16 word) (elements_at 16 names word) (name_depth name h)
    ∙ elements_more 16 names word (λ e. omega (arith, e))
    ∙ ap (λ pieces. and_then (λ lists. within (product lists)) (lists_of (λ inside. and_then (values_of_all names) (elements_at (16 - 1) names inside)) pieces)) (name_pieces name h)
    ∙ name_product (λ inside. and_then (values_of_all names) (elements_at (16 - 1) names inside)) name (names name) (name_list (16 - 1) names name h small)

-- ---- how the code finds such words

-- the parts of a word without `$` are not nested, and it is its own element at each depth
pub plain_depth : (levels : ℕ) (word : List ℕ) → All (λ byte. byte ≢ 36) word → deeper levels word ≡ false
plain_depth levels word all = literal_depth levels word (plain_pieces word (recursion_from_All (λ byte. byte ≢ 36) word all))

pub plain_elements : (levels : ℕ) (names : List ℕ → List (List ℕ)) (word : List ℕ) → All (λ byte. byte ≢ 36) word → elements_at levels names word ≡ within (word ∷ [])
plain_elements levels names word all = literal_elements levels names word (plain_pieces word (recursion_from_All (λ byte. byte ≢ 36) word all))

abbrev signs : List ℕ
signs = 36 ∷ 40 ∷ 41 ∷ 58 ∷ 91 ∷ []

other_sign : (sign byte : ℕ) → is_among signs sign ≡ true → is_among signs byte ≡ false → byte ≢ sign
other_sign sign byte among h e = true≢false (sym among ∙ ap (is_among signs) (sym e) ∙ h)

name_byte : (byte : ℕ) → is_among signs byte ≡ false → IsNameByte byte
name_byte byte h = record {
  dollar = other_sign 36 byte refl h;
  opening = other_sign 40 byte refl h;
  closing = other_sign 41 byte refl h;
  colon = other_sign 58 byte refl h;
  bracket = other_sign 91 byte refl h;
}

name_bytes : (bytes : List ℕ) → length (up_to signs bytes) ≡ length bytes → AllByRecursion IsNameByte bytes
name_bytes [] e = tt
name_bytes (byte ∷ bytes) e = go (is_among signs byte) refl e (name_bytes bytes)
  where
    go : (found : Bool) → is_among signs byte ≡ found → length (cond found [] (byte ∷ up_to signs bytes)) ≡ suc (length bytes) → (length (up_to signs bytes) ≡ length bytes → AllByRecursion IsNameByte bytes) → AllByRecursion IsNameByte (byte ∷ bytes)
    go true m e more = absurd (omega (arith, e))
    go false m e more = (name_byte byte m, more (omega (arith, e)))

-- where no sign is found in a name, it is a bare one
pub name_is_bare : (name : List ℕ) → length (up_to signs name) ≡ length name → IsPlainName name
name_is_bare name e = All-from_recursion IsNameByte name (name_bytes name e)

after_nothing : (texts : List (List ℕ)) → map (λ text. [] ++ text) texts ≡ texts
after_nothing [] = refl
after_nothing (text ∷ texts) = ap (λ more. text ∷ more) (after_nothing texts)

pub nothing_within : IsWithin [] 0
nothing_within = record {
  small = refl;
  sum_is = refl;
}

-- what is told of texts after the empty one is told of the texts
pub same_within : (texts : List (List ℕ)) (sum : ℕ) → IsWithin (map (λ text. [] ++ text) texts) sum → within texts ≡ Ok texts
same_within texts sum h = within_is_ok texts sum (subst (λ list. IsWithin list sum) (after_nothing texts) h)

pub same_fault : (texts : List (List ℕ)) (fault : ExpandFault) → (fault ≡ faults.OutOfMemory) ⊎ (within (map (λ text. [] ++ text) texts) ≡ Err fault) → (fault ≡ faults.OutOfMemory) ⊎ (within texts ≡ Err fault)
same_fault texts fault h = subst (λ list. (fault ≡ faults.OutOfMemory) ⊎ (within list ≡ Err fault)) (after_nothing texts) h

-- a list that is alone is its own product
pub only_list : (lists before : List (List (List ℕ))) (list : List (List ℕ)) → lists ≡ before ++ list ∷ [] → length lists ≤ 1 → product lists ≡ list
only_list lists [] list e few = ap product e ∙ cross_right list
only_list lists (first ∷ before) list e few = absurd (omega (arith, few, ap length e, length-append before (list ∷ [])))
