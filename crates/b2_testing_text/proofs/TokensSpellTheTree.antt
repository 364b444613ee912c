-- Whether tokens spell symbols that ask for no modifiers, as a test.
use Rattle.std.proofs.Common.{◌≡◌, ℕ, Bool, true, false, ◌&&◌, ◌==◌, List, [], ◌∷◌, refl}
use Rattle.std.specs.Str.{bytes_eq}
use Rattle.std.proofs.lemmas.Bool.{and_parts, eqb-true}
use Rattle.std.proofs.lemmas.Slice.Eq.{bytes_eq-Decides}
use Rattle.b2_base.specs.declared.token.Token.{Token}
use Rattle.jam_grammar.specs.declared.mark.TokenMark.TheVariants as m
use Rattle.jam_grammar.specs.Marks.{mark_of_token, is_word, is_name, same_mark}
use Rattle.jam_grammar.specs.Spelling.{Sym, Key, Heads, Says, Named, Raw, From, Never, StartsOn, none, Spells}
use Rattle.jam_grammar.proofs.EveryMarkIsTested.{same_mark_true}

abbrev is_empty : List Token → Bool
is_empty [] = true
is_empty (token ∷ tokens) = false

abbrev starts_on : ℕ → List Token → Bool
starts_on line [] = false
starts_on line (token ∷ tokens) = token.line == line

-- modifiers that did not stand before and do not after
abbrev is_unchanged : Bool → Bool → Bool → Bool → Bool → Bool → Bool
is_unchanged false false false false false false = true
is_unchanged _ _ _ _ _ _ = false

abbrev pub spell : List Token → List Sym → Bool
spell tokens [] = is_empty tokens
spell tokens (From line ∷ syms) = starts_on line tokens && spell tokens syms
spell tokens (Heads a b c t e q ∷ syms) = is_unchanged a b c t e q && spell tokens syms
spell [] (Key mark ∷ syms) = false
spell [] (Says text ∷ syms) = false
spell [] (Named text ∷ syms) = false
spell [] (Raw text ∷ syms) = false
spell [] (Never ∷ syms) = false
spell (token ∷ tokens) (Key mark ∷ syms) = same_mark (mark_of_token token) mark && spell tokens syms
spell (token ∷ tokens) (Says text ∷ syms) = (is_word (mark_of_token token) && bytes_eq token.text text) && spell tokens syms
spell (token ∷ tokens) (Named text ∷ syms) = (is_name (mark_of_token token) && bytes_eq token.text text) && spell tokens syms
spell (token ∷ tokens) (Raw text ∷ syms) = (same_mark (mark_of_token token) m.Body && bytes_eq token.text text) && spell tokens syms
spell (token ∷ tokens) (Never ∷ syms) = false

empty_is : (tokens : List Token) → is_empty tokens ≡ true → tokens ≡ []
empty_is [] e = refl
empty_is (t ∷ ts) e = cc

starts : (line : ℕ) (tokens : List Token) → starts_on line tokens ≡ true → StartsOn line tokens
starts line [] e = cc
starts line (t ∷ ts) e = eqb-true t.line line e

unchanged : (a b c t e q : Bool) (tokens : List Token) (syms : List Sym) → is_unchanged a b c t e q ≡ true → Spells tokens syms [] → Spells tokens (Heads a b c t e q ∷ syms) []
unchanged false false false false false false tokens syms h s = (tokens, none, s)
unchanged true b c t e q tokens syms h s = cc
unchanged false true c t e q tokens syms h s = cc
unchanged false false true t e q tokens syms h s = cc
unchanged false false false true e q tokens syms h s = cc
unchanged false false false false true q tokens syms h s = cc
unchanged false false false false false true tokens syms h s = cc

pub spells : (tokens : List Token) (syms : List Sym) → spell tokens syms ≡ true → Spells tokens syms []
spells tokens [] h = empty_is tokens h
spells tokens (From line ∷ syms) h = let p = and_parts (starts_on line tokens) (spell tokens syms) h in (starts line tokens p.0, spells tokens syms p.1)
spells tokens (Heads a b c t e q ∷ syms) h = let p = and_parts (is_unchanged a b c t e q) (spell tokens syms) h in unchanged a b c t e q tokens syms p.0 (spells tokens syms p.1)
spells [] (Key mark ∷ syms) h = cc
spells [] (Says text ∷ syms) h = cc
spells [] (Named text ∷ syms) h = cc
spells [] (Raw text ∷ syms) h = cc
spells [] (Never ∷ syms) h = cc
spells (t ∷ ts) (Key mark ∷ syms) h = let p = and_parts (same_mark (mark_of_token t) mark) (spell ts syms) h in (same_mark_true (mark_of_token t) mark p.0, spells ts syms p.1)
spells (t ∷ ts) (Says text ∷ syms) h =
    let p = and_parts (is_word (mark_of_token t) && bytes_eq t.text text) (spell ts syms) h in
    let q = and_parts (is_word (mark_of_token t)) (bytes_eq t.text text) p.0 in
    ((q.0, (bytes_eq-Decides t.text text).0 q.1), spells ts syms p.1)
spells (t ∷ ts) (Named text ∷ syms) h =
    let p = and_parts (is_name (mark_of_token t) && bytes_eq t.text text) (spell ts syms) h in
    let q = and_parts (is_name (mark_of_token t)) (bytes_eq t.text text) p.0 in
    ((q.0, (bytes_eq-Decides t.text text).0 q.1), spells ts syms p.1)
spells (t ∷ ts) (Raw text ∷ syms) h =
    let p = and_parts (same_mark (mark_of_token t) m.Body && bytes_eq t.text text) (spell ts syms) h in
    let q = and_parts (same_mark (mark_of_token t) m.Body) (bytes_eq t.text text) p.0 in
    ((same_mark_true (mark_of_token t) m.Body q.0, (bytes_eq-Decides t.text text).0 q.1), spells ts syms p.1)
spells (t ∷ ts) (Never ∷ syms) h = cc
