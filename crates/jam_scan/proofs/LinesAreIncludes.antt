-- A line has an include exactly where it is one.
use Rattle.std.proofs.Common.{◌≡◌, ℕ, eqb, cond, Bool, true, false, List, [], ◌∷◌, ◌++◌, get_or, All, Option, Some, None, option_and_then, refl, sym, ap, subst, ◌∙◌, append_assoc, codes, length}
use Rattle.std.proofs.lemmas.List.Elements.{All-append, All-take, All-drop}
use Rattle.std.proofs.lemmas.List.{take_at, drop_at}
use Rattle.std.proofs.lemmas.Option.{option_and_then_some}
use Rattle.b2_base.specs.Bytes.{Lacks}
use Rattle.b2_plan.specs.Sources.{Include}
use Rattle.jam_scan.specs.IncludeLines.{IsName, IsIncludeLine, is_blank, opening, closing, after_blanks, after_word, before_sign, is_name, named, enclosed, include_at, after_directive, include_of}
use Rattle.jam_scan.specs.Laws.{LinesInclude}
use Rattle.jam_scan.proofs.PartsOfLinesAreRead.{word_there, word_tells, blanks_over, front_blanks, blanks_before, blanks_blank, sign_there, sign_tells, name_tells, name_so}

-- ---- a name between its signs

pub record IsEnclosed (quoted : Bool) (text : List ℕ) (include : Include) : Type 0 where
  pub rest : List ℕ
  pub text_is : text ≡ opening quoted ∷ include.0 ++ closing quoted ∷ rest
  pub quoted_is : include.1 ≡ quoted
  pub name : IsName include.0
  pub ends : Lacks (closing quoted) include.0

named_tells : (quoted : Bool) (name : List ℕ) (include : Include) → named quoted name ≡ Some include → IsName name × (include ≡ (name, quoted))
unfolding named
named_tells quoted name include = go (is_name name) refl
  where
    go : (b : Bool) → is_name name ≡ b → cond b (Some (name, quoted)) None ≡ Some include → IsName name × (include ≡ (name, quoted))
    go true is e = (name_tells name is, let f : (name, quoted) ≡ include = cc in sym f)
    go false is e = cc

pub enclosed_tells : (quoted : Bool) (text : List ℕ) (include : Include) → enclosed quoted text ≡ Some include → IsEnclosed quoted text include
unfolding enclosed
enclosed_tells quoted text include e =
    option_and_then_some (named quoted) (option_and_then (before_sign (closing quoted)) (after_word (opening quoted ∷ []) text)) include e (λ name found is.
    option_and_then_some (before_sign (closing quoted)) (after_word (opening quoted ∷ []) text) name found (λ after opened closes.
    let ends = sign_tells (closing quoted) after name closes in
    let so = named_tells quoted name include is in
    let same : include.0 ≡ name = ap (λ (i : Include). i.0) so.1 in
    record {
      rest = ends.rest;
      text_is = word_tells (opening quoted ∷ []) text after opened ∙ ap (λ a. opening quoted ∷ a) ends.text_is ∙ ap (λ n. opening quoted ∷ n ++ closing quoted ∷ ends.rest) (sym same);
      quoted_is = ap (λ (i : Include). i.1) so.1;
      name = subst IsName (sym same) so.0;
      ends = subst (Lacks (closing quoted)) (sym same) ends.lacks;
    }))

enclosed_so : (quoted : Bool) (name rest : List ℕ) → IsName name → Lacks (closing quoted) name → enclosed quoted (opening quoted ∷ name ++ closing quoted ∷ rest) ≡ Some (name, quoted)
unfolding enclosed named
enclosed_so quoted name rest is lacks =
    ap (λ o. option_and_then (named quoted) (option_and_then (before_sign (closing quoted)) o)) (word_there (opening quoted ∷ []) (name ++ closing quoted ∷ rest))
    ∙ ap (option_and_then (named quoted)) (sign_there (closing quoted) name rest lacks)
    ∙ ap (λ b. cond b (Some (name, quoted)) None) (name_so name is)

-- ---- a line

opening_shows : (quoted : Bool) → eqb (opening quoted) (opening true) ≡ quoted
opening_shows true = refl
opening_shows false = refl

opening_stops : (quoted : Bool) → is_blank (opening quoted) ≡ false
opening_stops true = refl
opening_stops false = refl

include_at_so : (quoted : Bool) (name rest : List ℕ) → IsName name → Lacks (closing quoted) name → include_at (opening quoted ∷ name ++ closing quoted ∷ rest) ≡ Some (name, quoted)
include_at_so quoted name rest is lacks = ap (λ q. enclosed q (opening quoted ∷ name ++ closing quoted ∷ rest)) (opening_shows quoted) ∙ enclosed_so quoted name rest is lacks

directive_so : (before between after : List ℕ) → All (λ byte. is_blank byte ≡ true) before → All (λ byte. is_blank byte ≡ true) between → after_directive (before ++ 35 ∷ (between ++ (codes "include" ++ after))) ≡ Some after
unfolding after_directive
directive_so before between after first second =
    let tail : List ℕ = between ++ (codes "include" ++ after) in
    let next : List ℕ → Option (List ℕ) = λ rest. after_word (codes "include") (after_blanks rest) in
    ap (λ text. option_and_then next (after_word (codes "#") text)) (blanks_over before 35 tail first refl)
    ∙ ap (option_and_then next) (word_there (codes "#") tail)
    ∙ ap (after_word (codes "include")) (blanks_over between 105 (codes "nclude" ++ after) second refl) ∙ word_there (codes "include") after

record IsDirective (line after : List ℕ) : Type 0 where
  before : List ℕ
  between : List ℕ
  line_is : line ≡ before ++ 35 ∷ (between ++ (codes "include" ++ after))
  first : All (λ byte. is_blank byte ≡ true) before
  second : All (λ byte. is_blank byte ≡ true) between

directive_tells : (line after : List ℕ) → after_directive line ≡ Some after → IsDirective line after
unfolding after_directive
directive_tells line after e =
    option_and_then_some (λ rest. after_word (codes "include") (after_blanks rest)) (after_word (codes "#") (after_blanks line)) after e (λ next hash include.
    let line_is : line ≡ front_blanks line ++ 35 ∷ next = blanks_before line ∙ ap (λ t. front_blanks line ++ t) (word_tells (codes "#") (after_blanks line) next hash) in
    let next_is : next ≡ front_blanks next ++ (codes "include" ++ after) = blanks_before next ∙ ap (λ t. front_blanks next ++ t) (word_tells (codes "include") (after_blanks next) after include) in
    record {
      before = front_blanks line;
      between = front_blanks next;
      line_is = line_is ∙ ap (λ t. front_blanks line ++ 35 ∷ t) next_is;
      first = blanks_blank line;
      second = blanks_blank next;
    })

-- the parts of a line, grouped from the left or from the right
grouped : (before between behind name rest : List ℕ) (first last : ℕ) → before ++ codes "#" ++ between ++ codes "include" ++ behind ++ first ∷ name ++ last ∷ rest ≡ before ++ 35 ∷ (between ++ (codes "include" ++ (behind ++ first ∷ (name ++ last ∷ rest))))
grouped before between behind name rest first last = simp append_assoc

reads : (line : List ℕ) (include : Include) → include_of line ≡ Some include → IsIncludeLine line include
unfolding include_of
reads line include e =
    option_and_then_some (λ rest. include_at (after_blanks rest)) (after_directive line) include e (λ after directive is.
    let d = directive_tells line after directive in
    let quoted : Bool = eqb (get_or (after_blanks after) 0 0) (opening true) in
    let n = enclosed_tells quoted (after_blanks after) include is in
    let behind : List ℕ = front_blanks after in
    let q : quoted ≡ include.1 = sym n.quoted_is in
    let text : after_blanks after ≡ opening include.1 ∷ include.0 ++ closing include.1 ∷ n.rest = n.text_is ∙ ap (λ b. opening b ∷ include.0 ++ closing b ∷ n.rest) q in
    let after_is : after ≡ behind ++ opening include.1 ∷ (include.0 ++ closing include.1 ∷ n.rest) = blanks_before after ∙ ap (λ t. behind ++ t) text in
    record {
      before = d.before;
      between = d.between;
      behind = behind;
      rest = n.rest;
      line_is = d.line_is ∙ ap (λ t. d.before ++ 35 ∷ (d.between ++ (codes "include" ++ t))) after_is ∙ sym (grouped d.before d.between behind include.0 n.rest (opening include.1) (closing include.1));
      blanks = All-append (λ byte. is_blank byte ≡ true) (d.before ++ d.between) behind (All-append (λ byte. is_blank byte ≡ true) d.before d.between d.first d.second) (blanks_blank after);
      name = n.name;
      ends = subst (λ b. Lacks (closing b) include.0) q n.ends;
    })

-- what holds of each element of two lists, of the first and of the second
all_left : (P : ℕ → Type 0) (xs ys : List ℕ) → All P (xs ++ ys) → All P xs
all_left P xs ys h = subst (All P) (take_at xs ys (length xs) refl) (All-take P (length xs) (xs ++ ys) h)

all_right : (P : ℕ → Type 0) (xs ys : List ℕ) → All P (xs ++ ys) → All P ys
all_right P xs ys h = subst (All P) (drop_at xs ys (length xs) refl) (All-drop P (length xs) (xs ++ ys) h)

is_read : (line : List ℕ) (include : Include) → IsIncludeLine line include → include_of line ≡ Some include
unfolding include_of
is_read line include i =
    let P : ℕ → Type 0 = λ byte. is_blank byte ≡ true in
    let front : All P (i.before ++ i.between) = all_left P (i.before ++ i.between) i.behind i.blanks in
    let name : List ℕ = opening include.1 ∷ (include.0 ++ closing include.1 ∷ i.rest) in
    ap include_of (i.line_is ∙ grouped i.before i.between i.behind include.0 i.rest (opening include.1) (closing include.1))
    ∙ ap (option_and_then (λ rest. include_at (after_blanks rest))) (directive_so i.before i.between (i.behind ++ name) (all_left P i.before i.between front) (all_right P i.before i.between front))
    ∙ ap include_at (blanks_over i.behind (opening include.1) (include.0 ++ closing include.1 ∷ i.rest) (all_right P (i.before ++ i.between) i.behind i.blanks) (opening_stops include.1))
    ∙ include_at_so include.1 include.0 i.rest i.name i.ends

pub lines_include : LinesInclude
lines_include line include = (reads line include, is_read line include)
