-- The tokens of the project file of a drill read as its tree.
use Rattle.std.proofs.Common.{◌≡◌, ℕ, zero, suc, ◌<◌, ◌^◌, ◌/◌, List, [], ◌∷◌, ◌++◌, false, length, map, codes, Some, refl, sym, ap, subst, ◌∙◌, arith}
use Rattle.b2_base.specs.declared.token.Token.{Token}
use Rattle.b2_drill.specs.Drills.{source_name, target_name, jamroot}
use Rattle.jam_grammar.specs.declared.mark.TokenMark.{TokenMark}
use Rattle.jam_grammar.specs.declared.mark.TokenMark.TheVariants as m
use Rattle.jam_grammar.specs.Marks.{mark_of_token, mark_of_word, mark_of_key, mark_by_kind, is_word}
use Rattle.jam_grammar.specs.Grammar.{Part, Stmts, OneWord, Heading, BodyBlock, Tail, Args, More}
use Rattle.jam_grammar.specs.Grammar as part
use Rattle.jam_grammar.specs.Machine.{feed, go_on, run}
use Rattle.jam_grammar.specs.Spelling.{Sym, Says, From, Is, Spells, none, spell_form, spell_stmts}
use Rattle.jam_grammar.specs.Trees.{FormTree, StmtTrees, NoStmts, StmtAnd}
use Rattle.jam_grammar.proofs.MachineStopsAtFirstFault.{whole_is_file}
use Rattle.jam_spelling.specs.declared.lexeme.Lexeme.{Lexeme}
use Rattle.jam_spelling.specs.LexemeLists.{word, key, body}
use Rattle.jam_spelling.specs.Readings.{lexeme_of, ReadsAs}
use Rattle.jam_spelling.proofs.SpelledReadsBack.{all_said}
use Rattle.b2_drill_text.specs.Trees.{make_form, join_form, make_stmts}
use Rattle.b2_drill_text.specs.Laws.{IsFileOf}
use Rattle.b2_drill_text.proofs.NamesNeedNoQuotes.{source_is_plain, target_is_plain}
use Rattle.b2_drill_text.proofs.FileIsItsSpelling.{after_sources, make_before, makes_before, raw, join_before, lexemes, file_is, can_stand, are_texts}

-- ---- one token

heads : {A : Type 0} (x y : A) (xs ys : List A) → x ∷ xs ≡ y ∷ ys → x ≡ y
heads x y xs ys e = cc

tails : {A : Type 0} (x y : A) (xs ys : List A) → x ∷ xs ≡ y ∷ ys → xs ≡ ys
tails x y xs ys e = cc

not_empty : {A : Type 0} (y : A) (ys : List A) → [] ≡ y ∷ ys → ⊥
not_empty y ys e = cc

-- tokens that say a lexeme and others are a token and others
cut : (P : List Token → Type 0) (tokens : List Token) (lexeme : Lexeme) (more : List Lexeme) → map lexeme_of tokens ≡ lexeme ∷ more
    → ((first : Token) (later : List Token) → lexeme_of first ≡ lexeme → map lexeme_of later ≡ more → P (first ∷ later)) → P tokens
cut P [] lexeme more h next = absurd (not_empty lexeme more h)
cut P (t ∷ ts) lexeme more h next = next t ts (heads (lexeme_of t) lexeme (map lexeme_of ts) more h) (tails (lexeme_of t) lexeme (map lexeme_of ts) more h)

marked : (token : Token) (lexeme : Lexeme) → lexeme_of token ≡ lexeme → mark_of_token token ≡ mark_by_kind lexeme.kind lexeme.text
unfolding mark_of_token
marked token lexeme h = ap (λ (l : Lexeme). mark_by_kind l.kind l.text) h

-- a token of this mark is read, and these parts are left
one : (token : Token) (tokens : List Token) (parts left : List Part) (mark : TokenMark) → mark_of_token token ≡ mark → feed parts mark ≡ Some left → run (token ∷ tokens) parts ≡ run tokens left
one token tokens parts left mark is fed =
    ap (λ found. go_on (feed parts found) (run tokens) (token ∷ tokens)) is ∙ ap (λ found. go_on found (run tokens) (token ∷ tokens)) fed

says : (token : Token) (text : List ℕ) → mark_of_token token ≡ m.Plain → lexeme_of token ≡ word text → Is (Says text) token
says token text plain h = (ap is_word plain, ap (λ (l : Lexeme). l.text) h)

plain_make : mark_of_word (codes "make") ≡ m.Plain
unfolding mark_of_word
plain_make = refl

plain_rule : mark_of_word (codes "@join") ≡ m.Plain
unfolding mark_of_word
plain_rule = refl

plain_join : mark_of_word (codes "join") ≡ m.Plain
unfolding mark_of_word
plain_join = refl

key_of : (text : List ℕ) (mark : TokenMark) (token : Token) → mark_of_key text ≡ mark → lexeme_of token ≡ key text → mark_of_token token ≡ mark
key_of text mark token is h = marked token (key text) h ∙ is

word_of : (text : List ℕ) (token : Token) → mark_of_word text ≡ m.Plain → lexeme_of token ≡ word text → mark_of_token token ≡ m.Plain
word_of text token is h = marked token (word text) h ∙ is

colon : mark_of_key (codes ":") ≡ m.Colon
unfolding mark_of_key
colon = refl

semicolon : mark_of_key (codes ";") ≡ m.Semicolon
unfolding mark_of_key
semicolon = refl

brace_open : mark_of_key (codes "{") ≡ m.BraceOpen
unfolding mark_of_key
brace_open = refl

brace_close : mark_of_key (codes "}") ≡ m.BraceClose
unfolding mark_of_key
brace_close = refl

actions : mark_of_key (codes "actions") ≡ m.Actions
unfolding mark_of_key
actions = refl

-- ---- the line of a target

-- The tokens are a statement of this form, and after them stand others that say the rest.
record Made (tokens : List Token) (form : FormTree) (rest : List Lexeme) : Type 0 where
  line : ℕ
  later : List Token
  others : map lexeme_of later ≡ rest
  runs : run tokens (Stmts ∷ []) ≡ run later (Stmts ∷ [])
  spells : (syms : List Sym) → Spells later syms [] → Spells tokens (From line ∷ (spell_form form ++ syms)) []

-- what is left to be read within such a line
abbrev in_call : ℕ → List Part
in_call n = Args ∷ More n ∷ part.Key m.Semicolon ∷ Stmts ∷ []

made_first : (rest : List Lexeme) (tokens : List Token) → map lexeme_of tokens ≡ make_before 0 rest → Made tokens (make_form 0) rest
made_first rest tokens h =
    cut (λ l. Made l (make_form 0) rest) tokens (word (codes "make")) (word (target_name 0) ∷ key (codes ":") ∷ word (source_name 0) ∷ after_sources rest) h (λ a l₁ ha h₁.
    cut (λ l. Made (a ∷ l) (make_form 0) rest) l₁ (word (target_name 0)) (key (codes ":") ∷ word (source_name 0) ∷ after_sources rest) h₁ (λ b l₂ hb h₂.
    cut (λ l. Made (a ∷ b ∷ l) (make_form 0) rest) l₂ (key (codes ":")) (word (source_name 0) ∷ after_sources rest) h₂ (λ c l₃ hc h₃.
    cut (λ l. Made (a ∷ b ∷ c ∷ l) (make_form 0) rest) l₃ (word (source_name 0)) (after_sources rest) h₃ (λ d l₄ hd h₄.
    cut (λ l. Made (a ∷ b ∷ c ∷ d ∷ l) (make_form 0) rest) l₄ (key (codes ":")) (word (codes "@join") ∷ key (codes ";") ∷ rest) h₄ (λ e l₅ he h₅.
    cut (λ l. Made (a ∷ b ∷ c ∷ d ∷ e ∷ l) (make_form 0) rest) l₅ (word (codes "@join")) (key (codes ";") ∷ rest) h₅ (λ f l₆ hf h₆.
    cut (λ l. Made (a ∷ b ∷ c ∷ d ∷ e ∷ f ∷ l) (make_form 0) rest) l₆ (key (codes ";")) rest h₆ (λ g later hg others.
    let ma : mark_of_token a ≡ m.Plain = word_of (codes "make") a plain_make ha in
    let mb : mark_of_token b ≡ m.Plain = word_of (target_name 0) b (target_is_plain 0 (omega arith)) hb in
    let mc : mark_of_token c ≡ m.Colon = key_of (codes ":") m.Colon c colon hc in
    let md : mark_of_token d ≡ m.Plain = word_of (source_name 0) d (source_is_plain 0) hd in
    let me : mark_of_token e ≡ m.Colon = key_of (codes ":") m.Colon e colon he in
    let mf : mark_of_token f ≡ m.Plain = word_of (codes "@join") f plain_rule hf in
    let mg : mark_of_token g ≡ m.Semicolon = key_of (codes ";") m.Semicolon g semicolon hg in
    record {
      line = a.line;
      later = later;
      others = others;
      runs =
          one a (b ∷ c ∷ d ∷ e ∷ f ∷ g ∷ later) (Stmts ∷ []) (Tail ∷ Stmts ∷ []) m.Plain ma refl
          ∙ one b (c ∷ d ∷ e ∷ f ∷ g ∷ later) (Tail ∷ Stmts ∷ []) (in_call 8) m.Plain mb refl
          ∙ one c (d ∷ e ∷ f ∷ g ∷ later) (in_call 8) (in_call 7) m.Colon mc refl
          ∙ one d (e ∷ f ∷ g ∷ later) (in_call 7) (in_call 7) m.Plain md refl
          ∙ one e (f ∷ g ∷ later) (in_call 7) (in_call 6) m.Colon me refl
          ∙ one f (g ∷ later) (in_call 6) (in_call 6) m.Plain mf refl
          ∙ one g later (in_call 6) (Stmts ∷ []) m.Semicolon mg refl;
      spells = λ syms s.
          (refl, (says a (codes "make") ma ha, (says b (target_name 0) mb hb, (mc, (says d (source_name 0) md hd, (me, (says f (codes "@join") mf hf, (mg, s))))))));
    })))))))

made_later : (i : ℕ) (rest : List Lexeme) (tokens : List Token) → suc i < 2 ^ 64 → map lexeme_of tokens ≡ make_before (suc i) rest → Made tokens (make_form (suc i)) rest
made_later i rest tokens small h =
    cut (λ l. Made l (make_form (suc i)) rest) tokens (word (codes "make")) (word (target_name (suc i)) ∷ key (codes ":") ∷ word (source_name (suc i)) ∷ word (target_name (suc i / 2)) ∷ after_sources rest) h (λ a l₁ ha h₁.
    cut (λ l. Made (a ∷ l) (make_form (suc i)) rest) l₁ (word (target_name (suc i))) (key (codes ":") ∷ word (source_name (suc i)) ∷ word (target_name (suc i / 2)) ∷ after_sources rest) h₁ (λ b l₂ hb h₂.
    cut (λ l. Made (a ∷ b ∷ l) (make_form (suc i)) rest) l₂ (key (codes ":")) (word (source_name (suc i)) ∷ word (target_name (suc i / 2)) ∷ after_sources rest) h₂ (λ c l₃ hc h₃.
    cut (λ l. Made (a ∷ b ∷ c ∷ l) (make_form (suc i)) rest) l₃ (word (source_name (suc i))) (word (target_name (suc i / 2)) ∷ after_sources rest) h₃ (λ d l₄ hd h₄.
    cut (λ l. Made (a ∷ b ∷ c ∷ d ∷ l) (make_form (suc i)) rest) l₄ (word (target_name (suc i / 2))) (after_sources rest) h₄ (λ k l₅ hk h₅.
    cut (λ l. Made (a ∷ b ∷ c ∷ d ∷ k ∷ l) (make_form (suc i)) rest) l₅ (key (codes ":")) (word (codes "@join") ∷ key (codes ";") ∷ rest) h₅ (λ e l₆ he h₆.
    cut (λ l. Made (a ∷ b ∷ c ∷ d ∷ k ∷ e ∷ l) (make_form (suc i)) rest) l₆ (word (codes "@join")) (key (codes ";") ∷ rest) h₆ (λ f l₇ hf h₇.
    cut (λ l. Made (a ∷ b ∷ c ∷ d ∷ k ∷ e ∷ f ∷ l) (make_form (suc i)) rest) l₇ (key (codes ";")) rest h₇ (λ g later hg others.
    let ma : mark_of_token a ≡ m.Plain = word_of (codes "make") a plain_make ha in
    let mb : mark_of_token b ≡ m.Plain = word_of (target_name (suc i)) b (target_is_plain (suc i) small) hb in
    let mc : mark_of_token c ≡ m.Colon = key_of (codes ":") m.Colon c colon hc in
    let md : mark_of_token d ≡ m.Plain = word_of (source_name (suc i)) d (source_is_plain (suc i)) hd in
    let mk : mark_of_token k ≡ m.Plain = word_of (target_name (suc i / 2)) k (target_is_plain (suc i / 2) (omega (arith, small))) hk in
    let me : mark_of_token e ≡ m.Colon = key_of (codes ":") m.Colon e colon he in
    let mf : mark_of_token f ≡ m.Plain = word_of (codes "@join") f plain_rule hf in
    let mg : mark_of_token g ≡ m.Semicolon = key_of (codes ";") m.Semicolon g semicolon hg in
    record {
      line = a.line;
      later = later;
      others = others;
      runs =
          one a (b ∷ c ∷ d ∷ k ∷ e ∷ f ∷ g ∷ later) (Stmts ∷ []) (Tail ∷ Stmts ∷ []) m.Plain ma refl
          ∙ one b (c ∷ d ∷ k ∷ e ∷ f ∷ g ∷ later) (Tail ∷ Stmts ∷ []) (in_call 8) m.Plain mb refl
          ∙ one c (d ∷ k ∷ e ∷ f ∷ g ∷ later) (in_call 8) (in_call 7) m.Colon mc refl
          ∙ one d (k ∷ e ∷ f ∷ g ∷ later) (in_call 7) (in_call 7) m.Plain md refl
          ∙ one k (e ∷ f ∷ g ∷ later) (in_call 7) (in_call 7) m.Plain mk refl
          ∙ one e (f ∷ g ∷ later) (in_call 7) (in_call 6) m.Colon me refl
          ∙ one f (g ∷ later) (in_call 6) (in_call 6) m.Plain mf refl
          ∙ one g later (in_call 6) (Stmts ∷ []) m.Semicolon mg refl;
      spells = λ syms s.
          (refl, (says a (codes "make") ma ha, (says b (target_name (suc i)) mb hb, (mc, (says d (source_name (suc i)) md hd, (says k (target_name (suc i / 2)) mk hk, (me, (says f (codes "@join") mf hf, (mg, s)))))))));
    }))))))))

made : (i : ℕ) (rest : List Lexeme) (tokens : List Token) → i < 2 ^ 64 → map lexeme_of tokens ≡ make_before i rest → Made tokens (make_form i) rest
made zero rest tokens small h = made_first rest tokens h
made (suc i) rest tokens small h = made_later i rest tokens small h

-- ---- the lines of all targets

record AllMade (n : ℕ) (tokens : List Token) (rest : List Lexeme) : Type 0 where
  lines : List ℕ
  count : length lines ≡ n
  later : List Token
  others : map lexeme_of later ≡ rest
  runs : run tokens (Stmts ∷ []) ≡ run later (Stmts ∷ [])
  spells : (tree : StmtTrees) → Spells later (spell_stmts tree) [] → Spells tokens (spell_stmts (make_stmts lines tree)) []

all_made : (n : ℕ) (rest : List Lexeme) (tokens : List Token) → n < 2 ^ 64 → map lexeme_of tokens ≡ makes_before n rest → AllMade n tokens rest
all_made zero rest tokens small h = record { lines = []; count = refl; later = tokens; others = h; runs = refl; spells = λ tree s. s }
all_made (suc n) rest tokens small h =
    let before : AllMade n tokens (make_before n rest) = all_made n (make_before n rest) tokens (omega (arith, small)) h in
    let next : Made before.later (make_form n) rest = made n rest before.later (omega (arith, small)) before.others in
    record {
      lines = next.line ∷ before.lines;
      count = ap suc before.count;
      later = next.later;
      others = next.others;
      runs = before.runs ∙ next.runs;
      spells = λ tree s.
          before.spells (StmtAnd next.line (make_form (length before.lines)) tree)
          (subst (λ k. Spells before.later (spell_stmts (StmtAnd next.line (make_form k) tree)) []) (sym before.count) (next.spells (spell_stmts tree) s));
    }

-- ---- the whole file

joined : (rest : List Lexeme) (tokens : List Token) → map lexeme_of tokens ≡ join_before rest → Made tokens join_form rest
joined rest tokens h =
    cut (λ l. Made l join_form rest) tokens (key (codes "actions")) (word (codes "join") ∷ key (codes "{") ∷ body raw ∷ key (codes "}") ∷ rest) h (λ a l₁ ha h₁.
    cut (λ l. Made (a ∷ l) join_form rest) l₁ (word (codes "join")) (key (codes "{") ∷ body raw ∷ key (codes "}") ∷ rest) h₁ (λ b l₂ hb h₂.
    cut (λ l. Made (a ∷ b ∷ l) join_form rest) l₂ (key (codes "{")) (body raw ∷ key (codes "}") ∷ rest) h₂ (λ c l₃ hc h₃.
    cut (λ l. Made (a ∷ b ∷ c ∷ l) join_form rest) l₃ (body raw) (key (codes "}") ∷ rest) h₃ (λ d l₄ hd h₄.
    cut (λ l. Made (a ∷ b ∷ c ∷ d ∷ l) join_form rest) l₄ (key (codes "}")) rest h₄ (λ e later he others.
    let ma : mark_of_token a ≡ m.Actions = key_of (codes "actions") m.Actions a actions ha in
    let mb : mark_of_token b ≡ m.Plain = word_of (codes "join") b plain_join hb in
    let mc : mark_of_token c ≡ m.BraceOpen = key_of (codes "{") m.BraceOpen c brace_open hc in
    let md : mark_of_token d ≡ m.Body = marked d (body raw) hd in
    let me : mark_of_token e ≡ m.BraceClose = key_of (codes "}") m.BraceClose e brace_close he in
    record {
      line = a.line;
      later = later;
      others = others;
      runs =
          one a (b ∷ c ∷ d ∷ e ∷ later) (Stmts ∷ []) (Heading false false false ∷ BodyBlock ∷ Stmts ∷ []) m.Actions ma refl
          ∙ one b (c ∷ d ∷ e ∷ later) (Heading false false false ∷ BodyBlock ∷ Stmts ∷ []) (BodyBlock ∷ Stmts ∷ []) m.Plain mb refl
          ∙ one c (d ∷ e ∷ later) (BodyBlock ∷ Stmts ∷ []) (part.Key m.Body ∷ part.Key m.BraceClose ∷ Stmts ∷ []) m.BraceOpen mc refl
          ∙ one d (e ∷ later) (part.Key m.Body ∷ part.Key m.BraceClose ∷ Stmts ∷ []) (part.Key m.BraceClose ∷ Stmts ∷ []) m.Body md refl
          ∙ one e later (part.Key m.BraceClose ∷ Stmts ∷ []) (Stmts ∷ []) m.BraceClose me refl;
      spells = λ syms s. (refl, (ma, (b ∷ c ∷ d ∷ e ∷ later, none, (says b (codes "join") mb hb, (mc, ((md, ap (λ (l : Lexeme). l.text) hd), (me, s)))))));
    })))))

none_left : (tokens : List Token) → map lexeme_of tokens ≡ [] → tokens ≡ []
none_left [] h = refl
none_left (t ∷ ts) h = absurd (not_empty (lexeme_of t) (map lexeme_of ts) (sym h))

file_of : (n : ℕ) → n < 2 ^ 64 → ReadsAs (jamroot n) (lexemes n) → IsFileOf n
file_of n small said =
    let first : Made said.tokens join_form (makes_before n []) = joined (makes_before n []) said.tokens said.say in
    let all : AllMade n first.later [] = all_made n [] first.later small first.others in
    let empty : all.later ≡ [] = none_left all.later all.others in
    record {
      tokens = said.tokens;
      line = first.line;
      lines = all.lines;
      count = all.count;
      are_tokens = said.are_tokens;
      reads = record {
        file = whole_is_file said.tokens (first.runs ∙ all.runs ∙ ap (λ l. run l (Stmts ∷ [])) empty);
        spelled = first.spells (spell_stmts (make_stmts all.lines NoStmts)) (all.spells NoStmts empty);
      };
    }

pub drill_reads : (n : ℕ) → n < 2 ^ 64 → IsFileOf n
drill_reads n small = file_of n small (subst (λ bytes. ReadsAs bytes (lexemes n)) (sym (file_is n small)) (all_said (lexemes n) (can_stand n) (are_texts n small)))
