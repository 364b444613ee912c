-- The build text of tests is its pieces, and their tokens read as its tree.
use Prim.Native.String.{String}
use Rattle.std.proofs.Common.{◌≡◌, ℕ, ◌<◌, Bool, true, false, ltb, ◌&&◌, List, [], ◌∷◌, codes, refl, sym, subst, arith}
use Rattle.std.specs.Prelude.{replicate}
use Rattle.std.specs.List.{list_all}
use Rattle.std.proofs.lemmas.Bool.{and_parts, ltb-true}
use Rattle.std.proofs.lemmas.List.Elements.{All-from_recursion, All-append}
use Rattle.std.proofs.lemmas.Str.{IsUtf8-append, IsUtf8-nil}
use Rattle.b2_base.specs.declared.token.Token.{Token}
use Rattle.b2_base.specs.declared.token.TokenKind.TheVariants as kinds
use Rattle.jam_lexer.specs.Tokens.{NextWord, IsText, AreTokens}
use Rattle.jam_grammar.specs.Grammar.{Stmts}
use Rattle.jam_grammar.specs.Machine.{Whole, run}
use Rattle.jam_grammar.specs.Marks.{mark_of_token, mark_of_word, mark_of_key}
use Rattle.jam_grammar.specs.Spelling.{spell_stmts}
use Rattle.jam_grammar.proofs.MachineStopsAtFirstFault.{whole_is_file}
use Rattle.jam_spelling.proofs.SpelledLexemesAreText.{one_text}
use Rattle.b2_testing_text.specs.Texts.{testing_text}
use Rattle.b2_testing_text.specs.Trees.{testing_tree}
use Rattle.b2_testing_text.specs.Laws.{HasTree}
use Rattle.b2_testing_text.proofs.PiecesAreTokens.{Piece, written, tokens_at, all_fit, all_stand}
use Rattle.b2_testing_text.proofs.TokensSpellTheTree.{spell, spells}

-- ---- the pieces, line by line

abbrev none : List ℕ
none = []

abbrev space : List ℕ
space = 32 ∷ []

abbrev feed : List ℕ
feed = 10 ∷ []

abbrev indent : ℕ → List ℕ
indent width = 10 ∷ replicate width 32

abbrev word : List ℕ → String → Piece
word gap text = record { gap = gap; kind = kinds.Word; text = codes text }

abbrev key : List ℕ → String → Piece
key gap text = record { gap = gap; kind = kinds.Key; text = codes text }

abbrev body : String → Piece
body text = record { gap = []; kind = kinds.Body; text = codes text }

abbrev pieces : List Piece
pieces =
    key none "module" ∷ word space "gcc" ∷ key space "{" ∷ key space "rule" ∷ word space "command" ∷ key space "{" ∷ key space "return" ∷ word space "$(COMMAND)" ∷ key space ";" ∷ key space "}" ∷ key space "}" ∷
    key feed "module" ∷ word space "testing" ∷
    key feed "{" ∷
    key (indent 4) "rule" ∷ word space "compile-fail" ∷ key space "(" ∷ word space "t" ∷ word space "+" ∷ key space ":" ∷ word space "s" ∷ word space "+" ∷ key space ":" ∷ word space "p" ∷ word space "*" ∷ key space ")" ∷
    key (indent 4) "{" ∷
    word (indent 8) "gcc.compile.c++" ∷ word space "$(t)" ∷ key space ":" ∷ word space "$(s)" ∷ key space ":" ∷ word space "$(p)" ∷ key space ";" ∷
    word (indent 8) "COMMAND" ∷ key space "on" ∷ word space "$(t)" ∷ key space "=" ∷ key space "[" ∷ word space "gcc.command" ∷ key space "]" ∷ key space ";" ∷
    key (indent 4) "}" ∷
    key (indent 4) "actions" ∷ word space "pass" ∷ key space "{" ∷ body " echo passed > \"$(<)\" " ∷ key none "}" ∷
    key (indent 4) "actions" ∷ word space "compile-fail" ∷ key space "{" ∷ body " if $(COMMAND) $(OPTIONS) -D$(DEFINES) -I\"$(DIRS)\" -fsyntax-only \"$(>)\" ; then exit 1 ; else echo passed > \"$(<)\" ; fi " ∷ key none "}" ∷
    key (indent 4) "actions" ∷ word space "run" ∷ key space "{" ∷ body " \"./$(>)\" > /dev/null 2>&1 && echo passed > \"$(<)\" " ∷ key none "}" ∷
    key (indent 4) "actions" ∷ word space "run-fail" ∷ key space "{" ∷ body " if \"./$(>)\" > /dev/null 2>&1 ; then exit 1 ; else echo passed > \"$(<)\" ; fi " ∷ key none "}" ∷
    key feed "}" ∷
    []

text_is : testing_text ≡ written pieces feed
unfolding testing_text
text_is = refl

they_fit : all_fit NextWord false pieces feed ≡ true
they_fit = refl

abbrev tokens : List Token
tokens = tokens_at 0 1 pieces

-- ---- their tokens

abbrev is_plain : ℕ → Bool
is_plain b = ltb 0 b && ltb b 128

plain_text : (text : List ℕ) → list_all is_plain text ≡ true → IsText text
plain_text [] h = (IsUtf8-nil, All-from_recursion (λ c. 0 < c) [] tt)
plain_text (b ∷ bs) h =
    let both = and_parts (is_plain b) (list_all is_plain bs) h in
    let own = and_parts (ltb 0 b) (ltb b 128) both.0 in
    let first : IsText (b ∷ []) = one_text b (ltb-true 0 b own.0) (ltb-true b 128 own.1) in
    let more : IsText bs = plain_text bs both.1 in
    (IsUtf8-append (b ∷ []) bs first.0 more.0, All-append (λ c. 0 < c) (b ∷ []) bs first.1 more.1)

is_text : list_all is_plain (written pieces feed) ≡ true
is_text = refl

are_tokens : AreTokens testing_text tokens
are_tokens =
    subst (λ bytes. AreTokens bytes tokens) (sym text_is) (
      plain_text (written pieces feed) is_text,
      all_stand (written pieces feed) pieces feed [] 0 1 NextWord false refl refl refl refl (record { within = omega arith; rest_is = refl }) they_fit,
    )

-- ---- they spell the tree

is_file : run tokens (Stmts ∷ []) ≡ Whole
unfolding mark_of_token mark_of_word mark_of_key
is_file = refl

spelled : spell tokens (spell_stmts testing_tree) ≡ true
unfolding testing_tree mark_of_token mark_of_word mark_of_key
spelled = refl

pub has_tree : HasTree
has_tree = record {
  tokens = tokens;
  are_tokens = are_tokens;
  reads = record { file = whole_is_file tokens is_file; spelled = spells tokens (spell_stmts testing_tree) spelled };
}
