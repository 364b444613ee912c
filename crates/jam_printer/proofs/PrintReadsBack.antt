-- What is printed of a tree that tokens read as is read as this tree again.
use Rattle.std.proofs.Common.{◌≡◌, ℕ, Bool, true, false, List, [], ◌∷◌, ◌++◌, map, refl, sym, ap, ◌∙◌, subst, append_assoc}
use Rattle.std.specs.Prelude.{Result, Ok, Err, IfOk}
use Rattle.std.specs.Global.{Vec}
use Rattle.std.specs.List.{All}
use Rattle.std.proofs.lemmas.List.{map-append}
use Rattle.std.proofs.lemmas.List.Elements.{All-nil, All-cons, All-head, All-tail}
use Rattle.b2_base.specs.declared.fault.OutOfMemory.{OutOfMemory}
use Rattle.b2_base.specs.declared.token.Token.{Token}
use Rattle.b2_base.specs.declared.token.TokenKind.{TokenKind}
use Rattle.b2_base.specs.declared.token.TokenKind.TheVariants as kinds
use Rattle.jam_lexer.specs.Tokens.{AreTokens}
use Rattle.jam_grammar.specs.declared.mark.TokenMark.{TokenMark}
use Rattle.jam_grammar.specs.declared.mark.TokenMark.TheVariants as m
use Rattle.jam_grammar.specs.Marks.{mark_of_token}
use Rattle.jam_grammar.specs.Trees.{StmtTrees}
use Rattle.jam_grammar.specs.Spelling.{Sym, Key, Heads, Switches, none, together, existing, quietly, Says, Named, Raw, From, Never, Spells, spell_stmts}
use Rattle.jam_grammar.specs.Readings.{ReadsTree}
use Rattle.jam_grammar.specs.Alike.{Said, said_of, asked, mark_said, word_said, body_said, newly, heads_said, ReadsUpToLines}
use Rattle.jam_grammar.proofs.EveryMarkIsTested.{at_each}
use Rattle.jam_grammar.proofs.MarkTellsWhatTokenSays.{body_is}
use Rattle.jam_grammar.proofs.SameSayingReadsAlike.{asked_reads}
use Rattle.jam_grammar.proofs.UpToLines.{one_up_to_lines}
use Rattle.jam_spelling.specs.declared.lexeme.Lexeme.{Lexeme}
use Rattle.jam_spelling.specs.Spelling.{bytes_of}
use Rattle.jam_spelling.specs.LexemeLists.{IsRaw, CanStand}
use Rattle.jam_spelling.specs.Readings.{lexeme_of, ReadsAs, AreTexts}
use Rattle.jam_spelling.proofs.LexedTextsFitTheirKind.{SaysRight, lexed_right}
use Rattle.jam_spelling.proofs.SpelledReadsBack.{all_said}
use Rattle.jam_printer.specs.Lexemes.{lexeme_saying, written_as}
use Rattle.jam_printer.specs.ReadsBack.{ReadsBack}
use Rattle.jam_printer.proofs.LexemesCanStand.{HasRaw, orderly_stands, of_stmts}

-- what is written is what the symbols ask for
written_is : (syms : List Sym) → written_as syms ≡ map lexeme_saying (asked syms)
written_is [] = refl
written_is (Key mark ∷ syms) = ap (λ l. lexeme_saying (mark_said mark) ∷ l) (written_is syms)
written_is (Heads a b c t e q ∷ syms) = ap (λ l. map lexeme_saying (heads_said a b c t e q) ++ l) (written_is syms) ∙ sym (map-append lexeme_saying (heads_said a b c t e q) (asked syms))
written_is (Says text ∷ syms) = ap (λ l. lexeme_saying (word_said text) ∷ l) (written_is syms)
written_is (Named text ∷ syms) = ap (λ l. lexeme_saying (word_said text) ∷ l) (written_is syms)
written_is (Raw text ∷ syms) = ap (λ l. lexeme_saying (body_said text) ∷ l) (written_is syms)
written_is (From line ∷ syms) = written_is syms
written_is (Never ∷ syms) = written_is syms

abbrev said_by : Lexeme → Said
said_by lexeme = record { kind = lexeme.kind; text = lexeme.text }

said_again : (said : List Said) → map said_by (map lexeme_saying said) ≡ said
said_again [] = refl
said_again (s ∷ said) = ap (λ l. s ∷ l) (said_again said)

said_tokens : (tokens : List Token) → map said_by (map lexeme_of tokens) ≡ map said_of tokens
said_tokens [] = refl
said_tokens (t ∷ tokens) = ap (λ l. said_of t ∷ l) (said_tokens tokens)

-- ---- the bodies of a lexed text are such as can stand

not_body : TokenKind → Bool
not_body kinds.Body = false
not_body _ = true

-- what marks say, and words, are no bodies
mark_raw : (mark : TokenMark) → HasRaw (lexeme_saying (mark_said mark))
unfolding not_body
mark_raw mark = λ e. let bad : false ≡ true = sym (ap not_body e) ∙ at_each (λ x. not_body (mark_said x).kind) refl mark in cc

word_raw : (text : List ℕ) → HasRaw (lexeme_saying (word_said text))
word_raw text = λ e. cc

newly_raw : (a t : Bool) (mark : TokenMark) (more : List Lexeme) → All HasRaw more → All HasRaw (map lexeme_saying (newly a t mark) ++ more)
newly_raw false true mark more all = All-cons HasRaw (lexeme_saying (mark_said mark)) more (mark_raw mark) all
newly_raw true true mark more all = all
newly_raw true false mark more all = all
newly_raw false false mark more all = all

heads_raw : (a b c t e q : Bool) (more : List Lexeme) → All HasRaw more → All HasRaw (map lexeme_saying (heads_said a b c t e q) ++ more)
heads_raw a b c t e q more all =
    subst (All HasRaw) (sym (in_three (newly a t m.Together) (newly b e m.Existing) (newly c q m.Quietly) more))
    (newly_raw a t m.Together _ (newly_raw b e m.Existing _ (newly_raw c q m.Quietly more all)))
  where
    in_three : (x y z : List Said) (more : List Lexeme) → map lexeme_saying (x ++ (y ++ z)) ++ more ≡ map lexeme_saying x ++ (map lexeme_saying y ++ (map lexeme_saying z ++ more))
    in_three x y z more =
        ap (λ l. l ++ more) (map-append lexeme_saying x (y ++ z)) ∙ append_assoc (map lexeme_saying x) (map lexeme_saying (y ++ z)) more
        ∙ ap (λ l. map lexeme_saying x ++ l) (ap (λ l. l ++ more) (map-append lexeme_saying y z) ∙ append_assoc (map lexeme_saying y) (map lexeme_saying z) more)

left_right : {a b c t e q : Bool} {ts left : List Token} → Switches a b c t e q ts left → All SaysRight ts → All SaysRight left
left_right none all = all
left_right (together {token} {tokens} is w) all = left_right w (All-tail SaysRight token tokens all)
left_right (existing {token} {tokens} is w) all = left_right w (All-tail SaysRight token tokens all)
left_right (quietly {token} {tokens} is w) all = left_right w (All-tail SaysRight token tokens all)

body_raw : (t : Token) (text : List ℕ) → mark_of_token t ≡ m.Body → t.text ≡ text → SaysRight t → HasRaw (lexeme_saying (body_said text))
body_raw t text is e right = λ _. subst IsRaw e (right.1 (ap (λ x. x.kind) (body_is t is)))

raw_written : (tokens after : List Token) (syms : List Sym) → Spells tokens syms after → All SaysRight tokens → All HasRaw (written_as syms)
raw_written tokens after [] h all = All-nil HasRaw
raw_written tokens after (From line ∷ syms) h all = raw_written tokens after syms h.1 all
raw_written tokens after (Heads a b c t e q ∷ syms) h all = heads_raw a b c t e q (written_as syms) (raw_written h.0 after syms h.2 (left_right h.1 all))
raw_written [] after (Key mark ∷ syms) h all = absurd h
raw_written [] after (Says text ∷ syms) h all = absurd h
raw_written [] after (Named text ∷ syms) h all = absurd h
raw_written [] after (Raw text ∷ syms) h all = absurd h
raw_written [] after (Never ∷ syms) h all = absurd h
raw_written (t ∷ ts) after (Key mark ∷ syms) h all = All-cons HasRaw _ (written_as syms) (mark_raw mark) (raw_written ts after syms h.1 (All-tail SaysRight t ts all))
raw_written (t ∷ ts) after (Says text ∷ syms) h all = All-cons HasRaw _ (written_as syms) (word_raw text) (raw_written ts after syms h.1 (All-tail SaysRight t ts all))
raw_written (t ∷ ts) after (Named text ∷ syms) h all = All-cons HasRaw _ (written_as syms) (word_raw text) (raw_written ts after syms h.1 (All-tail SaysRight t ts all))
raw_written (t ∷ ts) after (Raw text ∷ syms) h all = All-cons HasRaw _ (written_as syms) (body_raw t text h.0.0 h.0.1 (All-head SaysRight t ts all)) (raw_written ts after syms h.1 (All-tail SaysRight t ts all))
raw_written (t ∷ ts) after (Never ∷ syms) h all = absurd h

module _ (bytes : List ℕ) (tokens : List Token) (tree : StmtTrees) (are : AreTokens bytes tokens) (reads : ReadsTree tokens tree) where
  lexemes : List Lexeme
  lexemes = written_as (spell_stmts tree)

  stand : CanStand lexemes
  unfolding lexemes
  stand = orderly_stands (spell_stmts tree) (of_stmts tree) (raw_written tokens [] (spell_stmts tree) reads.spelled (lexed_right bytes tokens are))

  back : AreTexts lexemes → ReadsAs (bytes_of lexemes) lexemes
  back texts = all_said lexemes stand texts

  told : (others : List Token) → map lexeme_of others ≡ lexemes → map said_of others ≡ asked (spell_stmts tree)
  unfolding lexemes
  told others say = sym (said_tokens others) ∙ ap (map said_by) (say ∙ written_is (spell_stmts tree)) ∙ said_again (asked (spell_stmts tree))

pub reads_back : (bytes printed : List ℕ) (tokens : List Token) (tree : StmtTrees) → AreTokens bytes tokens → ReadsTree tokens tree → AreTexts (written_as (spell_stmts tree)) → printed ≡ bytes_of (written_as (spell_stmts tree)) → ReadsBack printed tree
unfolding lexemes
reads_back bytes printed tokens tree are reads texts is =
    let again : ReadsAs (bytes_of (lexemes bytes tokens tree are reads)) (lexemes bytes tokens tree are reads) = back bytes tokens tree are reads texts in
    let reads_again : ReadsUpToLines again.tokens tree = asked_reads tokens again.tokens tree reads (told bytes tokens tree are reads again.tokens again.say) in
    record {
      tokens = again.tokens;
      are_tokens = subst (λ b. AreTokens b again.tokens) (sym is) again.are_tokens;
      reads = reads_again;
      no_other = λ other also. one_up_to_lines again.tokens other tree also reads_again;
    }

-- the same of what a call gave
pub given_back : (given : Result (Vec ℕ) OutOfMemory) (lexemes : List Lexeme) (bytes : List ℕ) (tokens : List Token) (tree : StmtTrees) → lexemes ≡ written_as (spell_stmts tree) → IfOk given (λ printed. printed.items ≡ bytes_of lexemes) → IfOk given (λ _. AreTexts lexemes) → AreTokens bytes tokens → ReadsTree tokens tree → IfOk given (λ printed. ReadsBack printed.items tree)
given_back (Ok printed) ls bytes tokens tree is exact texts are reads = reads_back bytes printed.items tokens tree are reads (subst AreTexts is texts) (exact ∙ ap bytes_of is)
given_back (Err fault) ls bytes tokens tree is exact texts are reads = tt
