-- The build text of tests reads as its tree, and in no other way.
use Rattle.std.proofs.Common.{◌≡◌, ℕ, ◌≤◌, List, length, Ok, Err, refl, sym, ap, subst, ◌∙◌, arith}
use Rattle.b2_base.specs.declared.token.Token.{Token}
use Rattle.jam_lexer.specs.declared.fault.LexFault.{LexFault}
use Rattle.jam_lexer.specs.Answers.{IsAnswer}
use Rattle.jam_lexer.specs.Tokens.{AreTokens}
use Rattle.jam_lexer.proofs.OneAnswer.{one_tokens, one_answer}
use Rattle.jam_grammar.specs.Readings.{ReadsTree, IsFirstFault}
use Rattle.jam_grammar.proofs.MachineStopsAtFirstFault.{never_both}
use Rattle.jam_grammar.proofs.UpToLines.{one_tree}
use Rattle.jam_meaning.specs.Settings.{Reading, is_missing, is_too_big, has_no_tokens, has_no_tree, is_file, file_limit}
use Rattle.jam_grammar.specs.declared.tree.Tree.{Tree}
use Rattle.jam_grammar.specs.Trees.{whole_tree}
use Rattle.jam_values.specs.declared.files.FileReading.{FileReading}
use Rattle.jam_values.specs.declared.files.FileReading.TheVariants as files
use Rattle.jam_values.specs.FileReadings.{reading_of, ReadsAny}
use Rattle.b2_testing_text.specs.Texts.{testing_text}
use Rattle.b2_testing_text.specs.Trees.{testing_tree}
use Rattle.b2_testing_text.specs.Laws.{TextReads}
use Rattle.b2_testing_text.proofs.TextIsItsPieces.{has_tree}

is_small : length testing_text ≤ file_limit
unfolding testing_text
is_small = omega arith

tokens_or_fault : (bytes : List ℕ) (tokens : List Token) (fault : LexFault) → AreTokens bytes tokens → IsAnswer bytes (Err fault) → ⊥
tokens_or_fault bytes tokens fault are is = let both : Ok tokens ≡ Err fault = one_answer bytes (Ok tokens) (Err fault) are is in cc

-- one way alone
only : (reading : Reading) → ReadsAny testing_text reading → reading ≡ is_file testing_tree
only (is_file tree) (small, (tokens, are, reads)) =
    ap is_file (one_tree has_tree.tokens tree testing_tree (subst (λ (ts : List Token). ReadsTree ts tree) (one_tokens testing_text tokens has_tree.tokens are has_tree.are_tokens) reads) has_tree.reads)
only (has_no_tree line found) (small, (tokens, are, stops)) =
    absurd (never_both has_tree.tokens line found has_tree.reads.file (subst (λ (ts : List Token). IsFirstFault ts line found) (one_tokens testing_text tokens has_tree.tokens are has_tree.are_tokens) stops))
only (has_no_tokens fault) (small, is) = absurd (tokens_or_fault testing_text has_tree.tokens fault has_tree.are_tokens is)
only (is_too_big size) (same, big) = absurd (omega (arith, same, big, is_small))
only is_missing never = absurd never

pub text_reads : TextReads
text_reads reading = (only reading, λ e. subst (ReadsAny testing_text) (sym e) (is_small, (has_tree.tokens, has_tree.are_tokens, has_tree.reads)))

-- ---- as the code reads it

pub never_other : (bytes : List ℕ) (read : FileReading) → bytes ≡ testing_text → ReadsAny bytes (reading_of read) → ((tree : Tree) → read ≡ files.File tree → ⊥) → ⊥
never_other bytes read is reads other = cases read (only (reading_of read) (subst (λ bs. ReadsAny bs (reading_of read)) is reads)) other
  where
    cases : (read : FileReading) → reading_of read ≡ is_file testing_tree → ((tree : Tree) → read ≡ files.File tree → ⊥) → ⊥
    cases (files.File tree) e other = other tree refl
    cases files.Missing e other = cc
    cases (files.TooBig size) e other = cc
    cases (files.NoTokens fault) e other = cc
    cases (files.NoTree line found) e other = cc

pub tree_is : (bytes : List ℕ) (read : FileReading) (tree : Tree) → bytes ≡ testing_text → ReadsAny bytes (reading_of read) → read ≡ files.File tree → whole_tree tree ≡ testing_tree
tree_is bytes read tree is reads e =
    let same : is_file (whole_tree tree) ≡ is_file testing_tree = sym (ap reading_of e) ∙ only (reading_of read) (subst (λ bs. ReadsAny bs (reading_of read)) is reads) in
    cc
