-- A file reads in one way.
use Rattle.std.proofs.Common.{◌≡◌, ℕ, ◌<◌, ◌≤◌, List, length, Some, None, Ok, Err, refl, sym, ap, ◌∙◌, subst, arith}
use Rattle.std.specs.Option.{option_map}
use Rattle.b2_base.specs.declared.token.Token.{Token}
use Rattle.b2_host.specs.Disks.{File, Folder, bytes_at}
use Rattle.jam_lexer.specs.declared.fault.LexFault.{LexFault}
use Rattle.jam_lexer.specs.Tokens.{AreTokens}
use Rattle.jam_lexer.specs.Answers.{IsAnswer}
use Rattle.jam_lexer.proofs.OneAnswer.{one_answer}
use Rattle.jam_grammar.specs.Readings.{ReadsTree, IsFirstFault, line_at, text_at}
use Rattle.jam_grammar.proofs.MachineStopsAtFirstFault.{never_both, one_fault}
use Rattle.jam_grammar.proofs.UpToLines.{one_tree}
use Rattle.jam_journal.specs.Tables.{Text}
use Rattle.jam_meaning.specs.Settings.{Reading, is_missing, is_too_big, has_no_tokens, has_no_tree, is_file, file_limit, IsReading}
use Rattle.jam_values.specs.FileReadings.{ReadsBytes, ReadsAny, OneReading}

one_bytes : (folder : Folder) (path : Text) (bytes other : List ℕ) → bytes_at folder path ≡ Some bytes → bytes_at folder path ≡ Some other → bytes ≡ other
one_bytes folder path bytes other e f = let both : Some bytes ≡ Some other = sym e ∙ f in cc

no_bytes : (folder : Folder) (path : Text) (bytes : List ℕ) → folder path ≡ None → bytes_at folder path ≡ Some bytes → ⊥
no_bytes folder path bytes e f = let none : None ≡ Some bytes = sym (ap (option_map (λ (file : File). file.bytes)) e) ∙ f in cc

one_tokens : (bytes : List ℕ) (tokens others : List Token) → AreTokens bytes tokens → AreTokens bytes others → tokens ≡ others
one_tokens bytes tokens others a b = let both = one_answer bytes (Ok tokens) (Ok others) a b in cc

no_tokens : (bytes : List ℕ) (tokens : List Token) (fault : LexFault) → AreTokens bytes tokens → IsAnswer bytes (Err fault) → ⊥
no_tokens bytes tokens fault a b = let both = one_answer bytes (Ok tokens) (Err fault) a b in cc

one_lex : (bytes : List ℕ) (fault other : LexFault) → IsAnswer bytes (Err fault) → IsAnswer bytes (Err other) → fault ≡ other
one_lex bytes fault other a b = let both = one_answer bytes (Err fault) (Err other) a b in cc

one_syntax : (tokens : List Token) (line other : ℕ) (found text : Text) → IsFirstFault tokens line found → IsFirstFault tokens other text → has_no_tree line found ≡ has_no_tree other text
one_syntax tokens line other found text a b =
    let same = one_fault tokens a.at b.at a.is b.is in
    ap (λ n. has_no_tree n found) (a.line_is ∙ ap (line_at tokens) same ∙ sym b.line_is) ∙ ap (has_no_tree other) (a.found_is ∙ ap text_at same ∙ sym b.found_is)

-- bytes read in one way
one_read : (bytes : List ℕ) (reading other : Reading) → ReadsBytes bytes reading → ReadsBytes bytes other → reading ≡ other
one_read bytes (is_file tree) (is_file more) (tokens, are, reads) (others, same, also) =
    ap is_file (one_tree tokens tree more reads (subst (λ ts. ReadsTree ts more) (one_tokens bytes others tokens same are) also))
one_read bytes (is_file tree) (has_no_tree line found) (tokens, are, reads) (others, same, also) =
    absurd (never_both tokens line found reads.file (subst (λ ts. IsFirstFault ts line found) (one_tokens bytes others tokens same are) also))
one_read bytes (is_file tree) (has_no_tokens fault) (tokens, are, reads) b = absurd (no_tokens bytes tokens fault are b)
one_read bytes (is_file tree) is_missing a b = absurd b
one_read bytes (is_file tree) (is_too_big size) a b = absurd b
one_read bytes (has_no_tree line found) (is_file tree) (tokens, are, reads) (others, same, also) =
    absurd (never_both tokens line found (subst (λ ts. ReadsTree ts tree) (one_tokens bytes others tokens same are) also).file reads)
one_read bytes (has_no_tree line found) (has_no_tree other text) (tokens, are, reads) (others, same, also) =
    one_syntax tokens line other found text reads (subst (λ ts. IsFirstFault ts other text) (one_tokens bytes others tokens same are) also)
one_read bytes (has_no_tree line found) (has_no_tokens fault) (tokens, are, reads) b = absurd (no_tokens bytes tokens fault are b)
one_read bytes (has_no_tree line found) is_missing a b = absurd b
one_read bytes (has_no_tree line found) (is_too_big size) a b = absurd b
one_read bytes (has_no_tokens fault) (is_file tree) a (tokens, are, reads) = absurd (no_tokens bytes tokens fault are a)
one_read bytes (has_no_tokens fault) (has_no_tree line found) a (tokens, are, reads) = absurd (no_tokens bytes tokens fault are a)
one_read bytes (has_no_tokens fault) (has_no_tokens other) a b = ap has_no_tokens (one_lex bytes fault other a b)
one_read bytes (has_no_tokens fault) is_missing a b = absurd b
one_read bytes (has_no_tokens fault) (is_too_big size) a b = absurd b
one_read bytes is_missing other a b = absurd a
one_read bytes (is_too_big size) other a b = absurd a

-- the three ways of bytes that are not too many
missing_alone : (folder : Folder) (path : Text) (other : Reading) → folder path ≡ None → IsReading folder path other → is_missing ≡ other
missing_alone folder path is_missing e h = refl
missing_alone folder path (is_too_big size) e h = absurd (no_bytes folder path h.0 e h.1)
missing_alone folder path (has_no_tokens fault) e h = absurd (no_bytes folder path h.0 e h.1)
missing_alone folder path (has_no_tree line found) e h = absurd (no_bytes folder path h.0 e h.2)
missing_alone folder path (is_file tree) e h = absurd (no_bytes folder path h.0 e h.2)

big_alone : (folder : Folder) (path : Text) (bytes : List ℕ) (other : Reading) → bytes_at folder path ≡ Some bytes → file_limit < length bytes → IsReading folder path other → is_too_big (length bytes) ≡ other
big_alone folder path bytes is_missing e big h = absurd (no_bytes folder path bytes h e)
big_alone folder path bytes (is_too_big size) e big h = ap is_too_big (ap length (one_bytes folder path bytes h.0 e h.1) ∙ sym h.2)
big_alone folder path bytes (has_no_tokens fault) e big h = let same = ap length (one_bytes folder path bytes h.0 e h.1) in let little = h.2 in absurd (omega arith)
big_alone folder path bytes (has_no_tree line found) e big h = let same = ap length (one_bytes folder path bytes h.0 e h.2) in let little = h.3 in absurd (omega arith)
big_alone folder path bytes (is_file tree) e big h = let same = ap length (one_bytes folder path bytes h.0 e h.2) in let little = h.3 in absurd (omega arith)

small_alone : (folder : Folder) (path : Text) (bytes : List ℕ) (reading other : Reading) → bytes_at folder path ≡ Some bytes → length bytes ≤ file_limit → ReadsBytes bytes reading → IsReading folder path other → reading ≡ other
small_alone folder path bytes reading is_missing e small reads h = absurd (no_bytes folder path bytes h e)
small_alone folder path bytes reading (is_too_big size) e small reads h = let same = ap length (one_bytes folder path bytes h.0 e h.1) in let big = h.3 in absurd (omega arith)
small_alone folder path bytes reading (has_no_tokens fault) e small reads h =
    one_read bytes reading (has_no_tokens fault) reads (subst (λ bs. IsAnswer bs (Err fault)) (one_bytes folder path h.0 bytes h.1 e) h.3)
small_alone folder path bytes reading (has_no_tree line found) e small reads h =
    one_read bytes reading (has_no_tree line found) reads (h.1, subst (λ bs. AreTokens bs h.1) (one_bytes folder path h.0 bytes h.2 e) h.4, h.5)
small_alone folder path bytes reading (is_file tree) e small reads h =
    one_read bytes reading (is_file tree) reads (h.1, subst (λ bs. AreTokens bs h.1) (one_bytes folder path h.0 bytes h.2 e) h.4, h.5)

pub one_reading : OneReading
one_reading folder path is_missing other a b = missing_alone folder path other a b
one_reading folder path (is_too_big size) other a b = ap is_too_big a.2 ∙ big_alone folder path a.0 other a.1 (subst (λ n. file_limit < n) a.2 a.3) b
one_reading folder path (has_no_tokens fault) other a b = small_alone folder path a.0 (has_no_tokens fault) other a.1 a.2 a.3 b
one_reading folder path (has_no_tree line found) other a b = small_alone folder path a.0 (has_no_tree line found) other a.2 a.3 (a.1, a.4, a.5) b
one_reading folder path (is_file tree) other a b = small_alone folder path a.0 (is_file tree) other a.2 a.3 (a.1, a.4, a.5) b

-- bytes that were read read so as a file
pub file_reads : (folder : Folder) (path : Text) (bytes : List ℕ) (reading : Reading) → bytes_at folder path ≡ Some bytes → ReadsAny bytes reading → IsReading folder path reading
file_reads folder path bytes (is_file tree) e (small, h) = (bytes, h.0, e, small, h.1, h.2)
file_reads folder path bytes (has_no_tree line found) e (small, h) = (bytes, h.0, e, small, h.1, h.2)
file_reads folder path bytes (has_no_tokens fault) e (small, is) = (bytes, e, small, is)
file_reads folder path bytes is_missing e h = absurd h
file_reads folder path bytes (is_too_big size) e (same, big) = (bytes, e, same, big)

-- bytes that are not too many read as they read
pub any_of_short : (bytes : List ℕ) (reading : Reading) → length bytes ≤ file_limit → ReadsBytes bytes reading → ReadsAny bytes reading
any_of_short bytes (is_file tree) small h = (small, h)
any_of_short bytes (has_no_tree line found) small h = (small, h)
any_of_short bytes (has_no_tokens fault) small h = (small, h)
any_of_short bytes is_missing small h = absurd h
any_of_short bytes (is_too_big size) small h = absurd h
