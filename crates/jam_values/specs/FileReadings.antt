-- How files read, by their bytes.
use Rattle.std.specs.Prelude.{◌≡◌, ◌≤◌, ◌<◌, ◌⊎◌, ℕ, List, length, Result, Ok, Err}
use Rattle.b2_base.specs.declared.token.Token.{Token}
use Rattle.b2_host.specs.declared.fault.IoFault.{IoFault}
use Rattle.b2_host.specs.declared.fault.IoFault.TheVariants as io
use Rattle.b2_host.specs.Disks.{Folder}
use Rattle.b2_host.specs.Outside.{Outside, Fails}
use Rattle.b2_host.specs.FileCalls.{after_read}
use Rattle.jam_grammar.specs.Trees.{whole_tree}
use Rattle.jam_grammar.specs.Readings.{ReadsTree, IsFirstFault}
use Rattle.jam_lexer.specs.Tokens.{AreTokens}
use Rattle.jam_lexer.specs.Answers.{IsAnswer}
use Rattle.jam_journal.specs.Tables.{Text}
use Rattle.jam_meaning.specs.Settings.{Reading, is_missing, is_too_big, has_no_tokens, has_no_tree, is_file, file_limit, IsReading}
use Rattle.jam_values.specs.declared.files.FileReading.{FileReading}
use Rattle.jam_values.specs.declared.files.FileReading.TheVariants as files

abbrev pub reading_of : FileReading → Reading
reading_of files.Missing = is_missing
reading_of (files.TooBig size) = is_too_big size
reading_of (files.NoTokens fault) = has_no_tokens fault
reading_of (files.NoTree line found) = has_no_tree line found
reading_of (files.File tree) = is_file (whole_tree tree)

-- tokens read so
abbrev pub ReadsTokens : List Token → Reading → Type 0
ReadsTokens tokens (is_file tree) = ReadsTree tokens tree
ReadsTokens tokens (has_no_tree line found) = IsFirstFault tokens line found
ReadsTokens tokens _ = ⊥

-- bytes read so
abbrev pub ReadsBytes : List ℕ → Reading → Type 0
ReadsBytes bytes (is_file tree) = (tokens : List Token) × AreTokens bytes tokens × ReadsTree tokens tree
ReadsBytes bytes (has_no_tree line found) = (tokens : List Token) × AreTokens bytes tokens × IsFirstFault tokens line found
ReadsBytes bytes (has_no_tokens fault) = IsAnswer bytes (Err fault)
ReadsBytes bytes _ = ⊥

-- the bytes of a file read so
abbrev pub ReadsAny : List ℕ → Reading → Type 0
ReadsAny bytes (is_file tree) = (length bytes ≤ file_limit) × ReadsBytes bytes (is_file tree)
ReadsAny bytes (has_no_tree line found) = (length bytes ≤ file_limit) × ReadsBytes bytes (has_no_tree line found)
ReadsAny bytes (has_no_tokens fault) = (length bytes ≤ file_limit) × ReadsBytes bytes (has_no_tokens fault)
ReadsAny bytes (is_too_big size) = (size ≡ length bytes) × (file_limit < size)
ReadsAny bytes is_missing = ⊥

-- a file is read once, or not at all; where it is out of memory, either may be
abbrev pub ReadsOnce : {T : Type 0} → Text → Outside → Outside → Result T IoFault → Type 0
ReadsOnce path before after (Ok x) = after ≡ after_read path before
ReadsOnce path before after (Err io.Failed) = Fails before after
ReadsOnce path before after (Err io.OutOfMemory) = (after ≡ before) ⊎ (after ≡ after_read path before)

-- a file reads in one way
abbrev pub OneReading : Type 0
OneReading = (folder : Folder) (path : Text) (reading other : Reading) → IsReading folder path reading → IsReading folder path other → reading ≡ other
