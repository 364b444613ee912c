-- What evaluation is given and never changes.
use Rattle.std.specs.Prelude.{◌≡◌, ◌↔◌, ℕ, ◌<◌, ◌≤◌, Bool, IsTrue, List, length, Option, Some, None, Err}
use Rattle.std.specs.Str.{chars}
use Rattle.b2_base.specs.declared.token.Token.{Token}
use Rattle.b2_host.specs.Disks.{Folder, bytes_at}
use Rattle.b2_host.specs.Listings.{IsListed}
use Rattle.jam_path.specs.Patterns.{Match}
use Rattle.jam_patterns.specs.declared.native_fault.NativeFault.{NativeFault}
use Rattle.jam_lexer.specs.declared.fault.LexFault.{LexFault}
use Rattle.jam_lexer.specs.Tokens.{AreTokens}
use Rattle.jam_lexer.specs.Answers.{IsAnswer}
use Rattle.jam_grammar.specs.Trees.{StmtTrees}
use Rattle.jam_grammar.specs.Readings.{ReadsTree, IsFirstFault}
use Rattle.jam_journal.specs.Tables.{Text}
use Rattle.jam_journal.specs.Scopes.{Value}
use Rattle.jam_scope.specs.Worlds.{Worlds}
use Rattle.jam_meaning.specs.declared.native_answer.NativeStep.{NativeStep}

-- what is seen of the outside: the files, the names of the files directly in a directory, and which patterns match which texts
pub record Sight : Type 0 where
  pub folder : Folder
  pub names : Text → List Text
  pub matching : Text → Text → Bool

-- this test is the matching of patterns
abbrev pub IsMatching : (Text → Text → Bool) → Type 0
IsMatching matching = (pattern text : Text) → IsTrue (matching pattern text) ↔ Match (chars pattern) (chars text)

-- it says of files and patterns what is so
pub record IsSight (sight : Sight) : Type 0 where
  pub lists : (dir : Text) → IsListed sight.folder dir (sight.names dir)
  pub matches : IsMatching sight.matching

-- why a native rule has no step
pub data NativeCause : Type 0 where
  of_native : NativeFault → NativeCause
  of_arity : NativeCause

-- what a native rule answers, or what the recording of a call answers, with the worlds and what the natives keep after it
pub data Told (A R : Type 0) : Type 0 where
  answers : A → Worlds → R → Told A R
  refuses : NativeCause → Worlds → R → Told A R

-- What natives mean. `call` is asked for each call that no rule answers, by name, lists, line, what is seen of the outside, and
-- the pattern that is refused in this call although it reads as one; `acted` for each call of a name that has actions, and tells
-- whether it recorded the call.
pub record Meaning (R : Type 0) : Type 0 where
  pub call : Text → List Value → ℕ → Sight → Option Text → Worlds → R → Told NativeStep R
  pub acted : Text → List Value → ℕ → Worlds → R → Told Bool R

-- what reading a file gives
pub data Reading : Type 0 where
  is_missing : Reading
  is_too_big : ℕ → Reading
  has_no_tokens : LexFault → Reading
  has_no_tree : ℕ → Text → Reading
  is_file : StmtTrees → Reading

-- the most bytes of a file
abbrev pub file_limit : ℕ
file_limit = 1048576

-- the file at a path reads so
abbrev pub IsReading : Folder → Text → Reading → Type 0
IsReading folder path is_missing = folder path ≡ None
IsReading folder path (is_too_big size) = (bytes : List ℕ) × (bytes_at folder path ≡ Some bytes) × (size ≡ length bytes) × (file_limit < size)
IsReading folder path (has_no_tokens fault) = (bytes : List ℕ) × (bytes_at folder path ≡ Some bytes) × (length bytes ≤ file_limit) × IsAnswer bytes (Err fault)
IsReading folder path (has_no_tree line found) =
    (bytes : List ℕ) × (tokens : List Token) × (bytes_at folder path ≡ Some bytes) × (length bytes ≤ file_limit) × AreTokens bytes tokens × IsFirstFault tokens line found
IsReading folder path (is_file tree) =
    (bytes : List ℕ) × (tokens : List Token) × (bytes_at folder path ≡ Some bytes) × (length bytes ≤ file_limit) × AreTokens bytes tokens × ReadsTree tokens tree

-- the turns that there were before any was taken, which the fault Turns names; what natives mean; what is seen of the outside;
-- how each file reads; and the call that has a pattern which is refused although it reads as one, by the turns left in it, with
-- that pattern
pub record Setting (R : Type 0) : Type 0 where
  pub budget : ℕ
  pub natives : Meaning R
  pub sight : Sight
  pub reading : Text → Reading
  pub refused : Option (ℕ × Text)

-- the setting says of files and patterns what is so
pub record IsSetting {R : Type 0} (setting : Setting R) : Type 0 where
  pub sees : IsSight setting.sight
  pub reads : (path : Text) → IsReading setting.sight.folder path (setting.reading path)
