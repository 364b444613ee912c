-- How each file reads.
use Rattle.std.proofs.Common.{◌≡◌, ℕ, ◌≤◌, ◌<◌, ◌⊎◌, List, Option, Some, None, Result, Ok, Err, option_map, inl, inr, length, refl, ap}
use Rattle.std.proofs.lemmas.Bool.Decides.{leb_tells}
use Rattle.b2_base.specs.declared.token.Token.{Token}
use Rattle.b2_host.specs.Disks.{File, Folder, bytes_at}
use Rattle.jam_lexer.specs.declared.fault.LexFault.{LexFault}
use Rattle.jam_lexer.specs.Answers.{IsAnswer}
use Rattle.jam_lexer.specs.Tokens.{AreTokens}
use Rattle.jam_lexer.proofs.SomeAnswer.{some_answer}
use Rattle.jam_grammar.specs.Grammar.{IsFile}
use Rattle.jam_grammar.specs.Readings.{marks, IsFirstFault}
use Rattle.jam_grammar.proofs.MachineStopsAtFirstFault.{file_or_fault}
use Rattle.jam_grammar.proofs.TreeOfFile.{file_has_tree}
use Rattle.jam_journal.specs.Tables.{Text}
use Rattle.jam_meaning.specs.Settings.{Reading, is_missing, is_too_big, has_no_tokens, has_no_tree, is_file, file_limit, IsReading}

module _ (folder : Folder) (path : Text) where
  read_tokens : (bytes : List ℕ) (tokens : List Token) → bytes_at folder path ≡ Some bytes → length bytes ≤ file_limit → AreTokens bytes tokens
      → IsFile (marks tokens) ⊎ ((line : ℕ) × ((found : List ℕ) × IsFirstFault tokens line found))
      → (reading : Reading) × IsReading folder path reading
  read_tokens bytes tokens at small are (inl file) =
      let read = file_has_tree tokens file in (is_file read.0, (bytes, tokens, at, small, are, read.1))
  read_tokens bytes tokens at small are (inr fault) = (has_no_tree fault.0 fault.1.0, (bytes, tokens, at, small, are, fault.1.1))

  read_bytes : (bytes : List ℕ) (answer : Result (List Token) LexFault) → bytes_at folder path ≡ Some bytes → length bytes ≤ file_limit
      → IsAnswer bytes answer
      → (reading : Reading) × IsReading folder path reading
  read_bytes bytes (Ok tokens) at small is = read_tokens bytes tokens at small is (file_or_fault tokens)
  read_bytes bytes (Err fault) at small is = (has_no_tokens fault, (bytes, at, small, is))

  read_sized : (bytes : List ℕ) → bytes_at folder path ≡ Some bytes → (length bytes ≤ file_limit) ⊎ (file_limit < length bytes)
      → (reading : Reading) × IsReading folder path reading
  read_sized bytes at (inl small) = let answer = some_answer bytes in read_bytes bytes answer.0 at small answer.1
  read_sized bytes at (inr big) = (is_too_big (length bytes), (bytes, at, refl, big))

  read_found : (file : Option File) → folder path ≡ file → (reading : Reading) × IsReading folder path reading
  read_found None is = (is_missing, is)
  read_found (Some file) is = read_sized file.bytes (ap (option_map (λ (f : File). f.bytes)) is) (sized (leb_tells (length file.bytes) file_limit))
    where
      sized : {A B C D : Type 0} → (A × C) ⊎ (B × D) → C ⊎ D
      sized (inl h) = inl h.1
      sized (inr h) = inr h.1

  -- how the file at the path reads, and that it does
  pub reads : (reading : Reading) × IsReading folder path reading
  reads = read_found (folder path) refl
