use Rattle.std.specs.Prelude.{ℕ, ◌==◌, not, List, [], ◌∷◌, ◌++◌, codes, length, filter, fold, take_while, if◌then◌else◌}
use Rattle.std.specs.List.{flat_map, slice_split}
use Rattle.std.specs.Str.{bytes_eq}
use Rattle.std.specs.Ordering.{is_lt, nat_cmp}
use Rattle.std.specs.Cmp.Lexicographic.{slice_cmp}
use Rattle.std.specs.Fmt.{decimal}
use Rattle.b2_base.specs.Bytes.{is_white}
use Rattle.b2_base.specs.Hexadecimals.{hexadecimal}
use Rattle.sha2.specs.Sha256.{sha256}

-- what stands between white space
abbrev pub words_of : List ℕ → List (List ℕ)
words_of text = filter (λ word. not (length word == 0)) (slice_split is_white text)

-- the bytes of the input with that name, the last where several have it, or none
abbrev pub bytes_named : List (List ℕ × List ℕ) → List ℕ → List ℕ
bytes_named held name = fold (λ found input. if bytes_eq input.0 name then input.1 else found) [] held

-- the bytes of the inputs that are named before the first `>`, joined in order
abbrev pub joined : List (List ℕ × List ℕ) → List (List ℕ) → List ℕ
joined held names = flat_map (bytes_named held) (take_while (λ name. not (bytes_eq name (codes ">"))) names)

-- an input as it is digested: its path, its length in decimal and its bytes, the first two ended by a line feed
abbrev pub input_text : List ℕ × List ℕ → List ℕ
input_text input = input.0 ++ (10 ∷ (decimal (length input.1) ++ (10 ∷ input.1)))

-- an input put before the first whose path is not below its own
abbrev pub put_by_path : List ℕ × List ℕ → List (List ℕ × List ℕ) → List (List ℕ × List ℕ)
put_by_path input [] = input ∷ []
put_by_path input (first ∷ more) = if is_lt (slice_cmp nat_cmp first.0 input.0) then first ∷ put_by_path input more else input ∷ first ∷ more

-- the inputs in byte order of their paths; those that have one path keep their order
abbrev pub by_path : List (List ℕ × List ℕ) → List (List ℕ × List ℕ)
by_path [] = []
by_path (input ∷ more) = put_by_path input (by_path more)

-- what is digested: the output's path and the text, each ended by a line feed, and the inputs in byte order of their paths
abbrev pub whole_text : List ℕ → List (List ℕ × List ℕ) → List ℕ → List ℕ
whole_text text held out = out ++ (10 ∷ (text ++ (10 ∷ flat_map input_text (by_path held))))

-- the SHA-256 digest of what is digested, and a line feed
abbrev pub digest_line : List ℕ → List (List ℕ × List ℕ) → List ℕ → List ℕ
digest_line text held out = hexadecimal (sha256 (whole_text text held out)) ++ (10 ∷ [])

-- what the words of a text make: `cat` joins, and all else digests
abbrev pub made_by : List (List ℕ) → List ℕ → List (List ℕ × List ℕ) → List ℕ → List ℕ
made_by [] text held out = digest_line text held out
made_by (first ∷ more) text held out = if bytes_eq first (codes "cat") then joined held more else digest_line text held out

-- what a child in memory makes of the bytes of named inputs, at an output
unfoldable pub made_of : List ℕ → List (List ℕ × List ℕ) → List ℕ → List ℕ
made_of text held out = made_by (words_of text) text held out
