-- From what `regex` ensures to the grammar's reading of the pattern.
use Rattle.std.proofs.Common.{◌≡◌, ◌≢◌, ℕ, zero, suc, ◌-◌, ◌+◌, ◌*◌, ◌<◌, ◌≤◌, true, false, nat_le, cond, List, ◌∷◌, map, length, get_or, Option, None, Some, IsSomeAnd, IfSome, is_some, option_map, refl, sym, ap, ap₂, ◌∙◌, ⊎_elim, arith, le-leb, true≢false}
use Rattle.std.proofs.lemmas.Bool.Decides.{nat_tests}
use Rattle.std.specs.Option.{option_and_then}
use Rattle.std.specs.List.{range_with_len}
use Rattle.std.specs.Str.{chars}
use Rattle.regex_syntax.specs.Brackets.{Nested}
use Rattle.regex_syntax.specs.Grammar.{Names, read}
use Rattle.regex_syntax.specs.declared.error.ErrorKind.{ErrorKind}
use Rattle.regex_syntax.specs.declared.error.ErrorKind.TheVariants as kind
use Rattle.regex.specs.Patterns.{Re, Match, SameCaptures, find_str, slot_of, default_config, Reads, Refuses}
use Rattle.regex.specs.Writes.{group_of, both}
use Rattle.regex.specs.Strings.{regex_pattern, regex_source, regex_config, regex_names, IsReadFromSource, IsCapturesOf}
use Rattle.regex.specs.Failures.{IsPattern}
use Rattle.regex.specs.declared.string.regex.Regex.{Regex}
use Rattle.regex.specs.declared.string.captures.Captures.{Captures}
use Rattle.regex.proofs.ForCallers.{found_alike, is_match_alike}
use Rattle.jam_patterns.specs.Pattern.{Pattern, not_too_deep, is_pattern}
use Rattle.jam_patterns.specs.Groups.{part, texts_of, first_groups, groups_of}
use Rattle.jam_patterns.specs.Captured.{captured_first}

abbrev Reading : Type 0
Reading = Nested Re × Names

-- ---- what is a pattern

abbrev pattern_in : Reading → Pattern
pattern_in x = record { re = x.0.value; names = x.1 }

not_deep : (x : Reading) → x.0.depth ≤ 250 → not_too_deep x ≡ Some (pattern_in x)
not_deep x h = ap (λ b. cond b (Some (pattern_in x)) None) (le-leb _ _ h)

past_limit : (n : ℕ) → 250 < n → nat_le n 250 ≡ false
past_limit n h = grind (arith, nat_tests)

deep : (x : Reading) → 250 < x.0.depth → not_too_deep x ≡ None
deep x h = ap (λ b. cond b (Some (pattern_in x)) None) (past_limit _ h)

some_read : (o : Option Reading) (P : Reading → Type 0) → ((x : Reading) → P x → x.0.depth ≤ 250) → IsSomeAnd o P →
    is_some (option_and_then not_too_deep o) ≡ true
some_read None P f h = absurd h
some_read (Some x) P f h = ap is_some (not_deep x (f x h))

none_read : (o : Option Reading) → o ≡ None → is_some (option_and_then not_too_deep o) ≡ false
none_read o e = ap (λ r. is_some (option_and_then not_too_deep r)) e

deep_read : (o : Option Reading) → IfSome o (λ (re, _). 250 < re.depth) → is_some (option_and_then not_too_deep o) ≡ false
deep_read None h = refl
deep_read (Some x) h = ap is_some (deep x h)

-- what the grammar reads is a pattern
pub is_pattern-read : (source : List ℕ) → IsPattern default_config source → is_pattern source ≡ true
unfolding Reads
is_pattern-read source h = some_read (read default_config (chars source)) _ (λ x p. p.0) h.2

-- what is refused for its syntax is none
pub is_pattern-refused : (source : List ℕ) (k : ErrorKind) → Refuses default_config source k → k ≢ kind.OutOfMemory → is_pattern source ≡ false
unfolding Refuses
is_pattern-refused source k h other =
    ⊎_elim (λ e. absurd (other e)) (λ rest. ⊎_elim (λ e. none_read _ e) (λ d. deep_read _ d.1) rest) h

-- ---- the groups

same_parts : {f g : ℕ → List ℕ} → ((n : ℕ) → 1 ≤ n → f n ≡ g n) → (count a : ℕ) → 1 ≤ a →
    map f (range_with_len a count) ≡ map g (range_with_len a count)
same_parts h zero a low = refl
same_parts h (suc count) a low = ap₂ ◌∷◌ (h a low) (same_parts h count (a + 1) (omega arith))

-- the captures of a match hold its groups
pub captured_groups : (c : Captures) (text : List ℕ) (m : Match) (count : ℕ) → IsCapturesOf text m c →
    captured_first c count ≡ map (λ n. part text (group_of m n)) (range_with_len 1 count)
captured_groups c text m count h = same_parts (λ n low. ap₂ part h.0 (h.2 n low)) count 1 (omega arith)

same_group : (m n : Match) → slot_of m ≡ slot_of n → (k : ℕ) → group_of m k ≡ group_of n k
same_group m n e k = ap (λ (f : ℕ → Option ℕ). both (f (2 * k)) (f (2 * k + 1))) e

-- expressions with the same captures have the same groups
alike_groups : (a b : Re) (names : Names) (text : List ℕ) → SameCaptures a b → ((k : ℕ) → get_or text k 0 < 256) →
    first_groups a names text ≡ first_groups b names text
alike_groups a b names text same bytes = go (find_str a text 0) refl
  where
    none_of : (o : Option Match) → is_some o ≡ false → o ≡ None
    none_of None h = refl
    none_of (Some m) h = absurd (true≢false h)

    go : (o : Option Match) → find_str a text 0 ≡ o → option_map (texts_of text names) o ≡ first_groups b names text
    go None e =
        let gone : find_str b text 0 ≡ None = none_of _ (sym (is_match_alike same text bytes true 0) ∙ ap is_some e) in
        sym (ap (option_map (texts_of text names)) gone)
    go (Some m) e =
        let there = found_alike same text bytes true 0 m e in
        ap Some (same_parts (λ n low. ap (part text) (same_group m there.0 (sym there.2) n)) (length names - 1) 1 (omega arith))
        ∙ sym (ap (option_map (texts_of text names)) there.1)

-- a compiled expression and its names that are as the grammar reads the text
abbrev IsReadAs : Re → Names → Reading → Type 0
IsReadAs re names (nested, found) = (nested.depth ≤ 250) × SameCaptures re nested.value × (names ≡ found)

read_as : (o : Option Reading) (re : Re) (names : Names) (text : List ℕ) → ((k : ℕ) → get_or text k 0 < 256) →
    IsSomeAnd o (IsReadAs re names) →
    option_map (λ p. first_groups p.re p.names text) (option_and_then not_too_deep o) ≡ Some (first_groups re names text)
read_as None re names text bytes h = absurd h
read_as (Some x) re names text bytes h =
    ap (option_map (λ (p : Pattern). first_groups p.re p.names text)) (not_deep x h.0)
    ∙ ap Some (sym (alike_groups re x.0.value x.1 text h.1 bytes) ∙ ap (λ ns. first_groups re ns text) (sym h.2))

weaker : {A : Type 0} (o : Option A) (P Q : A → Type 0) → ((x : A) → P x → Q x) → IsSomeAnd o P → IsSomeAnd o Q
weaker None P Q f h = absurd h
weaker (Some x) P Q f h = f x h

-- the groups of a compiled pattern are those of the text from which it is compiled
pub groups_of_compiled : (r : Regex) (source text : List ℕ) → regex_source r ≡ source → regex_config r ≡ default_config →
    IsReadFromSource r → ((k : ℕ) → get_or text k 0 < 256) →
    groups_of source text ≡ Some (first_groups (regex_pattern r) (regex_names r) text)
unfolding Reads
groups_of_compiled r source text is_source is_config is_read bytes =
    let reads : Reads default_config source r.pattern.program.hir (regex_names r) = rw (is_source, is_config) at is_read in
    let o : Option Reading = read default_config (chars source) in
    let as_read : IsSomeAnd o (IsReadAs (regex_pattern r) (regex_names r)) =
    weaker o _ (IsReadAs (regex_pattern r) (regex_names r)) (λ x h. (h.0, h.1, h.2)) reads in
    read_as o (regex_pattern r) (regex_names r) text bytes as_read
