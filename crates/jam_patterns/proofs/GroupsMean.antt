-- What the answer means, from what a search of `regex` means.
use Rattle.std.proofs.Common.{◌≡◌, ℕ, List, Option, Some, None, IsSome, IsSomeAnd, option_map, refl, sym, arith, true≢false}
use Rattle.std.proofs.lemmas.Option.{none-some, same_Some}
use Rattle.regex_syntax.specs.Grammar.{Names}
use Rattle.regex.specs.Patterns.{Re, Match, find_str}
use Rattle.regex.proofs.ForCallers.{find_str_sound, find_str_complete}
use Rattle.jam_patterns.specs.Pattern.{Pattern, pattern_of}
use Rattle.jam_patterns.specs.Groups.{texts_of, first_groups, groups_of}
use Rattle.jam_patterns.specs.Meaning.{HasNoMatch, IsLeftmost}

gone : (o : Option Match) → IsSome o → o ≡ None → ⊥
gone None h e = true≢false (sym h)
gone (Some m) h e = none-some m (sym e)

none_mapped : {A B : Type 0} (f : A → B) (o : Option A) → option_map f o ≡ None → o ≡ None
none_mapped f None e = refl
none_mapped f (Some x) e = absurd (none-some (f x) (sym e))

pub none_means : (source text : List ℕ) → groups_of source text ≡ Some None → IsSomeAnd (pattern_of source) (λ pattern. HasNoMatch pattern.re text)
none_means source text e = go (pattern_of source) e
  where
    go : (o : Option Pattern) → option_map (λ (p : Pattern). first_groups p.re p.names text) o ≡ Some None → IsSomeAnd o (λ p. HasNoMatch p.re text)
    go None h = absurd (none-some _ h)
    go (Some p) h = λ i j cut matches.
        gone _ (find_str_complete p.re text 0 i j (omega arith) cut matches) (none_mapped (texts_of text p.names) _ (same_Some _ _ h))

pub groups_mean : (source text : List ℕ) (found : List (List ℕ)) → groups_of source text ≡ Some (Some found) →
    IsSomeAnd (pattern_of source) (λ pattern. (m : Match)
    × IsLeftmost pattern.re text m.start m.trace.end × (found ≡ texts_of text pattern.names m))
groups_mean source text found e = go (pattern_of source) e
  where
    first : (re : Re) (names : Names) (o : Option Match) → find_str re text 0 ≡ o → option_map (texts_of text names) o ≡ Some found →
        (m : Match) × IsLeftmost re text m.start m.trace.end × (found ≡ texts_of text names m)
    first re names None s h = absurd (none-some found h)
    first re names (Some m) s h =
        let sound = find_str_sound re text 0 m s in
        (m, record { matches = sound.1; leftmost = λ i j. sound.2 i j (omega arith) }, sym (same_Some _ _ h))

    go : (o : Option Pattern) → option_map (λ (p : Pattern). first_groups p.re p.names text) o ≡ Some (Some found) →
        IsSomeAnd o (λ p. (m : Match) × IsLeftmost p.re text m.start m.trace.end × (found ≡ texts_of text p.names m))
    go None h = absurd (none-some _ h)
    go (Some p) h = first p.re p.names (find_str p.re text 0) refl (same_Some _ _ h)
