use Rattle.std.proofs.Common.{◌≡◌, ℕ, ◌<◌, ◌+◌, List, [], ◌∷◌, ◌++◌, length, Some, get_or, take, sym, ap, subst, ◌∙◌}
use Rattle.std.specs.List.{AllZip}
use Rattle.std.proofs.lemmas.List.{take_more}
use Rattle.std.proofs.lemmas.Slice.Zip.{all_zipped_more}
use Rattle.b2_facts.specs.Facts.{Knowledge, path_at}
use Rattle.b2_update.proofs.starting.paths_of.Goals as goal

-- one path more
one_more : (f : Knowledge) (numbers : List ℕ) (paths later : List (List ℕ)) (i : ℕ) (path : List ℕ) → i < length numbers → path_at f (get_or numbers i 0) ≡ Some path → later ≡ paths ++ path ∷ []
    → AllZip (λ n p. path_at f n ≡ Some p) (take i numbers) paths → AllZip (λ n p. path_at f n ≡ Some p) (take (i + 1) numbers) later
one_more f numbers paths later i path low named pushed so =
    let R : ℕ → List ℕ → Type 0 = λ n p. path_at f n ≡ Some p in
    subst (AllZip R (take (i + 1) numbers)) (sym pushed) (subst (λ ns. AllZip R ns (paths ++ path ∷ [])) (sym (take_more numbers i 0 low)) (all_zipped_more R (take i numbers) paths (get_or numbers i 0) path so named))

pub loop-number-preserved : goal.loop-number-preserved
loop-number-preserved c =
    one_more c.args.facts.now c.args.numbers.now c.loop-number.paths.items c.push.new.self.items c.loop-number.number-index c.in_ok-copy.field-0 c.loop-number-test.true (c.path.ensures ∙ ap Some (sym c.in_ok-copy.ensures)) c.in_ok-push.ensures.items c.loop-number.invariant
