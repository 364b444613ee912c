-- Acts whose sources lose their repeats at the end are those whose sources never had any.
use Rattle.std.proofs.Common.{◌≡◌, Bool, true, false, cond, ◌&&◌, List, [], ◌∷◌, ◌++◌, map, fold, refl, sym, ap, ◌∙◌}
use Rattle.jam_journal.specs.Scopes.{Value}
use Rattle.jam_scope.specs.Worlds.{World}
use Rattle.jam_natives.specs.Texts.{add_new}
use Rattle.jam_graph.specs.declared.graph.Act.{Act}
use Rattle.jam_engine.specs.Acts.{is_together_in, are_alike, once_if, put, joined}
use Rattle.jam_engine.specs.Joining.{put_plainly, plainly_joined}

-- an act whose sources stand once, where its calls are one
abbrev pub once : World → Act → Act
once w a = record a { sources = once_if (is_together_in w a) a.sources }

fold_over : (xs ys found : Value) → fold add_new found (xs ++ ys) ≡ fold add_new (fold add_new found xs) ys
fold_over [] ys found = refl
fold_over (x ∷ xs) ys found = fold_over xs ys (add_new found x)

abbrev with_sources : Act → Value → List Act → List Act
with_sources x sources more = record x { sources = sources } ∷ more

-- an act is put, and then loses its repeats
put_once : (w : World) (xs : List Act) (a : Act) → put w (map (once w) xs) a ≡ map (once w) (put_plainly w xs a)
put_once w [] a = refl
put_once w (x ∷ xs) a = go (is_together_in w x) (are_alike x a) refl (put_once w xs a)
  where
    -- by whether the first act has `together`, and is like the other one
    go : (t s : Bool) → is_together_in w x ≡ t → put w (map (once w) xs) a ≡ map (once w) (put_plainly w xs a)
        → cond (t && s) (record x { sources = fold add_new (once_if t x.sources) a.sources } ∷ map (once w) xs) (record x { sources = once_if t x.sources } ∷ put w (map (once w) xs) a)
        ≡ map (once w) (cond (t && s) (record x { sources = x.sources ++ a.sources } ∷ xs) (x ∷ put_plainly w xs a))
    go true true e h =
        ap (λ (sources : Value). with_sources x sources (map (once w) xs)) (sym (fold_over x.sources a.sources []))
        ∙ sym (ap (λ t. with_sources x (once_if t (x.sources ++ a.sources)) (map (once w) xs)) e)
    go true false e h =
        ap (λ (more : List Act). with_sources x (once_if true x.sources) more) h
        ∙ sym (ap (λ t. with_sources x (once_if t x.sources) (map (once w) (put_plainly w xs a))) e)
    go false s e h =
        ap (λ (more : List Act). with_sources x (once_if false x.sources) more) h
        ∙ sym (ap (λ t. with_sources x (once_if t x.sources) (map (once w) (put_plainly w xs a))) e)

fold_once : (w : World) (acts xs : List Act) → fold (put w) (map (once w) xs) acts ≡ map (once w) (fold (put_plainly w) xs acts)
fold_once w [] xs = refl
fold_once w (a ∷ acts) xs = ap (λ (start : List Act). fold (put w) start acts) (put_once w xs a) ∙ fold_once w acts (put_plainly w xs a)

pub joined_alike : (w : World) (acts : List Act) → joined w acts ≡ map (once w) (plainly_joined w acts)
joined_alike w acts = fold_once w acts []
