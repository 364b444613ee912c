-- The glued text of one more text: the first is written alone, and each further one after the glue.
use Rattle.std.proofs.Common.{◌≡◌, ℕ, ◌<◌, ◌≤◌, ◌+◌, suc, zero, List, [], ◌∷◌, ◌++◌, length, take, get_or, map, refl, ap, sym, ◌∙◌, arith}
use Rattle.std.proofs.lemmas.List.{map-append, append_assoc, take_more}
use Rattle.jam_expand.specs.declared.modifiers.Modifiers.{Modifiers}
use Rattle.jam_expand.specs.Modifiers.{changed, glued_text}

glued_more : (glue first text : List ℕ) (texts : List (List ℕ)) → glued_text glue ((first ∷ texts) ++ text ∷ []) ≡ (glued_text glue (first ∷ texts) ++ glue) ++ text
glued_more glue first text [] = refl
glued_more glue first text (next ∷ texts) =
    ap (λ s. (first ++ glue) ++ s) (glued_more glue next text texts)
    ∙ sym (append_assoc (first ++ glue) (glued_text glue (next ∷ texts) ++ glue) text)
    ∙ ap (λ s. s ++ text) (sym (append_assoc (first ++ glue) (glued_text glue (next ∷ texts)) glue))

-- the next text of a list that has some already
pub glue_next : (glue : List ℕ) (modifiers : Modifiers) (texts : List (List ℕ)) (place : ℕ) (text made : List ℕ) → 0 < place → place < length texts → text ≡ get_or texts place text → made ≡ changed modifiers text
    → (glued_text glue (map (changed modifiers) (take place texts)) ++ glue) ++ made ≡ glued_text glue (map (changed modifiers) (take (place + 1) texts))
glue_next glue modifiers [] place text made above inside here made_is = absurd (omega (arith, inside))
glue_next glue modifiers (first ∷ texts) zero text made above inside here made_is = absurd (omega (arith, above))
glue_next glue modifiers (first ∷ texts) (suc place) text made above inside here made_is =
    sym (glued_more glue (changed modifiers first) made (map (changed modifiers) (take place texts)))
    ∙ ap (glued_text glue)
    (ap (λ s. map (changed modifiers) (take (suc place) (first ∷ texts)) ++ s ∷ []) (made_is ∙ ap (changed modifiers) here)
    ∙ sym (map-append (changed modifiers) (take (suc place) (first ∷ texts)) (get_or (first ∷ texts) (suc place) text ∷ []))
    ∙ ap (map (changed modifiers)) (sym (take_more (first ∷ texts) (suc place) text inside)))

-- the first text
pub glue_first : (glue : List ℕ) (modifiers : Modifiers) (texts : List (List ℕ)) (place : ℕ) (text made : List ℕ) → place ≤ 0 → place < length texts → text ≡ get_or texts place text → made ≡ changed modifiers text
    → glued_text glue (map (changed modifiers) (take place texts)) ++ made ≡ glued_text glue (map (changed modifiers) (take (place + 1) texts))
glue_first glue modifiers [] place text made above inside here made_is = absurd (omega (arith, inside))
glue_first glue modifiers (first ∷ texts) zero text made above inside here made_is = made_is ∙ ap (changed modifiers) here
glue_first glue modifiers (first ∷ texts) (suc place) text made above inside here made_is = absurd (omega (arith, above))
