-- What a list meets is one list.
use Rattle.std.proofs.Common.{◌≡◌, ◌∷◌, ◌++◌, refl, sym, ◌∙◌, ap, ap₂, subst}
use Rattle.std.specs.Prelude.{filter, Bool}
use Rattle.std.proofs.lemmas.Bool.{true≢false}
use Rattle.jam_journal.specs.Tables.{Text}
use Rattle.jam_journal.specs.Scopes.{Value}
use Rattle.jam_graph.specs.declared.graph.Graph.{Graph}
use Rattle.jam_engine.specs.Spreads.{Meets, none, again, first, counts, Spreads}

pub met_once : (g : Graph) (seen list a b : Value) → Meets g seen list a → Meets g seen list b → a ≡ b
met_once g seen list a b none none = refl
met_once g seen list a b (again h m) (again k n) = met_once g _ _ _ _ m n
met_once g seen list a b (again h m) (first k x y) = absurd (true≢false (sym h ∙ k))
met_once g seen list a b (first h x y) (again k n) = absurd (true≢false (sym k ∙ h))
met_once g seen list a b (first {more = more} {below = p} {others = q} {target = t} h x y) (first {below = r} {others = s} k v w) =
    let e : p ≡ r = met_once g _ _ _ _ x v in
    ap₂ (λ (u o : Value). t ∷ u ++ o) e (met_once g _ _ _ _ (subst (λ (u : Value). Meets g (u ++ t ∷ seen) more q) e y) w)

pub spread_once : (g : Graph) (stands : Text → Bool) (list a b : Value) → Spreads g stands list a → Spreads g stands list b → a ≡ b
spread_once g stands list a b one other = one.counted ∙ ap (filter (counts g stands)) (met_once g _ _ _ _ one.meets other.meets) ∙ sym other.counted
