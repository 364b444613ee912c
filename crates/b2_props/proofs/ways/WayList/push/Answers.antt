use Rattle.std.proofs.Common.{◌≡◌, ◌∙◌, ◌++◌, ◌∷◌, [], Some, None, refl, sym, ap, List, ℕ, Option, map}
use Rattle.std.specs.FinMap.{get}
use Rattle.std.proofs.lemmas.List.{map-append, length-map}
use Rattle.b2_props.specs.Ways.{ways_of, ways_in}
use Rattle.b2_props.proofs.WaysJoinFirstOfKey.{placed_plain, placed_keyed}
use Rattle.b2_props.proofs.ways.WayList.push.Goals as goal
use Rattle.b2_props.proofs.ways.WayList.push.Goals.{in-Some+in_ok-copy+in_ok-_before, in_default}

nothing : (o : Option (List ℕ)) → ((x : List ℕ) → o ≡ Some x → ⊥) → o ≡ None
nothing None e = refl
nothing (Some x) e = absurd (e x refl)

pub returns-clause-placed : goal.returns-clause-placed
returns-clause-placed c =
    let old = c.args.self.now in
    let news = map ways_of c.push.new.self.items in
    elim c.match-factor.branch [
      | in-Some+in_ok-copy+in_ok-_before w ↦
          let is : news ≡ ways_in old ++ ways_of c.args.factor ∷ [] = ap (map ways_of) (c.in_ok-push.ensures.items ∙ ap (λ s. s.factors.items ++ c.args.factor ∷ []) w.self-is) ∙ map-append ways_of old.factors.items (c.args.factor ∷ []) in
          record {
            places = λ q.
                ap (λ s. get s.places q) w.self-is ∙ ap (λ m. get m q) w.in_ok-_before.ensures.ok
                ∙ placed_keyed old news (ways_of c.args.factor) w.in_ok-copy.field-0 w.len.result is (w.in-Some.is ∙ ap Some (sym w.in_ok-copy.ensures)) (w.len.ensures ∙ old.factors.ok.0 ∙ sym (length-map old.factors.items ways_of)) c.requires.absent c.requires.placed q;
          }
      | in_default w ↦
          let is : news ≡ ways_in old ++ ways_of c.args.factor ∷ [] = ap (map ways_of) (c.in_ok-push.ensures.items ∙ ap (λ s. s.factors.items ++ c.args.factor ∷ []) w.self-is) ∙ map-append ways_of old.factors.items (c.args.factor ∷ []) in
          record { places = λ q. ap (λ s. get s.places q) w.self-is ∙ placed_plain old news (ways_of c.args.factor) is (nothing c.args.factor.key w.in_default.not-Some) c.requires.placed q }
    ]
