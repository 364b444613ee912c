use Rattle.std.proofs.Common.{◌≡◌, ◌∙◌, ◌++◌, ◌-◌, ◌∷◌, [], ℕ, ◌+◌, List, length, reverse, map, ap, ap₂, sym, arith}
use Rattle.std.specs.Borrow.{Bor}
use Rattle.std.specs.Option.{option_map_or}
use Rattle.std.proofs.lemmas.List.{append-nil, map-append, reverse-reverse}
use Rattle.b2_declared.specs.declared.place.Place.{Place}
use Rattle.b2_references.specs.Names.{lineage, lineage_in}
use Rattle.b2_references.proofs.LoopsTakeOneMore.{above_next, above_ends, above_none}
use Rattle.b2_references.proofs.index.Index.ancestors.Goals as goal

pub loop-turn-init : goal.loop-turn-init
unfolding lineage
loop-turn-init c =
    let all : c.as_slice-places.result.now ≡ c.args.self.now.places = c.as_slice-places.ensures ∙ ap (λ d. d.places) c.declared.ensures in
    let whole : length c.as_slice-places.result.now - 0 ≡ length c.as_slice-places.result.now = omega arith in
    ap (λ (ms : List (Bor Place)). lineage_in (length c.as_slice-places.result.now - 0) c.as_slice-places.result.now c.args.project ++ reverse (map (λ (p : Bor Place). p.now) ms)) c.new-made.ensures.items
    ∙ append-nil (lineage_in (length c.as_slice-places.result.now - 0) c.as_slice-places.result.now c.args.project) ∙ ap (λ n. lineage_in n c.as_slice-places.result.now c.args.project) whole ∙ ap (λ ps. lineage_in (length ps) ps c.args.project) all

pub returns-in-None : goal.returns-in-None
returns-in-None c =
    let below = map (λ (p : Bor Place). p.now) c.loop-turn.made.items in
    let places = c.as_slice-places.result.now in
    sym (reverse-reverse below) ∙ ap reverse (sym (ap (λ xs. xs ++ reverse below) (above_ends places (length places - c.loop-turn.turn) c.loop-turn.next (sym c.in-None.ensures))) ∙ c.loop-turn.invariant)

pub returns : goal.returns
returns c =
    let below = map (λ (p : Bor Place). p.now) c.loop-turn.made.items in
    let places = c.as_slice-places.result.now in
    sym (reverse-reverse below) ∙ ap reverse (sym (ap (λ xs. xs ++ reverse below) (above_none places (length places - c.loop-turn.turn) c.loop-turn.next (omega (arith, c.loop-turn-test.false)))) ∙ c.loop-turn.invariant)

pub loop-turn-preserved : goal.loop-turn-preserved
loop-turn-preserved c =
    let made = c.loop-turn.made.items in
    let below = map (λ (p : Bor Place). p.now) made in
    let places = c.as_slice-places.result.now in
    let place = c.in-Some.place in
    let turns = length places - c.loop-turn.turn in
    let fewer : length places - (c.loop-turn.turn + 1) ≡ turns - 1 = omega arith in
    let grown : map (λ (p : Bor Place). p.now) c.push.new.self.items ≡ below ++ place.now ∷ [] = ap (map (λ (p : Bor Place). p.now)) c.in_ok-push-in-Some.ensures.items ∙ map-append (λ (p : Bor Place). p.now) made (place ∷ []) in
    ap₂ (λ (n : ℕ) (xs : List Place). option_map_or (lineage_in n places) place.now.parent [] ++ reverse xs) fewer grown
    ∙ above_next places turns c.loop-turn.next place.now below (omega (arith, c.loop-turn-test.true)) c.in-Some.ensures ∙ c.loop-turn.invariant
