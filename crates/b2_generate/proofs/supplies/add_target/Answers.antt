use Rattle.std.proofs.Common.{◌++◌, ◌∷◌, [], map, reverse, Some, ap, sym, subst, ◌∙◌}
use Rattle.std.specs.Prelude.{OnOk}
use Rattle.std.specs.Option.{option_copied}
use Rattle.std.proofs.lemmas.Result.{on_ok_weaker}
use Rattle.b2_alternatives.specs.DependencyWork.{AreKnown}
use Rattle.b2_generate.specs.Nodes.{entry_in}
use Rattle.b2_generate.proofs.SupplyGathersPartByPart.{gathers_seen, gathers_bare, gathers_given}
use Rattle.b2_generate.proofs.supplies.add_target.Goals as goal

pub returns-then-has : goal.returns-then-has
returns-then-has c = gathers_seen c.args.types.now.types (map (entry_in (reverse c.args.nodes.now)) c.args.frame.now.done) c.args.name.now c.args.gathered.now (sym c.has.ensures ∙ c.if-has.true)

pub returns-in-None : goal.returns-in-None
returns-in-None c =
    gathers_bare c.args.types.now.types (map (entry_in (reverse c.args.nodes.now)) c.args.frame.now.done) c.args.name.now c.args.gathered.now (record { made = c.args.gathered.now.made; seen = c.add.new.self })
    (sym c.has.ensures ∙ c.if-has.false)
    (λ names known. subst (λ r. OnOk r (AreKnown (names ++ c.args.name.now ∷ []) c.add.new.self)) c.in_ok-add.was (c.add.ensures names known)) (λ i. c.args.gathered.now.made)
    (sym (ap option_copied c.in-None.is) ∙ c.given.ensures)

pub returns-in_ok-copy-in-Some : goal.returns-in_ok-copy-in-Some
returns-in_ok-copy-in-Some c =
    on_ok_weaker c.push.result
    (λ made. gathers_given c.args.types.now.types (map (entry_in (reverse c.args.nodes.now)) c.args.frame.now.done) c.args.name.now c.args.gathered.now (record { made = c.push.new.self; seen = c.add.new.self })
    c.in_ok-copy-in-Some.field-0 (sym c.has.ensures ∙ c.if-has.false)
    (λ names known. subst (λ r. OnOk r (AreKnown (names ++ c.args.name.now ∷ []) c.add.new.self)) c.in_ok-add.was (c.add.ensures names known)) made
    (ap Some c.in_ok-copy-in-Some.ensures ∙ sym (ap option_copied c.in-Some.is) ∙ c.given.ensures))
    c.push.ensures.ok
