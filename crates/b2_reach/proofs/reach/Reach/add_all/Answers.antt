use Rattle.std.proofs.Common.{inl, inr, subst, get_or}
use Rattle.std.specs.List.{Contains}
use Rattle.std.proofs.lemmas.List.Elements.{Contains-get_or}
use Rattle.b2_reach.proofs.MembersAreAdded.{adds_one, added_there, added_stays, changes_then, taken_more}
use Rattle.b2_reach.proofs.reach.Reach.add_all.Goals as goal

pub loop-number-preserved : goal.loop-number-preserved
loop-number-preserved c =
    let i = c.loop-number.number-index in
    let numbers = c.args.numbers.now in
    let number = get_or numbers i 0 in
    let before = c.args.self.now.members in
    let mid = c.loop-number.self.members in
    let after = c.add.new.self.members in
    let was = c.loop-number.invariant in
    let one = c.in_ok-add.ensures.adds in
    record {
      same = changes_then c.args.self.now c.loop-number.self c.add.new.self was.same c.add.ensures.same;
      adds = adds_one (Contains numbers) number before mid after (Contains-get_or numbers i 0 c.loop-number-test.true) one was.adds;
      whole = λ n among. elim (taken_more numbers i 0 n c.loop-number-test.true among) [
        | inl old ↦ added_stays number mid after one n (was.whole n old)
        | inr e ↦ subst (Contains after) e (added_there number mid after one)
      ];
      marked = c.in_ok-add.ensures.marked;
    }
