use Rattle.std.proofs.Common.{◌≡◌, ◌∙◌, ℕ, List, [], ◌∷◌, Some, Ok, Err, inl, inr, sym, ap, subst}
use Rattle.std.specs.List.{Contains}
use Rattle.std.proofs.lemmas.Result.{err_from_is_err_and}
use Rattle.b2_facts.specs.declared.stop.FilesStop.TheVariants as stops
use Rattle.b2_facts.specs.declared.file_facts.FileFacts.{FileFacts}
use Rattle.b2_facts.specs.Facts.{Knowledge, file_at}
use Rattle.b2_reach.specs.declared.sights.Sights.{Sights}
use Rattle.b2_reach.specs.Files.{IsMakerOf}
use Rattle.b2_reach.specs.Reaches.{IsTarget}
use Rattle.b2_reach.specs.Steps.{AreMarked, Adds, IsFoundWithin}
use Rattle.b2_reach.specs.Sightings.{LearnsMore, IsFoundOrGone}
use Rattle.b2_reach.proofs.GrowthComposes.{grows_err_as, grows_stop, grows_marks}
use Rattle.b2_reach.proofs.MembersAreAdded.{adds_none}
use Rattle.b2_reach.proofs.reach.Reach.take_in.Goals as goal

-- what was found is within the members
found_within : (f : Knowledge) (list : ℕ) (members : List ℕ) (n : ℕ) (file : FileFacts) → ((m : ℕ) → IsTarget f list n m → Contains members m) → IsFoundOrGone f list n file → IsFoundWithin f list members n file
found_within f list members n file whole (inl at) = inl (at.0, at.1, λ m among. whole m (record { targets = at.0; found = at.1; among = among }))
found_within f list members n file whole (inr gone) = inr gone

pub returns-in_err-read-clause-adds : goal.returns-in_err-read-clause-adds
returns-in_err-read-clause-adds g c = adds_none (IsTarget c.read.new.self.facts c.args.self.now.list c.args.number) c.args.self.now.members

pub returns-in_err-read-clause-grows : goal.returns-in_err-read-clause-grows
returns-in_err-read-clause-grows g c =
    let (y, e, q) = err_from_is_err_and c.from_residual.result c.from_residual.ensures.1 in
    grows_err_as {T = Unit {0}} c.in_err-read.field-0.0 c.from_residual.result (e ∙ ap Err q) c.in_err-read.ensures.grows

pub add_found-requires : goal.add_found-requires
add_found-requires g c = subst (λ m. AreMarked m c.args.self.now.members) (sym c.read.ensures.marks) c.requires.marked

pub returns-in_err-add_found-clause-adds : goal.returns-in_err-add_found-clause-adds
returns-in_err-add_found-clause-adds g c =
    subst (λ (w : Sights). Adds (IsTarget w.facts c.args.self.now.list c.args.number) c.args.self.now.members c.add_found.new.self.members) (sym c.add_found.ensures.sights) c.add_found.ensures.adds

pub returns-in_err-add_found-clause-grows : goal.returns-in_err-add_found-clause-grows
returns-in_err-add_found-clause-grows g c =
    let (y, e, q) = err_from_is_err_and c.from_residual-in_err-add_found.result c.from_residual-in_err-add_found.ensures.1 in
    let steps = c.args.plan.now.steps in
    let roots = c.args.plan.now.roots in
    let s = c.args.sights.now in
    let maker = IsMakerOf s.facts c.args.number in
    let before = g.F.Files.outside c.args.files.now in
    let after = g.F.Files.outside c.read.new.files in
    subst (λ w. LearnsMore {T = Unit {0}} c.args.notes steps roots maker (c.args.number ∷ []) s before w after c.from_residual-in_err-add_found.result) (sym c.add_found.ensures.sights)
    (grows_err_as {T = Unit {0}} stops.OutOfMemory c.from_residual-in_err-add_found.result (e ∙ ap Err q)
    (grows_marks {T = Unit {0}} steps roots maker (c.args.number ∷ []) s c.read.new.self before after (Err stops.OutOfMemory) c.add_found.new.sights.marks (grows_stop {S = Unit {0}} tt c.in_ok-read.ensures.grows)))

pub returns-clause-adds : goal.returns-clause-adds
returns-clause-adds g c =
    subst (λ (w : Sights). Adds (IsTarget w.facts c.args.self.now.list c.args.number) c.args.self.now.members c.add_found.new.self.members) (sym c.add_found.ensures.sights) c.add_found.ensures.adds

pub returns-clause-done : goal.returns-clause-done
returns-clause-done g c =
    let list = c.args.self.now.list in
    let members = c.add_found.new.self.members in
    let number = c.args.number in
    subst (λ (w : Sights). (file : FileFacts) → file_at w.facts number ≡ Some file → IsFoundWithin w.facts list members number file) (sym c.add_found.ensures.sights)
    (λ file at. found_within c.read.new.self.facts list members number file c.in_ok-add_found.ensures.whole (c.in_ok-read.ensures.found file at))

pub returns-clause-grows : goal.returns-clause-grows
returns-clause-grows g c =
    let steps = c.args.plan.now.steps in
    let roots = c.args.plan.now.roots in
    let s = c.args.sights.now in
    let maker = IsMakerOf s.facts c.args.number in
    let before = g.F.Files.outside c.args.files.now in
    let after = g.F.Files.outside c.read.new.files in
    subst (λ w. LearnsMore {T = Unit {0}} c.args.notes steps roots maker (c.args.number ∷ []) s before w after (Ok tt)) (sym c.add_found.ensures.sights)
    (grows_marks steps roots maker (c.args.number ∷ []) s c.read.new.self before after (Ok tt) c.add_found.new.sights.marks c.in_ok-read.ensures.grows)
