use Rattle.std.proofs.Common.{◌≡◌, ◌∙◌, [], Some, Ok, Err, sym, ap, subst}
use Rattle.std.proofs.lemmas.Result.{err_from_is_err_and}
use Rattle.b2_sched.specs.Schedules.{IsSettled}
use Rattle.b2_facts.specs.declared.file_facts.FileFacts.{FileFacts}
use Rattle.b2_facts.specs.Facts.{file_at}
use Rattle.b2_reach.specs.declared.due.Due.TheVariants as dues
use Rattle.b2_reach.specs.Dues.{IsDue}
use Rattle.b2_reach.specs.Steps.{AreMarked, Takes}
use Rattle.b2_reach.specs.Sightings.{LearnsMore}
use Rattle.b2_reach.proofs.ReachGrows.{has_file, number_grows, list_grows}
use Rattle.b2_reach.proofs.MembersComeIn.{hand_of_maker}
use Rattle.b2_reach.proofs.EachMemberIsTaken.{look_stopped, took_other, took_read, read_stopped}
use Rattle.b2_reach.proofs.reach.Reach.take.Goals as goal

pub look-requires-clause-number : goal.look-requires-clause-number
look-requires-clause-number g c = c.requires.in_order.numbered c.args.number c.requires.member

pub returns-in_err-look : goal.returns-in_err-look
returns-in_err-look g c =
    let (y, e, q) = err_from_is_err_and c.from_residual.result c.from_residual.ensures.1 in
    let settled = IsSettled c.args.sched.now in
    let stop = c.in_err-look.field-0.0 in
    let before = g.F.Files.outside c.args.files.now in
    let after = g.F.Files.outside c.look.new.files in
    subst (Takes c.args.notes c.args.plan.now settled c.args.number c.args.self.now c.args.sights.now before c.args.self.now c.look.new.sights after) (sym (e ∙ ap Err q))
    (look_stopped c.args.plan.now settled c.args.number c.args.self.now c.args.sights.now before c.requires.about c.requires.in_order c.requires.member c.look.new.sights after stop (c.in_err-look.ensures.grows c.args.notes))

pub take_in-requires-clause-list : goal.take_in-requires-clause-list
take_in-requires-clause-list g c = list_grows c.args.sights.now.facts c.look.new.sights.facts c.args.self.now.list (c.look.ensures.grows c.args.notes).learns.grows c.requires.in_order.listed

pub take_in-requires-clause-number : goal.take_in-requires-clause-number
take_in-requires-clause-number g c = number_grows c.args.sights.now.facts c.look.new.sights.facts c.args.number (c.look.ensures.grows c.args.notes).learns.grows (c.requires.in_order.numbered c.args.number c.requires.member)

pub take_in-requires-clause-known : goal.take_in-requires-clause-known
take_in-requires-clause-known g c =
    let plan = c.args.plan.now in
    let settled = IsSettled c.args.sched.now in
    let r = c.args.self.now in
    let s = c.args.sights.now in
    let t = c.look.new.sights in
    let before = g.F.Files.outside c.args.files.now in
    let mid = g.F.Files.outside c.look.new.files in
    let looked = subst (λ d. LearnsMore c.args.notes plan.steps plan.roots settled [] s before t mid (Ok d)) c.in-Read.is (c.in_ok-look.ensures.grows c.args.notes) in
    let due = subst (λ d. (file : FileFacts) → file_at t.facts c.args.number ≡ Some file → IsDue plan.steps settled file d) c.in-Read.is c.in_ok-look.ensures.due in
    let (file, at) = has_file plan.steps plan.roots t.facts c.args.number (looked.learns.about c.requires.about) (number_grows s.facts t.facts c.args.number looked.learns.grows (c.requires.in_order.numbered c.args.number c.requires.member)) in
    (file, at, (due file at).0)

pub take_in-requires-clause-at_hand : goal.take_in-requires-clause-at_hand
take_in-requires-clause-at_hand g c file at =
    let plan = c.args.plan.now in
    let settled = IsSettled c.args.sched.now in
    let r = c.args.self.now in
    let s = c.args.sights.now in
    let t = c.look.new.sights in
    let before = g.F.Files.outside c.args.files.now in
    let mid = g.F.Files.outside c.look.new.files in
    let looked = subst (λ d. LearnsMore c.args.notes plan.steps plan.roots settled [] s before t mid (Ok d)) c.in-Read.is (c.in_ok-look.ensures.grows c.args.notes) in
    let due = subst (λ d. (file : FileFacts) → file_at t.facts c.args.number ≡ Some file → IsDue plan.steps settled file d) c.in-Read.is c.in_ok-look.ensures.due in
    hand_of_maker plan.steps settled t.facts c.args.number file at (due file at).1

pub take_in-requires-clause-marked : goal.take_in-requires-clause-marked
take_in-requires-clause-marked g c = subst (λ m. AreMarked m c.args.self.now.members) (sym c.look.ensures.marks) c.requires.marked

pub returns-in_err-take_in-in-Read : goal.returns-in_err-take_in-in-Read
returns-in_err-take_in-in-Read g c =
    let (y, e, q) = err_from_is_err_and c.from_residual-in_err-take_in-in-Read.result c.from_residual-in_err-take_in-in-Read.ensures.1 in
    let plan = c.args.plan.now in
    let settled = IsSettled c.args.sched.now in
    let r = c.args.self.now in
    let s = c.args.sights.now in
    let t = c.look.new.sights in
    let before = g.F.Files.outside c.args.files.now in
    let mid = g.F.Files.outside c.look.new.files in
    let looked = subst (λ d. LearnsMore c.args.notes plan.steps plan.roots settled [] s before t mid (Ok d)) c.in-Read.is (c.in_ok-look.ensures.grows c.args.notes) in
    let due = subst (λ d. (file : FileFacts) → file_at t.facts c.args.number ≡ Some file → IsDue plan.steps settled file d) c.in-Read.is c.in_ok-look.ensures.due in
    let after = g.F.Files.outside c.take_in.new.files in
    let stop = c.in_err-take_in-in-Read.field-0.0 in
    subst (Takes c.args.notes plan settled c.args.number r s before c.take_in.new.self c.take_in.new.sights after) (sym (e ∙ ap Err q))
    (read_stopped plan settled c.args.number r s before c.requires.about c.requires.in_order c.requires.member t mid looked due c.take_in.new.self c.take_in.new.sights after c.take_in.ensures.same c.take_in.ensures.adds stop c.in_err-take_in-in-Read.ensures.grows)

pub returns-in_ok-take_in-in-Read : goal.returns-in_ok-take_in-in-Read
returns-in_ok-take_in-in-Read g c =
    let plan = c.args.plan.now in
    let settled = IsSettled c.args.sched.now in
    let r = c.args.self.now in
    let s = c.args.sights.now in
    let t = c.look.new.sights in
    let before = g.F.Files.outside c.args.files.now in
    let mid = g.F.Files.outside c.look.new.files in
    let looked = subst (λ d. LearnsMore c.args.notes plan.steps plan.roots settled [] s before t mid (Ok d)) c.in-Read.is (c.in_ok-look.ensures.grows c.args.notes) in
    let due = subst (λ d. (file : FileFacts) → file_at t.facts c.args.number ≡ Some file → IsDue plan.steps settled file d) c.in-Read.is c.in_ok-look.ensures.due in
    let after = g.F.Files.outside c.take_in.new.files in
    let done = c.in_ok-take_in-in-Read.ensures in
    took_read plan settled c.args.number r s before c.requires.about c.requires.in_order c.requires.member t mid looked due c.take_in.new.self c.take_in.new.sights after done.same done.adds tt done.grows done.done done.marked

pub returns-in-Nothing : goal.returns-in-Nothing
returns-in-Nothing g c =
    let plan = c.args.plan.now in
    let settled = IsSettled c.args.sched.now in
    let r = c.args.self.now in
    let s = c.args.sights.now in
    let t = c.look.new.sights in
    let before = g.F.Files.outside c.args.files.now in
    let mid = g.F.Files.outside c.look.new.files in
    let looked = subst (λ d. LearnsMore c.args.notes plan.steps plan.roots settled [] s before t mid (Ok d)) c.in-Nothing.is (c.in_ok-look.ensures.grows c.args.notes) in
    let due = subst (λ d. (file : FileFacts) → file_at t.facts c.args.number ≡ Some file → IsDue plan.steps settled file d) c.in-Nothing.is c.in_ok-look.ensures.due in
    took_other plan settled c.args.number r s before c.requires.about c.requires.in_order c.requires.member t mid dues.Nothing (λ e. let f : dues.Nothing ≡ dues.Read = e in cc) looked due (subst (λ m. AreMarked m r.members) (sym c.look.ensures.marks) c.requires.marked)

pub returns-in-Lack : goal.returns-in-Lack
returns-in-Lack g c =
    let plan = c.args.plan.now in
    let settled = IsSettled c.args.sched.now in
    let r = c.args.self.now in
    let s = c.args.sights.now in
    let t = c.look.new.sights in
    let before = g.F.Files.outside c.args.files.now in
    let mid = g.F.Files.outside c.look.new.files in
    let looked = subst (λ d. LearnsMore c.args.notes plan.steps plan.roots settled [] s before t mid (Ok d)) c.in-Lack.is (c.in_ok-look.ensures.grows c.args.notes) in
    let due = subst (λ d. (file : FileFacts) → file_at t.facts c.args.number ≡ Some file → IsDue plan.steps settled file d) c.in-Lack.is c.in_ok-look.ensures.due in
    took_other plan settled c.args.number r s before c.requires.about c.requires.in_order c.requires.member t mid dues.Lack (λ e. let f : dues.Lack ≡ dues.Read = e in cc) looked due (subst (λ m. AreMarked m r.members) (sym c.look.ensures.marks) c.requires.marked)

pub returns-in-Wait : goal.returns-in-Wait
returns-in-Wait g c =
    let plan = c.args.plan.now in
    let settled = IsSettled c.args.sched.now in
    let r = c.args.self.now in
    let s = c.args.sights.now in
    let t = c.look.new.sights in
    let before = g.F.Files.outside c.args.files.now in
    let mid = g.F.Files.outside c.look.new.files in
    let looked = subst (λ d. LearnsMore c.args.notes plan.steps plan.roots settled [] s before t mid (Ok d)) c.in-Wait.is (c.in_ok-look.ensures.grows c.args.notes) in
    let due = subst (λ d. (file : FileFacts) → file_at t.facts c.args.number ≡ Some file → IsDue plan.steps settled file d) c.in-Wait.is c.in_ok-look.ensures.due in
    took_other plan settled c.args.number r s before c.requires.about c.requires.in_order c.requires.member t mid dues.Wait (λ e. let f : dues.Wait ≡ dues.Read = e in cc) looked due (subst (λ m. AreMarked m r.members) (sym c.look.ensures.marks) c.requires.marked)
