use Rattle.std.proofs.Common.{◌≡◌, ℕ, true, List, [], ◌∷◌, refl, sym, subst, ◌∙◌, Option, Some, None, map, option_map}
use Rattle.std.specs.List.{Contains}
use Rattle.b2_host.specs.declared.children.ChildEvent.{ChildEvent}
use Rattle.b2_host.specs.declared.children.ChildEvent.TheVariants.{Start}
use Rattle.b2_host.specs.Disks.{File, Folder, bytes_at}
use Rattle.b2_host.specs.ChildProcesses.{Child, read_at, read_all}
use Rattle.b2_plan.specs.Plans.{Apart, Makes, step_at}
use Rattle.b2_plan.specs.Closures.{Value, with_bytes}
use Rattle.b2_runs.specs.Staleness.{Update, IsFresh, path_in}
use Rattle.b2_runs.specs.Runs.{Settled, Settled.source, Settled.done_well, Settled.fresh, CanStart, IsRunSoFar}
use Rattle.b2_runs.specs.Soundness.{IsAtWork}
use Rattle.b2_runs.specs.ChildLaws.{StartGivesClosure, StartMayBegin}
use Rattle.b2_runs.proofs.FirstElementOrLater.{Contains_here, Contains_there}
use Rattle.b2_runs.proofs.NumberHasOneStep.{one_step}
use Rattle.b2_runs.proofs.SameByStamp.{with_bytes_in, path_in_back}
use Rattle.b2_runs.proofs.OutputsAreClean.{settled_holds}
use Rattle.b2_runs.proofs.SettledStays.{closure_on_settled, open_not_settled, same_members}
use Rattle.b2_runs.proofs.RunGoesOn.{started_has_closure, done_was_started}

read_some : (path bytes : List ℕ) (o : Option File) → option_map (λ file. file.bytes) o ≡ Some bytes → option_map {U = List ℕ × List ℕ} (λ file. (path, file.bytes)) o ≡ Some (path, bytes)
read_some path bytes None e = absurd (let f : None ≡ Some bytes = e in cc)
read_some path bytes (Some file) e = let f : file.bytes ≡ bytes = (let g : Some file.bytes ≡ Some bytes = e in cc) in (λ i. Some (path, f i))

-- what is read of inputs that stand with their bytes
read_same : (now : Folder) (inputs : List (List ℕ × List ℕ)) → ((path bytes : List ℕ) → Contains inputs (path, bytes) → bytes_at now path ≡ Some bytes) → read_all now (map path_in inputs) ≡ inputs
read_same now [] hold = refl
read_same now (w ∷ ws) hold =
    let rest : read_all now (map path_in ws) ≡ ws = read_same now ws (λ p b c. hold p b (Contains_there w (p, b) ws c)) in
    let one : read_at now w.0 ≡ Some w = read_some w.0 w.1 (now w.0) (hold w.0 w.1 (Contains_here w ws)) in
    rw one (λ i. w ∷ rest i)

-- the child of a step that can start is given its closure
pub start_gives_closure : StartGivesClosure
start_gives_closure u events disk i can apart sound =
    let (closure, inside) = (closure_on_settled u events can.step can.members apart).0 can.closure in
    record {
      step = can.step;
      at = can.at;
      members = can.members;
      closure = closure;
      step_is = refl;
      text = refl;
      ins = refl;
      outs = refl;
      held = read_same disk.now (with_bytes can.members) (λ path bytes c.
          let m = with_bytes_in can.members path bytes c in
          settled_holds u events disk apart sound path (Some bytes) (inside path (Some bytes) m) (closure.each path (Some bytes) m).1);
    }

-- the members of an open step's closure are settled
pub open_inside : (u : Update) (events : List ChildEvent) → Apart u.build.steps u.build.roots → IsRunSoFar u events → (child : Child) → (a : IsAtWork u events child) → (member : List ℕ) (value : Value) → Contains a.given_closure.members (member, value) → Settled u events member
open_inside u events apart run child a m y c =
    let (others, on) = started_has_closure u events child.step a.given_closure.step apart run a.is_open.0 a.given_closure.at in
    let (close_other, inside) = (closure_on_settled u events a.given_closure.step others apart).0 on in
    inside m y (subst (λ ms. Contains ms (m, y)) (same_members u apart child.step a.given_closure.step a.given_closure.step a.given_closure.at a.given_closure.at a.given_closure.members others a.given_closure.closure close_other) c)

-- an output of a step that can start is not settled
can_not_settled : (u : Update) (events : List ChildEvent) → Apart u.build.steps u.build.roots → IsRunSoFar u events → (i : ℕ) (can : CanStart u events i) (path : List ℕ) → Contains can.step.outs path → Settled u events path → ⊥
can_not_settled u events apart run i can path c settled = go path settled refl
  where
    makes : Makes u.build.steps i can.step path
    makes = record { at = can.at; among = c }

    go : (p : List ℕ) → Settled u events p → p ≡ path → ⊥
    go p (source q bytes s) e = s.outside (apart.under_root i can.step q (subst (Makes u.build.steps i can.step) (sym e) makes))
    go p (done_well k s q makes_k done) e =
        can.not_started (subst (λ j. Contains events (Start j)) (apart.one_maker k i s can.step q makes_k (subst (Makes u.build.steps i can.step) (sym e) makes)) (done_was_started u events k true run done))
    go p (fresh k s q members makes_k not_started closure inside f) e =
        let same_number : k ≡ i = apart.one_maker k i s can.step q makes_k (subst (Makes u.build.steps i can.step) (sym e) makes) in
        let at : step_at u.build.steps i ≡ Some s = subst (λ n. step_at u.build.steps n ≡ Some s) same_number makes_k.at in
        let same : s ≡ can.step = one_step u.build.steps i s can.step at can.at in
        let one : members ≡ can.members = same_members u apart i s can.step at can.at members can.members closure ((closure_on_settled u events can.step can.members apart).0 can.closure).0 in
        can.stale (subst (λ ms. IsFresh u events can.step ms) one (subst (λ z. IsFresh u events z members) same f))

-- a step that can start reads and writes nothing that children at work write, and writes nothing that they read
pub start_may_begin : StartMayBegin
start_may_begin u events running i can apart run at_work = record {
  outs_ins = λ child c path out read.
      let a = at_work.each child c in
      let (bytes, named) = path_in_back (with_bytes a.given_closure.members) path (subst (λ l. Contains l path) (a.ins ∙ a.given_closure.ins) read) in
      can_not_settled u events apart run i can path out (open_inside u events apart run child a path (Some bytes) (with_bytes_in a.given_closure.members path bytes named));
  outs_outs = λ child c path out written.
      let a = at_work.each child c in
      let e = apart.one_maker i child.step can.step a.given_closure.step path (record { at = can.at; among = out }) (record { at = a.given_closure.at; among = subst (λ l. Contains l path) (a.outs ∙ a.given_closure.outs) written }) in
      can.not_started (subst (λ j. Contains events (Start j)) (sym e) a.is_open.0);
  ins_outs = λ child c path read written.
      let a = at_work.each child c in
      let (bytes, named) = path_in_back (with_bytes can.members) path read in
      let (closure, inside) = (closure_on_settled u events can.step can.members apart).0 can.closure in
      open_not_settled u events apart child.step a.is_open a.given_closure.step path (record { at = a.given_closure.at; among = subst (λ l. Contains l path) (a.outs ∙ a.given_closure.outs) written })
      (inside path (Some bytes) (with_bytes_in can.members path bytes named));
}
