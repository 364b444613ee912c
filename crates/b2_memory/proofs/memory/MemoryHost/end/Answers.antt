use Rattle.std.proofs.Common.{map, remove, Some, ap, sym, ◌∙◌, arith}
use Rattle.std.specs.Option.{option_map}
use Rattle.b2_host.specs.ChildProcesses.{Given}
use Rattle.b2_files.specs.Writes.{all_written}
use Rattle.b2_files.specs.Stores.{all_known}
use Rattle.b2_files.specs.StoreDisks.{told}
use Rattle.b2_files.proofs.KnownPathsStayKnown.{known_stays}
use Rattle.b2_memory.specs.declared.memory_job.MemoryJob.{MemoryJob}
use Rattle.b2_memory.specs.declared.running_child.RunningChild.{RunningChild}
use Rattle.b2_memory.specs.ChildWrites.{writes_of}
use Rattle.b2_memory.specs.Families.{child_with}
use Rattle.b2_memory.specs.Jobs.{given_of}
use Rattle.b2_memory.specs.Memories.{without_child}
use Rattle.b2_memory.specs.Hosts.{memory_of, family_of, running_children, ends_well_of}
use Rattle.b2_memory.specs.GoodEnds.{all_end_well}
use Rattle.b2_memory.proofs.EqualPartsMakeEqualRecords.{same_family, same_memory}
use Rattle.b2_memory.specs.PendingWrites.{promised}
use Rattle.b2_memory.proofs.ChildEnds.{known_take, get_map, map_remove}
use Rattle.b2_memory.proofs.GoodEndsStayGood.{all_without}
use Rattle.b2_memory.proofs.memory.MemoryHost.end.Goals as goal

pub put_all-requires-clause-known : goal.put_all-requires-clause-known
put_all-requires-clause-known c =
    let host = c.args.self.now in
    (known_take host.store.places host.child_table.running.items c.args.place c.take-job.result c.take-job.ensures.child host.known).0

pub invariant_of-self : goal.invariant_of-self
invariant_of-self c =
    let host = c.args.self.now in
    let rest = remove host.child_table.running.items c.args.place in
    let had = host.room in
    let pending = c.take-job.ensures.pending in
    let len = c.put_all.ensures.len in
    let room = c.put_all.ensures.room in
    let known = known_take host.store.places host.child_table.running.items c.args.place c.take-job.result c.take-job.ensures.child host.known in
    record {
      room = omega (arith, had, pending, len, room);
      known = ap (λ rs. all_known c.put_all.new.self.places (promised rs)) c.take-job.ensures.running ∙ known_stays host.store.places c.put_all.new.self.places (promised rest) (λ q k. c.put_all.ensures.known q ∙ k) known.1;
      log_is = host.log_is;
      end_well = λ none. ap all_end_well c.take-job.ensures.running ∙ all_without host.child_table.running.items c.args.place (host.end_well none);
    }

pub returns-clause-ended : goal.returns-clause-ended
returns-clause-ended c =
    let host = c.args.self.now in
    let running = host.child_table.running.items in
    let child = c.take-job.result in
    let table = c.take-job.new.self in
    let given : Given = given_of child.job.value in
    record {
      given = given;
      ran = get_map (λ (r : RunningChild). child_with (given_of r.job.value)) running c.args.place ∙ ap (option_map (λ (r : RunningChild). child_with (given_of r.job.value))) c.take-job.ensures.child;
      step_is = sym (ap (λ (j : MemoryJob). j.step) c.as_ref.ensures);
      ends = get_map (λ (r : RunningChild). r.well) running c.args.place ∙ ap (option_map (λ (r : RunningChild). r.well)) c.take-job.ensures.child;
      after_is = same_memory (memory_of host)
          (Some (told c.put_all.new.self)) (Some (all_written (writes_of given child.well) (told host.store)))
          (family_of table) (without_child c.args.place given child.well (family_of host.child_table))
          (ends_well_of table.running.items) (remove (ends_well_of running) c.args.place)
          (ap Some (c.put_all.ensures.disk ∙ ap (λ ws. all_written ws (told host.store)) child.settled))
          (same_family (running_children table.running.items) (remove (running_children running) c.args.place) table.events.items _ _ _
          (ap running_children c.take-job.ensures.running ∙ map_remove (λ (r : RunningChild). child_with (given_of r.job.value)) running c.args.place)
          c.take-job.ensures.events
          (ap (λ js. Some (map (λ j. given_of j.value) js)) c.take-job.ensures.given))
          (ap ends_well_of c.take-job.ensures.running ∙ map_remove (λ (r : RunningChild). r.well) running c.args.place);
    }
