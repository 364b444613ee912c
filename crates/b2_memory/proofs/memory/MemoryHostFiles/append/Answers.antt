use Rattle.std.proofs.Common.{Some, refl, ap, ◌∙◌, subst}
use Rattle.b2_host.specs.Disks.{Disk}
use Rattle.b2_host.specs.FileCalls.{with_piece}
use Rattle.b2_files.specs.Buffers.{buffers_of, bytes_in}
use Rattle.b2_files.specs.Consistency.{stamp_within}
use Rattle.b2_files.specs.StoreDisks.{told, writes_told}
use Rattle.b2_memory.specs.declared.script.CallKind.TheVariants as kinds
use Rattle.b2_memory.specs.Hosts.{told_outside, memory_of}
use Rattle.b2_memory.specs.Listings.{listed_of}
use Rattle.b2_memory.specs.Memories.{Memory, Writes}
use Rattle.b2_memory.specs.Scripts.{left_of}
use Rattle.b2_memory.proofs.CallsDoWhatHostsPromise.{writes_same, appends_told}
use Rattle.b2_memory.proofs.memory.MemoryHostFiles.append.Goals as goal

pub returns-clause-exact : goal.returns-clause-exact
returns-clause-exact c =
    let host = c.args.self.now in
    let bytes = bytes_in (buffers_of c.add.new.self.contents) c.in_ok-content.content in
    let same = ap (λ (d : Disk). record (memory_of host) { outside = record (told_outside host) { disk = Some d } }) c.add.ensures.disk in
    writes_same kinds.Append c.args.path.now (λ disk. bytes) (with_piece c.args.path.now (left_of kinds.Append c.args.piece.now (listed_of host.script))) (memory_of host) (memory_of c.write.new.self) (told host.store) c.write.result refl
    (c.in_ok-content.ensures.bytes ∙ ap (λ l. with_piece c.args.path.now l (told host.store)) c.left_of-left.ensures)
    (subst (λ (m : Memory). Writes kinds.Append c.args.path.now (λ disk. bytes) m (memory_of c.write.new.self) c.write.result) same c.write.ensures)

pub returns-clause-effect : goal.returns-clause-effect
returns-clause-effect c =
    let host = c.args.self.now in
    let bytes = bytes_in (buffers_of c.add.new.self.contents) c.in_ok-content.content in
    let same = ap (λ (d : Disk). record (memory_of host) { outside = record (told_outside host) { disk = Some d } }) c.add.ensures.disk in
    appends_told c.args.path.now c.args.piece.now (memory_of host) (memory_of c.write.new.self) c.write.result (stamp_within (writes_told host.store)) host.script.covered
    (writes_same kinds.Append c.args.path.now (λ disk. bytes) (with_piece c.args.path.now (left_of kinds.Append c.args.piece.now (listed_of host.script))) (memory_of host) (memory_of c.write.new.self) (told host.store) c.write.result refl
    (c.in_ok-content.ensures.bytes ∙ ap (λ l. with_piece c.args.path.now l (told host.store)) c.left_of-left.ensures)
    (subst (λ (m : Memory). Writes kinds.Append c.args.path.now (λ disk. bytes) m (memory_of c.write.new.self) c.write.result) same c.write.ensures))
