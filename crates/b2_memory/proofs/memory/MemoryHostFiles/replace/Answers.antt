use Rattle.std.proofs.Common.{refl, ◌∙◌}
use Rattle.b2_files.specs.Buffers.{buffers_of, bytes_in}
use Rattle.b2_files.specs.Consistency.{stamp_within}
use Rattle.b2_files.specs.StoreDisks.{told, writes_told}
use Rattle.b2_memory.specs.declared.script.CallKind.TheVariants as kinds
use Rattle.b2_memory.specs.Hosts.{memory_of}
use Rattle.b2_memory.specs.Listings.{listed_of}
use Rattle.b2_memory.specs.Scripts.{left_of}
use Rattle.b2_memory.proofs.CallsDoWhatHostsPromise.{writes_same, replaces_told}
use Rattle.b2_memory.proofs.memory.MemoryHostFiles.replace.Goals as goal

pub returns-clause-effect : goal.returns-clause-effect
returns-clause-effect c =
    let host = c.args.self.now in
    let buffers = buffers_of host.store.contents in
    replaces_told c.args.path.now c.args.piece.now (memory_of host) (memory_of c.write.new.self) c.write.result (stamp_within (writes_told host.store)) host.script.covered
    (writes_same kinds.Replace c.args.path.now (λ disk. bytes_in buffers c.in_ok-content.content) (λ disk. left_of kinds.Replace c.args.piece.now (listed_of host.script)) (memory_of host) (memory_of c.write.new.self) (told host.store) c.write.result refl
    (c.in_ok-content.ensures.bytes buffers ∙ c.left_of-left.ensures) c.write.ensures)
