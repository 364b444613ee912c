use Rattle.std.specs.Prelude.{ℕ, Bool, List}
use Rattle.b2_host.specs.Disks.{Disk}
use Rattle.b2_files.specs.Buffers.{buffers_of}
use Rattle.b2_files.specs.Stores.{is_known, Write, writes_in, disk_of}
use Rattle.b2_files.specs.declared.store.Store.{Store}

-- all that was written, in order
abbrev pub writes_told : Store → List Write
writes_told store = writes_in (buffers_of store.contents) store.past.items

-- what a store tells
abbrev pub told : Store → Disk
told store = disk_of (writes_told store) store.places

-- the path is known to a store
abbrev pub knows : Store → List ℕ → Bool
knows store path = is_known store.places path
