use Rattle.std.proofs.Common.{length, ◌≡◌, ℕ, ◌+◌, ◌≤◌, List, map, IsTrue, vec_len, vec_capacity}
use Rattle.b2_files.specs.Writes.{all_written}
use Rattle.b2_files.specs.Stores.{is_known, all_known, write_of}
use Rattle.b2_files.specs.StoreDisks.{told}
use Rattle.b2_files.proofs.store.Store.put_all.Given as goal

-- the entries that are left have room, and their paths are known
abbrev pub invariant-loop-entry : goal.invariant-loop-entry
invariant-loop-entry l = record {
  known : IsTrue (all_known l.self.places l.entry-iterator.rest.items);
  disk : all_written (map write_of l.entry-iterator.rest.items) (told l.self) ≡ all_written (map write_of l.fn.entries.items) (told l.fn.self);
  same : (other : List ℕ) → is_known l.self.places other ≡ is_known l.fn.self.places other;
  len : vec_len l.self.past + length l.entry-iterator.rest.items ≡ vec_len l.fn.self.past + vec_len l.fn.entries;
  fits : vec_len l.self.past + length l.entry-iterator.rest.items ≤ vec_capacity l.self.past;
  room : vec_capacity l.self.past ≡ vec_capacity l.fn.self.past;
}
