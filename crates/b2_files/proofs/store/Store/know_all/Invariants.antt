use Rattle.std.proofs.Common.{◌≡◌, ℕ, List, take, IsTrue, vec_len, vec_capacity}
use Rattle.b2_files.specs.Stores.{is_known, all_known}
use Rattle.b2_files.specs.StoreDisks.{told}
use Rattle.b2_files.proofs.store.Store.know_all.Given as goal

-- the paths so far are known, and nothing else is told
abbrev pub invariant-loop-entry : goal.invariant-loop-entry
invariant-loop-entry l = record {
  known : IsTrue (all_known l.self.places (take l.entry-index l.entries));
  stays : (other : List ℕ) → IsTrue (is_known l.fn.self.places other) → IsTrue (is_known l.self.places other);
  disk : told l.self ≡ told l.fn.self;
  contents : l.self.contents ≡ l.fn.self.contents;
  len : vec_len l.self.past ≡ vec_len l.fn.self.past;
  room : vec_capacity l.self.past ≡ vec_capacity l.fn.self.past;
}
