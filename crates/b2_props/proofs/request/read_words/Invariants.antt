use Rattle.std.proofs.Common.{◌≡◌, None, take}
use Rattle.b2_props.specs.Words.{first_of, target_words, word_fault}
use Rattle.b2_props.specs.Requests.{request_ways}
use Rattle.b2_props.specs.Ways.{ways_in, IsPlaced}
use Rattle.b2_props.proofs.request.read_words.Given as goal

-- the words so far are read
abbrev pub invariant-loop-place : goal.invariant-loop-place
invariant-loop-place l = record {
  targets : l.targets ≡ target_words l.registry (take l.place l.words);
  ways : ways_in l.ways ≡ request_ways l.registry (take l.place l.words);
  placed : IsPlaced l.ways;
  fine : first_of (word_fault l.registry) (take l.place l.words) ≡ None;
}
