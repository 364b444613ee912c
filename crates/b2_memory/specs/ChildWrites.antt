use Rattle.std.specs.Prelude.{ℕ, Bool, true, false, List, [], ◌∷◌, ◌++◌, codes, map, take}
use Rattle.b2_host.specs.ChildProcesses.{Given}
use Rattle.b2_memory.specs.Results.{made_of}

-- What a child in memory writes by its end: one that ends well, what its text makes at each output; one that ends badly,
-- `torn` and a line feed at its first output.
abbrev pub writes_of : Given → Bool → List (List ℕ × List ℕ)
writes_of given true = map (λ out. (out, made_of given.text given.held out)) given.outs
writes_of given false = map (λ out. (out, codes "torn" ++ 10 ∷ [])) (take 1 given.outs)
