use Rattle.std.specs.Prelude.{ℕ, List, ◌++◌, codes}

-- the path of the unfinished file beside a file
abbrev pub unfinished_path : List ℕ → List ℕ
unfinished_path path = path ++ codes ".b2-unfinished"
