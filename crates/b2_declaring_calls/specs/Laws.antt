-- Words for laws of declarations.
use Rattle.std.specs.Prelude.{◌≡◌, ℕ, List, Some, codes}
use Rattle.b2_declaring_calls.specs.declared.declaration.Declaration.{Declaration}
use Rattle.b2_declaring_calls.specs.declared.declaration.Kind.{Kind}
use Rattle.b2_declaring_calls.specs.declared.declaration.Kind.TheVariants.{Exe, Lib, Obj, Alias, Make, Install}
use Rattle.b2_declaring_calls.specs.Lists.{Texts}
use Rattle.b2_declaring_calls.specs.Declarations.{shape_of}

-- a call declares something
abbrev pub Declares : List ℕ → List Texts → Declaration → Type 0
Declares name lists d = shape_of name lists ≡ Some d

-- the rule that declares main targets of a kind
abbrev pub kind_name : Kind → List ℕ
kind_name Exe = codes "exe"
kind_name Lib = codes "lib"
kind_name Obj = codes "obj"
kind_name Alias = codes "alias"
kind_name Make = codes "make"
kind_name Install = codes "install"
