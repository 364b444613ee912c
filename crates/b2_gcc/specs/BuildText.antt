-- The build text of the gcc toolset.
use Prim.Native.String.{String}
use Rattle.std.specs.Prelude.{ℕ, List, [], ◌∷◌, ◌++◌, Option, unwrap_or, codes}
use Rattle.std.specs.List.{flat_map}
use Rattle.jam_spelling.specs.Spelling.{spelling}
use Rattle.jam_spelling.specs.LexemeLists.{word}

-- some lines, each ended by a line feed, 10
abbrev pub lines : List String → List ℕ
lines texts = flat_map (λ line. codes line ++ 10 ∷ []) texts

-- what stands before the command
unfoldable pub before_command : List ℕ
before_command =
    lines (
    "module gcc"
    ∷ "{"
    ∷ [])
    ++ codes "    COMMAND = "

-- what stands after the command
unfoldable pub after_command : List ℕ
after_command =
    lines (
    " ;"
    ∷ "    rule flags ( p * )"
    ∷ "    {"
    ∷ "        local f ;"
    ∷ "        if <optimization>off in $(p) { f += -O0 ; }"
    ∷ "        if <optimization>speed in $(p) { f += -O3 ; }"
    ∷ "        if <optimization>space in $(p) { f += -Os ; }"
    ∷ "        if <inlining>off in $(p) { f += -fno-inline ; }"
    ∷ "        if <debug-symbols>on in $(p) { f += -g ; }"
    ∷ "        if <link>shared in $(p) { f += -fPIC ; }"
    ∷ "        if <threading>multi in $(p) { f += -pthread ; }"
    ∷ "        if <warnings>all in $(p) { f += -Wall ; }"
    ∷ "        if <warnings>off in $(p) { f += -w ; }"
    ∷ "        return $(f) ;"
    ∷ "    }"
    ∷ "    rule compile ( t + : p * : own * )"
    ∷ "    {"
    ∷ "        OPTIONS on $(t) = [ flags $(p) ] $(own) ;"
    ∷ "        DEFINES on $(t) = [ feature.get-values <define> : $(p) ] ;"
    ∷ "        DIRS on $(t) = [ feature.get-values <include> : $(p) ] ;"
    ∷ "    }"
    ∷ "    rule compile.c++ ( t + : s + : p * )"
    ∷ "    {"
    ∷ "        compile $(t) : $(p) : [ feature.get-values <cxxflags> : $(p) ] ;"
    ∷ "    }"
    ∷ "    rule compile.c ( t + : s + : p * )"
    ∷ "    {"
    ∷ "        compile $(t) : $(p) : [ feature.get-values <cflags> : $(p) ] ;"
    ∷ "    }"
    ∷ "    rule link ( t + : s * : p * )"
    ∷ "    {"
    ∷ "        OPTIONS on $(t) = [ feature.get-values <linkflags> : $(p) ] ;"
    ∷ "        if <threading>multi in $(p) { OPTIONS on $(t) += -pthread ; }"
    ∷ "        if <runtime-link>static in $(p) { OPTIONS on $(t) += -static ; }"
    ∷ "    }"
    ∷ "    rule link.dll ( t + : s * : p * )"
    ∷ "    {"
    ∷ "        OPTIONS on $(t) = [ feature.get-values <linkflags> : $(p) ] ;"
    ∷ "        if <threading>multi in $(p) { OPTIONS on $(t) += -pthread ; }"
    ∷ "    }"
    ∷ "    actions compile.c++ { $(COMMAND) $(OPTIONS) -D$(DEFINES) -I\"$(DIRS)\" -c -o \"$(<)\" \"$(>)\" }"
    ∷ "    actions compile.c { $(COMMAND) -x c $(OPTIONS) -D$(DEFINES) -I\"$(DIRS)\" -c -o \"$(<)\" \"$(>)\" }"
    ∷ "    actions link { $(COMMAND) -o \"$(<)\" \"$(>)\" $(OPTIONS) }"
    ∷ "    actions link.dll { $(COMMAND) -shared -o \"$(<)\" \"$(>)\" $(OPTIONS) }"
    ∷ "    actions archive { rm -f \"$(<)\" && ar rcD \"$(<)\" \"$(>)\" }"
    ∷ "}"
    ∷ [])

-- the command of a toolset that may name one
abbrev pub command_in : Option (List ℕ) → List ℕ
command_in command = unwrap_or command (codes "g++")

-- the text with a command; where the command would not be read as one word, it stands in quotes
abbrev pub gcc_text : List ℕ → List ℕ
gcc_text command = before_command ++ spelling (word command) ++ after_command
