-- The build text of the rules that run tests.
use Rattle.std.specs.Prelude.{ℕ, List, [], ◌∷◌}
use Rattle.b2_gcc.specs.BuildText.{lines}

-- the text; it is read as a file with this path
unfoldable pub testing_text : List ℕ
testing_text =
    lines (
    "module gcc { rule command { return $(COMMAND) ; } }"
    ∷ "module testing"
    ∷ "{"
    ∷ "    rule compile-fail ( t + : s + : p * )"
    ∷ "    {"
    ∷ "        gcc.compile.c++ $(t) : $(s) : $(p) ;"
    ∷ "        COMMAND on $(t) = [ gcc.command ] ;"
    ∷ "    }"
    ∷ "    actions pass { echo passed > \"$(<)\" }"
    ∷ "    actions compile-fail { if $(COMMAND) $(OPTIONS) -D$(DEFINES) -I\"$(DIRS)\" -fsyntax-only \"$(>)\" ; then exit 1 ; else echo passed > \"$(<)\" ; fi }"
    ∷ "    actions run { \"./$(>)\" > /dev/null 2>&1 && echo passed > \"$(<)\" }"
    ∷ "    actions run-fail { if \"./$(>)\" > /dev/null 2>&1 ; then exit 1 ; else echo passed > \"$(<)\" ; fi }"
    ∷ "}"
    ∷ [])
