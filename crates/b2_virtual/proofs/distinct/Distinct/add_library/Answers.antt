use Rattle.std.proofs.Common.{◌≡◌, ◌∙◌, List, sym, subst}
use Rattle.std.specs.Result.{OnOk}
use Rattle.b2_virtual.specs.declared.entry.Entry.{Entry}
use Rattle.b2_virtual.proofs.RepeatsAreLeftOut.{library_yes, library_no}
use Rattle.b2_virtual.proofs.distinct.Distinct.add_library.Goals as goal

pub returns-then-not-is_library : goal.returns-then-not-is_library
returns-then-not-is_library c =
    record { entries = library_no c.args.self.now.entries c.args.entry.now (sym c.is_library.ensures ∙ c.if-not-is_library.true); paths = c.requires }

pub returns : goal.returns
returns c =
    record {
      entries =
          subst (λ (es : List Entry). OnOk c.add.result (c.add.new.self.entries ≡ es)) (library_yes c.args.self.now.entries c.args.entry.now (sym c.is_library.ensures ∙ c.if-not-is_library.false)) c.add.ensures.entries;
      paths = c.add.ensures.paths;
    }
