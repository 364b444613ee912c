-- What stands between the members of a condition.
use Rattle.jam_grammar.specs.declared.mark.TokenMark.{TokenMark}
use Rattle.jam_grammar.specs.declared.mark.TokenMark.TheVariants as marks
use Rattle.jam_grammar.specs.Spelling.{Level, WithinOr, WithinAnd}
use Rattle.jam_printer.specs.declared.exprs.Joint.{Joint}
use Rattle.jam_printer.specs.declared.exprs.Joint.TheVariants as joints

-- its mark
abbrev pub joint_mark : Joint → TokenMark
joint_mark joints.Or = marks.Or
joint_mark joints.And = marks.And

-- where its members stand
abbrev pub joint_level : Joint → Level
joint_level joints.Or = WithinOr
joint_level joints.And = WithinAnd
