-- A test that passes for each mark in turn holds of any mark, and marks of one number are equal; for case tables.
use Rattle.std.proofs.Common.{◌≡◌, ℕ, ◌==◌, Bool, true, false, if◌then◌else◌, refl, sym, ap, ◌∙◌, arith}
use Rattle.jam_grammar.specs.declared.mark.TokenMark.{TokenMark}
use Rattle.jam_grammar.specs.declared.mark.TokenMark.TheVariants as m
use Rattle.jam_grammar.specs.Marks.{number, same_mark}

-- the mark of a number
abbrev mark_at : ℕ → TokenMark
mark_at n =
    if n == 0 then m.Plain
    else if n == 1 then m.Query
    else if n == 2 then m.Star
    else if n == 3 then m.Plus
    else if n == 4 then m.Together
    else if n == 5 then m.Existing
    else if n == 6 then m.Quietly
    else if n == 7 then m.Body
    else if n == 8 then m.Semicolon
    else if n == 9 then m.Colon
    else if n == 10 then m.BraceOpen
    else if n == 11 then m.BraceClose
    else if n == 12 then m.SquareOpen
    else if n == 13 then m.SquareClose
    else if n == 14 then m.ParenOpen
    else if n == 15 then m.ParenClose
    else if n == 16 then m.Equals
    else if n == 17 then m.PlusEquals
    else if n == 18 then m.QueryEquals
    else if n == 19 then m.NotEquals
    else if n == 20 then m.Not
    else if n == 21 then m.And
    else if n == 22 then m.Or
    else if n == 23 then m.Actions
    else if n == 24 then m.Case
    else if n == 25 then m.Else
    else if n == 26 then m.For
    else if n == 27 then m.If
    else if n == 28 then m.In
    else if n == 29 then m.Include
    else if n == 30 then m.Local
    else if n == 31 then m.Module
    else if n == 32 then m.On
    else if n == 33 then m.Return
    else if n == 34 then m.Rule
    else if n == 35 then m.Switch
    else if n == 36 then m.While
    else m.Unknown

mark_at_number : (mark : TokenMark) → mark_at (number mark) ≡ mark
mark_at_number m.Plain = refl
mark_at_number m.Query = refl
mark_at_number m.Star = refl
mark_at_number m.Plus = refl
mark_at_number m.Together = refl
mark_at_number m.Existing = refl
mark_at_number m.Quietly = refl
mark_at_number m.Body = refl
mark_at_number m.Semicolon = refl
mark_at_number m.Colon = refl
mark_at_number m.BraceOpen = refl
mark_at_number m.BraceClose = refl
mark_at_number m.SquareOpen = refl
mark_at_number m.SquareClose = refl
mark_at_number m.ParenOpen = refl
mark_at_number m.ParenClose = refl
mark_at_number m.Equals = refl
mark_at_number m.PlusEquals = refl
mark_at_number m.QueryEquals = refl
mark_at_number m.NotEquals = refl
mark_at_number m.Not = refl
mark_at_number m.And = refl
mark_at_number m.Or = refl
mark_at_number m.Actions = refl
mark_at_number m.Case = refl
mark_at_number m.Else = refl
mark_at_number m.For = refl
mark_at_number m.If = refl
mark_at_number m.In = refl
mark_at_number m.Include = refl
mark_at_number m.Local = refl
mark_at_number m.Module = refl
mark_at_number m.On = refl
mark_at_number m.Return = refl
mark_at_number m.Rule = refl
mark_at_number m.Switch = refl
mark_at_number m.While = refl
mark_at_number m.Unknown = refl

pub same_mark_refl : (mark : TokenMark) → same_mark mark mark ≡ true
same_mark_refl mark = grind arith

pub same_mark_true : (a b : TokenMark) → same_mark a b ≡ true → a ≡ b
same_mark_true a b h =
    let numbers : number a ≡ number b = grind (arith, h) in
    sym (mark_at_number a) ∙ ap mark_at numbers ∙ mark_at_number b

-- whether something holds of each mark
abbrev pub both : Bool → Bool → Bool
both true b = b
both false b = false

abbrev pub every_mark : (TokenMark → Bool) → Bool
every_mark f = both (f m.Plain) (both (f m.Query) (both (f m.Star) (both (f m.Plus) (both (f m.Together) (both (f
    m.Existing) (both (f m.Quietly) (both (f m.Body) (both (f m.Semicolon) (both (f m.Colon) (both (f m.BraceOpen)
    (both (f m.BraceClose) (both (f m.SquareOpen) (both (f m.SquareClose) (both (f m.ParenOpen) (both (f m.ParenClose)
    (both (f m.Equals) (both (f m.PlusEquals) (both (f m.QueryEquals) (both (f m.NotEquals) (both (f m.Not) (both (f
    m.And) (both (f m.Or) (both (f m.Actions) (both (f m.Case) (both (f m.Else) (both (f m.For) (both (f m.If) (both
    (f m.In) (both (f m.Include) (both (f m.Local) (both (f m.Module) (both (f m.On) (both (f m.Return) (both (f
    m.Rule) (both (f m.Switch) (both (f m.While) (f m.Unknown)))))))))))))))))))))))))))))))))))))

pub first_true : (a b : Bool) → both a b ≡ true → a ≡ true
first_true true b h = refl
first_true false b h = cc

pub second_true : (a b : Bool) → both a b ≡ true → b ≡ true
second_true true b h = h
second_true false b h = cc

abbrev from_37 : (TokenMark → Bool) → Bool
from_37 f = f m.Unknown

abbrev from_36 : (TokenMark → Bool) → Bool
from_36 f = both (f m.While) (from_37 f)

abbrev from_35 : (TokenMark → Bool) → Bool
from_35 f = both (f m.Switch) (from_36 f)

abbrev from_34 : (TokenMark → Bool) → Bool
from_34 f = both (f m.Rule) (from_35 f)

abbrev from_33 : (TokenMark → Bool) → Bool
from_33 f = both (f m.Return) (from_34 f)

abbrev from_32 : (TokenMark → Bool) → Bool
from_32 f = both (f m.On) (from_33 f)

abbrev from_31 : (TokenMark → Bool) → Bool
from_31 f = both (f m.Module) (from_32 f)

abbrev from_30 : (TokenMark → Bool) → Bool
from_30 f = both (f m.Local) (from_31 f)

abbrev from_29 : (TokenMark → Bool) → Bool
from_29 f = both (f m.Include) (from_30 f)

abbrev from_28 : (TokenMark → Bool) → Bool
from_28 f = both (f m.In) (from_29 f)

abbrev from_27 : (TokenMark → Bool) → Bool
from_27 f = both (f m.If) (from_28 f)

abbrev from_26 : (TokenMark → Bool) → Bool
from_26 f = both (f m.For) (from_27 f)

abbrev from_25 : (TokenMark → Bool) → Bool
from_25 f = both (f m.Else) (from_26 f)

abbrev from_24 : (TokenMark → Bool) → Bool
from_24 f = both (f m.Case) (from_25 f)

abbrev from_23 : (TokenMark → Bool) → Bool
from_23 f = both (f m.Actions) (from_24 f)

abbrev from_22 : (TokenMark → Bool) → Bool
from_22 f = both (f m.Or) (from_23 f)

abbrev from_21 : (TokenMark → Bool) → Bool
from_21 f = both (f m.And) (from_22 f)

abbrev from_20 : (TokenMark → Bool) → Bool
from_20 f = both (f m.Not) (from_21 f)

abbrev from_19 : (TokenMark → Bool) → Bool
from_19 f = both (f m.NotEquals) (from_20 f)

abbrev from_18 : (TokenMark → Bool) → Bool
from_18 f = both (f m.QueryEquals) (from_19 f)

abbrev from_17 : (TokenMark → Bool) → Bool
from_17 f = both (f m.PlusEquals) (from_18 f)

abbrev from_16 : (TokenMark → Bool) → Bool
from_16 f = both (f m.Equals) (from_17 f)

abbrev from_15 : (TokenMark → Bool) → Bool
from_15 f = both (f m.ParenClose) (from_16 f)

abbrev from_14 : (TokenMark → Bool) → Bool
from_14 f = both (f m.ParenOpen) (from_15 f)

abbrev from_13 : (TokenMark → Bool) → Bool
from_13 f = both (f m.SquareClose) (from_14 f)

abbrev from_12 : (TokenMark → Bool) → Bool
from_12 f = both (f m.SquareOpen) (from_13 f)

abbrev from_11 : (TokenMark → Bool) → Bool
from_11 f = both (f m.BraceClose) (from_12 f)

abbrev from_10 : (TokenMark → Bool) → Bool
from_10 f = both (f m.BraceOpen) (from_11 f)

abbrev from_9 : (TokenMark → Bool) → Bool
from_9 f = both (f m.Colon) (from_10 f)

abbrev from_8 : (TokenMark → Bool) → Bool
from_8 f = both (f m.Semicolon) (from_9 f)

abbrev from_7 : (TokenMark → Bool) → Bool
from_7 f = both (f m.Body) (from_8 f)

abbrev from_6 : (TokenMark → Bool) → Bool
from_6 f = both (f m.Quietly) (from_7 f)

abbrev from_5 : (TokenMark → Bool) → Bool
from_5 f = both (f m.Existing) (from_6 f)

abbrev from_4 : (TokenMark → Bool) → Bool
from_4 f = both (f m.Together) (from_5 f)

abbrev from_3 : (TokenMark → Bool) → Bool
from_3 f = both (f m.Plus) (from_4 f)

abbrev from_2 : (TokenMark → Bool) → Bool
from_2 f = both (f m.Star) (from_3 f)

abbrev from_1 : (TokenMark → Bool) → Bool
from_1 f = both (f m.Query) (from_2 f)

all_1 : (f : TokenMark → Bool) → every_mark f ≡ true → from_1 f ≡ true
all_1 f h = second_true (f m.Plain) (from_1 f) h

all_2 : (f : TokenMark → Bool) → every_mark f ≡ true → from_2 f ≡ true
all_2 f h = second_true (f m.Query) (from_2 f) (all_1 f h)

all_3 : (f : TokenMark → Bool) → every_mark f ≡ true → from_3 f ≡ true
all_3 f h = second_true (f m.Star) (from_3 f) (all_2 f h)

all_4 : (f : TokenMark → Bool) → every_mark f ≡ true → from_4 f ≡ true
all_4 f h = second_true (f m.Plus) (from_4 f) (all_3 f h)

all_5 : (f : TokenMark → Bool) → every_mark f ≡ true → from_5 f ≡ true
all_5 f h = second_true (f m.Together) (from_5 f) (all_4 f h)

all_6 : (f : TokenMark → Bool) → every_mark f ≡ true → from_6 f ≡ true
all_6 f h = second_true (f m.Existing) (from_6 f) (all_5 f h)

all_7 : (f : TokenMark → Bool) → every_mark f ≡ true → from_7 f ≡ true
all_7 f h = second_true (f m.Quietly) (from_7 f) (all_6 f h)

all_8 : (f : TokenMark → Bool) → every_mark f ≡ true → from_8 f ≡ true
all_8 f h = second_true (f m.Body) (from_8 f) (all_7 f h)

all_9 : (f : TokenMark → Bool) → every_mark f ≡ true → from_9 f ≡ true
all_9 f h = second_true (f m.Semicolon) (from_9 f) (all_8 f h)

all_10 : (f : TokenMark → Bool) → every_mark f ≡ true → from_10 f ≡ true
all_10 f h = second_true (f m.Colon) (from_10 f) (all_9 f h)

all_11 : (f : TokenMark → Bool) → every_mark f ≡ true → from_11 f ≡ true
all_11 f h = second_true (f m.BraceOpen) (from_11 f) (all_10 f h)

all_12 : (f : TokenMark → Bool) → every_mark f ≡ true → from_12 f ≡ true
all_12 f h = second_true (f m.BraceClose) (from_12 f) (all_11 f h)

all_13 : (f : TokenMark → Bool) → every_mark f ≡ true → from_13 f ≡ true
all_13 f h = second_true (f m.SquareOpen) (from_13 f) (all_12 f h)

all_14 : (f : TokenMark → Bool) → every_mark f ≡ true → from_14 f ≡ true
all_14 f h = second_true (f m.SquareClose) (from_14 f) (all_13 f h)

all_15 : (f : TokenMark → Bool) → every_mark f ≡ true → from_15 f ≡ true
all_15 f h = second_true (f m.ParenOpen) (from_15 f) (all_14 f h)

all_16 : (f : TokenMark → Bool) → every_mark f ≡ true → from_16 f ≡ true
all_16 f h = second_true (f m.ParenClose) (from_16 f) (all_15 f h)

all_17 : (f : TokenMark → Bool) → every_mark f ≡ true → from_17 f ≡ true
all_17 f h = second_true (f m.Equals) (from_17 f) (all_16 f h)

all_18 : (f : TokenMark → Bool) → every_mark f ≡ true → from_18 f ≡ true
all_18 f h = second_true (f m.PlusEquals) (from_18 f) (all_17 f h)

all_19 : (f : TokenMark → Bool) → every_mark f ≡ true → from_19 f ≡ true
all_19 f h = second_true (f m.QueryEquals) (from_19 f) (all_18 f h)

all_20 : (f : TokenMark → Bool) → every_mark f ≡ true → from_20 f ≡ true
all_20 f h = second_true (f m.NotEquals) (from_20 f) (all_19 f h)

all_21 : (f : TokenMark → Bool) → every_mark f ≡ true → from_21 f ≡ true
all_21 f h = second_true (f m.Not) (from_21 f) (all_20 f h)

all_22 : (f : TokenMark → Bool) → every_mark f ≡ true → from_22 f ≡ true
all_22 f h = second_true (f m.And) (from_22 f) (all_21 f h)

all_23 : (f : TokenMark → Bool) → every_mark f ≡ true → from_23 f ≡ true
all_23 f h = second_true (f m.Or) (from_23 f) (all_22 f h)

all_24 : (f : TokenMark → Bool) → every_mark f ≡ true → from_24 f ≡ true
all_24 f h = second_true (f m.Actions) (from_24 f) (all_23 f h)

all_25 : (f : TokenMark → Bool) → every_mark f ≡ true → from_25 f ≡ true
all_25 f h = second_true (f m.Case) (from_25 f) (all_24 f h)

all_26 : (f : TokenMark → Bool) → every_mark f ≡ true → from_26 f ≡ true
all_26 f h = second_true (f m.Else) (from_26 f) (all_25 f h)

all_27 : (f : TokenMark → Bool) → every_mark f ≡ true → from_27 f ≡ true
all_27 f h = second_true (f m.For) (from_27 f) (all_26 f h)

all_28 : (f : TokenMark → Bool) → every_mark f ≡ true → from_28 f ≡ true
all_28 f h = second_true (f m.If) (from_28 f) (all_27 f h)

all_29 : (f : TokenMark → Bool) → every_mark f ≡ true → from_29 f ≡ true
all_29 f h = second_true (f m.In) (from_29 f) (all_28 f h)

all_30 : (f : TokenMark → Bool) → every_mark f ≡ true → from_30 f ≡ true
all_30 f h = second_true (f m.Include) (from_30 f) (all_29 f h)

all_31 : (f : TokenMark → Bool) → every_mark f ≡ true → from_31 f ≡ true
all_31 f h = second_true (f m.Local) (from_31 f) (all_30 f h)

all_32 : (f : TokenMark → Bool) → every_mark f ≡ true → from_32 f ≡ true
all_32 f h = second_true (f m.Module) (from_32 f) (all_31 f h)

all_33 : (f : TokenMark → Bool) → every_mark f ≡ true → from_33 f ≡ true
all_33 f h = second_true (f m.On) (from_33 f) (all_32 f h)

all_34 : (f : TokenMark → Bool) → every_mark f ≡ true → from_34 f ≡ true
all_34 f h = second_true (f m.Return) (from_34 f) (all_33 f h)

all_35 : (f : TokenMark → Bool) → every_mark f ≡ true → from_35 f ≡ true
all_35 f h = second_true (f m.Rule) (from_35 f) (all_34 f h)

all_36 : (f : TokenMark → Bool) → every_mark f ≡ true → from_36 f ≡ true
all_36 f h = second_true (f m.Switch) (from_36 f) (all_35 f h)

all_37 : (f : TokenMark → Bool) → every_mark f ≡ true → from_37 f ≡ true
all_37 f h = second_true (f m.While) (from_37 f) (all_36 f h)

-- what holds of each holds of this one
pub at_each : (f : TokenMark → Bool) → every_mark f ≡ true → (mark : TokenMark) → f mark ≡ true
at_each f h m.Plain = first_true (f m.Plain) (from_1 f) h
at_each f h m.Query = first_true (f m.Query) (from_2 f) (all_1 f h)
at_each f h m.Star = first_true (f m.Star) (from_3 f) (all_2 f h)
at_each f h m.Plus = first_true (f m.Plus) (from_4 f) (all_3 f h)
at_each f h m.Together = first_true (f m.Together) (from_5 f) (all_4 f h)
at_each f h m.Existing = first_true (f m.Existing) (from_6 f) (all_5 f h)
at_each f h m.Quietly = first_true (f m.Quietly) (from_7 f) (all_6 f h)
at_each f h m.Body = first_true (f m.Body) (from_8 f) (all_7 f h)
at_each f h m.Semicolon = first_true (f m.Semicolon) (from_9 f) (all_8 f h)
at_each f h m.Colon = first_true (f m.Colon) (from_10 f) (all_9 f h)
at_each f h m.BraceOpen = first_true (f m.BraceOpen) (from_11 f) (all_10 f h)
at_each f h m.BraceClose = first_true (f m.BraceClose) (from_12 f) (all_11 f h)
at_each f h m.SquareOpen = first_true (f m.SquareOpen) (from_13 f) (all_12 f h)
at_each f h m.SquareClose = first_true (f m.SquareClose) (from_14 f) (all_13 f h)
at_each f h m.ParenOpen = first_true (f m.ParenOpen) (from_15 f) (all_14 f h)
at_each f h m.ParenClose = first_true (f m.ParenClose) (from_16 f) (all_15 f h)
at_each f h m.Equals = first_true (f m.Equals) (from_17 f) (all_16 f h)
at_each f h m.PlusEquals = first_true (f m.PlusEquals) (from_18 f) (all_17 f h)
at_each f h m.QueryEquals = first_true (f m.QueryEquals) (from_19 f) (all_18 f h)
at_each f h m.NotEquals = first_true (f m.NotEquals) (from_20 f) (all_19 f h)
at_each f h m.Not = first_true (f m.Not) (from_21 f) (all_20 f h)
at_each f h m.And = first_true (f m.And) (from_22 f) (all_21 f h)
at_each f h m.Or = first_true (f m.Or) (from_23 f) (all_22 f h)
at_each f h m.Actions = first_true (f m.Actions) (from_24 f) (all_23 f h)
at_each f h m.Case = first_true (f m.Case) (from_25 f) (all_24 f h)
at_each f h m.Else = first_true (f m.Else) (from_26 f) (all_25 f h)
at_each f h m.For = first_true (f m.For) (from_27 f) (all_26 f h)
at_each f h m.If = first_true (f m.If) (from_28 f) (all_27 f h)
at_each f h m.In = first_true (f m.In) (from_29 f) (all_28 f h)
at_each f h m.Include = first_true (f m.Include) (from_30 f) (all_29 f h)
at_each f h m.Local = first_true (f m.Local) (from_31 f) (all_30 f h)
at_each f h m.Module = first_true (f m.Module) (from_32 f) (all_31 f h)
at_each f h m.On = first_true (f m.On) (from_33 f) (all_32 f h)
at_each f h m.Return = first_true (f m.Return) (from_34 f) (all_33 f h)
at_each f h m.Rule = first_true (f m.Rule) (from_35 f) (all_34 f h)
at_each f h m.Switch = first_true (f m.Switch) (from_36 f) (all_35 f h)
at_each f h m.While = first_true (f m.While) (from_37 f) (all_36 f h)
at_each f h m.Unknown = all_37 f h
