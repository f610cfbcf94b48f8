-- Rows tell openings and lines apart: from the row of one, the fields give it back.
use Rattle.std.proofs.Common.{◌≡◌, ℕ, ◌^◌, ◌<◌, Bool, cond, List, [], ◌∷◌, codes, decimal, sym, ap, ◌∙◌, arith}
use Rattle.std.proofs.lemmas.Fmt.{decimal_is_IsNumeral}
use Rattle.std.specs.Str.{bytes_eq}
use Rattle.std.specs.Str.Parse.{digits_value}
use Rattle.call_lines.specs.Lines.{line_row, opening_row}
use Rattle.call_lines.specs.Ranges.{LineFits, OpeningFits}
use Rattle.call_lines.specs.declared.lines.Line.{Line}
use Rattle.call_lines.specs.declared.lines.Line.TheVariants.{Call as CallLine, List as ListLine}
use Rattle.call_lines.specs.declared.lines.Opening.{Opening}
use Rattle.script.specs.Tables.{Row}
use Rattle.store.specs.declared.calls.Call.TheVariants.{Ask, Make, MakeUnder, Reserve, Close}
use Rattle.store.specs.declared.calls.Question.TheVariants.{Longest, Number, Credit, Promised, Length, Item, Front, Back}
use Rattle.store.specs.declared.changes.Change.TheVariants.{Push, Inject, Pop, Eject}

abbrev value : List ℕ → ℕ
value field = digits_value 10 field

abbrev is : List ℕ → List ℕ → Bool
is word field = bytes_eq field word

-- the line of a row that is some line's
abbrev line_of : Row → Line
line_of [] = ListLine 0
line_of (w ∷ []) =
    CallLine (Ask (cond (is (codes "longest") w) Longest (cond (is (codes "number") w) Number (cond (is (codes "credit") w) Credit Promised))))
line_of (w ∷ v ∷ []) =
    cond (is (codes "pop") w) (CallLine (Make (value v) Pop))
    (cond (is (codes "eject") w) (CallLine (Make (value v) Eject))
    (cond (is (codes "length") w) (CallLine (Ask (Length (value v))))
    (cond (is (codes "front") w) (CallLine (Ask (Front (value v))))
    (cond (is (codes "back") w) (CallLine (Ask (Back (value v))))
    (cond (is (codes "close") w) (CallLine (Close (value v))) (ListLine (value v)))))))
line_of (w ∷ v ∷ x ∷ []) =
    cond (is (codes "push") w) (CallLine (Make (value v) (Push (value x))))
    (cond (is (codes "inject") w) (CallLine (Make (value v) (Inject (value x))))
    (cond (is (codes "item") w) (CallLine (Ask (Item (value v) (value x)))) (CallLine (Reserve (value v) (value x)))))
line_of (u ∷ i ∷ w ∷ v ∷ []) = CallLine (MakeUnder (value i) (value v) (cond (is (codes "pop") w) Pop Eject))
line_of (u ∷ i ∷ w ∷ v ∷ x ∷ more) =
    CallLine (MakeUnder (value i) (value v) (cond (is (codes "push") w) (Push (value x)) (Inject (value x))))

value_decimal : (n : ℕ) → n < 2 ^ 32 → value (decimal n) ≡ n
value_decimal n fits = (decimal_is_IsNumeral n (omega arith)).1

line_again : (l : Line) → LineFits l → line_of (line_row l) ≡ l
line_again (CallLine (Ask Longest)) fits = cc
line_again (CallLine (Ask Number)) fits = cc
line_again (CallLine (Ask Credit)) fits = cc
line_again (CallLine (Ask Promised)) fits = cc
line_again (CallLine (Ask (Length v))) fits = cc (value_decimal v (omega arith))
line_again (CallLine (Ask (Item v place))) fits = cc (value_decimal v (omega arith), value_decimal place (omega arith))
line_again (CallLine (Ask (Front v))) fits = cc (value_decimal v (omega arith))
line_again (CallLine (Ask (Back v))) fits = cc (value_decimal v (omega arith))
line_again (CallLine (Make v (Push x))) fits = cc (value_decimal v (omega arith), value_decimal x (omega arith))
line_again (CallLine (Make v (Inject x))) fits = cc (value_decimal v (omega arith), value_decimal x (omega arith))
line_again (CallLine (Make v Pop)) fits = cc (value_decimal v (omega arith))
line_again (CallLine (Make v Eject)) fits = cc (value_decimal v (omega arith))
line_again (CallLine (MakeUnder i v (Push x))) fits = cc (value_decimal i (omega arith), value_decimal v (omega arith), value_decimal x (omega arith))
line_again (CallLine (MakeUnder i v (Inject x))) fits = cc (value_decimal i (omega arith), value_decimal v (omega arith), value_decimal x (omega arith))
line_again (CallLine (MakeUnder i v Pop)) fits = cc (value_decimal i (omega arith), value_decimal v (omega arith))
line_again (CallLine (MakeUnder i v Eject)) fits = cc (value_decimal i (omega arith), value_decimal v (omega arith))
line_again (CallLine (Reserve i n)) fits = cc (value_decimal i (omega arith), value_decimal n (omega arith))
line_again (CallLine (Close i)) fits = cc (value_decimal i (omega arith))
line_again (ListLine v) fits = cc (value_decimal v (omega arith))

pub same_line : (l m : Line) → LineFits l → LineFits m → line_row l ≡ line_row m → l ≡ m
same_line l m fits others e = sym (line_again l fits) ∙ (ap line_of e ∙ line_again m others)

-- the opening of a row that is some opening's
abbrev opening_of : Row → Opening
opening_of (w ∷ number ∷ longest ∷ versions ∷ items ∷ cells ∷ more) =
    record { number = value number; longest = value longest; versions = value versions; items = value items; cells = value cells }
opening_of other = record { number = 0; longest = 0; versions = 0; items = 0; cells = 0 }

opening_again : (o : Opening) → OpeningFits o → opening_of (opening_row o) ≡ o
opening_again o fits =
    rw (value_decimal o.number fits.0, value_decimal o.longest (omega arith), value_decimal o.versions (omega arith), value_decimal o.items (omega arith), value_decimal o.cells (omega arith))

pub same_opening : (o p : Opening) → OpeningFits o → OpeningFits p → opening_row o ≡ opening_row p → o ≡ p
same_opening o p fits others e = sym (opening_again o fits) ∙ (ap opening_of e ∙ opening_again p others)
