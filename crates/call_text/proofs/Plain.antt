-- The fields of every opening and every line are plain: no separator stands in them.
use Rattle.std.proofs.Common.{◌≡◌, ℕ, ◌^◌, ◌<◌, true, List, [], ◌∷◌, codes, decimal, ltb, refl, arith}
use Rattle.std.proofs.lemmas.Bool.{and_parts}
use Rattle.std.proofs.lemmas.Bool.Decides.{nat_tests}
use Rattle.call_lines.specs.Lines.{call_row, change_row, line_row, opening_row, question_row}
use Rattle.call_lines.specs.Ranges.{CallFits, ChangeFits, LineFits, OpeningFits, QuestionFits}
use Rattle.call_lines.specs.declared.lines.Line.{Line}
use Rattle.call_lines.specs.declared.lines.Line.TheVariants.{Call as CallLine, List as ListLine}
use Rattle.call_lines.specs.declared.lines.Opening.{Opening}
use Rattle.script.proofs.Numbers.{decimal_plain}
use Rattle.script.proofs.Parting.{Above, Plain}
use Rattle.script.specs.Tables.{Row}
use Rattle.std.specs.List.{AllByRecursion as All, list_all}
use Rattle.store.specs.declared.calls.Call.{Call}
use Rattle.store.specs.declared.calls.Call.TheVariants.{Ask, Make, MakeUnder, Reserve, Close}
use Rattle.store.specs.declared.calls.Question.{Question}
use Rattle.store.specs.declared.calls.Question.TheVariants.{Longest, Number, Credit, Promised, Length, Item, Front, Back}
use Rattle.store.specs.declared.changes.Change.{Change}
use Rattle.store.specs.declared.changes.Change.TheVariants.{Push, Inject, Pop, Eject}

-- a word whose bytes pass the test
word : (w : List ℕ) → list_all (λ b. ltb 10 b) w ≡ true → All Above w
word [] e = tt
word (b ∷ w) e = let (here, others) = and_parts (ltb 10 b) (list_all (λ b. ltb 10 b) w) e in (grind (arith, nat_tests), word w others)

number : (n : ℕ) → n < 2 ^ 32 → All Above (decimal n)
number n fits = decimal_plain n (omega arith)

-- a word, and plain fields behind it
behind : (w : List ℕ) → list_all (λ b. ltb 10 b) w ≡ true → (fs : Row) → All (All Above) fs → Plain (w ∷ fs)
behind w e fs plain = record { some = omega arith; bytes = (word w e, plain) }

one : (n : ℕ) → n < 2 ^ 32 → All (All Above) (decimal n ∷ [])
one n fits = (number n fits, tt)

two : (m n : ℕ) → m < 2 ^ 32 → n < 2 ^ 32 → All (All Above) (decimal m ∷ decimal n ∷ [])
two m n a b = (number m a, one n b)

pub opening_plain : (o : Opening) → OpeningFits o → Plain (opening_row o)
opening_plain o fits =
    behind (codes "two-list") refl _ (number o.number fits.0, (number o.longest (omega arith), (number o.versions (omega arith), two o.items o.cells (omega arith) (omega arith))))

question_plain : (q : Question) → QuestionFits q → Plain (question_row q)
question_plain Longest fits = behind (codes "longest") refl [] tt
question_plain Number fits = behind (codes "number") refl [] tt
question_plain Credit fits = behind (codes "credit") refl [] tt
question_plain Promised fits = behind (codes "promised") refl [] tt
question_plain (Length v) fits = behind (codes "length") refl _ (one v (omega arith))
question_plain (Item v place) fits = behind (codes "item") refl _ (two v place (omega arith) (omega arith))
question_plain (Front v) fits = behind (codes "front") refl _ (one v (omega arith))
question_plain (Back v) fits = behind (codes "back") refl _ (one v (omega arith))

change_plain : (v : ℕ) (c : Change ℕ) → ChangeFits v c → Plain (change_row v c)
change_plain v (Push x) fits = behind (codes "push") refl _ (two v x (omega arith) (omega arith))
change_plain v (Inject x) fits = behind (codes "inject") refl _ (two v x (omega arith) (omega arith))
change_plain v Pop fits = behind (codes "pop") refl _ (one v (omega arith))
change_plain v Eject fits = behind (codes "eject") refl _ (one v (omega arith))

call_plain : (c : Call ℕ) → CallFits c → Plain (call_row c)
call_plain (Ask q) fits = question_plain q fits
call_plain (Make v c) fits = change_plain v c fits
call_plain (MakeUnder i v c) fits = behind (codes "under") refl _ (number i (omega arith), (change_plain v c fits.1).bytes)
call_plain (Reserve i n) fits = behind (codes "reserve") refl _ (two i n (omega arith) (omega arith))
call_plain (Close i) fits = behind (codes "close") refl _ (one i (omega arith))

pub line_plain : (l : Line) → LineFits l → Plain (line_row l)
line_plain (CallLine c) fits = call_plain c fits
line_plain (ListLine v) fits = behind (codes "list") refl _ (one v (omega arith))
