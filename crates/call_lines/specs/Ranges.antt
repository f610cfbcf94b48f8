-- The ranges of the numbers in a line: a store's number has 32 bits, a slot 8, and every other number 16.
use Rattle.std.specs.Prelude.{ℕ, ◌^◌, ◌<◌}
use Rattle.call_lines.specs.declared.lines.Line.{Line}
use Rattle.call_lines.specs.declared.lines.Line.TheVariants.{Call as CallLine, List as ListLine}
use Rattle.call_lines.specs.declared.lines.Opening.{Opening}
use Rattle.store.specs.declared.calls.Call.{Call}
use Rattle.store.specs.declared.calls.Call.TheVariants.{Ask, Make, MakeUnder, Reserve, Close}
use Rattle.store.specs.declared.calls.Question.{Question}
use Rattle.store.specs.declared.calls.Question.TheVariants.{Longest, Number, Credit, Promised, Length, Item, Front, Back}
use Rattle.store.specs.declared.changes.Change.{Change}
use Rattle.store.specs.declared.changes.Change.TheVariants.{Push, Inject, Pop, Eject}

abbrev pub IsShort : ℕ → Type 0
IsShort n = n < 2 ^ 16

abbrev pub IsSlot : ℕ → Type 0
IsSlot n = n < 2 ^ 8

abbrev pub IsStoreNumber : ℕ → Type 0
IsStoreNumber n = n < 2 ^ 32

abbrev pub OpeningFits : Opening → Type 0
OpeningFits o = IsStoreNumber o.number × IsShort o.longest × IsShort o.versions × IsShort o.items × IsShort o.cells

abbrev pub QuestionFits : Question → Type 0
QuestionFits Longest = Unit {0}
QuestionFits Number = Unit {0}
QuestionFits Credit = Unit {0}
QuestionFits Promised = Unit {0}
QuestionFits (Length v) = IsShort v
QuestionFits (Item v place) = IsShort v × IsShort place
QuestionFits (Front v) = IsShort v
QuestionFits (Back v) = IsShort v

abbrev pub ChangeFits : ℕ → Change ℕ → Type 0
ChangeFits v (Push x) = IsShort v × IsShort x
ChangeFits v (Inject x) = IsShort v × IsShort x
ChangeFits v Pop = IsShort v
ChangeFits v Eject = IsShort v

abbrev pub CallFits : Call ℕ → Type 0
CallFits (Ask q) = QuestionFits q
CallFits (Make v c) = ChangeFits v c
CallFits (MakeUnder i v c) = IsSlot i × ChangeFits v c
CallFits (Reserve i n) = IsSlot i × IsShort n
CallFits (Close i) = IsSlot i

abbrev pub LineFits : Line → Type 0
LineFits (CallLine c) = CallFits c
LineFits (ListLine v) = IsShort v
