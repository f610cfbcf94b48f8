-- The text of calls and answers: each line as the row of its fields.
use Rattle.std.specs.Prelude.{ℕ, [], ◌∷◌, Some, None, codes, decimal}
use Rattle.call_lines.specs.declared.lines.Line.{Line}
use Rattle.call_lines.specs.declared.lines.Line.TheVariants.{Call as CallLine, List as ListLine}
use Rattle.call_lines.specs.declared.lines.Opening.{Opening}
use Rattle.script.specs.Tables.{Row}
use Rattle.store.specs.Replies.{Reply, valued, counted, shown, made, reserved, closed, refused, no_slot}
use Rattle.store.specs.declared.calls.Call.{Call}
use Rattle.store.specs.declared.calls.Call.TheVariants.{Ask, Make, MakeUnder, Reserve, Close}
use Rattle.store.specs.declared.calls.Question.{Question}
use Rattle.store.specs.declared.calls.Question.TheVariants.{Longest, Number, Credit, Promised, Length, Item, Front, Back}
use Rattle.store.specs.declared.changes.Change.{Change}
use Rattle.store.specs.declared.changes.Change.TheVariants.{Push, Inject, Pop, Eject}

abbrev pub opening_row : Opening → Row
opening_row o =
    codes "two-list" ∷ decimal o.number ∷ decimal o.longest ∷ decimal o.versions ∷ decimal o.items ∷ decimal o.cells ∷ []

abbrev pub question_row : Question → Row
question_row Longest = codes "longest" ∷ []
question_row Number = codes "number" ∷ []
question_row Credit = codes "credit" ∷ []
question_row Promised = codes "promised" ∷ []
question_row (Length v) = codes "length" ∷ decimal v ∷ []
question_row (Item v place) = codes "item" ∷ decimal v ∷ decimal place ∷ []
question_row (Front v) = codes "front" ∷ decimal v ∷ []
question_row (Back v) = codes "back" ∷ decimal v ∷ []

abbrev pub change_row : ℕ → Change ℕ → Row
change_row v (Push x) = codes "push" ∷ decimal v ∷ decimal x ∷ []
change_row v (Inject x) = codes "inject" ∷ decimal v ∷ decimal x ∷ []
change_row v Pop = codes "pop" ∷ decimal v ∷ []
change_row v Eject = codes "eject" ∷ decimal v ∷ []

abbrev pub call_row : Call ℕ → Row
call_row (Ask q) = question_row q
call_row (Make v c) = change_row v c
call_row (MakeUnder i v c) = codes "under" ∷ decimal i ∷ change_row v c
call_row (Reserve i n) = codes "reserve" ∷ decimal i ∷ decimal n ∷ []
call_row (Close i) = codes "close" ∷ decimal i ∷ []

abbrev pub line_row : Line → Row
line_row (CallLine c) = call_row c
line_row (ListLine v) = codes "list" ∷ decimal v ∷ []

abbrev pub reply_row : Reply ℕ → Row
reply_row (valued n) = codes "value" ∷ decimal n ∷ []
reply_row (counted n) = codes "length" ∷ decimal n ∷ []
reply_row (shown (Some x)) = codes "item" ∷ decimal x ∷ []
reply_row (shown None) = codes "none" ∷ []
reply_row (made w (Some x)) = codes "version" ∷ decimal w ∷ decimal x ∷ []
reply_row (made w None) = codes "version" ∷ decimal w ∷ []
reply_row reserved = codes "reserved" ∷ []
reply_row closed = codes "closed" ∷ []
reply_row (refused f) = codes "refused" ∷ decimal f.0 ∷ decimal f.1 ∷ []
reply_row no_slot = codes "no-slot" ∷ []
