-- What the values of the code stand for in the definitions.
use Rattle.std.specs.Prelude.{ℕ, ◌+◌, vec_items}
use Rattle.std.specs.Global.{Vec}
use Rattle.script.specs.Reading as reading
use Rattle.script_reader.specs.declared.lines.Head.{Head}
use Rattle.script_reader.specs.declared.lines.Start.{Start}
use Rattle.script_reader.specs.declared.reader.Reader.{Reader}
use Rattle.script_reader.specs.Places.{rows_left}

abbrev pub head_meaning : Head → reading.Head
head_meaning h = record { states = h.states; width = h.width; depth = h.depth }

abbrev pub start_meaning : Start → reading.Start
start_meaning s = record { state = s.state; marks = vec_items s.marks }

-- the goals with the place behind them
abbrev pub goals_meaning : Reader → Vec ℕ → reading.Goals
goals_meaning after goals = record { goals = vec_items goals; next = after.line + 1; rows = rows_left after }
