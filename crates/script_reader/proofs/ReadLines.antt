-- What a line says, told by its fields one after the other.
use Rattle.std.proofs.Common.{◌≡◌, ℕ, ◌+◌, Ok, codes, refl}
use Rattle.std.proofs.lemmas.List.{drop-drop, get_or-drop}
use Rattle.script.specs.Fields.{◌>>=◌, ◌>>◌, number_in}
use Rattle.script.specs.Reading.{head_of}
use Rattle.script_reader.specs.Places.{Opened, Passed, rows_left}
use Rattle.script_reader.specs.declared.field.Field.{Field}
use Rattle.script_reader.specs.declared.line.Line.{Line}
use Rattle.script_reader.specs.declared.reader.Reader.{Reader}

-- a field behind those that were passed
pub ruleset fields_behind = (get_or-drop, drop-drop)

pub head_read : (r s : Reader) (l0 l1 l2 l3 l4 : Line) (form states width depth : Field) → Opened (codes "script") 5 r s l0 → Passed l0 form l1 → Passed l1 states l2 → Passed l2 width l3 → Passed l3 depth l4 →
    head_of (r.line + 1) (rows_left r)
    ≡ (number_in form.line 1 1 form.bytes.now
    >> (number_in states.line 1 64 states.bytes.now >>= λ states.
    number_in width.line 1 255 width.bytes.now >>= λ width.
    number_in depth.line 0 255 depth.bytes.now >>= λ depth.
    Ok (record { states = states; width = width; depth = depth })))
unfolding head_of
head_read r s l0 l1 l2 l3 l4 form states width depth opened p q v w =
    simp (opened.row, opened.fields, opened.number, p.bytes, p.line, p.fields, p.number, q.bytes, q.line, q.fields, q.number, v.bytes, v.line, v.fields, v.number, w.bytes, w.line, get_or-drop, drop-drop) refl
