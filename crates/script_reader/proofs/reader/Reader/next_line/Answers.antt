use Rattle.std.proofs.Common.{◌+◌, drop, refl, ap, ◌∙◌}
use Rattle.script.specs.Tables.{Row}
use Rattle.script_reader.proofs.Tables.{due_last, due_unlike, due_alike, row_line, rows_line}
use Rattle.script_reader.proofs.reader.Reader.next_line.Goals as goal

pub returns-in_default : goal.returns-in_default
returns-in_default c =
    due_last (c.args.self.now.line + 1) c.args.word.now c.args.count c.args.self.now.rest.now c.in_default.ensures.parts

pub returns-then-not-has_shape : goal.returns-then-not-has_shape
returns-then-not-has_shape c =
    due_unlike (c.args.self.now.line + 1) c.args.word.now c.args.count c.args.self.now.rest.now c.in-Some.text.now c.in-Some.rest.now c.in-Some.ensures.parts c.if-not-has_shape.ensures

pub returns : goal.returns
returns c =
    let t = c.args.self.now.rest.now in
    let cut = c.in-Some.ensures.parts in
    record {
      row = due_alike (c.args.self.now.line + 1) c.args.word.now c.args.count t c.in-Some.text.now c.in-Some.rest.now cut c.if-not-has_shape.ensures;
      fields = c.field.ensures.fields ∙ ap (λ (row : Row). drop 1 row) (c.new-line.ensures.fields ∙ row_line t c.in-Some.text.now c.in-Some.rest.now cut);
      number = c.field.ensures.number ∙ c.new-line.ensures.number;
      onward = record { rows = rows_line t c.in-Some.text.now c.in-Some.rest.now cut; line = refl };
    }
