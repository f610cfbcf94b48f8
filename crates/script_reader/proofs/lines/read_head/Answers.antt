use Rattle.std.proofs.Common.{rules}
use Rattle.script_reader.proofs.ReadLines.{head_read}
use Rattle.script_reader.proofs.lines.read_head.Goals as goal

pub returns-in_err-depth-clause-value : goal.returns-in_err-depth-clause-value
returns-in_err-depth-clause-value c =
    rw (head_read _ _ _ _ _ _ _ _ _ _ _ c.in_ok-line.ensures c.field.ensures c.field-2.ensures c.field-3.ensures c.field-4.ensures) (search rules)

pub returns-clause-value : goal.returns-clause-value
returns-clause-value c =
    rw (head_read _ _ _ _ _ _ _ _ _ _ _ c.in_ok-line.ensures c.field.ensures c.field-2.ensures c.field-3.ensures c.field-4.ensures) (search rules)
