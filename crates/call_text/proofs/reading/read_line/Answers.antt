use Rattle.call_lines.specs.Lines.{line_row}
use Rattle.call_lines.specs.Ranges.{LineFits}
use Rattle.call_text.proofs.Plain.{line_plain}
use Rattle.call_text.proofs.Saying.{said_if_ok}
use Rattle.call_text.proofs.reading.read_line.Goals as goal

pub returns : goal.returns
returns c =
    let reads = c.parse_line.ensures in
    said_if_ok line_row LineFits line_plain c.args.line.now c.parse_line.result (rw (c.deref.ensures.value, c.in_ok-fields.ensures) at reads) c.as_written.result c.as_written.ensures.written c.as_written.ensures.every
