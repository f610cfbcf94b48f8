use Rattle.call_lines.specs.Lines.{opening_row}
use Rattle.call_lines.specs.Ranges.{OpeningFits}
use Rattle.call_text.proofs.Plain.{opening_plain}
use Rattle.call_text.proofs.Saying.{said_if_ok}
use Rattle.call_text.proofs.reading.read_opening.Goals as goal

pub returns : goal.returns
returns c =
    let reads = c.parse_opening.ensures in
    said_if_ok opening_row OpeningFits opening_plain c.args.line.now c.parse_opening.result (rw (c.deref.ensures.value, c.in_ok-fields.ensures) at reads) c.as_written.result c.as_written.ensures.written c.as_written.ensures.every
