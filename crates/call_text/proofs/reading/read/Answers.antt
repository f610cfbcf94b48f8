use Rattle.call_text.proofs.Settling.{settled}
use Rattle.call_text.proofs.reading.read.Goals as goal

pub returns-clause-settled : goal.returns-clause-settled
returns-clause-settled c = settled c.args.text.now c.read_lines.result c.read_lines.ensures
