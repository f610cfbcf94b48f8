use Rattle.std.proofs.Common.{◌∙◌}
use Rattle.script_reader.proofs.Tables.{ended_table}
use Rattle.script_reader.proofs.reader.Reader.at_end.Goals as goal

pub returns : goal.returns
returns c = c.is_empty.ensures ∙ ended_table c.args.self.now.rest.now
