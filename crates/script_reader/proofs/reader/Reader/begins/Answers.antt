use Rattle.std.proofs.Common.{rules}
use Rattle.script_reader.proofs.Tables.{first_row_lem}
use Rattle.script_reader.proofs.reader.Reader.begins.Goals as goal

pub returns : goal.returns
returns c = rw (first_row_lem c.args.self.now.rest.now) (search rules)
