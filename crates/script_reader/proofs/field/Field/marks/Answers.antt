use Rattle.std.proofs.Common.{rules}
use Rattle.script.specs.Fields.{marks_in}
use Rattle.script_reader.proofs.Refusing.{wants}
use Rattle.script_reader.proofs.field.Field.marks.Goals as goal

pub returns-in_err-to_vec : goal.returns-in_err-to_vec
unfolding marks_in
returns-in_err-to_vec c = wants _ _ c.from_residual.result c.from_residual.ensures.1 (search rules)
