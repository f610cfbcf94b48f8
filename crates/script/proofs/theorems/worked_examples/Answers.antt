use Rattle.script.proofs.Worked.{worked}
use Rattle.script.proofs.theorems.worked_examples.Goals as goal

pub returns : goal.returns
returns c = worked
