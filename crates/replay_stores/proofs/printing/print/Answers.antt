use Rattle.std.proofs.Common.{arith, rules}
use Rattle.std.proofs.lemmas.Result.{IfOk-weaker}
use Rattle.replay_stores.proofs.printing.print.Goals as goal
use Rattle.replay_stores.specs.Printed.{answered, bad}

pub returns-in-Ok : goal.returns-in-Ok
returns-in-Ok c =
    IfOk-weaker c.answer_on_two_lists.result _ _ (λ printed h. answered (omega arith) c.in-Ok.ensures.read h) c.answer_on_two_lists.ensures

pub returns-in-Err-Line : goal.returns-in-Err-Line
returns-in-Err-Line c =
    IfOk-weaker c.name_bad_line-in-Err-Line.result _ _ (λ printed h. bad (omega arith) (search rules) h) c.name_bad_line-in-Err-Line.ensures
