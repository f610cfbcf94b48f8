use Rattle.std.proofs.Common.{rules}
use Rattle.std.proofs.lemmas.Result.{err_from_is_err_and}
use Rattle.script_reader.proofs.Acts.{long, short, short_some}
use Rattle.script_reader.proofs.Refusing.{wants}
use Rattle.script_reader.proofs.field.Field.acts.Goals as goal

pub returns-then-self : goal.returns-then-self
returns-then-self c = search (rules, long)

pub returns-in_err-acts_of : goal.returns-in_err-acts_of
returns-in_err-acts_of c = wants _ _ c.from_residual.result c.from_residual.ensures.1 (search (rules, short_some))

pub returns-in_err-ok_or : goal.returns-in_err-ok_or
returns-in_err-ok_or c =
    let p = err_from_is_err_and c.from_residual-in_err-ok_or.result c.from_residual-in_err-ok_or.ensures.1 in
    rw (p.1, p.2) (search (rules, short))

pub returns : goal.returns
returns c = search (rules, short)
