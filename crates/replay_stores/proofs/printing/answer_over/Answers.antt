use Rattle.std.proofs.Common.{IfOk, ap, subst, vec_items}
use Rattle.std.proofs.lemmas.Result.{MatchResult-weaker}
use Rattle.call_text.proofs.Reports.{told_fresh}
use Rattle.replay_stores.proofs.printing.answer_over.Goals as goal
use Rattle.replay_stores.specs.Printed.{AnsweredOver}

pub returns : goal.returns
returns c =
    subst
    (λ lines. IfOk c.answer.result (λ printed. AnsweredOver c.args.versions.now c.args.items.now c.args.cells.now c.args.text.now.opening lines (vec_items printed)))
    c.deref.ensures.value
    (MatchResult-weaker
    c.answer.result
    c.answer.ensures
    (λ printed reported.
    record {
      store = c.new-store.result;
      opens = c.new-store.ensures;
      after = c.answer.new.store;
      slots = c.answer.new.slots;
      reported = reported;
      told = told_fresh (ap (λ m. m.versions) c.new-store.ensures.meaning) reported;
    })
    (λ error unreported. tt))
