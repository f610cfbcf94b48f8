use Rattle.std.proofs.Common.{vec_items, refl, arith, rules}
use Rattle.store.proofs.Replays.{start, next, whole}
use Rattle.store.proofs.replaying.replay.Goals as goal

pub loop-call-init : goal.loop-call-init
loop-call-init g c =
    record {
      every = search rules;
      room = search rules;
      same_store = refl;
      same_slots = refl;
      runs = start _ c.in_ok-answers.ensures.items;
    }

pub loop-call-preserved : goal.loop-call-preserved
loop-call-preserved g c =
    let runs = next c.args.calls.now c.loop-call.call-index _ (vec_items c.loop-call.answers) _ c.carry_out-answer.result (omega arith) c.call-item.is c.push_reserved.ensures.items c.loop-call.invariant.runs c.carry_out-answer.ensures.answer c.carry_out-answer.ensures.kind in
    search rules

pub returns : goal.returns
returns g c =
    let replayed = whole g.S.DequeStore.chains c.args.calls.now c.loop-call.call-index (omega arith) c.loop-call.invariant.runs in
    search rules
