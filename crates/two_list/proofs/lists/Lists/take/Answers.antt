use Rattle.two_list.proofs.Following.{cell_inside}
use Rattle.two_list.proofs.Refilling.{refilled_front, took}
use Rattle.two_list.proofs.lists.Lists.take.Goals as goal

pub get-end-requires : goal.get-end-requires
get-end-requires g c = (refilled_front _ _ _ _ c.requires.0 c.requires.1 c.refill-row.ensures).1

pub overflow_sub-front : goal.overflow_sub-front
overflow_sub-front g c = (refilled_front _ _ _ _ c.requires.0 c.requires.1 c.refill-row.ensures).0

pub get-requires : goal.get-requires
get-requires g c =
    let front = refilled_front _ _ _ _ c.requires.0 c.requires.1 c.refill-row.ensures in
    (cell_inside c.refill-row.new.self _ _ front.1 c.get-end.ensures).0

pub returns : goal.returns
returns g c =
    let done = took _ _ _ _ c.requires.0 c.requires.1 c.refill-row.ensures _ _ c.get-end.ensures c.get.ensures in
    record { lists = done.0; item = done.1 }
