use Rattle.std.proofs.Common.{sym, arith}
use Rattle.two_list.proofs.Showing.{known, list_length}
use Rattle.two_list.proofs.kind.TwoListStoreDequeStore.length.Goals as goal

pub returns : goal.returns
returns g c =
    let s = c.args.self.now in
    (known s _ (omega arith), sym (list_length s _ _ (omega arith) c.row-row.ensures))
