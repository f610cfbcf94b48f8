use Rattle.std.proofs.Common.{arith, rules, vec_items}
use Rattle.call_text.proofs.Lines.{bad_behind_unended, bad_behind_unsaid, bad_unended, bad_unsaid, reached_first, reached_more}
use Rattle.call_text.proofs.reading.read_lines.Goals as goal

pub returns-in_default : goal.returns-in_default
returns-in_default c = search (rules, bad_unended)

pub returns-in_default-2 : goal.returns-in_default-2
returns-in_default-2 c =
    let said = c.in_ok-opening.ensures in
    bad_unsaid c.args.text.now c.in-Some.first.now c.in-Some.rest.now (search rules) (rw c.in_default-2.is at said)

pub loop-first-init : goal.loop-first-init
loop-first-init c =
    let said = c.in_ok-opening.ensures in
    reached_first c.args.text.now c.in-Some.first.now c.in-Some.rest.now c.in-Some-2.opening (vec_items c.new-lines.result) (search rules) (rw c.in-Some-2.is at said) (search rules)

pub returns-in_default-3 : goal.returns-in_default-3
returns-in_default-3 c =
    let said = c.in_ok-line.ensures in
    bad_behind_unsaid c.args.text.now c.in-Some-split_once.first.now c.in-Some-split_once.more.now c.loop-first.rest.now c.in-Some-2.opening (vec_items c.loop-first.lines) c.len.result c.loop-first.invariant (search rules) (search rules) (rw c.in_default-3.is at said)

pub loop-first-preserved : goal.loop-first-preserved
loop-first-preserved c =
    let said = c.in_ok-line.ensures in
    reached_more c.args.text.now c.in-Some-split_once.first.now c.in-Some-split_once.more.now c.loop-first.rest.now c.in-Some-2.opening (vec_items c.loop-first.lines) (vec_items c.push.new.self) c.in-Some-3.line c.loop-first.invariant (search rules) (rw c.in-Some-3.is at said) (search rules)

pub returns-then-not-is_empty : goal.returns-then-not-is_empty
returns-then-not-is_empty c =
    bad_behind_unended c.args.text.now c.loop-first.rest.now c.in-Some-2.opening (vec_items c.loop-first.lines) c.len-then-not-is_empty.result c.loop-first.invariant (search rules) (grind arith) (search rules)
