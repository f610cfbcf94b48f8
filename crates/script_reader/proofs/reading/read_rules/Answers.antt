use Rattle.std.proofs.Common.{◌+◌, vec_items, sym, ◌∙◌, rules}
use Rattle.script.specs.Contents.{rule_content}
use Rattle.script.specs.Reading.{rule_of}
use Rattle.script_reader.specs.Places.{rows_left}
use Rattle.script_reader.proofs.Following.{rules_more, rules_refused}
use Rattle.script_reader.proofs.Refusing.{refuses}
use Rattle.script_reader.proofs.reading.read_rules.Goals as goal

pub returns-in_err-rule : goal.returns-in_err-rule
returns-in_err-rule c =
    refuses (rule_of (c.loop-reader.reader.line + 1) c.args.states c.len.result (rows_left c.loop-reader.reader)) rule_content _ _ c.in_err-rule.field-0.0 c.from_residual.result c.from_residual.ensures.1 c.in_err-rule.ensures.value (λ q known. sym c.loop-reader.invariant ∙ rules_refused (c.loop-reader.reader.line + 1) c.args.states (vec_items c.loop-reader.rules) (rows_left c.loop-reader.reader) q (sym c.loop-reader-test.ensures) (search (rules, known)))

pub loop-reader-preserved : goal.loop-reader-preserved
loop-reader-preserved c = search (rules, rules_more)
