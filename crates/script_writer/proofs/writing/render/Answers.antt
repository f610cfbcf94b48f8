use Rattle.std.proofs.Common.{◌≡◌, vec_items, ap, ◌∙◌, rules}
use Rattle.script.proofs.Laws.{text_is_accepted}
use Rattle.script.specs.Reading.{reading}
use Rattle.script.specs.Scripts.{content}
use Rattle.script.specs.Texts.{text}
use Rattle.script_writer.proofs.Lines.{by_lines}
use Rattle.script_writer.proofs.writing.render.Goals as goal

pub returns : goal.returns
returns c =
    let s = c.args.script.now in
    let written : vec_items c.put_all-2.new.out ≡ text (content s) = search (rules, by_lines s) in
    record { written = written; accepted = ap reading written ∙ text_is_accepted (content s) s.lawful }
