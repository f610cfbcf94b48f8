use Rattle.std.proofs.Common.{◌≡◌, true, false, length, Err, arith}
use Rattle.script.specs.Reading.{read_rows, reading}
use Rattle.script.specs.Scripts.{content}
use Rattle.script.specs.Soundness.{within}
use Rattle.script_reader.specs.Answers.{Answers}
use Rattle.script_reader.specs.Places.{rows_left}
use Rattle.script_reader.proofs.Exactly.{exactly, read_size, refused_size, size_is_right}
use Rattle.std.proofs.lemmas.Bool.Decides.{nat_tests}
use Rattle.script_reader.proofs.reading.parse.Goals as goal

pub returns-then-is_empty : goal.returns-then-is_empty
returns-then-is_empty c =
    let outside : within 1 4096 (length c.args.bytes.now) ≡ false = grind (arith, nat_tests, c.is_empty.ensures, c.then-is_empty.either) in
    let answer : Answers (reading c.args.bytes.now) content (Err c.into.result) = rw c.into.ensures (refused_size c.args.bytes.now outside) in
    record {
      answer = answer;
      exact = exactly c.args.bytes.now (Err c.into.result) answer;
      sized = rw c.into.ensures tt;
    }

pub returns : goal.returns
returns c =
    let inside : within 1 4096 (length c.args.bytes.now) ≡ true = grind (arith, nat_tests, c.is_empty.ensures, c.if-is_empty.false, c.if-bytes-gt-LONGEST.false) in
    let is : read_rows (rows_left c.new.result) ≡ reading c.args.bytes.now = cc (read_size c.args.bytes.now inside, c.new.ensures.rows) in
    let answer : Answers (reading c.args.bytes.now) content c.read_script.result = rw is at c.read_script.ensures in
    record {
      answer = answer;
      exact = exactly c.args.bytes.now c.read_script.result answer;
      sized = size_is_right c.args.bytes.now c.read_script.result inside;
    }
