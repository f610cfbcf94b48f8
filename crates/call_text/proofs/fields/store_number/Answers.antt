use Rattle.std.proofs.Common.{decimal, arith, subst, sym, ap, ◌∙◌, rules}
use Rattle.std.proofs.lemmas.Fmt.{IsAscii-decimal, parse-decimal}
use Rattle.std.proofs.lemmas.Str.{IsUtf8-from_ascii}
use Rattle.std.specs.Result.{result_ok}
use Rattle.std.specs.Str.{IsUtf8}
use Rattle.call_text.proofs.fields.store_number.Goals as goal

pub returns-in_err-ok : goal.returns-in_err-ok
returns-in_err-ok c = record {
  fits = search rules;
  every = λ n fits e.
      let text : IsUtf8 c.args.field.now = subst IsUtf8 (sym e) (IsUtf8-from_ascii (decimal n) (IsAscii-decimal n (omega arith))) in
      grind (arith, c.from_utf8.ensures.cases);
}

pub returns : goal.returns
returns c = record {
  fits = search rules;
  every = λ n fits e.
      c.ok-2.ensures.value ∙ ap result_ok (parse-decimal 32 n c.args.field.now c.parse.result fits (omega arith) e (search rules));
}
