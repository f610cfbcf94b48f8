use Rattle.std.proofs.Common.{◌≡◌, arith, rules, Some}
use Rattle.call_lines.specs.Ranges.{CallFits}
use Rattle.call_text.proofs.Under.{under_only}
use Rattle.call_text.proofs.parsing.calls.parse_under.Goals as goal
use Rattle.store.specs.declared.calls.Call.TheVariants.{MakeUnder}

pub returns-in_err-version : goal.returns-in_err-version
returns-in_err-version c = record {
  fits = search rules;
  every = λ a fits e.
      under_only (λ a. CallFits a → c.from_residual.result ≡ Some a) _ _ (λ i v d h r fits. grind (arith, c.parse_change.ensures.every v d fits.1 r)) a e fits;
}

pub returns : goal.returns
returns c = record {
  fits = search rules;
  every = λ a fits e.
      under_only (λ a. CallFits a → Some (MakeUnder c.in_ok-slot.field-0 c.in_ok-version.version c.in_ok-version.change) ≡ Some a) _ _ (λ i v d h r fits. grind (arith, c.parse_change.ensures.every v d fits.1 r, c.slot.ensures.every i fits.0 h)) a e fits;
}
