-- The fields of a change under a reservation.
use Rattle.std.proofs.Common.{◌≡◌, ℕ, List, [], ◌∷◌, ap, arith, codes, decimal, get_or}
use Rattle.call_lines.specs.Lines.{call_row, change_row}
use Rattle.script.specs.Tables.{Row}
use Rattle.store.specs.declared.calls.Call.{Call}
use Rattle.store.specs.declared.calls.Call.TheVariants.{Ask, Make, MakeUnder}
use Rattle.store.specs.declared.calls.Question.TheVariants.{Longest}
use Rattle.store.specs.declared.changes.Change.{Change}
use Rattle.store.specs.declared.changes.Change.TheVariants.{Push}

-- the first byte of the first field
abbrev first_byte : Row → ℕ
first_byte row = get_or (get_or row 0 []) 0 0

-- they are of no other call
pub under_only : (P : Call ℕ → Type 0) (held : List ℕ) (fields : Row) → ((i v : ℕ) (c : Change ℕ) → held ≡ decimal i → fields ≡ change_row v c → P (MakeUnder i v c)) → (a : Call ℕ) → codes "under" ∷ held ∷ fields ≡ call_row a → P a
under_only P held fields then (MakeUnder i v c) e =
    let h : held ≡ decimal i = cc in
    let r : fields ≡ change_row v c = cc in
    then i v c h r
under_only P held fields then (Ask Longest) e = absurd (omega (arith, ap first_byte e))
under_only P held fields then (Make v (Push x)) e = absurd (omega (arith, ap first_byte e))
under_only P held fields then other e = absurd (omega (arith, ap first_byte e))
