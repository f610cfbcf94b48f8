-- What it says of the parts of a reading that the whole succeeds.
use Rattle.std.proofs.Common.{◌≡◌, Bool, true, false, cond, Some, None, Ok, Err, Option, Result, refl}
use Rattle.std.specs.Option.{ok_or}
use Rattle.script.specs.Fields.{◌>>=◌, ◌>>◌, ask}

pub from_ok : {X E : Type 0} {x y : X} → ◌≡◌ {A = Result X E} (Ok x) (Ok y) → x ≡ y
from_ok e = cc

-- of two steps, both succeed
pub bind_is : {X Y E : Type 0} (m : Result X E) (k : X → Result Y E) (y : Y) → (m >>= k) ≡ Ok y → (x : X) × (m ≡ Ok x) × (k x ≡ Ok y)
bind_is (Ok x) k y e = (x, refl, e)
bind_is (Err d) k y e = cc

-- what is asked for holds
pub ask_is : {Y E : Type 0} (b : Bool) (d : E) (r : Result Y E) (y : Y) → (ask b d >> r) ≡ Ok y → (b ≡ true) × (r ≡ Ok y)
ask_is true d r y e = (refl, e)
ask_is false d r y e = cc

pub ok_or_is : {X E : Type 0} (o : Option X) (d : E) (x : X) → ok_or o d ≡ Ok x → o ≡ Some x
ok_or_is None d x e = cc
ok_or_is (Some y) d x e = cc

pub cond_some : {X : Type 0} (b : Bool) (x y : X) → cond b (Some x) None ≡ Some y → (b ≡ true) × (x ≡ y)
cond_some true x y e = (refl, cc)
cond_some false x y e = cc
