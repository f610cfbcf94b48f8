-- A lent table: its free places, and how it is once some of them are filled.
use Rattle.std.specs.Prelude.{◌≡◌, ℕ, ◌+◌, ◌-◌, length, take}
use Rattle.two_list.specs.Tables.{usable}
use Rattle.two_list.specs.declared.lent_table.LentTable.{LentTable}

abbrev pub free : {A : Type 0} → LentTable A → ℕ
free t = usable t.places.now - t.filled

-- n places more are filled, and those that were filled before are as they were
pub record Fills {A : Type 0} (t : LentTable A) (n : ℕ) (t' : LentTable A) : Type 0 where
  pub filled : t'.filled ≡ t.filled + n
  pub size : length t'.places.now ≡ length t.places.now
  pub before : take t.filled t'.places.now ≡ take t.filled t.places.now
