-- A lent table with places more.
use Rattle.std.proofs.Common.{◌≡◌, ℕ, ◌+◌, ◌-◌, length, take, set, ap, ◌∙◌, arith}
use Rattle.std.proofs.lemmas.List.{length-set, take-set, take-set-le}
use Rattle.two_list.specs.Filling.{Fills, free}
use Rattle.two_list.specs.declared.lent_table.LentTable.{LentTable}

module _ {A : Type 0} (t t' : LentTable A) where
  pub pushed : (x : A) → t'.places.now ≡ set t.places.now t.filled x → t'.filled ≡ t.filled + 1 → Fills t 1 t'
  pushed x places filled =
      record {
        filled = filled;
        size = ap length places ∙ length-set t.places.now t.filled x;
        before = ap (take t.filled) places ∙ take-set t.places.now t.filled x;
      }

  pub one_more : (t'' : LentTable A) (n : ℕ) (x : A) → Fills t n t' → t''.places.now ≡ set t'.places.now t'.filled x → t''.filled ≡ t'.filled + 1 → Fills t (n + 1) t''
  one_more t'' n x more places filled =
      record {
        filled = omega (arith, more.filled);
        size = ap length places ∙ length-set t'.places.now t'.filled x ∙ more.size;
        before = ap (take t.filled) places ∙ take-set-le t.filled t'.places.now t'.filled x (omega (arith, more.filled)) ∙ more.before;
      }

  pub fewer_free : (n : ℕ) → Fills t n t' → free t' ≡ free t - n
  fewer_free n more = omega (arith, more.filled, more.size)
