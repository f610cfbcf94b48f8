-- The row that is due: it stands first with another behind it, and is its word and so many fields more.
use Rattle.std.proofs.Common.{◌≡◌, ℕ, zero, suc, ◌<◌, true, ◌&&◌, eqb, List, [], ◌∷◌, length, Ok, sym, refl, ap, ◌∙◌, subst, arith}
use Rattle.std.proofs.lemmas.Slice.Eq.{bytes_eq-Decides}
use Rattle.std.proofs.lemmas.Bool.{and_parts, eqb-true}
use Rattle.std.specs.Str.{bytes_eq}
use Rattle.script.specs.Fields.{field}
use Rattle.script.specs.Reading.{due}
use Rattle.script.specs.Tables.{Row}
use Rattle.script.specs.declared.refusals.Refusal.TheVariants.{Shape}
use Rattle.script.proofs.Outcomes.{ask_is}

-- the row is the first, and another stands behind it
pub record First (rows : List Row) (row : Row) : Type 0 where
  pub next : Row
  pub more : List Row
  pub is : rows ≡ row ∷ next ∷ more

-- a row with others behind it
pub first : (row : Row) (rest : List Row) → 0 < length rest → First (row ∷ rest) row
first row [] some = let w : ⊥ = omega arith in absurd w
first row (next ∷ more) some = record { next = next; more = more; is = refl }

pub at_first : {rows : List Row} {row same : Row} → First rows row → row ≡ same → First rows same
at_first {rows} f e = subst (First rows) e f

-- so many fields of the row, from a place on
abbrev pub fields : ℕ → ℕ → Row → Row
fields k zero row = []
fields k (suc n) row = field k row ∷ fields (suc k) n row

fields_behind : (k n : ℕ) (f : List ℕ) (row : Row) → fields (suc k) n (f ∷ row) ≡ fields k n row
fields_behind k zero f row = refl
fields_behind k (suc n) f row = ap {B = Row} (λ z. field k row ∷ z) (fields_behind (suc k) n f row)

fields_all : (row : Row) → row ≡ fields 0 (length row) row
fields_all [] = refl
fields_all (f ∷ row) = ap {B = Row} (λ z. f ∷ z) (fields_all row ∙ sym (fields_behind 0 (length row) f row))

-- a row of so many fields with its word in front
pub row_is : (word : List ℕ) (count : ℕ) (row : Row) → (bytes_eq (field 0 row) word && eqb (length row) (suc count)) ≡ true → row ≡ word ∷ fields 1 count row
row_is word count row h =
    let (w, l) = and_parts (bytes_eq (field 0 row) word) (eqb (length row) (suc count)) h in
    let is = (bytes_eq-Decides (field 0 row) word).0 w in
    let many = eqb-true (length row) (suc count) l in
    fields_all row ∙ (ap (λ z. fields 0 z row) many ∙ ap {B = Row} (λ z. z ∷ fields 1 count row) is)

-- what is read as due is that
pub due_is : (n : ℕ) (word : List ℕ) (count : ℕ) (rows : List Row) (row : Row) → due n word (suc count) rows ≡ Ok row → First rows row × (row ≡ word ∷ fields 1 count row)
unfolding due
due_is n word count [] row e = cc
due_is n word count (r ∷ []) row e = cc
due_is n word count (r ∷ next ∷ more) row e =
    let (fits, same) = ask_is (bytes_eq (field 0 r) word && eqb (length r) (suc count)) (Shape n) (Ok r) row e in
    let is : r ≡ row = cc in
    (record { next = next; more = more; is = ap {B = List Row} (λ z. z ∷ next ∷ more) is }, row_is word count row (ap (λ z. bytes_eq (field 0 z) word && eqb (length z) (suc count)) (sym is) ∙ fits))
