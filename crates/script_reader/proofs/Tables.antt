-- The first row of a text and the rows behind it, by where the text is cut.
use Rattle.std.proofs.Common.{◌≡◌, ℕ, ◌<◌, Bool, true, false, cond, eqb, List, [], ◌∷◌, map, length, get_or, drop, Ok, Err, sym, refl, ap, ◌∙◌, arith}
use Rattle.script.specs.Fields.{◌>>=◌, ask}
use Rattle.script.specs.Reading.{blank, due, shaped}
use Rattle.script.specs.Tables.{Row, parts, table}
use Rattle.std.specs.List.{onto_first}
use Rattle.script.specs.declared.refusals.Refusal.{Refusal}
use Rattle.script.specs.declared.refusals.Refusal.TheVariants.{Shape}
use Rattle.script.proofs.Parting.{parts_some}
use Rattle.script_reader.specs.Places.{ended}
use Rattle.std.proofs.lemmas.List.{length-map}
use Rattle.std.proofs.lemmas.Bool.{and_left, and_right, cond-false, cond-true, ne_eqb}
use Rattle.std.specs.Str.{bytes_eq}

table_last : (t : List ℕ) → parts 10 t ≡ t ∷ [] → table t ≡ parts 9 t ∷ []
unfolding table
table_last t e = ap (map (parts 9)) e

table_line : (t line rest : List ℕ) → parts 10 t ≡ line ∷ parts 10 rest → table t ≡ parts 9 line ∷ table rest
unfolding table
table_line t line rest e = ap (map (parts 9)) e

first_of : (ps : List (List ℕ)) → 0 < length ps → get_or (map (parts 9) ps) 0 [] ≡ parts 9 (get_or ps 0 [])
first_of [] h = absurd (omega arith)
first_of (p ∷ ps) h = refl

pub first_row_lem : (t : List ℕ) → get_or (table t) 0 [] ≡ parts 9 (get_or (parts 10 t) 0 [])
unfolding table
first_row_lem t = first_of (parts 10 t) (parts_some 10 t)

table_some : (t : List ℕ) → 0 < length (table t)
unfolding table
table_some t = simp length-map (parts_some 10 t)

-- the last row has no line feed, whatever stands in it
pub due_last : (n : ℕ) (word : List ℕ) (count : ℕ) (t : List ℕ) → parts 10 t ≡ t ∷ [] → due n word count (table t) ≡ Err (Shape n)
unfolding due
due_last n word count t e = rw (table_last t e)

asked : {X : Type 0} (b : Bool) (x : X) (e : Refusal) → (ask b e >>= λ _. Ok x) ≡ cond b (Ok x) (Err e)
asked true x e = refl
asked false x e = refl

due_more : (n : ℕ) (word : List ℕ) (count : ℕ) (row : Row) (rows : List Row) → 0 < length rows → due n word count (row ∷ rows) ≡ cond (shaped word count row) (Ok row) (Err (Shape n))
unfolding due
due_more n word count row [] h = absurd (omega arith)
due_more n word count row (next ∷ rows) h = asked (shaped word count row) row (Shape n)

-- any other is the row that is due exactly when it has the shape
pub due_unlike : (n : ℕ) (word : List ℕ) (count : ℕ) (t line rest : List ℕ) → parts 10 t ≡ line ∷ parts 10 rest → false ≡ shaped word count (parts 9 line) → due n word count (table t) ≡ Err (Shape n)
due_unlike n word count t line rest e unlike =
    rw (table_line t line rest e) (due_more n word count (parts 9 line) (table rest) (table_some rest) ∙ cond-false (shaped word count (parts 9 line)) (Ok (parts 9 line)) (Err (Shape n)) (sym unlike))

pub due_alike : (n : ℕ) (word : List ℕ) (count : ℕ) (t line rest : List ℕ) → parts 10 t ≡ line ∷ parts 10 rest → true ≡ shaped word count (parts 9 line) → due n word count (table t) ≡ Ok (get_or (table t) 0 [])
due_alike n word count t line rest e alike =
    rw (table_line t line rest e) (due_more n word count (parts 9 line) (table rest) (table_some rest) ∙ cond-true (shaped word count (parts 9 line)) (Ok (parts 9 line)) (Err (Shape n)) (sym alike))

pub row_line : (t line rest : List ℕ) → parts 10 t ≡ line ∷ parts 10 rest → parts 9 line ≡ get_or (table t) 0 []
row_line t line rest e = rw (table_line t line rest e)

pub rows_line : (t line rest : List ℕ) → parts 10 t ≡ line ∷ parts 10 rest → table rest ≡ drop 1 (table t)
rows_line t line rest e = rw (table_line t line rest e)

onto_blank : (b : ℕ) (ps : Row) → blank (onto_first b ps) ≡ false
onto_blank b [] = refl
onto_blank b (p ∷ ps) = and_right (eqb (length ((b ∷ p) ∷ ps)) 1) false refl

-- a row is not blank where a byte stands in it
some_blank : (e : Bool) (b : ℕ) (ps : Row) → 0 < length ps → blank (cond e ([] ∷ ps) (onto_first b ps)) ≡ false
some_blank true b [] h = absurd (omega arith)
some_blank true b (p ∷ ps) h = and_left (eqb (length ([] ∷ p ∷ ps)) 1) (bytes_eq [] []) (ne_eqb (length ([] ∷ p ∷ ps)) 1 (λ e. omega (arith, e)))
some_blank false b ps h = onto_blank b ps

some_ended : (e : Bool) (b : ℕ) (ps : List (List ℕ)) → 0 < length ps → ended (map (parts 9) (cond e ([] ∷ ps) (onto_first b ps))) ≡ false
some_ended e b [] h = absurd (omega arith)
some_ended true b (p ∷ ps) h = refl
some_ended false b (p ∷ []) h = some_blank (eqb b 9) b (parts 9 p) (parts_some 9 p)
some_ended false b (p ∷ q ∷ ps) h = refl

-- the text is at its end exactly when there is nothing left of it
pub ended_table : (t : List ℕ) → eqb (length t) 0 ≡ ended (table t)
unfolding table
ended_table [] = refl
ended_table (b ∷ bs) =
    ne_eqb (length (b ∷ bs)) 0 (λ e. omega (arith, e)) ∙ sym (some_ended (eqb b 10) b (parts 10 bs) (parts_some 10 bs))
