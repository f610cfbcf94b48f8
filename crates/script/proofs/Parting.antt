-- A text and its table: parting at a separator and joining undo one another, where no part holds the separator.
use Rattle.std.proofs.Common.{◌≡◌, ℕ, ◌<◌, ◌≤◌, false, eqb, List, [], ◌∷◌, ◌++◌, map, length, sym, refl, ap, ◌∙◌, append_assoc, arith}
use Rattle.std.proofs.ByRecursion.{All-append, All-get_or, All-map, All-weaker}
use Rattle.std.proofs.lemmas.List.{length-append, length-map}
use Rattle.std.proofs.lemmas.List.Splits.{join_with_byte-slice_split, length-slice_split, slice_split_at, slice_split_none}
use Rattle.std.proofs.lemmas.Bool.{eq-eqb, ne_eqb}
use Rattle.std.specs.List.{flat_map, AllByRecursion as All}
use Rattle.script.specs.Tables.{Row, parts, join, table, line}

-- no byte of the list is the separator
abbrev pub Free : ℕ → List ℕ → Type 0
Free s p = All (λ b. eqb b s ≡ false) p

-- what stands behind the last line feed of a text
abbrev pub end : Row
end = [] ∷ []

-- there is a first part
pub parts_some : (s : ℕ) (t : List ℕ) → 0 < length (parts s t)
parts_some s t = omega (arith, length-slice_split (λ b. eqb b s) t)

-- the parts of a text make it again
pub join_parts : (s : ℕ) (t : List ℕ) → join s (parts s t) ≡ t
join_parts s t = join_with_byte-slice_split s t

-- parting, where the first part does not hold the separator
parts_last : (s : ℕ) (p : List ℕ) → Free s p → parts s p ≡ p ∷ []
parts_last s p h = slice_split_none (λ b. eqb b s) p (λ k d below. All-get_or (λ b. eqb b s ≡ false) p k d below h)

parts_more : (s : ℕ) (p q : List ℕ) → Free s p → parts s (p ++ s ∷ q) ≡ p ∷ parts s q
parts_more s p q h = slice_split_at (λ b. eqb b s) p s q (λ k d below. All-get_or (λ b. eqb b s ≡ false) p k d below h) (eq-eqb s s refl)

-- parts that do not hold the separator are those of the text that they make
parts_join : (s : ℕ) (ps : List (List ℕ)) → 0 < length ps → All (Free s) ps → parts s (join s ps) ≡ ps
parts_join s [] some h = let w : ⊥ = omega arith in absurd w
parts_join s (p ∷ []) some h = parts_last s p h.0
parts_join s (p ∷ q ∷ ps) some h = parts_more s p (join s (q ∷ ps)) h.0 ∙ ap {B = List (List ℕ)} (λ z. p ∷ z) (parts_join s (q ∷ ps) (omega arith) h.1)

-- what holds of the separator and of every byte of the parts holds of every byte of the text
all_join : (P : ℕ → Type 0) (s : ℕ) → P s → (ps : List (List ℕ)) → All (All P) ps → All P (join s ps)
all_join P s here [] h = tt
all_join P s here (p ∷ []) h = h.0
all_join P s here (p ∷ q ∷ ps) h = All-append P p (s ∷ join s (q ∷ ps)) h.0 (here, all_join P s here (q ∷ ps) h.1)

-- the table of a text makes it again
join_table : (t : List ℕ) → join 10 (map (join 9) (table t)) ≡ t
unfolding table
join_table t = ap (join 10) (each (parts 10 t)) ∙ join_parts 10 t
  where
    each : (ls : List (List ℕ)) → map (join 9) (map (parts 9) ls) ≡ ls
    each [] = refl
    each (l ∷ ls) = cc (join_parts 9 l, each ls)

-- lines that end with line feeds are lines joined by them, with nothing behind the last
lines_join : (rs : List Row) → flat_map line rs ≡ join 10 (map (join 9) (rs ++ end ∷ []))
lines_join [] = refl
lines_join (r ∷ []) = append_assoc (join 9 r) (10 ∷ []) []
lines_join (r ∷ q ∷ rs) = append_assoc (join 9 r) (10 ∷ []) (flat_map line (q ∷ rs)) ∙ ap (λ z. join 9 r ++ 10 ∷ z) (lines_join (q ∷ rs))

-- a text is the lines that its table shows
pub text_from_table : (t : List ℕ) (rs : List Row) → table t ≡ rs ++ end ∷ [] → t ≡ flat_map line rs
text_from_table t rs e = sym (join_table t) ∙ (ap (λ z. join 10 (map (join 9) z)) e ∙ sym (lines_join rs))

-- the byte is above both separators
abbrev pub Above : ℕ → Type 0
Above b = 10 < b

-- one field or more, with no separator in them
pub record Plain (row : Row) : Type 0 where
  pub some : 0 < length row
  pub bytes : All (All Above) row

-- plain fields hold no separator
free : (s : ℕ) → s ≤ 10 → (row : Row) → Plain row → All (Free s) row
free s h row p = All-weaker (All Above) (Free s) (All-weaker Above (λ b. eqb b s ≡ false) (λ b above. ne_eqb b s (λ e. omega arith))) row p.bytes

-- a plain row is the fields of its line
pub row_parts : (row : Row) → Plain row → parts 9 (join 9 row) ≡ row
row_parts row p = parts_join 9 row p.some (free 9 (omega arith) row p)

-- its line has a line feed at its end alone
line_free : (row : Row) → Plain row → Free 10 (join 9 row)
line_free row p = all_join (λ b. eqb b 10 ≡ false) 9 refl row (free 10 (omega arith) row p)

-- so the first part of a text that begins with the line is the line
pub line_parts : (row : Row) → Plain row → (rest : List ℕ) → parts 10 (line row ++ rest) ≡ join 9 row ∷ parts 10 rest
line_parts row p rest = ap (parts 10) (append_assoc (join 9 row) (10 ∷ []) rest) ∙ parts_more 10 (join 9 row) rest (line_free row p)

-- plain rows are the table of the text that they make
table_join : (rs : List Row) → 0 < length rs → All Plain rs → table (join 10 (map (join 9) rs)) ≡ rs
unfolding table
table_join rs some h =
    ap (map (parts 9)) (parts_join 10 (map (join 9) rs) (rw length-map some) (All-map (Free 10) (join 9) rs (All-weaker Plain (λ r. Free 10 (join 9 r)) line_free rs h))) ∙ each rs h
  where
    each : (qs : List Row) → All Plain qs → map (parts 9) (map (join 9) qs) ≡ qs
    each [] p = refl
    each (q ∷ qs) p = cc (row_parts q p.0, each qs p.1)

-- the lines of plain rows have those rows for their table
pub table_lines : (rs : List Row) → All Plain rs → table (flat_map line rs) ≡ rs ++ end ∷ []
table_lines rs h =
    ap table (lines_join rs) ∙ table_join (rs ++ end ∷ []) (rw length-append (omega arith)) (All-append Plain rs (end ∷ []) h (record { some = omega arith; bytes = (tt, tt) }, tt))
