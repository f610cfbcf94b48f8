-- A text of calls, line by line: one line more, and what a bad line shows of the text.
use Rattle.std.proofs.Common.{◌≡◌, ◌≢◌, ℕ, ◌+◌, ◌<◌, List, [], ◌∷◌, ◌++◌, length, All, Some, None, sym, refl, ap, ◌∙◌, append_assoc, arith}
use Rattle.std.proofs.lemmas.Grind.{common_steps}
use Rattle.std.proofs.lemmas.List.{flat_map_more, length-append}
use Rattle.std.proofs.lemmas.List.Elements.{All-nil, All-push}
use Rattle.call_lines.specs.Lines.{line_row, opening_row}
use Rattle.call_lines.specs.Ranges.{LineFits, OpeningFits}
use Rattle.call_lines.specs.declared.lines.Line.{Line}
use Rattle.call_lines.specs.declared.lines.Opening.{Opening}
use Rattle.call_text.proofs.Plain.{line_plain, opening_plain}
use Rattle.call_text.specs.Texts.{BeginsWithNone, FirstBad, Says, call_text, opening, later}
use Rattle.script.proofs.Parting.{Plain, join_parts, line_parts, parts_some}
use Rattle.script.specs.Tables.{Row, join, line, parts}

join_more : (s : ℕ) (p : List ℕ) (ps : List (List ℕ)) → 0 < length ps → join s (p ∷ ps) ≡ p ++ s ∷ join s ps
join_more s p [] h = absurd (omega arith)
join_more s p (q ∷ ps) h = refl

parted : (s : ℕ) (t a b : List ℕ) → parts s t ≡ a ∷ parts s b → t ≡ a ++ s ∷ b
parted s t a b e = grind (arith, join_parts s t, join_more s a (parts s b) (parts_some s b), join_parts s b)

-- a text that has no line feed, or whose first line says nothing of a form, begins with no line of that form
module _ {A : Type 0} (row : A → Row) (Fits : A → Type 0) (plain : (a : A) → Fits a → Plain (row a)) where
  pub unended : (text : List ℕ) → parts 10 text ≡ text ∷ [] → BeginsWithNone row Fits text
  unended text e a rest fits begins =
      let two : parts 10 text ≡ join 9 (row a) ∷ parts 10 rest = ap (parts 10) begins ∙ line_parts (row a) (plain a fits) rest in
      let more = parts_some 10 rest in
      let none : parts 10 rest ≡ [] = cc in
      omega (arith, ap length none)

  pub unsaid : (text first rest : List ℕ) → parts 10 text ≡ first ∷ parts 10 rest → Says row Fits first None → BeginsWithNone row Fits text
  unsaid text first rest e none a others fits begins =
      let two : parts 10 text ≡ join 9 (row a) ∷ parts 10 others = ap (parts 10) begins ∙ line_parts (row a) (plain a fits) others in
      none a fits cc

-- how far a text was read: a text of calls, and what is left behind it
pub record Reached (text : List ℕ) (o : Opening) (ls : List Line) (rest : List ℕ) : Type 0 where
  pub opening_fits : OpeningFits o
  pub lines_fit : All LineFits ls
  pub written : text ≡ call_text o ls ++ rest

pub reached_first : (text first rest : List ℕ) (o : Opening) (ls : List Line) → parts 10 text ≡ first ∷ parts 10 rest → Says opening_row OpeningFits first (Some o) → ls ≡ [] → Reached text o ls rest
reached_first text first rest o ls e said none =
    rw none
    (record {
      opening_fits = said.0;
      lines_fit = All-nil LineFits;
      written = parted 10 text first rest e ∙ (ap (λ z. z ++ 10 ∷ rest) said.1 ∙ grind (arith, common_steps));
    })

pub reached_more : (text first more rest : List ℕ) (o : Opening) (ls ms : List Line) (l : Line) → Reached text o ls rest → parts 10 rest ≡ first ∷ parts 10 more → Says line_row LineFits first (Some l) → ms ≡ ls ++ l ∷ [] → Reached text o ms more
reached_more text first more rest o ls ms l reached e said pushed =
    let next : rest ≡ line (line_row l) ++ more = parted 10 rest first more e ∙ (ap (λ z. z ++ 10 ∷ more) said.1 ∙ sym (append_assoc (join 9 (line_row l)) (10 ∷ []) more)) in
    rw pushed
    (record {
      opening_fits = reached.opening_fits;
      lines_fit = All-push LineFits ls l reached.lines_fit said.0;
      written = reached.written ∙ grind (arith, common_steps, flat_map_more);
    })

-- the first line is bad, or the line behind what was reached
pub bad_unended : (text : List ℕ) → parts 10 text ≡ text ∷ [] → FirstBad text 1
bad_unended text e = opening (unended opening_row OpeningFits opening_plain text e)

pub bad_unsaid : (text first rest : List ℕ) → parts 10 text ≡ first ∷ parts 10 rest → Says opening_row OpeningFits first None → FirstBad text 1
bad_unsaid text first rest e none = opening (unsaid opening_row OpeningFits opening_plain text first rest e none)

bad_behind : (text rest : List ℕ) (o : Opening) (ls : List Line) (n : ℕ) → Reached text o ls rest → n ≡ length ls → rest ≢ [] → BeginsWithNone line_row LineFits rest → FirstBad text (n + 2)
bad_behind text rest o ls n reached count some none =
    rw count
    (later reached.written (record { opening_fits = reached.opening_fits; lines_fit = reached.lines_fit; written = refl }) some none)

pub bad_behind_unended : (text rest : List ℕ) (o : Opening) (ls : List Line) (n : ℕ) → Reached text o ls rest → n ≡ length ls → 0 < length rest → parts 10 rest ≡ rest ∷ [] → FirstBad text (n + 2)
bad_behind_unended text rest o ls n reached count some e =
    bad_behind text rest o ls n reached count (λ none. omega (arith, ap length none)) (unended line_row LineFits line_plain rest e)

pub bad_behind_unsaid : (text first more rest : List ℕ) (o : Opening) (ls : List Line) (n : ℕ) → Reached text o ls rest → n ≡ length ls → parts 10 rest ≡ first ∷ parts 10 more → Says line_row LineFits first None → FirstBad text (n + 2)
bad_behind_unsaid text first more rest o ls n reached count e none =
    let cut = parted 10 rest first more e in
    bad_behind text rest o ls n reached count (λ empty. omega (arith, ap length (sym cut ∙ empty), length-append first (10 ∷ more))) (unsaid line_row LineFits line_plain rest first more e none)
