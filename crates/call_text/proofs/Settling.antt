-- A text is the text of one opening and its lines, or it has one first bad line.
use Rattle.std.proofs.Common.{◌≡◌, ℕ, ◌≤◌, List, [], ◌∷◌, ◌++◌, length, All, Ok, Err, Result, sym, refl, ap, ◌∙◌, append_assoc, arith}
use Rattle.std.proofs.lemmas.List.{append-nil, length-append}
use Rattle.std.proofs.lemmas.List.Elements.{All-head, All-tail}
use Rattle.call_lines.specs.Lines.{line_row, opening_row}
use Rattle.call_lines.specs.Ranges.{LineFits}
use Rattle.call_lines.specs.declared.lines.Line.{Line}
use Rattle.call_lines.specs.declared.lines.Opening.{Opening}
use Rattle.call_text.proofs.Plain.{line_plain, opening_plain}
use Rattle.call_text.proofs.Unambiguous.{same_line, same_opening}
use Rattle.call_text.specs.Texts.{BeginsWithNone, FirstBad, IsCallText, Read, Settled, opening, later}
use Rattle.call_text.specs.declared.errors.TextError.{TextError}
use Rattle.call_text.specs.declared.errors.TextError.TheVariants.{Line as BadLine, Memory}
use Rattle.call_text.specs.declared.texts.CallText.{CallText}
use Rattle.script.proofs.Parting.{Plain, join_parts, line_parts, row_parts}
use Rattle.script.specs.Tables.{Row, join, line, parts}
use Rattle.std.specs.List.{flat_map}

-- two equal texts have the same first line, and the same behind it
same_first : (row other : Row) → Plain row → Plain other → (x y : List ℕ) → line row ++ x ≡ line other ++ y → (row ≡ other) × (x ≡ y)
same_first row other p q x y e =
    let cut : join 9 row ∷ parts 10 x ≡ join 9 other ∷ parts 10 y = sym (line_parts row p x) ∙ (ap (parts 10) e ∙ line_parts other q y) in
    let fields : join 9 row ≡ join 9 other = cc in
    let same : parts 10 x ≡ parts 10 y = cc in
    (sym (row_parts row p) ∙ (ap (parts 9) fields ∙ row_parts other q), sym (join_parts 10 x) ∙ (ap (join 10) same ∙ join_parts 10 y))

abbrev text_of : List Line → List ℕ
text_of ls = flat_map (λ l. line (line_row l)) ls

module _ (l m : Line) (ls ms : List Line) (fits : All LineFits (l ∷ ls)) (others : All LineFits (m ∷ ms)) (x y : List ℕ) (e : text_of (l ∷ ls) ++ x ≡ text_of (m ∷ ms) ++ y) where
  heads_and_tails : (line_row l ≡ line_row m) × (text_of ls ++ x ≡ text_of ms ++ y)
  heads_and_tails =
      same_first (line_row l) (line_row m) (line_plain l (All-head LineFits l ls fits)) (line_plain m (All-head LineFits m ms others)) (text_of ls ++ x) (text_of ms ++ y) (sym (append_assoc (line (line_row l)) (text_of ls) x) ∙ (e ∙ append_assoc (line (line_row m)) (text_of ms) y))

  tails : text_of ls ++ x ≡ text_of ms ++ y
  tails = heads_and_tails.1

  heads : l ≡ m
  heads = same_line l m (All-head LineFits l ls fits) (All-head LineFits m ms others) heads_and_tails.0

-- a text that begins with a line is not empty
not_empty : (l : Line) (ls : List Line) (x : List ℕ) → ¬ (text_of (l ∷ ls) ++ x ≡ [])
not_empty l ls x e =
    omega (arith, ap length e, length-append (text_of (l ∷ ls)) x, length-append (line (line_row l)) (text_of ls), length-append (join 9 (line_row l)) (10 ∷ []))

-- lines and no further one are no fewer than other lines of the same text
no_fewer : (ls ms : List Line) (x y : List ℕ) → All LineFits ls → All LineFits ms → BeginsWithNone line_row LineFits x → text_of ls ++ x ≡ text_of ms ++ y → length ms ≤ length ls
no_fewer ls [] x y fits others none e = omega arith
no_fewer [] (m ∷ ms) x y fits others none e =
    absurd (none m (text_of ms ++ y) (All-head LineFits m ms others) (e ∙ append_assoc (line (line_row m)) (text_of ms) y))
no_fewer (l ∷ ls) (m ∷ ms) x y fits others none e =
    omega (arith, no_fewer ls ms x y (All-tail LineFits l ls fits) (All-tail LineFits m ms others) none (tails l m ls ms fits others x y e))

-- nothing stands behind lines that are no fewer than all lines of the text
nothing_behind : (ls ms : List Line) (x : List ℕ) → All LineFits ls → All LineFits ms → text_of ls ++ x ≡ text_of ms ++ [] → length ms ≤ length ls → x ≡ []
nothing_behind [] [] x fits others e few = e
nothing_behind [] (m ∷ ms) x fits others e few = absurd (omega arith)
nothing_behind (l ∷ ls) [] x fits others e few = absurd (not_empty l ls x e)
nothing_behind (l ∷ ls) (m ∷ ms) x fits others e few =
    nothing_behind ls ms x (All-tail LineFits l ls fits) (All-tail LineFits m ms others) (tails l m ls ms fits others x [] e) (omega arith)

-- the same lines have the same text alone
same_all : (ls ms : List Line) → All LineFits ls → All LineFits ms → text_of ls ++ [] ≡ text_of ms ++ [] → ls ≡ ms
same_all [] [] fits others e = refl
same_all [] (m ∷ ms) fits others e = absurd (not_empty m ms [] (sym e))
same_all (l ∷ ls) [] fits others e = absurd (not_empty l ls [] e)
same_all (l ∷ ls) (m ∷ ms) fits others e =
    let rest = same_all ls ms (All-tail LineFits l ls fits) (All-tail LineFits m ms others) (tails l m ls ms fits others [] [] e) in
    cc (heads l m ls ms fits others [] [] e, rest)

-- the first line of a text of calls with more behind it
first_line : {text front : List ℕ} {o : Opening} {ls : List Line} (rest : List ℕ) → text ≡ front ++ rest → IsCallText front o ls → text ≡ line (opening_row o) ++ (text_of ls ++ rest)
first_line {o} {ls} rest e is = e ∙ (ap (λ z. z ++ rest) is.written ∙ append_assoc (line (opening_row o)) (text_of ls) rest)

-- two readings of one text have the same first line, and the same text behind it
same_readings : {text front other : List ℕ} {o o' : Opening} {ls ms : List Line} (x y : List ℕ) → text ≡ front ++ x → IsCallText front o ls → text ≡ other ++ y → IsCallText other o' ms → (opening_row o ≡ opening_row o') × (text_of ls ++ x ≡ text_of ms ++ y)
same_readings {o} {o'} x y e is d also =
    same_first (opening_row o) (opening_row o') (opening_plain o is.opening_fits) (opening_plain o' also.opening_fits) _ _ (sym (first_line x e is) ∙ first_line y d also)

one_reading : {text : List ℕ} {o o' : Opening} {ls ms : List Line} → IsCallText text o ls → IsCallText text o' ms → (o' ≡ o) × (ms ≡ ls)
one_reading {text} {o} {o'} {ls} {ms} is also =
    let whole : text ≡ text ++ [] = sym (append-nil text) in
    let same = same_readings [] [] whole also whole is in
    (same_opening o' o also.opening_fits is.opening_fits same.0, same_all ms ls also.lines_fit is.lines_fit same.1)

no_calls : {text : List ℕ} {n : ℕ} → FirstBad text n → (o : Opening) (ls : List Line) → ¬ IsCallText text o ls
no_calls (opening none) o ls is = none o (text_of ls) is.opening_fits is.written
no_calls {text} (later {rest} {lines} e is some none) o ls also =
    let same = (same_readings rest [] e is (sym (append-nil text)) also).1 in
    let few = no_fewer lines ls rest [] is.lines_fit also.lines_fit none same in
    some (nothing_behind lines ls rest is.lines_fit also.lines_fit same few)

one_line : {text : List ℕ} {m n : ℕ} → FirstBad text m → FirstBad text n → m ≡ n
one_line (opening none) (opening also) = refl
one_line (opening none) (later {rest} {o} {lines} e is some also) = absurd (none o (text_of lines ++ rest) is.opening_fits (first_line rest e is))
one_line (later {rest} {o} {lines} e is some none) (opening also) = absurd (also o (text_of lines ++ rest) is.opening_fits (first_line rest e is))
one_line (later {rest = x} {lines = ls} e is some none) (later {rest = y} {lines = ms} d also more none') =
    let same = (same_readings x y e is d also).1 in
    omega (arith, no_fewer ls ms x y is.lines_fit also.lines_fit none same, no_fewer ms ls y x also.lines_fit is.lines_fit none' (sym same))

pub settled : (text : List ℕ) (r : Result CallText TextError) → Read text r → Settled text r
settled text (Ok t) is = (λ o ls also. one_reading is also, λ n bad. no_calls bad t.opening t.lines.items is)
settled text (Err (BadLine n)) bad = (no_calls bad, λ m other. one_line other bad)
settled text (Err Memory) u = tt
