-- What is printed for a text: the answers to its lines, or which line is bad.
use Rattle.std.specs.Prelude.{◌≡◌, ℕ, ◌<◌, ◌≤◌, List, [], ◌∷◌, length, None, codes, decimal, replicate}
use Rattle.call_lines.specs.declared.lines.Line.{Line}
use Rattle.call_lines.specs.declared.lines.Opening.{Opening}
use Rattle.call_text.specs.Reports.{Reported, Told}
use Rattle.call_text.specs.Texts.{FirstBad, IsCallText}
use Rattle.script.specs.Tables.{line}
use Rattle.store.specs.Calls.{Slots}
use Rattle.two_list.specs.Stores.{Grows, Opens, Turns, meaning_of}
use Rattle.two_list.specs.declared.rows.ListCell.{ListCell}
use Rattle.two_list.specs.declared.rows.VersionRow.{VersionRow}
use Rattle.two_list.specs.declared.two_list_store.TwoListStore.{TwoListStore}

-- a text may have this many bytes
abbrev pub longest_text : ℕ
longest_text = 8000000

-- reservations can lie open in this many slots
abbrev pub free_slots : Slots
free_slots = replicate 16 None

-- the lines were answered on a two-list store that was opened over these tables, with free slots
pub record AnsweredOver (versions : List VersionRow) (items : List ℕ) (cells : List ListCell) (o : Opening) (lines : List Line) (printed : List ℕ) : Type 0 where
  pub store : TwoListStore ℕ
  pub opens : Opens versions items cells o.longest o.number store
  pub after : TwoListStore ℕ
  pub slots : Slots
  pub reported : Reported (λ s. meaning_of s) (λ s v c t. Turns s v c t) (λ s t. Grows s t) store free_slots lines printed after slots
  -- so what they tell of lists is as the history tells
  pub told : Told lines printed

-- and the tables have the sizes that the opening asks for
pub record AnsweredOnTwoLists (o : Opening) (lines : List Line) (printed : List ℕ) : Type 0 where
  pub versions : List VersionRow
  pub items : List ℕ
  pub cells : List ListCell
  pub version_places : length versions ≡ o.versions
  pub item_places : length items ≡ o.items
  pub cell_places : length cells ≡ o.cells
  pub answered : AnsweredOver versions items cells o lines printed

-- the line that names a bad line of the text, or 0
abbrev pub bad_line : ℕ → List ℕ
bad_line n = line (codes "bad" ∷ decimal n ∷ [])

-- the answers are printed for a text of calls, and which line is bad for any other; 0 stands for a text that is too long
pub data Printed (text printed : List ℕ) : Type 0 where
  too_long : longest_text < length text → printed ≡ bad_line 0 → Printed text printed
  bad : {n : ℕ} → length text ≤ longest_text → FirstBad text n → printed ≡ bad_line n → Printed text printed
  answered : {o : Opening} {lines : List Line} → length text ≤ longest_text → IsCallText text o lines → AnsweredOnTwoLists o lines printed → Printed text printed
