-- The line that answers each line of a text of calls.
use Rattle.std.specs.Prelude.{◌≡◌, ◌⊎◌, ℕ, List, [], ◌∷◌, ◌++◌, map, length, codes, decimal, slice_index_or}
use Rattle.call_lines.specs.Lines.{reply_row}
use Rattle.call_lines.specs.declared.lines.Line.{Line}
use Rattle.call_lines.specs.declared.lines.Line.TheVariants.{Call as CallLine, List as ListLine}
use Rattle.script.specs.Tables.{join}
use Rattle.std.specs.List.{flat_map, zip}
use Rattle.store.specs.Calls.{Slots}
use Rattle.store.specs.History.{history, tellings}
use Rattle.store.specs.Meanings.{Meaning}
use Rattle.store.specs.Replays.{Replayed, feeds}
use Rattle.store.specs.Replies.{Outcome, Reply, counted, of_lists, reply_of}
use Rattle.store.specs.declared.calls.Call.{Call}
use Rattle.store.specs.declared.calls.Call.TheVariants.{Ask}
use Rattle.store.specs.declared.calls.Question.TheVariants.{Length}
use Rattle.store.specs.declared.changes.Change.{Change}

-- the call that a line makes: for a list, the question for its length
abbrev pub call_of : Line → Call ℕ
call_of (CallLine c) = c
call_of (ListLine v) = Ask (Length v)

-- each item behind a tab
abbrev pub item_fields : List ℕ → List ℕ
item_fields items = flat_map (λ x. 9 ∷ decimal x) items

-- the answer to the question for a list
abbrev pub list_report : List ℕ → Reply ℕ → List ℕ
list_report items (counted n) = codes "list" ++ item_fields items
list_report items r = join 9 (reply_row r)

-- what answers a line, by the lists of the versions
abbrev pub report : List (List ℕ) → Line → Outcome ℕ → List ℕ
report versions (CallLine c) a = join 9 (reply_row (reply_of a))
report versions (ListLine v) a = list_report (slice_index_or versions v []) (reply_of a)

-- the reports of all lines, each as a line
abbrev pub reports : List (List ℕ) → List (Line × Outcome ℕ) → List ℕ
reports versions answered = flat_map (λ p. report versions p.0 p.1 ++ 10 ∷ []) answered

-- the calls of the lines were carried out, and the text reports their answers
pub record Reported {S : Type 0} (meaning : S → Meaning ℕ) (goes : S → ℕ → Change ℕ → S → Type 0) (grows : S → S → Type 0) (s : S) (p : Slots) (lines : List Line) (text : List ℕ) (t : S) (q : Slots) : Type 0 where
  pub answers : List (Outcome ℕ)
  pub replayed : Replayed meaning goes grows s p (map call_of lines) answers t q
  pub reported : text ≡ reports (meaning t).versions (zip lines answers)

-- where there is no memory for the text, none of the calls was carried out, or all of them were
abbrev pub NoneOrAll : {S : Type 0} → (S → Meaning ℕ) → (S → ℕ → Change ℕ → S → Type 0) → (S → S → Type 0) → S → Slots → List Line → S → Slots → Type 0
NoneOrAll meaning goes grows s p lines t q =
    ((t ≡ s) × (q ≡ p)) ⊎ ((answers : List (Outcome ℕ)) × Replayed meaning goes grows s p (map call_of lines) answers t q)

-- what is reported of a store that was fresh, in the words of the history: it tells each answer about lists, and the lists
pub record Told (lines : List Line) (text : List ℕ) : Type 0 where
  pub answers : List (Outcome ℕ)
  pub every : length answers ≡ length lines
  pub told : map (λ a. of_lists (reply_of a)) answers ≡ tellings ([] ∷ []) (feeds (map call_of lines) answers)
  pub reported : text ≡ reports (history (feeds (map call_of lines) answers)) (zip lines answers)
