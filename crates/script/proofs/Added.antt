-- Items that a reading adds to those it has, a line for each.
use Rattle.std.proofs.Common.{◌≡◌, ℕ, ◌≤◌, Bool, true, List, [], ◌∷◌, ◌++◌, map, length, sym, refl, ap, ◌∙◌, append_assoc, append-nil}
use Rattle.std.specs.List.{list_all}
use Rattle.std.proofs.lemmas.Bool.{and_from}
use Rattle.script.specs.Tables.{Row}

-- the rows begin with the lines of the items that come behind those done, each passes the test, and no more than most are read in all
pub record Added {X : Type 0} (row : X → Row) (passes : X → Bool) (most : ℕ) (done all : List X) (rows rest : List Row) : Type 0 where
  pub items : List X
  pub behind : all ≡ done ++ items
  pub lines : rows ≡ map row items ++ rest
  pub each : list_all passes items ≡ true
  pub few : length all ≤ most

module _ {X : Type 0} (row : X → Row) (passes : X → Bool) (most : ℕ) where
  -- nothing is added
  pub added_none : (done : List X) (rows : List Row) → length done ≤ most → Added row passes most done done rows rows
  added_none done rows few = record { items = []; behind = sym (append-nil done); lines = refl; each = refl; few = few }

  -- one item, and what is added behind it
  pub added_more :
      (done all : List X) (x : X) (rows more rest : List Row) → passes x ≡ true → rows ≡ row x ∷ more → Added row passes most (done ++ x ∷ []) all more rest →
      Added row passes most done all rows rest
  added_more done all x rows more rest here is a =
      record {
        items = x ∷ a.items;
        behind = a.behind ∙ append_assoc done (x ∷ []) a.items;
        lines = is ∙ ap {B = List Row} (λ z. row x ∷ z) a.lines;
        each = and_from (passes x) (list_all passes a.items) here a.each;
        few = a.few;
      }
