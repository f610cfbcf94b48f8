-- What the reports of a replay tell.
use Rattle.std.proofs.Common.{◌≡◌, ℕ, List, [], ◌∷◌, map, ap, ◌∙◌}
use Rattle.call_text.specs.Reports.{Reported, Told, call_of, reports}
use Rattle.call_lines.specs.declared.lines.Line.{Line}
use Rattle.std.proofs.lemmas.List.{length-map}
use Rattle.std.specs.List.{zip}
use Rattle.store.specs.Calls.{Slots}
use Rattle.store.specs.History.{tellings}
use Rattle.store.specs.Meanings.{Meaning}
use Rattle.store.specs.Replays.{feeds}
use Rattle.store.specs.declared.changes.Change.{Change}

-- a replay on a fresh store, by the history
pub told_fresh : {S : Type 0} {meaning : S → Meaning ℕ} {goes : S → ℕ → Change ℕ → S → Type 0} {grows : S → S → Type 0} {s t : S} {p q : Slots} {ls : List Line} {text : List ℕ} → (meaning s).versions ≡ [] ∷ [] → Reported meaning goes grows s p ls text t q → Told ls text
told_fresh {ls} e h =
    let fed = feeds (map call_of ls) h.answers in
    record {
      answers = h.answers;
      every = h.replayed.every ∙ length-map ls call_of;
      told = h.replayed.told ∙ ap (λ vs. tellings vs fed) e;
      reported = h.reported ∙ ap (λ vs. reports vs (zip ls h.answers)) (h.replayed.fresh e);
    }
