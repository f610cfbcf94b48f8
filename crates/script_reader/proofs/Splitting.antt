-- Where a text is cut at its first separator.
use Rattle.std.proofs.Common.{◌≡◌, ℕ, ◌+◌, ◌-◌, ◌<◌, Bool, true, false, cond, eqb, ltb, List, [], ◌∷◌, length, take, drop, Some, None, refl, ap, ◌∙◌, arith}
use Rattle.std.specs.List.{position, position_or_len}
use Rattle.std.proofs.lemmas.Bool.Decides.{nat_tests}
use Rattle.std.proofs.lemmas.List.{take_rest}
use Rattle.std.proofs.lemmas.List.Splits.{slice_split_first, slice_split_none}
use Rattle.std.proofs.lemmas.List.Sums.{fails_before_first}
use Rattle.script.specs.Tables.{parts}

module _ (s : ℕ) (t : List ℕ) where
  abbrev here : ℕ → Bool
  here b = eqb b s

  abbrev first : ℕ
  first = position_or_len here t

  pub whole : position here t ≡ None → parts s t ≡ t ∷ []
  whole e = go (ltb first (length t)) refl e
    where
      go : (b : Bool) → ltb first (length t) ≡ b → cond b (Some first) None ≡ None → parts s t ≡ t ∷ []
      go true h k = cc
      go false h k = slice_split_none here t (λ k d below. fails_before_first here t k d (grind (arith, nat_tests)))

  -- what is behind the first separator is all that is left of the text
  pub cut : (i : ℕ) → position here t ≡ Some i → parts s t ≡ take i t ∷ parts s (take (length t - (i + 1)) (drop (i + 1) t))
  cut i e = simp take_rest (go (ltb first (length t)) refl e)
    where
      go : (b : Bool) → ltb first (length t) ≡ b → cond b (Some first) None ≡ Some i → parts s t ≡ take i t ∷ parts s (drop (i + 1) t)
      go true h k =
          let inside : first < length t = grind (arith, nat_tests) in
          let is : first ≡ i = cc in
          slice_split_first here t 0 inside ∙ ap (λ (n : ℕ). take n t ∷ parts s (drop (n + 1) t)) is
      go false h k = cc
