-- Laws of reading and writing that hold of every text and every script, and texts that are refused.
use Rattle.std.specs.Prelude.{◌≡◌, ℕ, true, List, [], ◌∷◌, map, Some, None, Ok, Err, codes, unwrap_or, Option, Result}
use Prim.Native.String.{String}
use Rattle.std.specs.List.{flat_map}
use Rattle.script.specs.Contents.{Content}
use Rattle.script.specs.Reading.{reading}
use Rattle.script.specs.Refusals.{line_of, number_of}
use Rattle.script.specs.Soundness.{sound}
use Rattle.script.specs.Tables.{line}
use Rattle.script.specs.Texts.{text}
use Rattle.script.specs.declared.refusals.Refusal.{Refusal}

-- what is accepted is the text of a script, and of the one that was read
abbrev pub AcceptedIsText : Type 0
AcceptedIsText = (bytes : List ℕ) (c : Content) → reading bytes ≡ Ok c → (sound c ≡ true) × (bytes ≡ text c)

-- the text of every script is accepted, and reads as that script
abbrev pub TextIsAccepted : Type 0
TextIsAccepted = (c : Content) → sound c ≡ true → reading (text c) ≡ Ok c

-- the number of a refusal and the line that it names, or 0
abbrev pub refused_with : Result Content Refusal → Option (ℕ × ℕ)
refused_with (Ok c) = None
refused_with (Err q) = Some (number_of q, unwrap_or (line_of q) 0)

-- what the text of these lines, each the list of its fields, is refused with
abbrev pub refused : List (List String) → Option (ℕ × ℕ)
refused lines = refused_with (reading (flat_map (λ fields. line (map codes fields)) lines))

abbrev pub refused_at : ℕ → ℕ → Option (ℕ × ℕ)
refused_at number line = Some (number, line)

-- a number that begins with 0, a state that is not there and an act without its mark, each at its line
abbrev pub Worked : Type 0
Worked =
    (refused (("script" ∷ "1" ∷ "02" ∷ "4" ∷ "6" ∷ []) ∷ ("start" ∷ "0" ∷ "" ∷ []) ∷ []) ≡ refused_at 14 1)
    × (refused (("script" ∷ "1" ∷ "64" ∷ "4" ∷ "6" ∷ []) ∷ ("start" ∷ "63" ∷ "ab" ∷ []) ∷ ("goal" ∷ "63" ∷ []) ∷ ("rule" ∷ "64" ∷ "0" ∷ "oaib" ∷ []) ∷ []) ≡ refused_at 15 4)
    × (refused (("script" ∷ "1" ∷ "2" ∷ "4" ∷ "6" ∷ []) ∷ ("start" ∷ "0" ∷ "ab" ∷ []) ∷ ("rule" ∷ "0" ∷ "1" ∷ "oai" ∷ []) ∷ []) ≡ refused_at 16 3)
