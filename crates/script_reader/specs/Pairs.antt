-- The act that a pair of bytes is: the first tells what is done, and the second is the mark.
use Rattle.std.specs.Prelude.{ℕ, List, Option, slice_index_or}
use Rattle.script.specs.Fields.{act_of}
use Rattle.script.specs.declared.rules.Act.{Act}

abbrev pub act_of_pair : List ℕ → Option Act
act_of_pair pair = act_of (slice_index_or pair 0 0) (slice_index_or pair 1 0)
