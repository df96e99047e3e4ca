-- What a look-up among the imported names needs beside the usual steps.
use Rattle.std.proofs.lemmas.Grind.{common_steps}
use Rattle.std.proofs.lemmas.List.Folds.{find-append}

-- the names of one import, and those behind it
pub ruleset import_steps = (common_steps, find-append)
