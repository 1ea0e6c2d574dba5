use Rattle.std.proofs.Common.{refl}
use Rattle.entries.specs.Limits.{max_depots}
use Rattle.letters.proofs.theorems.worked_letters.Goals as goal

pub returns : goal.returns
unfolding max_depots
returns c = record { ask_written = refl; ask_read = refl; offer_written = refl; offer_read = refl }
