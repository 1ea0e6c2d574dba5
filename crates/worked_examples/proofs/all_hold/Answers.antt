use mathlib.Core.Path.{refl}
use Rattle.entries.specs.Limits.{max_depots}
use Rattle.policies.specs.Shares.{level, wishes_first}
use Rattle.protocol.proofs.WorkedSeries.{worked}
use Rattle.worked_examples.proofs.all_hold.Goals as goal

-- each computes; `search (rules, worked)` proves it too, but at a wrong example gives up, and does not name it
pub returns : goal.returns
unfolding max_depots level wishes_first
returns c =
    record {
      shared = record { level_three = refl; wishes_three = refl; wishes_two = refl };
      handover = worked;
      letters = record { ask_written = refl; ask_read = refl; offer_written = refl; offer_read = refl };
      lamps = record { over_99 = refl; over_100 = refl; over_2100 = refl };
    }
