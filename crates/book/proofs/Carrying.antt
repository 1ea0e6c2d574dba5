-- What a message carries, which is always lawful: its leader is a depot, and so are those of its entries.
use Rattle.std.proofs.Common.{◌<◌, List, [], ◌∷◌}
use mathlib.Core.Logic.{∥∥₁_elim, ∥∥₁_map}
use native.Mathlib.Bridge.{le_prop}
use Rattle.std.specs.List.{AllByRecursion}
use Rattle.entries.specs.declared.lists.Entry.{Entry}
use Rattle.entries.specs.Limits.{max_depots}
use Rattle.entries.proofs.Known.{depots_known}
use Rattle.letters.specs.declared.message.Message.{Message}
use Rattle.letters.specs.Contents.{LawfulEntry}
use Rattle.letters.specs.Code.{kind_number}
use Rattle.letters.proofs.Carried.{carries_fits}

pub leader_low : (m : Message) → m.head.leader < max_depots
leader_low m = ∥∥₁_elim m.lawful le_prop (λ l. l.leader_below)

all_low : (es : List Entry) → AllByRecursion LawfulEntry es → AllByRecursion (λ e. e.depot < max_depots) es
all_low [] all = tt
all_low (e ∷ es) all = (all.0.depot_below, all_low es all.1)

pub entries_low : (m : Message) → AllByRecursion (λ e. e.depot < max_depots) m.entries
entries_low m =
    depots_known max_depots m.entries
    (∥∥₁_map m.lawful (λ l. all_low m.entries (carries_fits (kind_number m.kind) m.head.sender m.entries l.carries).each))
