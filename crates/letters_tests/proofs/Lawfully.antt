-- The letters of the tests are lawful: their values are small numbers.
use Rattle.std.proofs.Common.{ℕ, ◌<◌, ◌≤◌, List, arith}
use Rattle.entries.specs.declared.lists.Entry.{Entry}
use Rattle.entries.specs.Limits.{max_depots}
use Rattle.letters.specs.Contents.{Carries, LawfulEntry, Lawful, last_kind}

pub lawful : (kind sender to : ℕ) (es : List Entry) → 1 ≤ kind → kind ≤ last_kind → sender < 5 → to < 32 →
    Carries kind sender es →
    Lawful (record { kind = kind; sender = sender; to = to; leader = 2; code = 1; number = 1; entries = es })
unfolding max_depots
lawful kind sender to es low high s t carried =
    record {
      kind_low = low;
      kind_high = high;
      sender_below = omega arith;
      to_fits = omega arith;
      leader_below = omega arith;
      code_low = omega arith;
      code_high = omega arith;
      number_low = omega arith;
      number_fits = omega arith;
      carries = carried;
    }

pub small_entry : (e : Entry) → e.depot < 5 → e.wish < 10 → e.shelf < 10 → LawfulEntry e
unfolding max_depots
small_entry e d w s = record { depot_below = omega arith; wish_within = omega arith; shelf_within = omega arith }
