-- The worked examples of the book: what policies share out, a handover of ten pieces, a refused issue, two letters byte
-- for byte, and what a lamp needs.
use Rattle.std.specs.Prelude.{◌≡◌, List, [], ◌∷◌}
use Rattle.entries.specs.declared.lists.Entry.{Entry}
use Rattle.forecast.specs.declared.lamp.Lamp.{Lamp}
use Rattle.forecast.specs.Hours.{lamp_need}
use Rattle.letters.specs.Examples.{WorkedLetters}
use Rattle.policies.specs.Shares.{level, wishes_first}
use Rattle.protocol.specs.Examples.{entry, Worked}

-- shelves 4, 9, 1 with wishes 0, 0, 6
abbrev pub three_depots : List Entry
three_depots = entry 0 4 0 ∷ entry 1 9 0 ∷ entry 2 1 6 ∷ []

-- shelves 1, 2 with wishes 4, 1
abbrev pub two_depots : List Entry
two_depots = entry 0 1 4 ∷ entry 1 2 1 ∷ []

-- what the two policies share out
pub record Shared : Type 0 where
  pub level_three : level three_depots ≡ 5 ∷ 5 ∷ 4 ∷ []
  pub wishes_three : wishes_first three_depots ≡ 3 ∷ 3 ∷ 8 ∷ []
  pub wishes_two : wishes_first two_depots ≡ 1 ∷ 2 ∷ []

-- a lamp of life 1000 that has burned 900 hours
abbrev pub lamp : Lamp
lamp = record { hours = 900; life = 1000 }

-- what it needs over 99, 100 and 2100 hours
pub record LampNeeds : Type 0 where
  pub over_99 : lamp_need 99 lamp ≡ 0
  pub over_100 : lamp_need 100 lamp ≡ 1
  pub over_2100 : lamp_need 2100 lamp ≡ 3

pub record AllExamples : Type 0 where
  pub shared : Shared
  -- ten pieces allotted 1, 5, 4; depot 0 wishes 3 and leads all; with depot 1 alone settled the shelves show 1, 2, 4 and
  -- 6, 2, 2 are due; and from a shelf of 5 an Issue of 1,000,000 is refused by 9, of 1,000,001 by 7
  pub handover : Worked
  -- an Ask and the Offer to it
  pub letters : WorkedLetters
  pub lamps : LampNeeds
