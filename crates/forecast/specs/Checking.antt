-- What the checking of lamps and a period answers: the refusals in their order.
use Rattle.std.specs.Prelude.{ℕ, ◌+◌, Bool, true, cond, ◌&&◌, List, [], ◌∷◌, length, Some, None, Option, nat_le, nat_lt}
use Rattle.forecast.specs.declared.lamp.Lamp.{Lamp}
use Rattle.forecast.specs.declared.lamp.Refusal.{Refusal}
use Rattle.forecast.specs.declared.lamp.Refusal.TheVariants as refusals

-- the most lamps of one forecast
abbrev pub max_lamps : ℕ
max_lamps = 1000

-- the longest period, in hours
abbrev pub max_period : ℕ
max_period = 10000

-- the longest rated life, in hours
abbrev pub max_life : ℕ
max_life = 65535

-- the most hours that a lamp can have burned
abbrev pub max_hours : ℕ
max_hours = 1000000

-- the lamp's life and hours lie within their ranges
abbrev pub lawful : Lamp → Bool
lawful lamp = (nat_le 1 lamp.life && nat_le lamp.life max_life) && nat_le lamp.hours max_hours

-- every lamp is lawful
abbrev pub all_lawful : List Lamp → Bool
all_lawful [] = true
all_lawful (lamp ∷ lamps) = lawful lamp && all_lawful lamps

-- the place of the first lamp that is not lawful; `place` is that of the first of these lamps
abbrev pub first_unlawful : ℕ → List Lamp → Option ℕ
first_unlawful place [] = None
first_unlawful place (lamp ∷ lamps) = cond (lawful lamp) (first_unlawful (place + 1) lamps) (Some place)

-- What checking answers: the lamps are taken, or a refusal's number; where it is a lamp's, with the lamp's place
pub data Verdict : Type 0 where
  taken : Verdict
  refused : ℕ → Verdict
  refused_at : ℕ → ℕ → Verdict

-- an unlawful lamp is refused by 37
abbrev pub lamps_verdict : Option ℕ → Verdict
lamps_verdict None = taken
lamps_verdict (Some place) = refused_at 37 place

-- too many lamps are 35, too long a period is 36, then comes the first unlawful lamp, its place counted from 0
abbrev pub checked : List Lamp → ℕ → Verdict
checked lamps period =
    cond (nat_lt max_lamps (length lamps)) (refused 35)
    (cond (nat_lt max_period period) (refused 36) (lamps_verdict (first_unlawful 0 lamps)))

-- the number and the place that a refusal of the code stands for
abbrev pub verdict_of : Refusal → Verdict
verdict_of refusals.TooManyLamps = refused 35
verdict_of refusals.PeriodTooLong = refused 36
verdict_of (refusals.UnlawfulLamp place) = refused_at 37 place

-- the refusal's number
abbrev pub number_of : Refusal → ℕ
number_of refusals.TooManyLamps = 35
number_of refusals.PeriodTooLong = 36
number_of (refusals.UnlawfulLamp place) = 37
