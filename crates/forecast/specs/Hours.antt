-- What lamps need: the rule of one lamp, the forecast over all lamps, and the wish that follows from it.
use Rattle.std.specs.Prelude.{ℕ, ◌+◌, ◌-◌, ◌/◌, min, List, sum_by}
use Rattle.entries.specs.Limits.{max_wish}
use Rattle.forecast.specs.declared.lamp.Lamp.{Lamp}

-- the spares that one lamp needs over a period: how many rated lives its hours fill by the period's end
abbrev pub lamp_need : ℕ → Lamp → ℕ
lamp_need period lamp = (lamp.hours + period) / lamp.life

-- the spares that all lamps need
abbrev pub forecast : ℕ → List Lamp → ℕ
forecast period lamps = sum_by (lamp_need period) lamps

-- the wish for a need and a shelf: what the shelf lacks, at most the largest wish
abbrev pub wish_for : ℕ → ℕ → ℕ
wish_for need shelf = min (need - shelf) max_wish
