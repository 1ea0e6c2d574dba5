-- What a checked forecast holds, and what it answers.
use Rattle.std.specs.Prelude.{◌≡◌, ℕ, List, Ok, Err, vec_items, Option, Result}
use Rattle.std.specs.Option.{option_map}
use Rattle.std.specs.List.{slice_get}
use Rattle.forecast.specs.declared.hours.LampHours.{LampHours}
use Rattle.forecast.specs.declared.lamp.Lamp.{Lamp}
use Rattle.forecast.specs.declared.lamp.Refusal.{Refusal}
use Rattle.forecast.specs.Checking.{checked, taken, verdict_of}
use Rattle.forecast.specs.Hours.{lamp_need}

-- checking answers a forecast over just these lamps and this period, or the refusal that comes first
abbrev pub Checks : List Lamp → ℕ → Result LampHours Refusal → Type 0
Checks lamps period (Ok made) =
    (checked lamps period ≡ taken) × (vec_items made.lamps ≡ lamps) × (made.period ≡ period)
Checks lamps period (Err refusal) = checked lamps period ≡ verdict_of refusal

-- the need of the lamp at a place, none where there is no such lamp
abbrev pub need_at : ℕ → List Lamp → ℕ → Option ℕ
need_at period lamps place = option_map (lamp_need period) (slice_get lamps place)
