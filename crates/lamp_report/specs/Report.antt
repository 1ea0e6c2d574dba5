-- The text of the answer: a line for each lamp, then the forecast, the shelf and the wish.
use Rattle.std.specs.Prelude.{ℕ, ◌+◌, List, [], ◌∷◌, ◌++◌, vec_items, codes, decimal}
use Rattle.forecast.specs.declared.hours.LampHours.{LampHours}
use Rattle.forecast.specs.declared.lamp.Lamp.{Lamp}
use Rattle.forecast.specs.Hours.{lamp_need, forecast, wish_for}

-- one lamp, by the line of the sheet that it stands on
abbrev pub lamp_text : ℕ → Lamp → ℕ → List ℕ
lamp_text line lamp need =
    codes "lamp on line " ++ (decimal line ++ (codes ": " ++ (decimal lamp.hours ++ (codes " of "
    ++ (decimal lamp.life ++ (codes " hours burned, spares needed: " ++ (decimal need ++ codes "\n")))))))

-- lamps on consecutive lines, from this line on
abbrev pub lamps_text : ℕ → ℕ → List Lamp → List ℕ
lamps_text line period [] = []
lamps_text line period (lamp ∷ lamps) = lamp_text line lamp (lamp_need period lamp) ++ lamps_text (line + 1) period lamps

-- the forecast over the period, what is on the shelf, and the wish
abbrev pub sums_text : ℕ → ℕ → ℕ → ℕ → List ℕ
sums_text period need shelf wish =
    codes "forecast for " ++ (decimal period ++ (codes " hours: " ++ (decimal need ++ (codes "\non the shelf: "
    ++ (decimal shelf ++ (codes "\nwish: " ++ (decimal wish ++ codes "\n")))))))

-- the whole answer; the first lamp stands on the sheet's second line
abbrev pub report_text : ℕ → ℕ → List Lamp → List ℕ
report_text shelf period lamps =
    lamps_text 2 period lamps ++ sums_text period (forecast period lamps) shelf (wish_for (forecast period lamps) shelf)

-- the lines for the lamps of a checked forecast, and the whole answer to it
abbrev pub lamp_lines : LampHours → List ℕ
lamp_lines hours = lamps_text 2 hours.period (vec_items hours.lamps)

abbrev pub report_of : ℕ → LampHours → List ℕ
report_of shelf hours = report_text shelf hours.period (vec_items hours.lamps)
