-- The form of a sheet in bytes: lines of two numbers, one blank apart, each line ended by 0A.
use Rattle.std.specs.Prelude.{◌≡◌, ℕ, ◌^◌, ◌<◌, List, [], ◌∷◌, ◌++◌, map, vec_items, decimal}
use Rattle.std.specs.List.{flat_map}
use Rattle.text_lines.specs.Numbers.{max_digits}
use Rattle.text_lines.specs.Reading.{blank, line_end}
use Rattle.forecast.specs.declared.lamp.Lamp.{Lamp}
use Rattle.lamp_report.specs.declared.sheet.Sheet.{Sheet}

-- the bytes of a line of two numbers, before the bytes that follow it
abbrev pub line_before : List ℕ → ℕ × ℕ → List ℕ
line_before rest numbers = decimal numbers.0 ++ (blank ∷ (decimal numbers.1 ++ (line_end ∷ rest)))

-- the bytes of a line of two numbers
abbrev pub line_of : ℕ × ℕ → List ℕ
line_of numbers = line_before [] numbers

-- both numbers have at most ten digits
abbrev pub Short : ℕ × ℕ → Type 0
Short numbers = (numbers.0 < 10 ^ max_digits) × (numbers.1 < 10 ^ max_digits)

-- the bytes begin with a line of these two numbers, and then come the rest
pub record Line (numbers : ℕ × ℕ) (rest bytes : List ℕ) : Type 0 where
  pub short : Short numbers
  pub same : bytes ≡ line_before rest numbers

-- the bytes begin with no line of two numbers
abbrev pub NoLine : List ℕ → Type 0
NoLine bytes = (numbers : ℕ × ℕ) (rest : List ℕ) → Line numbers rest bytes → ⊥

-- the numbers line by line: shelf and period, then hours and life of each lamp
abbrev pub pairs_of : ℕ → ℕ → List Lamp → List (ℕ × ℕ)
pairs_of shelf period lamps = (shelf, period) ∷ map (λ lamp. (lamp.hours, lamp.life)) lamps

-- the numbers of a sheet
abbrev pub numbers_of : Sheet → List (ℕ × ℕ)
numbers_of sheet = pairs_of sheet.shelf sheet.period (vec_items sheet.lamps)

-- the bytes of lines, one after another
abbrev pub lines_of : List (ℕ × ℕ) → List ℕ
lines_of lines = flat_map line_of lines
