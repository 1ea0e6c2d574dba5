-- What reading a sheet answers.
use Rattle.std.specs.Prelude.{◌≡◌, ℕ, ◌+◌, List, ◌++◌, length, Some, None, Ok, Err, Option, Result}
use Rattle.std.specs.List.{AllByRecursion}
use Rattle.lamp_report.specs.declared.sheet.Fault.{Fault}
use Rattle.lamp_report.specs.declared.sheet.Fault.TheVariants as faults
use Rattle.lamp_report.specs.declared.sheet.Sheet.{Sheet}
use Rattle.lamp_report.specs.Lines.{Short, Line, NoLine, numbers_of, lines_of}

-- the bytes are just the lines of this sheet
pub record Reads (sheet : Sheet) (bytes : List ℕ) : Type 0 where
  pub short : AllByRecursion Short (numbers_of sheet)
  pub same : bytes ≡ lines_of (numbers_of sheet)

-- Line n is the first of another form: the lines before it are lines of two numbers, and what follows them begins with
-- none. It may be that nothing follows only where the first line is missing.
pub record Misreads (n : ℕ) (bytes : List ℕ) : Type 0 where
  pub before : List (ℕ × ℕ)
  pub rest : List ℕ
  pub count : n ≡ length before + 1
  pub short : AllByRecursion Short before
  pub same : bytes ≡ lines_of before ++ rest
  pub other : NoLine rest
  pub some : length rest ≡ 0 → n ≡ 1

-- reading answers the sheet, or the first line of another form, or that memory ran out
abbrev pub Answers : List ℕ → Result Sheet Fault → Type 0
Answers bytes (Ok sheet) = Reads sheet bytes
Answers bytes (Err (faults.Line n)) = Misreads n bytes
Answers bytes (Err faults.Memory) = Unit {0}
Answers bytes (Err (faults.Lamps refusal)) = ⊥

-- the two numbers of the line that comes next, and what is left past it; or none where there is no such line
abbrev pub FindsLine : List ℕ → Option (ℕ × ℕ) → List ℕ → Type 0
FindsLine bytes None rest = NoLine bytes
FindsLine bytes (Some numbers) rest = Line numbers rest bytes
