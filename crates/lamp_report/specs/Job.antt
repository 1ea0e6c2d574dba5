-- The whole job: from the bytes of a sheet to the text of the answer, or to why there is none.
use Rattle.std.specs.Prelude.{◌≡◌, ℕ, cond, List, ◌++◌, Ok, Err, vec_items, string_bytes, codes, decimal, Result, String, ◌==◌}
use Rattle.std.specs.declared.alloc.Global.{Global}
use Rattle.forecast.specs.Checking.{checked, taken, verdict_of}
use Rattle.forecast.specs.declared.lamp.Refusal.{Refusal}
use Rattle.forecast.specs.declared.lamp.Refusal.TheVariants as refusals
use Rattle.lamp_report.specs.declared.sheet.Fault.{Fault}
use Rattle.lamp_report.specs.declared.sheet.Fault.TheVariants as faults
use Rattle.lamp_report.specs.declared.sheet.Sheet.{Sheet}
use Rattle.lamp_report.specs.Reading.{Reads, Misreads}
use Rattle.lamp_report.specs.Report.{report_text}

-- the bytes are a sheet whose lamps are taken, and this is the text of its answer
pub record Reports (bytes text : List ℕ) : Type 0 where
  pub sheet : Sheet
  pub reads : Reads sheet bytes
  pub takes : checked (vec_items sheet.lamps) sheet.period ≡ taken
  pub says : text ≡ report_text sheet.shelf sheet.period (vec_items sheet.lamps)

-- the bytes are a sheet whose lamps or period are refused so
pub record Refuses (bytes : List ℕ) (refusal : Refusal) : Type 0 where
  pub sheet : Sheet
  pub reads : Reads sheet bytes
  pub refused : checked (vec_items sheet.lamps) sheet.period ≡ verdict_of refusal

-- the answer's text, or why there is none
abbrev pub Does : List ℕ → Result (String Global) Fault → Type 0
Does bytes (Ok text) = Reports bytes (string_bytes text)
Does bytes (Err (faults.Line n)) = Misreads n bytes
Does bytes (Err (faults.Lamps refusal)) = Refuses bytes refusal
Does bytes (Err faults.Memory) = Unit {0}

-- what a line should have held
abbrev pub expected_text : ℕ → List ℕ
expected_text n = cond (n == 1) (codes "shelf and period in hours") (codes "a lamp's hours burned and rated life")

-- why there is no answer: a line of another form
abbrev pub line_reason : ℕ → List ℕ → List ℕ
line_reason n expected =
    codes "line " ++ (decimal n ++ (codes ": expected " ++ (expected
    ++ codes ", two numbers of at most ten digits, one blank apart")))

-- an unlawful lamp
abbrev pub lamp_reason : ℕ → List ℕ
lamp_reason place =
    codes "refused (37): lamp at place " ++ (decimal place
    ++ codes ", counted from 0: a life must be 1 to 65535 hours and the hours burned at most 1000000")

-- lamps or a period that are refused
abbrev pub refusal_reason : Refusal → List ℕ
refusal_reason refusals.TooManyLamps = codes "refused (35): more than 1000 lamps"
refusal_reason refusals.PeriodTooLong = codes "refused (36): line 1: a period above 10000 hours"
refusal_reason (refusals.UnlawfulLamp place) = lamp_reason place

-- any of them
abbrev pub reason : Fault → List ℕ
reason faults.Memory = codes "out of memory"
reason (faults.Line n) = line_reason n (expected_text n)
reason (faults.Lamps refusal) = refusal_reason refusal

-- what a storeman is told where there is no answer: the reason, as a line
abbrev pub fault_text : Fault → List ℕ
fault_text fault = reason fault ++ codes "\n"
