-- the lines so far and those of the lamps to come are all lines
use Rattle.std.proofs.Common.{◌≡◌, ◌+◌, ◌++◌, drop, string_bytes}
use Rattle.lamp_report.specs.Report.{lamps_text}
use Rattle.lamp_report.proofs.report.lamp_lines.Given as goal

abbrev pub invariant-loop-place : goal.invariant-loop-place
invariant-loop-place l =
    string_bytes l.text ++ lamps_text (l.place + 2) l.hours.period (drop l.place l.lamps)
    ≡ lamps_text 2 l.hours.period l.lamps
