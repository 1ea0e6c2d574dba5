-- the lines so far are read, and the rest is left; every line takes some bytes
use Rattle.std.proofs.Common.{length, vec_items}
use Rattle.text_lines.specs.Reading.{left}
use Rattle.lamp_report.specs.Lines.{pairs_of}
use Rattle.lamp_report.proofs.Fronts.{Fronted}
use Rattle.lamp_report.proofs.reading.read_sheet.Given as goal

abbrev pub invariant-loop-reader : goal.invariant-loop-reader
invariant-loop-reader l = Fronted (pairs_of l.shelf l.period (vec_items l.lamps)) (left l.reader) l.bytes

abbrev pub decreases-loop-reader : goal.decreases-loop-reader
decreases-loop-reader l = length (left l.reader)
