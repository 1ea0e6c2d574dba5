use Rattle.std.proofs.Common.{sym}
use Rattle.text_lines.specs.Reading.{left}
use Rattle.lamp_report.proofs.Finding.{no_blank, no_second, no_end}
use Rattle.lamp_report.proofs.reading.two_numbers.Goals as goal

pub returns-then-not-passes : goal.returns-then-not-passes
returns-then-not-passes c =
    no_blank c.in_ok-first.first (left c.number.new.self) (left c.args.reader.now) c.in_ok-first.ensures.form
    (sym c.if-not-passes.ensures.found)

pub returns-in_err-second : goal.returns-in_err-second
returns-in_err-second c =
    rw c.from_residual-in_err-second.ensures
    (no_second c.in_ok-first.first (left c.number.new.self) (left c.passes.new.self) (left c.args.reader.now)
    c.in_ok-first.ensures.form c.passes.ensures.past c.in_err-second.ensures.form)

pub returns-then-not-passes-2 : goal.returns-then-not-passes-2
returns-then-not-passes-2 c =
    no_end c.in_ok-first.first c.in_ok-second.second (left c.number.new.self) (left c.passes.new.self)
    (left c.number-2.new.self) (left c.args.reader.now) c.in_ok-first.ensures.form c.passes.ensures.past
    c.in_ok-second.ensures.form (sym c.if-not-passes-2.ensures.found)
