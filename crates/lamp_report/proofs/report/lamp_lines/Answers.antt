use Rattle.std.proofs.Common.{◌+◌, ◌++◌, drop, string_bytes, refl, sym, ap, ◌∙◌}
use Rattle.forecast.specs.Answers.{need_at}
use Rattle.lamp_report.specs.Report.{lamps_text}
use Rattle.lamp_report.proofs.Writing.{lamp_written}
use Rattle.lamp_report.proofs.report.lamp_lines.Goals as goal

pub loop-place-preserved : goal.loop-place-preserved
loop-place-preserved c =
    let lamps = c.lamps-lamps.result.now in
    let period = c.args.hours.now.period in
    let place = c.loop-place.place in
    let asked = ap (λ ls. need_at period ls place) c.lamps-lamps.ensures ∙ (sym c.need_at.ensures ∙ c.unwrap-need.ensures) in
    let rest = lamps_text (place + 1 + 2) period (drop (place + 1) lamps) in
    ap (λ bs. bs ++ rest) c.in_ok-writeln.ensures.bytes
    ∙ lamp_written period lamps place c.unwrap-need.result _ (string_bytes c.loop-place.text) _
    c.loop-place-test.true asked refl c.loop-place.invariant
