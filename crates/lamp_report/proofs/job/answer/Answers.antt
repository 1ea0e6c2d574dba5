use Rattle.std.proofs.Common.{vec_items, ap, ◌∙◌}
use Rattle.std.proofs.lemmas.Result.{err_from_is_err_and}
use Rattle.lamp_report.specs.Report.{report_text}
use Rattle.lamp_report.proofs.job.answer.Goals as goal

pub returns-in_err-hours : goal.returns-in_err-hours
returns-in_err-hours c =
    let p = err_from_is_err_and c.from_residual-in_err-hours.result c.from_residual-in_err-hours.ensures.1 in
    rw (p.1, p.2) record {
      sheet = c.in_ok-shelf.field-0;
      reads = c.in_ok-shelf.ensures;
      refused = c.in_err-hours.ensures;
    }

pub returns : goal.returns
returns c =
    let sheet = c.in_ok-shelf.field-0 in
    let hours = c.in_ok-hours.hours in
    let checked = c.in_ok-hours.ensures in
    record {
      sheet = sheet;
      reads = c.in_ok-shelf.ensures;
      takes = checked.0;
      says = c.in_ok-text.ensures
          ∙ (ap (λ p. report_text sheet.shelf p (vec_items hours.lamps)) checked.2
          ∙ ap (report_text sheet.shelf sheet.period) checked.1);
    }
