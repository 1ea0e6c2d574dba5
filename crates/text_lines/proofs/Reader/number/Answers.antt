use Rattle.std.proofs.Common.{sym, ap, ◌∙◌}
use Rattle.text_lines.specs.Numbers.{is_number, value_of}
use Rattle.text_lines.proofs.Spelling.{number_taken}
use Rattle.text_lines.proofs.Reader.number.Goals as goal

pub returns-clause-form : goal.returns-clause-form
returns-clause-form c =
    let digits = c.split_digits.ensures.digits in
    let number = sym (c.if-not-is_number.ensures ∙ ap is_number digits) in
    number_taken _ _ _ number (c.digits_value.ensures ∙ ap value_of digits) c.split_digits.ensures.after
