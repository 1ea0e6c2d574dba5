use Rattle.book.proofs.Kept.{blank_rows}
use Rattle.book.proofs.parts.Rows.blank.Goals as goal

pub returns : goal.returns
returns c = blank_rows 16
