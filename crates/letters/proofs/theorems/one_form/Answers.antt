use Rattle.letters.proofs.Forth.{one_form}
use Rattle.letters.proofs.theorems.one_form.Goals as goal

pub returns : goal.returns
returns c = one_form
