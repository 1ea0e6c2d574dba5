use Rattle.std.proofs.Common.{◌≡◌, true, false, rules}
use borrow.Author.Tests.{tests}
use Rattle.std.proofs.lemmas.Iterator.{YieldsList-from_slice, IsFirst-from_position}
use Rattle.protocol.specs.State.{engages}
use Rattle.book.specs.Fields.{row_of}
use Rattle.book.proofs.Engaged.{first_engaged}
use Rattle.book.proofs.record.rows.engaged_in.Goals as goal

pub returns : goal.returns
returns c =
    first_engaged c.args.rows.now c.position.result
    (IsFirst-from_position _ _ _ (λ r. engages (row_of r).standing ≡ true) (λ r. engages (row_of r).standing ≡ false)
    c.position.ensures.ran (YieldsList-from_slice c.args.rows.now cc) (λ x q k. search (rules, tests))
    (λ x q k. search (rules, tests)))
