use Rattle.std.proofs.Common.{arith}
use Rattle.entries.proofs.Place.{blank_items, all_filled}
use Rattle.entries.proofs.Width.{as_many_marks}
use Rattle.entries.proofs.filling.Entries.empty.Goals as goal

pub invariant_of-result : goal.invariant_of-result
invariant_of-result c =
    let is = c.default.ensures in
    all_filled _ _
    (blank_items c.default.result (λ i. record { depot = is.0 i; shelf = is.1.0 i; wish = is.1.1 i }))
    (omega (arith, as_many_marks))
