use Rattle.std.proofs.Common.{sym, arith}
use Rattle.std.proofs.lemmas.Bool.{ltb-false}
use Rattle.entries.specs.Limits.{max_depots}
use Rattle.entries.proofs.Membership.{less_absent, has_high}
use Rattle.entries.proofs.Width.{set_within}
use Rattle.entries.proofs.sets.Depots.without.Goals as goal

pub returns-else-is_depot : goal.returns-else-is_depot
returns-else-is_depot c =
    let set = c.args.self.0 in
    let depot = c.args.depot in
    let high = ltb-false depot max_depots (sym c.if-is_depot.ensures) in
    sym (less_absent set depot (has_high max_depots set depot (set_within set (omega arith)) high))
