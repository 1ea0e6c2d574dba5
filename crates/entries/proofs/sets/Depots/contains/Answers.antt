use Rattle.std.proofs.Common.{not, eqb, sym, ap, ◌∙◌, arith}
use lib.Bits.{bit_and}
use Rattle.std.proofs.lemmas.Bool.{ltb-false}
use Rattle.entries.specs.Limits.{max_depots}
use Rattle.entries.proofs.Membership.{meets_mark, has_high}
use Rattle.entries.proofs.Width.{set_within}
use Rattle.entries.proofs.sets.Depots.contains.Goals as goal

pub returns-then-is_depot : goal.returns-then-is_depot
returns-then-is_depot c =
    ap (λ n. not (eqb (bit_and c.args.self.0 n) 0)) c.mark.ensures
    ∙ meets_mark c.args.self.0 c.args.depot

pub returns-else-is_depot : goal.returns-else-is_depot
returns-else-is_depot c =
    let set = c.args.self.0 in
    let high = ltb-false c.args.depot max_depots (sym c.if-is_depot.ensures) in
    c.if-is_depot.false ∙ sym (has_high max_depots set c.args.depot (set_within set (omega arith)) high)
