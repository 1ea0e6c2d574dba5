use Rattle.std.proofs.Common.{◌-◌, ap, arith}
use Rattle.std.proofs.lemmas.Nat.{pow_pos}
use Rattle.entries.specs.Sets.{everyone}
use Rattle.entries.proofs.Width.{as_many_marks, above_whole, above_fits}
use Rattle.entries.proofs.sets.Depots.everyone.Goals as goal

pub overflow_shl-result : goal.overflow_shl-result
overflow_shl-result c = omega (arith, as_many_marks)

pub overflow_sub-result : goal.overflow_sub-result
overflow_sub-result c = omega (arith, above_whole c.args.number c.requires, pow_pos c.args.number)

pub overflow_cast-result-2 : goal.overflow_cast-result-2
overflow_cast-result-2 c = omega (arith, above_whole c.args.number c.requires, above_fits c.args.number c.requires)

pub returns : goal.returns
unfolding everyone
returns c = ap (λ n. n - 1) (above_whole c.args.number c.requires)
