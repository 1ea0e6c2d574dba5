use Rattle.std.proofs.Common.{arith}
use Rattle.entries.specs.Sets.{mark}
use Rattle.entries.proofs.Width.{as_many_marks, mark_whole}
use Rattle.entries.proofs.sets.Depots.mark.Goals as goal

pub overflow_shl-result : goal.overflow_shl-result
overflow_shl-result c = omega (arith, as_many_marks)

pub returns : goal.returns
unfolding mark
returns c = mark_whole c.args.depot c.requires
