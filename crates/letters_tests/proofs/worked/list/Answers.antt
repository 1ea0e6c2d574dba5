use Rattle.std.proofs.Common.{sym, ◌∙◌, subst, arith}
use Rattle.entries.specs.Limits.{max_depots}
use Rattle.letters.specs.Contents.{Lawful}
use Rattle.letters_tests.proofs.Lawfully.{lawful}
use Rattle.letters_tests.proofs.worked.list.Goals as goal

pub set-requires : goal.set-requires
unfolding max_depots
set-requires g c =
    subst
    (λ es. Lawful (record { kind = 3; sender = 2; to = 1; leader = 2; code = 1; number = 1; entries = es }))
    (sym (c.as_slice.ensures.list ∙ c.counted.ensures))
    (lawful 3 2 1 _ (omega arith) (omega arith) (omega arith) (omega arith)
    record {
      two = omega arith;
      few = omega arith;
      rises = (omega arith, (omega arith, tt));
      depots = (omega arith, (omega arith, tt));
      wishes = (omega arith, (omega arith, tt));
      sum_within = omega arith;
    })
