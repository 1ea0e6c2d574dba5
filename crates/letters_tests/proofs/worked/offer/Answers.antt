use Rattle.std.proofs.Common.{refl, arith}
use Rattle.letters_tests.proofs.Lawfully.{lawful, small_entry}
use Rattle.letters_tests.proofs.worked.offer.Goals as goal

pub set-requires : goal.set-requires
set-requires g c =
    lawful 2 0 4 _ (omega arith) (omega arith) (omega arith) (omega arith)
    record {
      one = refl;
      own = (refl, tt);
      lawful = (small_entry (record { depot = 0; shelf = 4; wish = 0 }) (omega arith) (omega arith) (omega arith), tt);
    }
