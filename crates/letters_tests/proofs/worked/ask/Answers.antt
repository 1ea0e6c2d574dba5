use Rattle.std.proofs.Common.{[], refl, arith}
use Rattle.letters_tests.proofs.Lawfully.{lawful}
use Rattle.letters_tests.proofs.worked.ask.Goals as goal

pub set-requires : goal.set-requires
set-requires g c = lawful 1 2 27 [] (omega arith) (omega arith) (omega arith) (omega arith) refl
