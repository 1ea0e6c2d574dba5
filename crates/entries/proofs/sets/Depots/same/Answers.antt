use Rattle.std.proofs.Common.{ap}
use Rattle.std.proofs.lemmas.Bool.{eqb-true, eq-eqb}
use Rattle.entries.specs.Sets.{has}
use Rattle.entries.proofs.Membership.{membership, same_set}
use Rattle.entries.proofs.sets.Depots.same.Goals as goal

pub returns : goal.returns
returns c =
    let set = c.args.self.0 in
    let other = c.args.other.0 in
    record {
      answer = (
        λ e i. ap (λ n. has n i) (eqb-true set other e),
        λ alike. eq-eqb set other (same_set set other alike),
      );
      laws = membership;
    }
