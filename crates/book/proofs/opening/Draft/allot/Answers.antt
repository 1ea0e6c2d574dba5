use Rattle.std.proofs.Common.{◌≡◌, arith}
use Rattle.std.proofs.lemmas.List.{get_or-set_other}
use Rattle.protocol.proofs.InSets.{add_tells}
use Rattle.book.specs.Fields.{shares_of}
use Rattle.book.proofs.Shares.{opening_steps}
use Rattle.book.proofs.opening.Draft.allot.Goals as goal

-- who is still not allotted was not before, and has no pieces
pub invariant_of-self : goal.invariant_of-self
invariant_of-self c =
    let d = c.args.self.now in
    let none : shares_of d.shares.of c.in_ok-place.place ≡ 0 = grind (arith, opening_steps) in
    record {
      coded = d.coded;
      whole = grind (arith, opening_steps);
      blank = λ i h. grind (arith, opening_steps, add_tells, get_or-set_other);
    }
