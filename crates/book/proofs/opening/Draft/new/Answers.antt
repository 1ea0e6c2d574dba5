use Rattle.std.proofs.Common.{replicate, arith}
use Rattle.std.proofs.lemmas.List.{get_or-replicate}
use Rattle.entries.proofs.Width.{as_many_marks}
use Rattle.protocol.proofs.Sums.{sum_none}
use Rattle.book.specs.Fields.{shares_of}
use Rattle.book.proofs.opening.Draft.new.Goals as goal

pub invariant_of-result-clause-coded : goal.invariant_of-result-clause-coded
invariant_of-result-clause-coded g c = let coded = g.met.P.Policy.coded in omega arith

pub invariant_of-result-clause-whole : goal.invariant_of-result-clause-whole
invariant_of-result-clause-whole g c =
    let none = sum_none c.args.plan.depots (shares_of (replicate 16 0))
    (λ x l. get_or-replicate 16 x 0 0 (omega (arith, as_many_marks))) in
    omega arith
