use Rattle.std.proofs.Common.{true, refl, ap}
use Rattle.entries.specs.Sets.{less, mark}
use Rattle.protocol.specs.State.{pick, owed}
use Rattle.protocol.proofs.RowSet.{owed_law}
use Rattle.book.specs.View.{site, view}
use Rattle.book.proofs.Kept.{lawful_now}
use Rattle.book.proofs.record.Record.strike.Goals as goal

pub invariant_of-self-clause-kept : goal.invariant_of-self-clause-kept
invariant_of-self-clause-kept c =
    let r = c.args.self.now in
    lawful_now (site r) (view r) _ (owed (less r.owing.0 (mark c.args.sender)) (view r))
    (λ law. owed_law (site r) (view r) true c.args.sender law)
    (ap (λ x. owed x (view r)) c.without-self.ensures) r.kept

pub returns-then-strikes : goal.returns-then-strikes
unfolding pick
returns-then-strikes c =
    let r = c.args.self.now in
    record {
      state = rw c.if-strikes.true (ap (λ x. owed x (view r)) c.without-self.ensures);
      same = refl;
    }

pub returns-else-strikes : goal.returns-else-strikes
unfolding pick
returns-else-strikes c = record { state = rw c.if-strikes.false refl; same = refl }
