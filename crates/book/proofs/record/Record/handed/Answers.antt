use Rattle.std.proofs.Common.{sym, subst, arith}
use Rattle.protocol.specs.Law.{Law}
use Rattle.protocol.proofs.LawKept.{law_kept}
use Rattle.book.specs.Fields.{site_of}
use Rattle.book.proofs.Kept.{bounds_of}
use Rattle.book.proofs.Written.{state_is}
use Rattle.book.proofs.record.Record.handed.Goals as goal

pub invariant_of-result : goal.invariant_of-result
invariant_of-result c =
    let a = site_of c.args.identity in
    let e = state_is c.args.share 0 0 c.blank.ensures c.empty.ensures c.none.ensures c.empty-2.ensures c.none-2.ensures in
    let l = ∣ subst (λ s. Law a s) (sym e) (law_kept.handed a c.args.share
    (record { depot = c.requires.depot; size = c.requires.depots; code_low = c.requires.code; code_high = omega arith })
    c.requires.share) ∣₁ in
    record { bounds = bounds_of a _ l; kept = l }
