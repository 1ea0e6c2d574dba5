use Rattle.std.proofs.Common.{◌≡◌, rules, refl}
use Rattle.std.proofs.iter.Yields.{fronts}
use Rattle.std.proofs.lemmas.Fn.{fold_over}
use Rattle.std.proofs.lemmas.Iterator.{YieldsList-from_slice}
use Rattle.policies.specs.Shares.{rest}
use Rattle.policies.proofs.Turns.{rest_append}
use Rattle.policies.proofs.wishes.left_after.Goals as goal

pub returns : goal.returns
returns c =
    let all = c.args.list.now in
    fold_over fronts (λ y. y.now) _ (λ ys left. left ≡ rest c.args.pieces ys) _
    (λ ys left x more f' is call. let one = rest_append c.args.pieces ys in search rules)
    c.iter.result all _ _ (YieldsList-from_slice all cc).runs refl c.fold.ensures.ran
