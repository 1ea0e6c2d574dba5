use Rattle.std.proofs.Common.{◌≡◌, ℕ, Bool, true, false, cond, leb, is_some, Some, None, sym, refl, ap, ◌∙◌}
use Rattle.std.proofs.lemmas.Bool.{both_ways, le-leb, leb-true}
use Rattle.entries.specs.Limits.{max_pool}
use Rattle.entries.specs.Lists.{pool}
use Rattle.entries.proofs.Rising.{listed_orderly, orderly_enough}
use Rattle.entries.proofs.lists.is_list.Goals as goal

some_under : (b : Bool) (n : ℕ) → is_some (cond b (Some n) None) ≡ b
some_under true n = refl
some_under false n = refl

-- a pool was answered exactly where it is within the limit
within_limit : (c : goal.After-is_some) → c.is_some.result ≡ leb (pool c.args.list.now) max_pool
within_limit c =
    let p = pool c.args.list.now in
    c.is_some.ensures ∙ (ap is_some c.pool_of.ensures ∙ some_under (leb p max_pool) p)

pub returns-then-rises : goal.returns-then-rises
returns-then-rises c =
    let es = c.args.list.now in (
      λ e. orderly_enough es (c.if-rises.ensures.0 refl) c.if-list-lt-FEWEST.false
          (leb-true (pool es) max_pool (sym (within_limit c) ∙ e)),
      λ listed. within_limit c ∙ le-leb (pool es) max_pool listed.sum_within,
    )

pub returns-else-rises : goal.returns-else-rises
returns-else-rises c = (
  λ e. absurd (both_ways c.rises.result c.if-rises.false e),
  λ listed. c.rises.ensures.1 (listed_orderly c.args.list.now listed),
)
