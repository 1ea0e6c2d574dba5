use Rattle.std.proofs.Common.{◌≡◌, take}
use Rattle.policies.specs.Shares.{reshelved}
use Rattle.policies.proofs.sharing.deal_out.Given as goal

-- the entries that had their turn are dealt out
abbrev pub invariant-loop-at : goal.invariant-loop-at
invariant-loop-at g l = l.dealt ≡ reshelved (take l.at l.list) (g.P.Policy.share l.list)
