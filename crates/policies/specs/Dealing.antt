-- What dealing a list out leaves, under any policy.
use Rattle.std.specs.Prelude.{◌≡◌, ℕ, List}
use Rattle.entries.specs.declared.lists.Entry.{Entry}
use Rattle.entries.specs.Lists.{pool}
use Rattle.policies.specs.Policy.{Lawful}
use Rattle.policies.specs.Shares.{reshelved}

-- Every shelf is the entry's share, no piece was made or lost, and the policy is a lawful one
pub record DealtOut (share : List Entry → List ℕ) (before after : List Entry) : Type 0 where
  pub list : after ≡ reshelved before (share before)
  pub whole : pool after ≡ pool before
  pub lawful : Lawful share
