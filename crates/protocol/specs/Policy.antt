-- A sharing policy, as a series of calls has it: any code and any meaning that the policies' own law admits.
use Rattle.std.specs.Prelude.{ℕ, List}
use Rattle.entries.specs.declared.lists.Entry.{Entry}
use Rattle.policies.specs.Policy.{Coded, Lawful}

-- A policy: its code, and the shares that it means, worked out from the list alone
pub record Policy : Type 0 where
  pub code : ℕ
  pub share : List Entry → List ℕ

-- A lawful policy: its code is 1 to 255, and every list has one share for each entry, together what its shelves hold.
-- Nothing else is asked of it
pub record LawfulPolicy (P : Policy) : Type 0 where
  pub coded : Coded P.code
  pub shares : Lawful P.share
