-- Every call keeps a record's law, and every letter that it sends is one that reading accepts.
use Rattle.std.specs.Prelude.{◌≡◌, ℕ, ◌≤◌, List}
use Rattle.std.proofs.Math.Option.{Option, none, some}
use Rattle.entries.specs.Limits.{max_shelf}
use Rattle.letters.specs.Contents.{Contents, Lawful}
use Rattle.letters.specs.Bytes.{Bytes}
use Rattle.protocol.specs.Policy.{Policy, LawfulPolicy}
use Rattle.protocol.specs.State.{Site, State, fresh, leader}
use Rattle.protocol.specs.Outcome.{Outcome, after, sends}
use Rattle.protocol.specs.Law.{Engages, LawfulSite, Law}
use Rattle.protocol.specs.Own.{issue, give_back, set_wish, lead, propose, withdraw, query, remind, restart}
use Rattle.protocol.specs.Taking.{take, receive}

-- what may be sent: nothing, or a letter that reading accepts
abbrev pub Readable : Option Contents → Type 0
Readable none = Unit {0}
Readable (some m) = Lawful m

-- an outcome of a call at a record s keeps the law, and sends what can be read
pub record Keeps (a : Site) (s : State) (r : Outcome) : Type 0 where
  pub law : Law a (after s r)
  pub mails : Readable (sends r)

-- every call at a lawful record, under a lawful policy
pub record CallsKeep (P : Policy) (a : Site) (s : State) : Type 0 where
  pub issue : (n : ℕ) → Keeps a s (issue a s n)
  pub give_back : (n : ℕ) → Keeps a s (give_back a s n)
  pub set_wish : (n : ℕ) → Keeps a s (set_wish a s n)
  pub lead : Keeps a s (lead a s)
  pub propose : Keeps a s (propose P a s)
  pub withdraw : Keeps a s (withdraw a s)
  pub query : Keeps a s (query a s)
  pub remind : Keeps a s (remind a s)
  pub restart : Keeps a s (restart a s)
  pub take : (m : Contents) → Lawful m → Keeps a s (take P a s m)
  pub receive : (bytes : List ℕ) → Bytes bytes → Keeps a s (receive P a s bytes)
  -- the row in which the depot is engaged is the one that Withdraw, Query and Restart find
  pub found : (L : ℕ) → Engages (s.rows L).standing → leader a s ≡ L

-- The law is kept by every call, and the record that Hand fills has it
pub record LawKept : Type 0 where
  pub calls : (P : Policy) → LawfulPolicy P → (a : Site) (s : State) → Law a s → CallsKeep P a s
  pub handed : (a : Site) (share : ℕ) → LawfulSite a → share ≤ max_shelf → Law a (fresh share)
