-- What makes a sharing policy lawful. A policy's meaning is a function from lists of entries to shares.
use Rattle.std.specs.Prelude.{◌≡◌, ℕ, ◌≤◌, List, length, sum}
use Rattle.entries.specs.declared.lists.Entry.{Entry}
use Rattle.entries.specs.Lists.{pool, Listed}

-- a policy's code fits a letter's byte, in which 0 is no code
abbrev pub Coded : ℕ → Type 0
Coded code = (1 ≤ code) × (code ≤ 255)

-- each entry of a list has one share
abbrev pub OneEach : (List Entry → List ℕ) → Type 0
OneEach share = (es : List Entry) → Listed es → length (share es) ≡ length es

-- the shares of a list are together what its shelves hold
abbrev pub Conserving : (List Entry → List ℕ) → Type 0
Conserving share = (es : List Entry) → Listed es → sum (share es) ≡ pool es

-- A lawful policy, by what it means. Of anything that is not a list nothing is asked
pub record Lawful (share : List Entry → List ℕ) : Type 0 where
  pub each : OneEach share
  pub all : Conserving share
