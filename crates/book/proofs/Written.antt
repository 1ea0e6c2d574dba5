-- States of a record whose fields were written one by one.
use Rattle.std.proofs.Common.{◌≡◌, ℕ, List}
use Rattle.entries.specs.declared.lists.Entry.{Entry}
use Rattle.protocol.specs.State.{Row, State}

abbrev pub make : ℕ → ℕ → ℕ → (ℕ → Row) → List Entry → ℕ → List Entry → ℕ → State
make shelf tray wish rows list heard gathered owing =
    record {
      shelf = shelf;
      tray = tray;
      wish = wish;
      rows = rows;
      list = list;
      heard = heard;
      gathered = gathered;
      owing = owing;
    }

-- rows, lists and sets replaced by equal ones
pub state_is : (shelf tray wish : ℕ) {rows rows' : ℕ → Row} {list list' gathered gathered' : List Entry}
    {heard heard' owing owing' : ℕ} → rows ≡ rows' → list ≡ list' → heard ≡ heard' → gathered ≡ gathered'
    → owing ≡ owing'
    → make shelf tray wish rows list heard gathered owing ≡ make shelf tray wish rows' list' heard' gathered' owing'
state_is shelf tray wish e f g h k = cc
