-- What the policies of others give.
use Rattle.std.specs.Prelude.{ℕ, cond, List, [], ◌∷◌, map, length, ◌==◌}
use Rattle.entries.specs.declared.lists.Entry.{Entry}
use Rattle.entries.specs.Lists.{pool}

-- every entry's share is what is on its shelf
unfoldable pub kept : List Entry → List ℕ
kept es = map (λ e. e.shelf) es

-- all pieces to the last of the entries
unfoldable pub to_last : ℕ → List Entry → List ℕ
to_last pieces [] = []
to_last pieces (e ∷ es) = cond (length es == 0) pieces 0 ∷ to_last pieces es

-- the last entry's share is all that is on the shelves
unfoldable pub last_takes_all : List Entry → List ℕ
last_takes_all es = to_last (pool es) es
