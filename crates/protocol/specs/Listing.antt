-- What is asked of all depots on a list, and of two lists.
use Rattle.std.specs.Prelude.{ℕ, ◌+◌, Bool, true, false, cond, ◌&&◌, List, [], ◌∷◌, ◌==◌}
use Rattle.entries.specs.declared.lists.Entry.{Entry}

-- every depot on the list passes
unfoldable pub every : List Entry → (ℕ → Bool) → Bool
every [] passes = true
every (e ∷ es) passes = passes e.depot && every es passes

-- the pieces on the shelves of all depots but d
unfoldable pub elsewhere : ℕ → List Entry → ℕ
elsewhere d [] = 0
elsewhere d (e ∷ es) = cond (e.depot == d) 0 e.shelf + elsewhere d es

-- the two lists have the same entries in the same places
unfoldable pub same : List Entry → List Entry → Bool
same [] [] = true
same [] (y ∷ ys) = false
same (x ∷ xs) [] = false
same (x ∷ xs) (y ∷ ys) =
    (x.depot == y.depot && (x.shelf == y.shelf && x.wish == y.wish)) && same xs ys
