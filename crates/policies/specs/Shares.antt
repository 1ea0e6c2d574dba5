-- What dealing pieces and the two policies give, and what a depot finds as its share.
use Rattle.std.specs.Prelude.{ℕ, zero, suc, ◌+◌, ◌-◌, ◌/◌, ◌%◌, cond, List, [], ◌∷◌, length, ◌==◌, nat_le, nat_lt}
use Rattle.entries.specs.declared.lists.Entry.{Entry}
use Rattle.entries.specs.Lists.{pool}

-- k shares of each pieces, and one piece more to the first more of them
abbrev pub evenly : ℕ → ℕ → ℕ → List ℕ
evenly each more zero = []
evenly each more (suc k) = cond (nat_lt 0 more) (each + 1) each ∷ evenly each (more - 1) k

-- pieces dealt out among k: the quotient to each, and the remainder one by one to the first
abbrev pub dealt_out : ℕ → ℕ → List ℕ
dealt_out pieces k = evenly (pieces / k) (pieces % k) k

-- Level: what is on the shelves is dealt out
unfoldable pub level : List Entry → List ℕ
level es = dealt_out (pool es) (length es)

-- a wish that fits into what is left is granted, and of any other nothing is
abbrev pub granted : ℕ → ℕ → ℕ
granted wish left = cond (nat_le wish left) wish 0

-- what the entries are granted in their order, out of what is left
abbrev pub grants : ℕ → List Entry → List ℕ
grants left [] = []
grants left (e ∷ es) = granted e.wish left ∷ grants (left - granted e.wish left) es

-- what is left once all have had their turn
abbrev pub rest : ℕ → List Entry → ℕ
rest left [] = left
rest left (e ∷ es) = rest (left - granted e.wish left) es

-- two lists of shares, added place by place
abbrev pub added : List ℕ → List ℕ → List ℕ
added [] ns = []
added (m ∷ ms) [] = m ∷ ms
added (m ∷ ms) (n ∷ ns) = (m + n) ∷ added ms ns

-- Wishes First: the wishes in order, as far as they fit, and the rest dealt out and added
unfoldable pub wishes_first : List Entry → List ℕ
wishes_first es = added (grants (pool es) es) (dealt_out (rest (pool es) es) (length es))

-- the share that stands where depot d stands on the list; 0 where it is not on it
unfoldable pub beside : List Entry → List ℕ → ℕ → ℕ
beside [] ns d = 0
beside (e ∷ es) [] d = 0
beside (e ∷ es) (n ∷ ns) d = cond (e.depot == d) n (beside es ns d)

-- what a policy gives to depot d of a list
abbrev pub share_of : (List Entry → List ℕ) → List Entry → ℕ → ℕ
share_of share es d = beside es (share es) d

-- entries with other pieces on their shelves, as far as there are numbers for them
unfoldable pub reshelved : List Entry → List ℕ → List Entry
reshelved [] ns = []
reshelved (e ∷ es) [] = e ∷ es
reshelved (e ∷ es) (n ∷ ns) = record { depot = e.depot; shelf = n; wish = e.wish } ∷ reshelved es ns
