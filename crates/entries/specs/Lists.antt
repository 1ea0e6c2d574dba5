-- Lists of entries, each with a depot, its shelf and its wish.
use Rattle.std.specs.Prelude.{ℕ, ◌+◌, ◌<◌, ◌≤◌, Bool, false, cond, ◌||◌, List, [], ◌∷◌, length, sum_by, ◌==◌, nat_lt}
use Rattle.std.specs.List.{AllByRecursion}
use Rattle.entries.specs.declared.lists.Entry.{Entry}
use Rattle.entries.specs.Limits.{max_depots, max_wish, max_pool}
use Rattle.entries.specs.Sets.{add}

-- an entry that says nothing
abbrev pub blank : Entry
blank = record { depot = 0; shelf = 0; wish = 0 }

-- the pieces on all shelves of a list
abbrev pub pool : List Entry → ℕ
pool es = sum_by (λ e. e.shelf) es

-- the depots rise, the first being at least d
abbrev pub RisesFrom : ℕ → List Entry → Type 0
RisesFrom d [] = Unit {0}
RisesFrom d (e ∷ es) = (d ≤ e.depot) × RisesFrom (e.depot + 1) es

-- each entry's depot is above the one before
abbrev pub Rises : List Entry → Type 0
Rises es = RisesFrom 0 es

-- A list: what depots can pool and deal out
pub record Listed (es : List Entry) : Type 0 where
  pub two : 2 ≤ length es
  pub few : length es ≤ max_depots
  pub rises : Rises es
  pub depots : AllByRecursion (λ e. e.depot < max_depots) es
  pub wishes : AllByRecursion (λ e. e.wish ≤ max_wish) es
  pub sum_within : pool es ≤ max_pool

-- an entry may stand next, where the depots so far lie below d
abbrev pub MayFollow : ℕ → Entry → Type 0
MayFollow d e = (d ≤ e.depot) × (e.depot < max_depots) × (e.wish ≤ max_wish)

-- each entry may stand where it stands, the depots before the first lying below d
abbrev pub Orderly : ℕ → List Entry → Type 0
Orderly d [] = Unit {0}
Orderly d (e ∷ es) = MayFollow d e × Orderly (e.depot + 1) es

-- A list begun, of depots below n. Where n is at most the greatest number of depots, it keeps all that a list keeps, but
-- may have fewer than two entries
pub record Begun (n : ℕ) (es : List Entry) : Type 0 where
  pub rises : Rises es
  pub depots : AllByRecursion (λ e. e.depot < n) es
  pub wishes : AllByRecursion (λ e. e.wish ≤ max_wish) es
  pub sum_within : pool es ≤ max_pool

-- depot d is on the list
unfoldable pub on : List Entry → ℕ → Bool
on [] d = false
on (e ∷ es) d = e.depot == d || on es d

-- the entry of depot d; one without pieces or a wish where it is not on the list
unfoldable pub entry_of : List Entry → ℕ → Entry
entry_of [] d = record { depot = d; shelf = 0; wish = 0 }
entry_of (e ∷ es) d = cond (e.depot == d) e (entry_of es d)

-- the set of the depots on the list
unfoldable pub names : List Entry → ℕ
names [] = 0
names (e ∷ es) = add (names es) e.depot

-- an entry put where its depot comes in rising order
unfoldable pub insert : Entry → List Entry → List Entry
insert e [] = e ∷ []
insert e (x ∷ xs) = cond (nat_lt e.depot x.depot) (e ∷ (x ∷ xs)) (x ∷ insert e xs)
