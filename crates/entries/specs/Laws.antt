-- A set of depots is its membership: what each operation on sets does, said of one depot at a time.
use Rattle.std.specs.Prelude.{◌≡◌, ℕ, ◌^◌, ◌<◌, true, false, not, ◌&&◌, ◌||◌, List, Decides, ◌==◌, nat_lt}
use Rattle.entries.specs.declared.lists.Entry.{Entry}
use Rattle.entries.specs.Sets.{has, mark, union, add, less, everyone, covers}
use Rattle.entries.specs.Lists.{on, names}

-- every depot of the other set is in the set
abbrev pub Within : ℕ → ℕ → Type 0
Within other set = (i : ℕ) → has other i ≡ true → has set i ≡ true

-- The laws of membership. None of them knows how many depots there are: they hold over any width
pub record ByMembership : Type 0 where
  pub has_none : (i : ℕ) → has 0 i ≡ false
  pub has_mark : (i j : ℕ) → has (mark i) j ≡ (i == j)
  pub has_union : (set other j : ℕ) → has (union set other) j ≡ (has set j || has other j)
  pub has_add : (set i j : ℕ) → has (add set i) j ≡ (has set j || i == j)
  pub has_less : (set other j : ℕ) → has (less set other) j ≡ (has set j && not (has other j))
  pub has_everyone : (n j : ℕ) → has (everyone n) j ≡ nat_lt j n
  pub has_names : (es : List Entry) (j : ℕ) → has (names es) j ≡ on es j
  pub covers_within : (set other : ℕ) → Decides (covers set other) (Within other set)
  pub below_width : (width set : ℕ) → set < 2 ^ width → (i : ℕ) → has set i ≡ true → i < width
  pub from_width : (width set : ℕ) → ((i : ℕ) → has set i ≡ true → i < width) → set < 2 ^ width
  pub same_set : (set other : ℕ) → ((i : ℕ) → has set i ≡ has other i) → set ≡ other
