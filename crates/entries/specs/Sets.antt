-- Sets of depots, as numbers: depot i has the mark 2 to the power i.
use Rattle.std.specs.Prelude.{ℕ, zero, suc, ◌-◌, ◌/◌, ◌%◌, ◌^◌, Bool, ◌==◌, bit_and, bit_or}

-- whether the set has depot i
unfoldable pub has : ℕ → ℕ → Bool
has set zero = (set % 2) == 1
has set (suc i) = has (set / 2) i

-- the set of depot i alone
unfoldable pub mark : ℕ → ℕ
mark i = 2 ^ i

-- the depots of either set
unfoldable pub union : ℕ → ℕ → ℕ
union set other = bit_or set other

-- the set with depot i
unfoldable pub add : ℕ → ℕ → ℕ
add set i = union set (mark i)

-- the set without the depots of another
unfoldable pub less : ℕ → ℕ → ℕ
less set other = set - bit_and set other

-- all depots below n
unfoldable pub everyone : ℕ → ℕ
everyone n = 2 ^ n - 1

-- the set has every depot of another: none of that other's is left without it
unfoldable pub covers : ℕ → ℕ → Bool
covers set other = (less other set) == 0
