-- What others may know of the greatest number of depots: it fits a byte, and there are as many depots as a set has
-- marks and a place of entries has room. This file alone opens the number, and it alone knows how wide a set is.
use Rattle.std.proofs.Common.{◌≡◌, ℕ, ◌*◌, ◌%◌, ◌^◌, ◌<◌, ◌≤◌, refl, arith, lit≤, pow_mono}
use Rattle.std.proofs.lemmas.Nat.{one_shl}
use Rattle.entries.specs.Limits.{max_depots}

pub fits_byte : max_depots ≤ 255
unfolding max_depots
fits_byte = lit≤ tt

pub as_many_marks : max_depots ≡ 16
unfolding max_depots
as_many_marks = refl

-- a set has marks of depots only
pub set_within : (set : ℕ) → set < 2 ^ 16 → set < 2 ^ max_depots
unfolding max_depots
set_within set small = small

-- a depot's mark is in the set's width
pub mark_whole : (depot : ℕ) → depot < max_depots → (1 * 2 ^ depot) % 2 ^ 16 ≡ 2 ^ depot
mark_whole depot low = one_shl depot 16 (omega (arith, as_many_marks))

-- and so are all the marks below one that may lie just outside
pub above_whole : (n : ℕ) → n ≤ max_depots → (1 * 2 ^ n) % 2 ^ 32 ≡ 2 ^ n
above_whole n low = one_shl n 32 (omega (arith, as_many_marks))

pub above_fits : (n : ℕ) → n ≤ max_depots → 2 ^ n ≤ 2 ^ 16
above_fits n low = let most : n ≤ 16 = omega (arith, as_many_marks) in pow_mono most
