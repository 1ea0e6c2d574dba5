-- Numbers in text: one to ten decimal digits without a leading zero.
use Rattle.std.specs.Prelude.{◌≡◌, ℕ, ◌+◌, ◌-◌, ◌*◌, ◌^◌, ◌<◌, Bool, false, cond, not, ◌&&◌, ◌||◌, List, ◌++◌, length, take, drop, Some, None, decimal, fold, Option, ◌==◌, nat_le, nat_lt, slice_index}
use Rattle.std.specs.Char.{is_ascii_digit}
use Rattle.std.specs.List.{prefix_len}

-- the most digits that a number has
abbrev pub max_digits : ℕ
max_digits = 10

-- the digits that the bytes begin with
abbrev pub digits_at : List ℕ → List ℕ
digits_at bytes = take (prefix_len is_ascii_digit bytes) bytes

-- what follows them
abbrev pub past_digits : List ℕ → List ℕ
past_digits bytes = drop (prefix_len is_ascii_digit bytes) bytes

-- digits are a number where there are one to ten of them, and the first is a zero only if it stands alone
abbrev pub is_number : List ℕ → Bool
is_number digits =
    nat_lt 0 (length digits)
    && (nat_le (length digits) max_digits && (length digits == 1 || not (slice_index digits 0 == 48)))

-- the value of digits, from the left
abbrev pub value_of : List ℕ → ℕ
value_of digits = fold (λ value digit. value * 10 + (digit - 48)) 0 digits

-- the number that the bytes begin with, if the digits there are one
abbrev pub number_at : List ℕ → Option ℕ
number_at bytes = cond (is_number (digits_at bytes)) (Some (value_of (digits_at bytes))) None

-- what is left once it is read: what follows the digits, or all bytes where there is no number
abbrev pub past_number : List ℕ → List ℕ
past_number bytes = cond (is_number (digits_at bytes)) (past_digits bytes) bytes

-- no digit comes first
abbrev pub NoDigitFirst : List ℕ → Type 0
NoDigitFirst bytes = is_ascii_digit (slice_index bytes 0) ≡ false

-- the bytes are a number, written as numbers are written, and then come others that do not go on with a digit
pub record Written (value : ℕ) (rest bytes : List ℕ) : Type 0 where
  pub small : value < 10 ^ max_digits
  pub ends : NoDigitFirst rest
  pub same : bytes ≡ decimal value ++ rest

-- A number has one form: what reading answers is what the bytes were written from, and it answers none only where
-- they were written from no number
abbrev pub OneForm : List ℕ → Option ℕ → List ℕ → Type 0
OneForm bytes None left = (value : ℕ) (rest : List ℕ) → Written value rest bytes → ⊥
OneForm bytes (Some value) left = Written value left bytes
