-- The digits that bytes begin with: they are digits, no digit follows them, and digits written before other bytes are
-- found again. All by walking along the bytes.
use Rattle.std.proofs.Common.{◌≡◌, ℕ, zero, suc, ◌+◌, ◌-◌, ◌*◌, ◌^◌, ◌<◌, ◌≤◌, Bool, true, false, List, [], ◌∷◌, ◌++◌, length, get_or, take, drop, fold, sym, refl, ap, ◌∙◌, ⊎_elim, one-add, arith, length-take, rules}
use Rattle.std.proofs.lemmas.List.{take_at}
use Rattle.std.proofs.lemmas.Str.Parse.{IsNumeralModel, digit_at, numerals_by_fold, tells_all_ascii_digits, digits_value_short}
use Rattle.std.proofs.lemmas.Bool.{and_parts, and_from, cases_Bool, cond-true, cond-false}
use Rattle.std.specs.Int.{IsInRange}
use Rattle.std.specs.Char.{is_ascii_digit}
use Rattle.std.specs.List.{prefix_len}
use Rattle.std.specs.Str.{all_ascii_digits}
use Rattle.text_lines.specs.Numbers.{digits_at, past_digits, value_of, NoDigitFirst}

-- the shelf's laws of numerals, for the book's value of digits
pub own : IsNumeralModel (λ ds. all_ascii_digits ds ≡ true) value_of
own = numerals_by_fold _ tells_all_ascii_digits (λ n ds. fold (λ value digit. value * 10 + (digit - 48)) n ds) (search rules)

-- one byte on
leading_digit : (b : ℕ) (bs : List ℕ) → is_ascii_digit b ≡ true → prefix_len is_ascii_digit (b ∷ bs) ≡ suc (prefix_len is_ascii_digit bs)
leading_digit b bs h = cond-true (is_ascii_digit b) (1 + prefix_len is_ascii_digit bs) 0 h ∙ one-add (prefix_len is_ascii_digit bs)

leading_other : (b : ℕ) (bs : List ℕ) → is_ascii_digit b ≡ false → prefix_len is_ascii_digit (b ∷ bs) ≡ 0
leading_other b bs h = cond-false (is_ascii_digit b) (1 + prefix_len is_ascii_digit bs) 0 h

pub front_digits : (bytes : List ℕ) → all_ascii_digits (digits_at bytes) ≡ true
front_digits [] = refl
front_digits (b ∷ bs) =
    let all : ℕ → Bool = λ n. all_ascii_digits (take n (b ∷ bs)) in
    ⊎_elim (λ yes. ap all (leading_digit b bs yes) ∙ and_from (is_ascii_digit b) _ yes (front_digits bs))
    (λ no. ap all (leading_other b bs no))
    (cases_Bool (is_ascii_digit b))

pub take_digits : (ds : List ℕ) (i : ℕ) → all_ascii_digits ds ≡ true → all_ascii_digits (take i ds) ≡ true
take_digits ds zero all = refl
take_digits [] (suc i) all = refl
take_digits (d ∷ ds) (suc i) all =
    let parts = and_parts (is_ascii_digit d) (all_ascii_digits ds) all in
    and_from (is_ascii_digit d) _ parts.0 (take_digits ds i parts.1)

-- the value of the first digits of at most ten
pub value_bound : (ds : List ℕ) (i : ℕ) → all_ascii_digits ds ≡ true → length ds ≤ 10 → value_of (take i ds) < 10 ^ 10
value_bound ds i all few =
    digits_value_short own (take i ds) 10 (take_digits ds i all) (omega (arith, length-take i ds))

-- the digit at a place
pub digit_between : (ds : List ℕ) (i : ℕ) → all_ascii_digits ds ≡ true → i < length ds → IsInRange 48 57 (get_or ds i 0)
digit_between ds i all below = digit_at ds i (own.to ds all) below

pub past_digits_lem : (bytes : List ℕ) → NoDigitFirst (past_digits bytes)
past_digits_lem [] = refl
past_digits_lem (b ∷ bs) =
    let first : ℕ → Bool = λ n. is_ascii_digit (get_or (drop n (b ∷ bs)) 0 0) in
    ⊎_elim (λ yes. ap first (leading_digit b bs yes) ∙ past_digits_lem bs)
    (λ no. ap first (leading_other b bs no) ∙ no)
    (cases_Bool (is_ascii_digit b))

none_leading : (rest : List ℕ) → NoDigitFirst rest → prefix_len is_ascii_digit rest ≡ 0
none_leading [] ends = refl
none_leading (b ∷ bs) ends = leading_other b bs ends

pub leading_digits : (ds rest : List ℕ) → all_ascii_digits ds ≡ true → NoDigitFirst rest →
    prefix_len is_ascii_digit (ds ++ rest) ≡ length ds
leading_digits [] rest all ends = none_leading rest ends
leading_digits (d ∷ ds) rest all ends =
    let parts = and_parts (is_ascii_digit d) (all_ascii_digits ds) all in
    leading_digit d (ds ++ rest) parts.0 ∙ ap suc (leading_digits ds rest parts.1 ends)

pub digits_at_front : (ds rest : List ℕ) → all_ascii_digits ds ≡ true → NoDigitFirst rest → digits_at (ds ++ rest) ≡ ds
digits_at_front ds rest all ends = take_at ds rest _ (sym (leading_digits ds rest all ends))
