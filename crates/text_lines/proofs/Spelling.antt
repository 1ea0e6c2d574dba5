-- A number has one form: the digits that are read as a number are how its value is written, and a number that was
-- written is read again. It rests on the shelf's laws of what is written of a number and what digits are worth.
use Rattle.std.proofs.Common.{◌≡◌, ℕ, ◌^◌, ◌<◌, ◌≤◌, true, false, List, ◌++◌, length, get_or, decimal, sym, ap, ◌∙◌, ⊎_elim, arith, take-append-drop}
use Rattle.std.proofs.lemmas.Fmt.{decimal_digit, decimal_nonempty, decimal-digits_value, digits_decimal, first_decimal, length-decimal-le, decimal_injective}
use Rattle.std.proofs.lemmas.List.{append_cancel_left}
use Rattle.std.proofs.lemmas.Str.Parse.{digits_value_short}
use Rattle.std.proofs.lemmas.Bool.{both_ways, cases_lt}
use Rattle.std.proofs.lemmas.Bool.Decides.{nat_tests}
use Rattle.std.specs.Str.{all_ascii_digits}
use Rattle.text_lines.specs.Numbers.{digits_at, past_digits, is_number, value_of, Written}
use Rattle.text_lines.proofs.Digits.{own, front_digits, past_digits_lem, digits_at_front}

-- digits that are a number are how their value is written
written_digits : (ds : List ℕ) → all_ascii_digits ds ≡ true → is_number ds ≡ true →
    (value_of ds < 10 ^ 10) × (decimal (value_of ds) ≡ ds)
written_digits ds all number =
    let some : 0 < length ds = grind (arith, nat_tests) in
    let few : length ds ≤ 10 = grind (arith, nat_tests) in
    let alone : get_or ds 0 0 ≡ 48 → length ds ≡ 1 = λ zero. grind (arith, nat_tests) in
    let small = digits_value_short own ds 10 all few in
    (small, decimal-digits_value own ds all some alone (omega arith))

-- what is written of a small number is digits that are a number
number_written : (value : ℕ) → value < 10 ^ 10 → is_number (decimal value) ≡ true
number_written value small = ⊎_elim positive (λ none. zero_written (omega arith)) (cases_lt 0 value)
  where
    zero_written : value ≡ 0 → is_number (decimal value) ≡ true
    zero_written none = ap is_number (ap decimal none ∙ decimal_digit 0 (omega arith))

    positive : 0 < value → is_number (decimal value) ≡ true
    positive above =
        let some = decimal_nonempty value (omega arith) in
        let few = length-decimal-le 10 value (omega arith) small (omega arith) in
        let first = first_decimal value above (omega arith) in
        grind (arith, nat_tests)

-- digits that are a number: their value was written there, and then what follows them
pub number_taken : (bytes rest : List ℕ) (value : ℕ) → is_number (digits_at bytes) ≡ true →
    value ≡ value_of (digits_at bytes) → rest ≡ past_digits bytes → Written value rest bytes
number_taken bytes rest value number worth past =
    let w = written_digits (digits_at bytes) (front_digits bytes) number in
    record {
      small = rw worth w.0;
      ends = rw past (past_digits_lem bytes);
      same = rw (worth, past, w.1) (sym (take-append-drop _ bytes));
    }

-- the digits of a number that was written are found again
digits_written : (value : ℕ) (rest bytes : List ℕ) → Written value rest bytes → digits_at bytes ≡ decimal value
digits_written value rest bytes w =
    let digits = digits_decimal own value (omega (arith, w.small)) in
    ap digits_at w.same ∙ digits_at_front (decimal value) rest digits w.ends

-- other digits, or none: no number was written there
pub none_written : (bytes : List ℕ) → is_number (digits_at bytes) ≡ false →
    (value : ℕ) (rest : List ℕ) → Written value rest bytes → ⊥
none_written bytes other value rest w =
    both_ways (is_number (digits_at bytes)) other
    (ap is_number (digits_written value rest bytes w) ∙ number_written value w.small)

-- bytes are written from one number and one rest only
pub written_once : (v w : ℕ) (r s bytes : List ℕ) → Written v r bytes → Written w s bytes → (v ≡ w) × (r ≡ s)
written_once v w r s bytes one two =
    let digits = sym (digits_written v r bytes one) ∙ digits_written w s bytes two in
    let same = decimal_injective v w (omega (arith, one.small)) (omega (arith, two.small)) digits in
    let joined : decimal w ++ r ≡ decimal w ++ s
    = ap (λ n. decimal n ++ r) (sym same) ∙ (sym one.same ∙ two.same) in
    (same, append_cancel_left (decimal w) r s joined)
