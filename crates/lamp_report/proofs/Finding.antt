-- Where a line of two numbers is looked for and not found, none was written: bytes are written from one number and one
-- rest only, so that what was read of them is what a line there would begin with.
use Rattle.std.proofs.Common.{◌≡◌, ℕ, false, List, ◌∷◌, ◌++◌, decimal, refl, ap, ◌∙◌}
use Rattle.std.proofs.lemmas.Bool.{both_ways}
use Rattle.text_lines.specs.Numbers.{Written}
use Rattle.text_lines.specs.Reading.{begins_with, blank, line_end, past_byte}
use Rattle.text_lines.proofs.Spelling.{written_once}
use Rattle.lamp_report.specs.Lines.{Line, NoLine}

-- what follows the first number of a line, and what follows the second
abbrev after_second : List ℕ → List ℕ
after_second rest = line_end ∷ rest

abbrev after_first : ℕ × ℕ → List ℕ → List ℕ
after_first numbers rest = blank ∷ (decimal numbers.1 ++ after_second rest)

first_written : (numbers : ℕ × ℕ) (rest bytes : List ℕ) → Line numbers rest bytes →
    Written numbers.0 (after_first numbers rest) bytes
first_written numbers rest bytes line = record { small = line.short.0; ends = refl; same = line.same }

first_read : (a : ℕ) (left bytes : List ℕ) → Written a left bytes → (numbers : ℕ × ℕ) (rest : List ℕ) →
    Line numbers rest bytes → left ≡ after_first numbers rest
first_read a left bytes read numbers rest line =
    (written_once a numbers.0 left (after_first numbers rest) bytes read (first_written numbers rest bytes line)).1

second_written : (a : ℕ) (left next bytes : List ℕ) → Written a left bytes → next ≡ past_byte blank left →
    (numbers : ℕ × ℕ) (rest : List ℕ) → Line numbers rest bytes → Written numbers.1 (after_second rest) next
second_written a left next bytes read past numbers rest line =
    record {
      small = line.short.1;
      ends = refl;
      same = past ∙ ap (past_byte blank) (first_read a left bytes read numbers rest line);
    }

pub no_blank : (a : ℕ) (left bytes : List ℕ) → Written a left bytes → begins_with blank left ≡ false → NoLine bytes
no_blank a left bytes read other numbers rest line =
    both_ways (begins_with blank left) other (ap (begins_with blank) (first_read a left bytes read numbers rest line))

pub no_second : (a : ℕ) (left next bytes : List ℕ) → Written a left bytes → next ≡ past_byte blank left →
    ((v : ℕ) (rest : List ℕ) → Written v rest next → ⊥) → NoLine bytes
no_second a left next bytes read past none numbers rest line =
    none numbers.1 (after_second rest) (second_written a left next bytes read past numbers rest line)

pub no_end : (a b : ℕ) (left next after bytes : List ℕ) → Written a left bytes → next ≡ past_byte blank left →
    Written b after next → begins_with line_end after ≡ false → NoLine bytes
no_end a b left next after bytes read past more other numbers rest line =
    let second = second_written a left next bytes read past numbers rest line in
    let same = written_once b numbers.1 after (after_second rest) next more second in
    both_ways (begins_with line_end after) other (ap (begins_with line_end) same.1)
