-- Lines read so far and the bytes that are left: one line more moves from the bytes to the lines.
use Rattle.std.proofs.Common.{◌≡◌, ℕ, ◌+◌, ◌<◌, List, [], ◌∷◌, ◌++◌, length, decimal, sym, ap, ◌∙◌, subst, append_assoc, arith, length-append}
use lib.ListN.{length-map}
use Rattle.std.proofs.lemmas.List.Elements.{All-from_recursion, All-push, recursion_from_All}
use Rattle.std.proofs.lemmas.List.{append-nil, flat_map_more, map_push, nil_from_length}
use Rattle.std.specs.List.{AllByRecursion}
use Rattle.forecast.specs.declared.lamp.Lamp.{Lamp}
use Rattle.text_lines.specs.Reading.{blank, line_end}
use Rattle.lamp_report.specs.Lines.{Line, NoLine, Short, line_before, line_of, lines_of, pairs_of}
use Rattle.lamp_report.specs.Reading.{Misreads}

-- the bytes are these lines and then the rest
pub record Fronted (lines : List (ℕ × ℕ)) (rest bytes : List ℕ) : Type 0 where
  pub short : AllByRecursion Short lines
  pub same : bytes ≡ lines_of lines ++ rest

line_front : (numbers : ℕ × ℕ) (rest : List ℕ) → line_before rest numbers ≡ line_of numbers ++ rest
line_front numbers rest =
    sym (append_assoc (decimal numbers.0) (blank ∷ (decimal numbers.1 ++ (line_end ∷ []))) rest
    ∙ ap (λ bytes. decimal numbers.0 ++ (blank ∷ bytes)) (append_assoc (decimal numbers.1) (line_end ∷ []) rest))

one_line : (numbers : ℕ × ℕ) (rest bytes : List ℕ) → Line numbers rest bytes → Fronted (numbers ∷ []) rest bytes
one_line numbers rest bytes line =
    record {
      short = (line.short, tt);
      same = line.same
          ∙ (line_front numbers rest ∙ ap (λ front. front ++ rest) (sym (append-nil (line_of numbers))));
    }

line_more : (lines : List (ℕ × ℕ)) (numbers : ℕ × ℕ) (left rest bytes : List ℕ) → Fronted lines left bytes →
    Line numbers rest left → Fronted (lines ++ numbers ∷ []) rest bytes
line_more lines numbers left rest bytes front line =
    let next = line.same ∙ line_front numbers rest in
    let lines_more : lines_of lines ++ line_of numbers ≡ lines_of (lines ++ numbers ∷ [])
    = flat_map_more line_of [] lines numbers in
    record {
      short = recursion_from_All Short (lines ++ numbers ∷ [])
          (All-push Short lines numbers (All-from_recursion Short lines front.short) line.short);
      same = front.same ∙ (ap (λ bs. lines_of lines ++ bs) next
          ∙ (sym (append_assoc (lines_of lines) (line_of numbers) rest) ∙ ap (λ bs. bs ++ rest) lines_more));
    }

pub lamp_more : (shelf period : ℕ) (lamps more : List Lamp) (lamp : Lamp) (left rest bytes : List ℕ) →
    more ≡ lamps ++ lamp ∷ [] → Fronted (pairs_of shelf period lamps) left bytes →
    Line (lamp.hours, lamp.life) rest left → Fronted (pairs_of shelf period more) rest bytes
lamp_more shelf period lamps more lamp left rest bytes pushed front line =
    let pairs : pairs_of shelf period more ≡ pairs_of shelf period lamps ++ (lamp.hours, lamp.life) ∷ []
    = ap (pairs_of shelf period) pushed
    ∙ ap (λ ps. (shelf, period) ∷ ps) (map_push (λ l. (l.hours, l.life)) lamps lamp) in
    let next = line_more (pairs_of shelf period lamps) (lamp.hours, lamp.life) left rest bytes front line in
    subst (λ lines. Fronted lines rest bytes) (sym pairs) next

pub shorter : (numbers : ℕ × ℕ) (rest bytes : List ℕ) → Line numbers rest bytes → length rest < length bytes
shorter numbers rest bytes line =
    omega (
      arith,
      ap length line.same,
      length-append (decimal numbers.0) (blank ∷ (decimal numbers.1 ++ (line_end ∷ rest))),
      length-append (decimal numbers.1) (line_end ∷ rest),
    )

-- a first lamp line to come: no lamps yet
pub first_line : (shelf period : ℕ) (lamps : List Lamp) (rest bytes : List ℕ) → lamps ≡ [] →
    Line (shelf, period) rest bytes →
    Fronted (pairs_of shelf period lamps) rest bytes
first_line shelf period lamps rest bytes none line =
    subst (λ ls. Fronted (pairs_of shelf period ls) rest bytes) (sym none) (one_line (shelf, period) rest bytes line)

-- all bytes read: they are just the lines
pub all_read : (lines : List (ℕ × ℕ)) (rest bytes : List ℕ) → Fronted lines rest bytes → length rest ≡ 0 →
    bytes ≡ lines_of lines
all_read lines rest bytes front none =
    front.same ∙ (ap (λ bs. lines_of lines ++ bs) (nil_from_length rest none) ∙ append-nil (lines_of lines))

-- no line where one should come: its number is one more than the lines read
pub misread : (shelf period : ℕ) (lamps : List Lamp) (rest bytes : List ℕ) →
    Fronted (pairs_of shelf period lamps) rest bytes →
    0 < length rest → NoLine rest → (n : ℕ) → n ≡ length lamps + 2 → Misreads n bytes
misread shelf period lamps rest bytes front some none n count =
    record {
      before = pairs_of shelf period lamps;
      rest = rest;
      count = omega (arith, length-map {B = ℕ × ℕ} lamps (λ l. (l.hours, l.life)));
      short = front.short;
      same = front.same;
      other = none;
      some = λ empty. absurd (omega arith);
    }

-- what reading a sheet takes: the first line, each more, that it shortens what is left, and the two ways to end
pub ruleset sheet_read = (first_line, lamp_more, shorter, misread, all_read)
