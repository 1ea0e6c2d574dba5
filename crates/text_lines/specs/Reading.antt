-- What a reader has left, and single bytes: the blank between two words, and the end of a line.
use Rattle.std.specs.Prelude.{ℕ, Bool, false, cond, List, [], ◌∷◌, ◌==◌}
use Rattle.text_lines.specs.declared.Mark.{Mark}
use Rattle.text_lines.specs.declared.Mark.TheVariants as marks
use Rattle.text_lines.specs.declared.Reader.{Reader}

-- the bytes that a reader has left to read
abbrev pub left : Reader → List ℕ
left reader = reader.rest.now

-- the blank between two words
abbrev pub blank : ℕ
blank = 32

-- the byte that ends a line
abbrev pub line_end : ℕ
line_end = 10

-- the byte of a mark
abbrev pub byte_of : Mark → ℕ
byte_of marks.Blank = blank
byte_of marks.LineEnd = line_end

-- the bytes begin with this byte
abbrev pub begins_with : ℕ → List ℕ → Bool
begins_with byte [] = false
begins_with byte (first ∷ rest) = first == byte

-- what follows it, or all bytes where they begin with another
abbrev pub past_byte : ℕ → List ℕ → List ℕ
past_byte byte [] = []
past_byte byte (first ∷ rest) = cond (first == byte) rest (first ∷ rest)
