-- One form: a lawful letter is read back from its bytes, and no other bytes are read as that letter.
use Rattle.std.specs.Prelude.{◌≡◌, ℕ, List}
use Rattle.letters.specs.Contents.{Contents, Lawful}
use Rattle.letters.specs.Bytes.{Bytes, encode}
use Rattle.letters.specs.Reading.{letter, reads}

-- the letter, written and read, is the same letter
abbrev pub ReadBack : Contents → Type 0
ReadBack m = reads (encode m) ≡ letter m

-- the bytes are the form of the letter, which is lawful
pub record InForm (bs : List ℕ) (m : Contents) : Type 0 where
  pub form : bs ≡ encode m
  pub lawful : Lawful m

-- both, for every lawful letter and all bytes
pub record OneForm : Type 0 where
  pub read_back : (m : Contents) → Lawful m → ReadBack m
  pub no_other : (bs : List ℕ) (m : Contents) → Bytes bs → reads bs ≡ letter m → InForm bs m
