-- What a message says, and what writing does to a buffer.
use Rattle.std.specs.Prelude.{◌≡◌, ℕ, ◌<◌, ◌≤◌, List, [], ◌++◌, length, drop, Ok, Err, Result}
use Rattle.letters.specs.declared.fault.Unwritten.{Unwritten}
use Rattle.letters.specs.declared.message.Message.{Message}
use Rattle.letters.specs.Contents.{Contents}
use Rattle.letters.specs.Bytes.{encode}
use Rattle.letters.specs.Code.{kind_number, says, unwritten_number}

-- what a message says
abbrev pub message_says : Message → Contents
message_says m = says (kind_number m.kind) m.head m.entries

-- what a message says that nobody has filled: an Ask by depot 0 to nobody
abbrev pub blank_contents : Contents
blank_contents = record { kind = 1; sender = 0; to = 0; leader = 0; code = 1; number = 1; entries = [] }

-- the buffer's front holds the letter and the rest is as it was; too short a buffer is refused and left as it was
abbrev pub Wrote : Contents → List ℕ → Result ℕ Unwritten → List ℕ → Type 0
Wrote m was (Ok n) is = (n ≡ length (encode m)) × (n ≤ length was) × (is ≡ encode m ++ drop n was)
Wrote m was (Err why) is = (unwritten_number why ≡ 34) × (length was < length (encode m)) × (is ≡ was)
