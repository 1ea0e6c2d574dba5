-- What the values of the code say.
use Rattle.std.specs.Prelude.{◌≡◌, ℕ, ◌+◌, ◌^◌, ◌<◌, ◌≤◌, true, false, List, [], ◌∷◌, length, drop, Some, None, Ok, Err, Option, Result, MatchResult}
use Rattle.std.specs.Iterator.{YieldsFirst}
use Rattle.entries.specs.declared.lists.Entry.{Entry}
use Rattle.letters.specs.declared.fault.Unreadable.{Unreadable}
use Rattle.letters.specs.declared.fault.Unreadable.TheVariants as unreadable
use Rattle.letters.specs.declared.fault.Unread.{Unread}
use Rattle.letters.specs.declared.fault.Fault.{Fault}
use Rattle.letters.specs.declared.fault.Fault.TheVariants as faults
use Rattle.letters.specs.declared.fault.Unwritten.{Unwritten}
use Rattle.letters.specs.declared.fault.Unwritten.TheVariants as unwritten
use Rattle.letters.specs.declared.letter.Kind.{Kind}
use Rattle.letters.specs.declared.letter.Kind.TheVariants as kinds
use Rattle.letters.specs.declared.letter.UnknownKind.{UnknownKind}
use Rattle.letters.specs.declared.letter.Head.{Head}
use Rattle.letters.specs.declared.letter.Letter.{Letter}
use Rattle.letters.specs.declared.letter.Letter.TheVariants as letters
use Rattle.letters.specs.declared.entry_reader.EntryReader.{EntryReader}
use Rattle.letters.specs.Format.{shelf_len, entry_len}
use Rattle.letters.specs.Contents.{Contents, offer_kind, list_kind, last_kind}
use Rattle.letters.specs.Reading.{Refusal, reading, handover, Answer, refused, letter, is_kind, entry_in, entries_in}

-- the number of each refusal of reading
abbrev pub number_of : Unreadable → ℕ
number_of unreadable.Short = 22
number_of unreadable.Mark = 23
number_of unreadable.Kind = 24
number_of unreadable.Length = 25
number_of unreadable.EntryMark = 26
number_of unreadable.Range = 27
number_of unreadable.NotAList = 28

-- the number of writing's refusal
abbrev pub unwritten_number : Unwritten → ℕ
unwritten_number unwritten.NoRoom = 34

-- what a fault of reading tells
abbrev pub unread_of : Unread → Refusal
unread_of f = reading (number_of f.why) f.place

-- what a letter's fault tells, given the numbers of the handover's own refusals
abbrev pub fault_of : {R : Type 0} → (R → ℕ) → Fault R → Refusal
fault_of number (faults.Reading f) = unread_of f
fault_of number (faults.Handover r) = handover (number r)

-- the refusal in a result, none where it holds a value
abbrev pub refusal_of : {X : Type 0} → Result X Unread → Option Refusal
refusal_of (Ok x) = None
refusal_of (Err f) = Some (unread_of f)

-- the number of each kind
abbrev pub kind_number : Kind → ℕ
kind_number kinds.Ask = 1
kind_number kinds.Offer = offer_kind
kind_number kinds.List = list_kind
kind_number kinds.Yes = 4
kind_number kinds.No = 5
kind_number kinds.Settle = 6
kind_number kinds.Drop = 7
kind_number kinds.Query = 8
kind_number kinds.Done = last_kind

-- the kind with the number, or the number where no kind has it
abbrev pub KindOf : ℕ → Result Kind UnknownKind → Type 0
KindOf number r =
    MatchResult r (λ kind. (is_kind number ≡ true) × (kind_number kind ≡ number))
    (λ unknown. (is_kind number ≡ false) × (unknown.0 ≡ number))

-- what a kind's number, a head and entries say together
abbrev pub says : ℕ → Head → List Entry → Contents
says kind h es =
    record {
      kind = kind;
      sender = h.sender;
      to = h.to.0;
      leader = h.leader;
      code = h.code;
      number = h.number;
      entries = es;
    }

-- the kind of a letter that was read
abbrev pub letter_kind : Letter → Kind
letter_kind (letters.Ask h) = kinds.Ask
letter_kind (letters.Offer h bytes) = kinds.Offer
letter_kind (letters.List h bytes) = kinds.List
letter_kind (letters.Yes h) = kinds.Yes
letter_kind (letters.No h) = kinds.No
letter_kind (letters.Settle h) = kinds.Settle
letter_kind (letters.Drop h) = kinds.Drop
letter_kind (letters.Query h) = kinds.Query
letter_kind (letters.Done h) = kinds.Done

-- its head
abbrev pub letter_head : Letter → Head
letter_head (letters.Ask h) = h
letter_head (letters.Offer h bytes) = h
letter_head (letters.List h bytes) = h
letter_head (letters.Yes h) = h
letter_head (letters.No h) = h
letter_head (letters.Settle h) = h
letter_head (letters.Drop h) = h
letter_head (letters.Query h) = h
letter_head (letters.Done h) = h

-- the bytes of its entries
abbrev pub entry_part : Letter → List ℕ
entry_part (letters.Ask h) = []
entry_part (letters.Offer h bytes) = bytes.now
entry_part (letters.List h bytes) = bytes.now
entry_part (letters.Yes h) = []
entry_part (letters.No h) = []
entry_part (letters.Settle h) = []
entry_part (letters.Drop h) = []
entry_part (letters.Query h) = []
entry_part (letters.Done h) = []

-- what a letter that was read says
abbrev pub letter_says : Letter → Contents
letter_says l = says (kind_number (letter_kind l)) (letter_head l) (entries_in (entry_part l))

-- what reading answered
abbrev pub answer_of : Result Letter Unread → Answer
answer_of (Ok l) = letter (letter_says l)
answer_of (Err f) = refused (unread_of f)

-- the entry at the front of bytes, none where they are fewer than an entry's
abbrev pub EntryFront : List ℕ → Option Entry → Type 0
EntryFront bs None = length bs < entry_len
EntryFront bs (Some e) = (entry_len ≤ length bs) × (e ≡ entry_in bs)

-- entries one after another, the first at the place p, each with its place
abbrev pub placed : ℕ → List Entry → List (ℕ × Entry)
placed p [] = []
placed p (e ∷ es) = (p, e) ∷ placed (p + entry_len) es

-- the entries that a reader has still to give, each with its place in the whole
abbrev pub entries_left : EntryReader → List (ℕ × Entry)
entries_left r = placed (r.first + r.offset) (entries_in (drop r.offset r.bytes.now))

-- a step of the reader: the entry at its offset, with its place in the whole
pub record Gave (was : EntryReader) (place : ℕ) (e : Entry) (is : EntryReader) : Type 0 where
  pub whole : was.offset + entry_len ≤ length was.bytes.now
  pub placed : place ≡ was.first + was.offset
  pub entry : e ≡ entry_in (drop was.offset was.bytes.now)
  pub shelf_fits : e.shelf < 256 ^ shelf_len
  pub onward : is.offset ≡ was.offset + entry_len
  pub same_bytes : is.bytes.now ≡ was.bytes.now
  pub same_first : is.first ≡ was.first

-- its end: fewer bytes are left than an entry has, and the reader stays as it was
pub record Ended (was is : EntryReader) : Type 0 where
  pub short : length was.bytes.now < was.offset + entry_len
  pub same_offset : is.offset ≡ was.offset
  pub same_bytes : is.bytes.now ≡ was.bytes.now
  pub same_first : is.first ≡ was.first

-- what `next` did
abbrev pub Stepped : EntryReader → Option (ℕ × Entry) → EntryReader → Type 0
Stepped was None is = Ended was is
Stepped was (Some given) is = Gave was given.0 given.1 is

-- what an iteration over a reader goes by: a step, which gives the first of the entries left or ends where none is left
abbrev pub GivesEntry : EntryReader → Option (ℕ × Entry) → EntryReader → Type 0
GivesEntry was given is = Stepped was given is × YieldsFirst entries_left was given is
