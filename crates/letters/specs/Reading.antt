-- What reading answers to any bytes: the first test that they fail, or the letter in them.
use Rattle.std.specs.Prelude.{ℕ, zero, suc, ◌+◌, ◌/◌, ◌%◌, Bool, true, cond, not, ◌&&◌, ◌||◌, List, [], ◌∷◌, ◌++◌, length, drop, Some, None, Option, ◌==◌, nat_le, nat_lt}
use Rattle.entries.specs.declared.lists.Entry.{Entry}
use Rattle.entries.specs.Limits.{max_depots, max_wish, max_shelf, max_pool}
use Rattle.entries.specs.Lists.{pool}
use Rattle.letters.specs.Format as format
use Rattle.letters.specs.Format.{letter_mark, entry_mark, mark_len, to_len, number_len, wish_len, shelf_len, head_len, entry_len}
use Rattle.letters.specs.Contents.{Contents, offer_kind, list_kind, last_kind}
use Rattle.letters.specs.Bytes.{at, number_in}

-- what a refusal tells: in reading its number and a place in the bytes, in a handover its number
pub data Refusal : Type 0 where
  reading : ℕ → ℕ → Refusal
  handover : ℕ → Refusal

-- a test of reading, with the number and the place that are told where it fails
pub record Test : Type 0 where
  pub passes : Bool
  pub number : ℕ
  pub place : ℕ

-- a test by its parts
abbrev pub test : Bool → ℕ → ℕ → Test
test passes number place = record { passes = passes; number = number; place = place }

-- the first test that fails, as a refusal
abbrev pub first_failed : List Test → Option Refusal
first_failed [] = None
first_failed (d ∷ ds) = cond d.passes (first_failed ds) (Some (reading d.number d.place))

-- the entry at the front of the bytes
abbrev pub entry_in : List ℕ → Entry
entry_in bs =
    record {
      depot = at bs format.depot_at;
      shelf = number_in shelf_len bs format.shelf_at;
      wish = number_in wish_len bs format.wish_at;
    }

-- so many entries from the front on
abbrev pub first_entries : ℕ → List ℕ → List Entry
first_entries zero bs = []
first_entries (suc n) bs = entry_in bs ∷ first_entries n (drop entry_len bs)

-- all entries that the bytes hold
abbrev pub entries_in : List ℕ → List Entry
entries_in bs = first_entries (length bs / entry_len) bs

-- the letter in the bytes
abbrev pub contents_in : List ℕ → Contents
contents_in bs =
    record {
      kind = at bs format.kind_at;
      sender = at bs format.sender_at;
      to = number_in to_len bs format.to_at;
      leader = at bs format.leader_at;
      code = at bs format.code_at;
      number = number_in number_len bs format.number_at;
      entries = entries_in (drop head_len bs);
    }

-- kinds are numbered 1 to 9
abbrev pub is_kind : ℕ → Bool
is_kind kind = nat_lt 0 kind && nat_le kind last_kind

-- how many entries a kind has: an Offer one, a List 2 to as many as there can be depots, every other kind none
abbrev pub count_fits : ℕ → ℕ → Bool
count_fits kind n =
    cond (kind == offer_kind) (n == 1) (cond (kind == list_kind) (nat_le 2 n && nat_le n max_depots) (n == 0))

-- the number of bytes that may follow the head
abbrev pub length_fits : ℕ → ℕ → Bool
length_fits kind n = n % entry_len == 0 && count_fits kind (n / entry_len)

-- whose entry it has to be: an Offer's is its sender's, a List's may be any depot's
abbrev pub owner_of : ℕ → ℕ → Option ℕ
owner_of kind sender = cond (kind == offer_kind) (Some sender) None

-- whether a depot is the owner, where there is one
abbrev pub owns : Option ℕ → ℕ → Bool
owns None depot = true
owns (Some owner) depot = depot == owner

-- the kind, then the length
abbrev pub kind_tests : ℕ → ℕ → List Test
kind_tests kind n =
    test (is_kind kind) 24 format.kind_at
    ∷ test (length_fits kind n) 25 0
    ∷ []

-- the head's values from left to right
abbrev pub head_tests : ℕ → ℕ → ℕ → ℕ → List Test
head_tests sender leader code number =
    test (nat_lt sender max_depots) 27 format.sender_at
    ∷ test (nat_lt leader max_depots) 27 format.leader_at
    ∷ test (nat_lt 0 code) 27 format.code_at
    ∷ test (nat_lt 0 number) 27 format.number_at
    ∷ []

-- an entry's mark and values from left to right, its first byte standing at the place p
abbrev pub entry_tests : Option ℕ → ℕ → List ℕ → List Test
entry_tests owner p bs =
    test (number_in mark_len bs 0 == entry_mark) 26 p
    ∷ test (nat_lt (at bs format.depot_at) max_depots && owns owner (at bs format.depot_at)) 27 (p + format.depot_at)
    ∷ test (nat_le (number_in wish_len bs format.wish_at) max_wish) 27 (p + format.wish_at)
    ∷ test (nat_le (number_in shelf_len bs format.shelf_at) max_shelf) 27 (p + format.shelf_at)
    ∷ []

-- the same of so many entries one after another
abbrev pub entries_tests : ℕ → Option ℕ → ℕ → List ℕ → List Test
entries_tests zero owner p bs = []
entries_tests (suc n) owner p bs =
    entry_tests owner p bs ++ entries_tests n owner (p + entry_len) (drop entry_len bs)

-- of one entry by itself, where the bytes may be too few for it
abbrev pub one_entry_tests : Option ℕ → ℕ → List ℕ → List Test
one_entry_tests owner p bs = test (nat_le entry_len (length bs)) 25 p ∷ entry_tests owner p bs

-- each entry's depot is above the one before, the first being at least d
abbrev pub rises_tests : ℕ → ℕ → List Entry → List Test
rises_tests d p [] = []
rises_tests d p (e ∷ es) = test (nat_le d e.depot) 28 p ∷ rises_tests (e.depot + 1) (p + entry_len) es

-- the shelves of a List sum to no more than a list may pool
abbrev pub sum_tests : ℕ → List Entry → List Test
sum_tests kind es = test (not (kind == list_kind) || nat_le (pool es) max_pool) 28 head_len ∷ []

-- all tests of a head's values and of the entries in the bytes after it, in the order of the refusals
abbrev pub value_tests : ℕ → ℕ → ℕ → ℕ → ℕ → List ℕ → List Test
value_tests kind sender leader code number bs =
    head_tests sender leader code number
    ++ (entries_tests (length bs / entry_len) (owner_of kind sender) head_len bs
    ++ (rises_tests 0 head_len (entries_in bs)
    ++ sum_tests kind (entries_in bs)))

-- the same with the kind and the length before
abbrev pub body_tests : ℕ → ℕ → ℕ → ℕ → ℕ → List ℕ → List Test
body_tests kind sender leader code number bs =
    kind_tests kind (length bs) ++ value_tests kind sender leader code number bs

-- all tests of the bytes of a letter, in the order of the refusals
abbrev pub tests : List ℕ → List Test
tests bs =
    test (nat_le head_len (length bs)) 22 0
    ∷ test (number_in mark_len bs 0 == letter_mark) 23 0
    ∷ body_tests (at bs format.kind_at) (at bs format.sender_at) (at bs format.leader_at) (at bs format.code_at)
    (number_in number_len bs format.number_at) (drop head_len bs)

-- an answer of reading
pub data Answer : Type 0 where
  refused : Refusal → Answer
  letter : Contents → Answer

-- the refusal, or the letter where there is none
abbrev pub answer : Option Refusal → Contents → Answer
answer None m = letter m
answer (Some refusal) m = refused refusal

-- what reading answers to the bytes
abbrev pub reads : List ℕ → Answer
reads bs = answer (first_failed (tests bs)) (contents_in bs)
