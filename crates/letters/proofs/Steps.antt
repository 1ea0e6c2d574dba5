-- One entry more: what the reader of entries and the loops of reading go by. The bytes at an entry's front have that
-- entry and those of the rest, and their tests and their order are those of that entry and of the rest.
use Rattle.std.proofs.Common.{◌≡◌, ℕ, zero, suc, ◌+◌, ◌/◌, ◌%◌, ◌<◌, ◌≤◌, List, ◌∷◌, ◌++◌, length, take, drop, Some, Option, Bor, sym, refl, ap, ◌∙◌, arith}
use Rattle.std.specs.Option.{option_or}
use Rattle.std.specs.Slice.Iter.{chunks_rest, chunks_size, chunks_steps}
use Rattle.std.proofs.lemmas.List.{drop-drop, drop_at, take_at, length-drop, length-append, get_or-take}
use Rattle.std.proofs.lemmas.Bool.{le-leb, lt-leb}
use Rattle.entries.specs.declared.lists.Entry.{Entry}
use Rattle.letters.specs.declared.entry_reader.EntryReader.{EntryReader}
use Rattle.letters.specs.Format as format
use Rattle.letters.specs.Format.{mark_len, wish_len, shelf_len, entry_len}
use Rattle.letters.specs.Bytes.{number_in}
use Rattle.letters.specs.Reading.{Refusal, reading, Test, first_failed, entry_in, entries_in, entry_tests}
use Rattle.letters.specs.Reading.{one_entry_tests, entries_tests, rises_tests}
use Rattle.letters.specs.Code.{placed, Gave}
use Rattle.letters.proofs.Tests.{failed_join}

count_more : (bs : List ℕ) → entry_len ≤ length bs →
    length bs / entry_len ≡ suc (length (drop entry_len bs) / entry_len)
count_more bs h = omega (arith, length-drop entry_len bs)

entries_more : (bs : List ℕ) → entry_len ≤ length bs → entries_in bs ≡ entry_in bs ∷ entries_in (drop entry_len bs)
entries_more bs h = rw (count_more bs h) refl

-- what a reader has left: a step gives its first entry
abbrev pub rest : EntryReader → List Entry
rest r = entries_in (drop r.offset r.bytes.now)

pub rest_more : (i : ℕ) (bs : List ℕ) → i + entry_len ≤ length bs →
    entries_in (drop i bs) ≡ entry_in (drop i bs) ∷ entries_in (drop (i + entry_len) bs)
rest_more i bs h =
    let long : entry_len ≤ length (drop i bs) = omega (arith, length-drop i bs) in
    rw (entries_more (drop i bs) long, drop-drop entry_len i bs) refl

pub rest_gave : (was is : EntryReader) (p : ℕ) (e : Entry) → Gave was p e is → rest was ≡ e ∷ rest is
rest_gave was is p e g =
    rest_more was.offset was.bytes.now g.whole ∙ rw (← g.entry, ← g.onward, ← g.same_bytes) refl

-- the same with the places
pub left_placed : (p i : ℕ) (bs : List ℕ) (e : Entry) → i + entry_len ≤ length bs → e ≡ entry_in (drop i bs) →
    placed (p + i) (entries_in (drop i bs))
    ≡ (p + i, e) ∷ placed (p + (i + entry_len)) (entries_in (drop (i + entry_len) bs))
left_placed p i bs e h is =
    let next : p + i + entry_len ≡ p + (i + entry_len) = omega arith in
    rw (rest_more i bs h, ← next, ← is) refl

-- an entry's tests read its own bytes alone
number_front : (width n i : ℕ) (bs : List ℕ) → i + width ≤ n → number_in width (take n bs) i ≡ number_in width bs i
number_front zero n i bs h = refl
number_front (suc w) n i bs h =
    let high = number_front w n i bs (omega arith) in
    let low = get_or-take n bs (i + w) 0 (omega arith) in
    cc

entry_front : (owner : Option ℕ) (p : ℕ) (bs : List ℕ) →
    entry_tests owner p (take entry_len bs) ≡ entry_tests owner p bs
entry_front owner p bs =
    let mark = number_front mark_len entry_len 0 bs (omega arith) in
    let depot = get_or-take entry_len bs format.depot_at 0 (omega arith) in
    let wish = number_front wish_len entry_len format.wish_at bs (omega arith) in
    let shelf = number_front shelf_len entry_len format.shelf_at bs (omega arith) in
    simp (mark, depot, wish, shelf)

-- a turn of the check of entries: a chunk was cut off what was left in s, and p is its place
module _ (owner : Option ℕ) (p : ℕ) (s t : _) (chunk : Bor (List ℕ)) (cut : chunks_steps {A = ℕ} s (Some chunk) t)
    (size : chunks_size s ≡ entry_len) (whole : length (chunks_rest s) % entry_len ≡ 0) where
  chunk_long : length chunk.now ≡ entry_len
  chunk_long = omega (arith, cut.1.1, cut.1.2, size)

  pub chunk_left : length (chunks_rest s) ≡ entry_len + length (chunks_rest t)
  chunk_left = omega (arith, ap length cut.1.0, length-append chunk.now (chunks_rest t), chunk_long)

  first : entry_tests owner p (chunks_rest s) ≡ entry_tests owner p chunk.now
  first =
      let front : take entry_len (chunks_rest s) ≡ chunk.now =
      rw cut.1.0 (take_at chunk.now (chunks_rest t) entry_len chunk_long) in
      sym (entry_front owner p (chunks_rest s)) ∙ ap (entry_tests owner p) front

  abbrev rest_tests : List Test
  rest_tests = entries_tests (length (chunks_rest t) / entry_len) owner (p + entry_len) (chunks_rest t)

  tests_more : entries_tests (length (chunks_rest s) / entry_len) owner p (chunks_rest s)
      ≡ entry_tests owner p chunk.now ++ rest_tests
  tests_more =
      let back : drop entry_len (chunks_rest s) ≡ chunks_rest t =
      rw cut.1.0 (drop_at chunk.now (chunks_rest t) entry_len chunk_long) in
      rw (count_more (chunks_rest s) (omega (arith, chunk_left)), back) (ap (λ ts. ts ++ rest_tests) first)

  pub entry_turn : (v : Option Refusal) → v ≡ first_failed (one_entry_tests owner p chunk.now) →
      option_or v (first_failed rest_tests)
      ≡ first_failed (entries_tests (length (chunks_rest s) / entry_len) owner p (chunks_rest s))
  entry_turn v e =
      let one : v ≡ first_failed (entry_tests owner p chunk.now) = rw chunk_long at e in
      rw one (sym (ap first_failed tests_more ∙ failed_join (entry_tests owner p chunk.now) rest_tests))

-- a turn of the check of the order, at a step of the reader: an entry below the least that may come is refused at its
-- place, and another raises the least
module _ (was is : EntryReader) (p : ℕ) (e : Entry) (g : Gave was p e is) (d : ℕ) where
  pub order_refused : e.depot < d →
      Some (reading 28 p) ≡ first_failed (rises_tests d (was.first + was.offset) (rest was))
  order_refused h = rw (rest_gave was is p e g, g.placed, lt-leb _ _ h) refl

  pub order_past : (f : ℕ) → f ≡ e.depot → d ≤ e.depot →
      first_failed (rises_tests (f + 1) (is.first + is.offset) (rest is))
      ≡ first_failed (rises_tests d (was.first + was.offset) (rest was))
  order_past f depot h =
      let next : is.first + is.offset ≡ was.first + was.offset + entry_len = omega (arith, g.onward, g.same_first) in
      rw (rest_gave was is p e g, depot, next, le-leb _ _ h) refl
