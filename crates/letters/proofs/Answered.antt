-- What reading answers, at each of its exits: the tests before the exit passed, so the first that fails is the one that
-- the exit tells.
use Rattle.std.proofs.Common.{◌≡◌, ℕ, ◌-◌, ◌/◌, ◌≤◌, List, ◌++◌, length, take, drop, IfOk, Ok, Err, Option, Result, sym, ap, ◌∙◌}
use Rattle.std.specs.Option.{option_or}
use Rattle.std.proofs.lemmas.Bool.{le-leb, eq-eqb}
use Rattle.std.proofs.lemmas.List.{take_rest}
use Rattle.letters.specs.declared.fault.Unread.{Unread}
use Rattle.letters.specs.declared.letter.Letter.{Letter}
use Rattle.letters.specs.declared.unchecked.Unchecked.{Unchecked}
use Rattle.letters.specs.Format as format
use Rattle.letters.specs.Format.{letter_mark, mark_len, to_len, number_len, head_len, entry_len}
use Rattle.letters.specs.Bytes.{Bytes, at, number_in}
use Rattle.letters.specs.OneForm.{InForm}
use Rattle.letters.specs.Code.{kind_number, letter_says, answer_of}
use Rattle.letters.specs.Reading.{Refusal, Test, first_failed, entries_in, owner_of}
use Rattle.letters.specs.Reading.{head_tests, entries_tests, rises_tests, sum_tests, value_tests, body_tests}
use Rattle.letters.specs.Reading.{Answer, answer, reads}
use Rattle.letters.proofs.Tests.{failed_join}
use Rattle.letters.proofs.Forth.{no_other}

-- the values: what the checks of the head, of each entry, of the order and of the sum answer, one after another
module _ (s : Unchecked) where
  abbrev head : List Test
  head = head_tests s.head.sender s.head.leader s.head.code s.head.number

  abbrev each : List Test
  each =
      entries_tests (length s.entries.now / entry_len) (owner_of (kind_number s.kind) s.head.sender) head_len
      s.entries.now

  abbrev order : List Test
  order = rises_tests 0 head_len (entries_in s.entries.now)

  abbrev sum : List Test
  sum = sum_tests (kind_number s.kind) (entries_in s.entries.now)

  pub values_failed : (h e o v : Option Refusal) → h ≡ first_failed head → e ≡ first_failed each →
      o ≡ first_failed order → v ≡ first_failed sum →
      option_or h (option_or e (option_or o v))
      ≡ first_failed
      (value_tests (kind_number s.kind) s.head.sender s.head.leader s.head.code s.head.number s.entries.now)
  values_failed h e o v is_head is_each is_order is_sum =
      rw (is_head, is_each, is_order, is_sum)
      (sym (failed_join head (each ++ (order ++ sum))
      ∙ ap (option_or (first_failed head)) (failed_join each (order ++ sum)
      ∙ ap (option_or (first_failed each)) (failed_join order sum))))

-- the head's mark is right: the rest decides, as the code takes it apart
pub marked_reads : (bs : List ℕ) (to number : ℕ) (a : Answer) → head_len ≤ length bs →
    number_in mark_len bs 0 ≡ letter_mark → to ≡ number_in to_len bs format.to_at →
    number ≡ number_in number_len bs format.number_at →
    a ≡ answer
    (first_failed (body_tests (at bs format.kind_at) (at bs format.sender_at) (at bs format.leader_at)
    (at bs format.code_at) number (take (length bs - head_len) (drop head_len bs))))
    (record {
      kind = at bs format.kind_at;
      sender = at bs format.sender_at;
      to = to;
      leader = at bs format.leader_at;
      code = at bs format.code_at;
      number = number;
      entries = entries_in (take (length bs - head_len) (drop head_len bs));
    }) →
    a ≡ reads bs
marked_reads bs to number a long mark t n e =
    let f = rw (t, n, take_rest bs head_len) at e in
    rw (le-leb _ _ long, eq-eqb _ _ mark) f

-- a letter that was read has its one form
pub read_in_form : (bs : List ℕ) (r : Result Letter Unread) → Bytes bs → answer_of r ≡ reads bs →
    IfOk r (λ l. InForm bs (letter_says l))
read_in_form bs (Ok l) hb e = no_other bs (letter_says l) hb (sym e)
read_in_form bs (Err f) hb e = tt
