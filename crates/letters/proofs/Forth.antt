-- No other bytes are read as a letter: bytes that pass each test are the form of the letter in them, which is lawful.
use Rattle.std.proofs.Common.{◌≡◌, ℕ, zero, suc, ◌+◌, ◌*◌, ◌/◌, ◌%◌, ◌≤◌, true, eqb, ltb, leb, List, [], ◌∷◌, length, drop, Some, None, Option, sym, refl, ap, ◌∙◌, subst, arith}
use Rattle.std.specs.List.{AllByRecursion}
use Rattle.std.proofs.lemmas.Bool.{leb-true, ltb-true, eqb-true, and_parts}
use Rattle.std.proofs.lemmas.List.{drop_more, nil_from_length, length-drop}
use Rattle.std.proofs.ByRecursion.{All-drop}
use Rattle.entries.specs.declared.lists.Entry.{Entry}
use Rattle.entries.specs.Lists.{RisesFrom}
use Rattle.letters.specs.Format as format
use Rattle.letters.specs.Format.{letter_mark, entry_mark, mark_len, to_len, number_len, wish_len, shelf_len, head_len, entry_len}
use Rattle.letters.specs.Contents.{Contents, LawfulEntry, last_kind}
use Rattle.letters.specs.Bytes.{Bytes, at, number_bytes, number_in, entry_bytes, entries_bytes, encode}
use Rattle.letters.specs.Reading.{Refusal, owns, owner_of, count_fits, entry_in, first_entries, entries_in}
use Rattle.letters.specs.Reading.{contents_in, kind_tests, head_tests, entry_tests, entries_tests, rises_tests}
use Rattle.letters.specs.Reading.{sum_tests, value_tests, first_failed, tests, letter, answer}
use Rattle.letters.specs.Reading.{reads}
use Rattle.letters.specs.OneForm.{InForm, OneForm}
use Rattle.letters.proofs.Numbers.{byte_at, bytes_back, number_below}
use Rattle.letters.proofs.Tests.{Passed, none_passed, passed_split}
use Rattle.letters.proofs.Carried.{Fits, fits_carries}
use Rattle.letters.proofs.Back.{read_back}

-- one entry
pub entry_form : (owner : Option ℕ) (p : ℕ) (bs : List ℕ) → Bytes bs → entry_len ≤ length bs →
    Passed (entry_tests owner p bs) →
    (bs ≡ entry_bytes (entry_in bs) (drop entry_len bs)) × LawfulEntry (entry_in bs)
    × (owns owner (at bs format.depot_at) ≡ true)
entry_form owner p bs hb long h =
    let mark : number_bytes mark_len entry_mark (drop mark_len bs) ≡ bs =
    ap (λ n. number_bytes mark_len n (drop mark_len bs)) (sym (eqb-true _ _ h.0))
    ∙ bytes_back mark_len 0 bs hb (omega arith) in
    let depot = drop_more bs format.depot_at 0 (omega arith) in
    let wish = bytes_back wish_len format.wish_at bs hb (omega arith) in
    let shelf = bytes_back shelf_len format.shelf_at bs hb (omega arith) in
    let named = and_parts (ltb (at bs format.depot_at) _) (owns owner (at bs format.depot_at)) h.1.0 in (
      cc,
      record {
        depot_below = ltb-true _ _ named.0;
        wish_within = leb-true _ _ h.1.1.0;
        shelf_within = leb-true _ _ h.1.1.1.0;
      },
      named.1,
    )

-- entries one after another
pub entries_form : (n : ℕ) (owner : Option ℕ) (p : ℕ) (bs : List ℕ) → Bytes bs → length bs ≡ entry_len * n →
    Passed (entries_tests n owner p bs) →
    (bs ≡ entries_bytes (first_entries n bs)) × AllByRecursion LawfulEntry (first_entries n bs)
    × AllByRecursion (λ e. owns owner e.depot ≡ true) (first_entries n bs)
entries_form zero owner p bs hb long h = (nil_from_length bs (omega arith), tt, tt)
entries_form (suc n) owner p bs hb long h =
    let rest = drop entry_len bs in
    let parts = passed_split (entry_tests owner p bs) (entries_tests n owner (p + entry_len) rest) h in
    let one = entry_form owner p bs hb (omega arith) parts.0 in
    let left : length rest ≡ entry_len * n = rw length-drop (omega arith) in
    let more = entries_form n owner (p + entry_len) rest (All-drop _ entry_len bs hb) left parts.1 in
    (cc, (one.1, more.1), (one.2, more.2))

rises_form : (d p : ℕ) (es : List Entry) → Passed (rises_tests d p es) → RisesFrom d es
rises_form d p [] h = tt
rises_form d p (e ∷ es) h = (leb-true _ _ h.0, rises_form (e.depot + 1) (p + entry_len) es h.1)

pub count_entries : (n : ℕ) (bs : List ℕ) → length (first_entries n bs) ≡ n
count_entries zero bs = refl
count_entries (suc n) bs = let h = count_entries n (drop entry_len bs) in omega arith

-- the head's bytes, given what follows it
head_form : (bs body : List ℕ) (es : List Entry) → Bytes bs → head_len ≤ length bs →
    number_in mark_len bs 0 ≡ letter_mark → drop head_len bs ≡ entries_bytes es →
    bs ≡ encode (record {
      kind = at bs format.kind_at;
      sender = at bs format.sender_at;
      to = number_in to_len bs format.to_at;
      leader = at bs format.leader_at;
      code = at bs format.code_at;
      number = number_in number_len bs format.number_at;
      entries = es;
    })
head_form bs body es hb long mark rest =
    let marked : number_bytes mark_len letter_mark (drop mark_len bs) ≡ bs =
    ap (λ n. number_bytes mark_len n (drop mark_len bs)) (sym mark) ∙ bytes_back mark_len 0 bs hb (omega arith) in
    let kind = drop_more bs format.kind_at 0 (omega arith) in
    let sender = drop_more bs format.sender_at 0 (omega arith) in
    let to = bytes_back to_len format.to_at bs hb (omega arith) in
    let leader = drop_more bs format.leader_at 0 (omega arith) in
    let code = drop_more bs format.code_at 0 (omega arith) in
    let number = bytes_back number_len format.number_at bs hb (omega arith) in
    cc

-- bytes that pass every test
passed_form : (bs : List ℕ) → Bytes bs → Passed (tests bs) → InForm bs (contents_in bs)
passed_form bs hb h =
    let m = contents_in bs in
    let body = drop head_len bs in
    let es = entries_in body in
    let owner = owner_of m.kind m.sender in
    let long : head_len ≤ length bs = leb-true _ _ h.0 in
    let after = value_tests m.kind m.sender m.leader m.code m.number body in
    let shape = passed_split (kind_tests m.kind (length body)) after h.1.1 in
    let values = passed_split (head_tests m.sender m.leader m.code m.number) _ shape.1 in
    let each = passed_split (entries_tests (length body / entry_len) owner head_len body) _ values.1 in
    let order = passed_split (rises_tests 0 head_len es) (sum_tests m.kind es) each.1 in
    let kind = and_parts (ltb 0 m.kind) (leb m.kind last_kind) shape.0.0 in
    let len = and_parts (eqb (length body % entry_len) 0) (count_fits m.kind (length body / entry_len))
    shape.0.1.0 in
    let whole : length body % entry_len ≡ 0 = eqb-true _ _ len.0 in
    let parts = entries_form (length body / entry_len) owner head_len body (All-drop _ head_len bs hb) (omega arith)
    each.0 in
    let fits : Fits m.kind m.sender es =
    record {
      count = rw (count_entries (length body / entry_len) body) len.1;
      owned = parts.2;
      each = parts.1;
      rises = rises_form 0 head_len es order.0;
      sum = order.1.0;
    } in
    record {
      form = head_form bs body es hb long (eqb-true _ _ h.1.0) parts.0;
      lawful =
          record {
            kind_low = ltb-true _ _ kind.0;
            kind_high = leb-true _ _ kind.1;
            sender_below = ltb-true _ _ values.0.0;
            to_fits = number_below to_len format.to_at bs hb;
            leader_below = ltb-true _ _ values.0.1.0;
            code_low = ltb-true _ _ values.0.1.1.0;
            code_high = byte_at bs format.code_at hb;
            number_low = ltb-true _ _ values.0.1.1.1.0;
            number_fits = number_below number_len format.number_at bs hb;
            carries = fits_carries m.kind m.sender es fits;
          };
    }

answer_letter : (r : Option Refusal) (m n : Contents) → answer r m ≡ letter n → (r ≡ None) × (m ≡ n)
answer_letter None m n e = (refl, cc)
answer_letter (Some r) m n e = absurd (cc)

pub no_other : (bs : List ℕ) (m : Contents) → Bytes bs → reads bs ≡ letter m → InForm bs m
no_other bs m hb e =
    let r = answer_letter (first_failed (tests bs)) (contents_in bs) m e in
    subst (InForm bs) r.1 (passed_form bs hb (none_passed (tests bs) r.0))

pub one_form : OneForm
one_form = record { read_back = read_back; no_other = no_other }
