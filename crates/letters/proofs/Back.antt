-- A lawful letter is read back from its bytes: each test passes, since each number fits its bytes.
use Rattle.std.proofs.Common.{◌≡◌, ℕ, ◌+◌, ◌*◌, ◌/◌, ◌%◌, true, ◌&&◌, ltb, leb, List, [], ◌∷◌, length, Option, refl, arith}
use Rattle.std.specs.List.{AllByRecursion}
use Rattle.std.proofs.ByRecursion.{All-append}
use Rattle.std.proofs.lemmas.Bool.{le-leb, lt-ltb, eq-eqb, and_from}
use Rattle.entries.specs.declared.lists.Entry.{Entry}
use Rattle.entries.specs.Lists.{RisesFrom}
use Rattle.letters.specs.Format as format
use Rattle.letters.specs.Format.{to_len, number_len, wish_len, shelf_len, head_len, entry_len}
use Rattle.letters.specs.Contents.{Contents, last_kind, LawfulEntry, Lawful}
use Rattle.letters.specs.Bytes.{number_in, entry_bytes, entries_bytes, encode}
use Rattle.letters.specs.Reading.{owns, owner_of, count_fits, entry_in, first_entries, entries_in, kind_tests}
use Rattle.letters.specs.Reading.{head_tests, entry_tests, entries_tests, rises_tests, value_tests, body_tests}
use Rattle.letters.specs.Reading.{tests}
use Rattle.letters.specs.OneForm.{ReadBack}
use Rattle.letters.proofs.Numbers.{number_back}
use Rattle.letters.proofs.Tests.{Passes, Passed, passed_none}
use Rattle.letters.proofs.Carried.{Fits, carries_fits}

-- one entry
wish_back : (e : Entry) (rest : List ℕ) → LawfulEntry e →
    number_in wish_len (entry_bytes e rest) format.wish_at ≡ e.wish
wish_back e rest h =
    number_back wish_len e.wish format.wish_at (entry_bytes e rest) _ refl (omega (arith, h.wish_within))

shelf_back : (e : Entry) (rest : List ℕ) → LawfulEntry e →
    number_in shelf_len (entry_bytes e rest) format.shelf_at ≡ e.shelf
shelf_back e rest h =
    number_back shelf_len e.shelf format.shelf_at (entry_bytes e rest) _ refl (omega (arith, h.shelf_within))

pub entry_back : (e : Entry) (rest : List ℕ) → LawfulEntry e → entry_in (entry_bytes e rest) ≡ e
entry_back e rest h = simp (wish_back e rest h, shelf_back e rest h)

pub entry_passes : (owner : Option ℕ) (p : ℕ) (e : Entry) (rest : List ℕ) → LawfulEntry e →
    owns owner e.depot ≡ true → Passed (entry_tests owner p (entry_bytes e rest))
entry_passes owner p e rest h o =
    let w : leb (number_in wish_len (entry_bytes e rest) format.wish_at) _ ≡ true =
    le-leb _ _ (omega (arith, wish_back e rest h, h.wish_within)) in
    let s : leb (number_in shelf_len (entry_bytes e rest) format.shelf_at) _ ≡ true =
    le-leb _ _ (omega (arith, shelf_back e rest h, h.shelf_within)) in
    (refl, (and_from _ _ (lt-ltb _ _ h.depot_below) o, (w, (s, tt))))

-- entries one after another
pub entries_back : (es : List Entry) → AllByRecursion LawfulEntry es → first_entries (length es) (entries_bytes es) ≡ es
entries_back [] h = refl
entries_back (e ∷ es) h =
    let one = entry_back e (entries_bytes es) h.0 in
    let more = entries_back es h.1 in
    cc

pub entries_pass : (owner : Option ℕ) (p : ℕ) (es : List Entry) → AllByRecursion LawfulEntry es →
    AllByRecursion (λ e. owns owner e.depot ≡ true) es → Passed (entries_tests (length es) owner p (entries_bytes es))
entries_pass owner p [] h o = tt
entries_pass owner p (e ∷ es) h o =
    All-append Passes (entry_tests owner p (entry_bytes e (entries_bytes es))) _
    (entry_passes owner p e (entries_bytes es) h.0 o.0)
    (entries_pass owner (p + entry_len) es h.1 o.1)

rises_pass : (d p : ℕ) (es : List Entry) → RisesFrom d es → Passed (rises_tests d p es)
rises_pass d p [] h = tt
rises_pass d p (e ∷ es) h = (le-leb _ _ h.0, rises_pass (e.depot + 1) (p + entry_len) es h.1)

pub length_entries : (es : List Entry) → length (entries_bytes es) ≡ entry_len * length es
length_entries [] = refl
length_entries (e ∷ es) = let h = length_entries es in omega arith

-- what follows the mark
module _ (m : Contents) (h : Lawful m) where
  abbrev body : List ℕ
  body = entries_bytes m.entries

  fits : Fits m.kind m.sender m.entries
  fits = carries_fits m.kind m.sender m.entries h.carries

  count : length body / entry_len ≡ length m.entries
  count = omega (arith, length_entries m.entries)

  pub entries_read_lem : entries_in body ≡ m.entries
  entries_read_lem = rw count (entries_back m.entries fits.each)

  kind_passes : Passed (kind_tests m.kind (length body))
  kind_passes =
      let none : length body % entry_len ≡ 0 = omega (arith, length_entries m.entries) in
      let few : count_fits m.kind (length body / entry_len) ≡ true = rw count fits.count in
      let kind : (ltb 0 m.kind && leb m.kind last_kind) ≡ true =
      and_from _ _ (lt-ltb _ _ h.kind_low) (le-leb _ _ h.kind_high) in
      (kind, (and_from _ _ (eq-eqb _ _ none) few, tt))

  head_passes : Passed (head_tests m.sender m.leader m.code m.number)
  head_passes = (
    lt-ltb _ _ h.sender_below,
    (lt-ltb _ _ h.leader_below, (lt-ltb _ _ h.code_low, (lt-ltb _ _ h.number_low, tt))),
  )

  values_pass : Passed (value_tests m.kind m.sender m.leader m.code m.number body)
  values_pass =
      let es = m.entries in
      let owner = owner_of m.kind m.sender in
      let sum = fits.sum in
      All-append Passes (head_tests m.sender m.leader m.code m.number) _ head_passes
      (rw (entries_read_lem, count)
      (All-append Passes (entries_tests (length es) owner head_len body) _
      (entries_pass owner head_len es fits.each fits.owned)
      (All-append Passes (rises_tests 0 head_len es) _ (rises_pass 0 head_len es fits.rises) (sum, tt))))

  body_passes : Passed (body_tests m.kind m.sender m.leader m.code m.number body)
  body_passes =
      All-append Passes (kind_tests m.kind (length body))
      (value_tests m.kind m.sender m.leader m.code m.number body) kind_passes values_pass

  pub read_back : ReadBack m
  read_back =
      let number = number_back number_len m.number format.number_at (encode m) _ refl h.number_fits in
      let to = number_back to_len m.to format.to_at (encode m) _ refl h.to_fits in
      let long : leb head_len (length (encode m)) ≡ true = le-leb _ _ (omega arith) in
      let all : Passed (tests (encode m)) = (long, (refl, rw number body_passes)) in
      rw (passed_none (tests (encode m)) all) (simp (to, number, entries_read_lem))
