-- What is written of a message: entry by entry, each write puts one entry's bytes behind those before and leaves what
-- follows; then the head before them.
use Rattle.std.proofs.Common.{◌≡◌, ℕ, ◌+◌, ◌-◌, ◌*◌, ◌<◌, List, [], ◌∷◌, ◌++◌, length, get_or, take, drop, sym, refl, ap, ◌∙◌, append_assoc, arith}
use borrow.Rule.Slice.PartMut.{put_mid}
use Rattle.std.proofs.lemmas.List.{take_more, take_at, drop_at, drop-drop, length-take-le, take_rest, drop_all, length-drop, append-nil}
use Rattle.entries.specs.declared.lists.Entry.{Entry}
use Rattle.letters.specs.Format.{head_len, entry_len}
use Rattle.letters.specs.Bytes.{entry_bytes, entries_bytes}
use Rattle.letters.proofs.Back.{length_entries}

bytes_append : (xs ys : List Entry) → entries_bytes (xs ++ ys) ≡ entries_bytes xs ++ entries_bytes ys
bytes_append [] ys = refl
bytes_append (x ∷ xs) ys = ap (entry_bytes x) (bytes_append xs ys)

-- a turn of the loop: the entry at i; was is the buffer before the loop, now before the turn
pub entry_written : (es : List Entry) (i k : ℕ) (e : Entry) (was now part : List ℕ) → i < length es → k ≡ entry_len →
    part ≡ entry_bytes (get_or es i e) [] →
    now ≡ entries_bytes (take i es) ++ drop (entry_len * i) was →
    put_mid (entry_len * i) k now part ≡ entries_bytes (take (i + 1) es) ++ drop (entry_len * (i + 1)) was
entry_written es i k e was now part h n p inv =
    let front = entries_bytes (take i es) in
    let at = entry_len * i in
    let long : length front ≡ at =
    length_entries (take i es) ∙ ap (λ x. entry_len * x) (length-take-le i es (omega arith)) in
    let t : take at now ≡ front = rw inv (take_at front (drop at was) at long) in
    let d : drop at now ≡ drop at was = rw inv (drop_at front (drop at was) at long) in
    let dd : drop k (drop at now) ≡ drop (entry_len * (i + 1)) was = rw (n, d, drop-drop)
    (ap (λ x. drop x was) (omega arith)) in
    let more : entries_bytes (take (i + 1) es) ≡ front ++ entry_bytes (get_or es i e) [] =
    ap entries_bytes (take_more es i e h) ∙ bytes_append (take i es) _ in
    rw (t, dd, p, more) (sym (append_assoc front (entry_bytes (get_or es i e) []) (drop (entry_len * (i + 1)) was)))

-- the head, then the entries: was is the buffer as it was, front its first bytes and back the rest, as they are now
pub letter_written : (head es was front back : List ℕ) (n : ℕ) → length head ≡ head_len → front ≡ head →
    back ≡ es ++ drop n (take (length (front ++ drop head_len was) - head_len)
    (drop head_len (front ++ drop head_len was))) →
    put_mid head_len (length (front ++ drop head_len was) - head_len) (front ++ drop head_len was) back
    ≡ head ++ (es ++ drop (head_len + n) was)
letter_written head es was front back n l e g =
    let x = front ++ drop head_len was in
    let lf : length front ≡ head_len = ap length e ∙ l in
    let t : take head_len x ≡ front = take_at front (drop head_len was) head_len lf in
    let d : drop head_len x ≡ drop head_len was = drop_at front (drop head_len was) head_len lf in
    let r : take (length x - head_len) (drop head_len x) ≡ drop head_len was = take_rest x head_len ∙ d in
    let z : drop (length x - head_len) (drop head_len x) ≡ [] =
    drop_all (length x - head_len) (drop head_len x) (omega (arith, length-drop head_len x)) in
    let v : back ≡ es ++ drop (head_len + n) was =
    g ∙ ap (λ y. es ++ drop n y) r ∙ ap (λ y. es ++ y) (drop-drop n head_len was) in
    rw (t, z, append-nil, v, e) refl
