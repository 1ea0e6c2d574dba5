-- A number and its bytes, over any width: a number that fits is read back from its bytes, and bytes are those of the
-- number that they say. Each byte more is one division by 256.
use Rattle.std.proofs.Common.{◌≡◌, ℕ, zero, suc, ◌+◌, ◌*◌, ◌/◌, ◌%◌, ◌^◌, ◌<◌, ◌≤◌, List, [], ◌∷◌, length, drop, sym, refl, ap, ◌∙◌, add-zero, pow-suc, add-one, arith}
use Rattle.std.proofs.lemmas.List.{drop-drop, drop_more, get_or-drop}
use Rattle.letters.specs.Bytes.{Bytes, at, number_bytes, number_in}

pub byte_at : (bs : List ℕ) (i : ℕ) → Bytes bs → at bs i < 256
byte_at [] i h = omega arith
byte_at (b ∷ bs) zero h = h.0
byte_at (b ∷ bs) (suc i) h = byte_at bs i h.1

past_number_lem : (width n : ℕ) (rest : List ℕ) → drop width (number_bytes width n rest) ≡ rest
past_number_lem zero n rest = refl
past_number_lem (suc w) n rest =
    let bs = number_bytes w (n / 256) (n % 256 ∷ rest) in
    let one : drop 1 (drop w bs) ≡ rest = ap (drop 1) (past_number_lem w (n / 256) (n % 256 ∷ rest)) in
    let join : drop 1 (drop w bs) ≡ drop (w + 1) bs = drop-drop 1 w bs in
    rw (← add-one w) (sym join ∙ one)

last_byte : (width n b : ℕ) (rest : List ℕ) → at (number_bytes width n (b ∷ rest)) width ≡ b
last_byte w n b rest =
    let bs = number_bytes w n (b ∷ rest) in
    let there : at (drop w bs) 0 ≡ at bs (w + 0) = get_or-drop w bs 0 0 in
    let here : at bs w ≡ at (drop w bs) 0 = sym (there ∙ ap (at bs) (add-zero w)) in
    here ∙ ap (λ xs. at xs 0) (past_number_lem w n (b ∷ rest))

-- a number that fits its width, written at a place, is read there
pub number_back : (width n i : ℕ) (bs rest : List ℕ) → drop i bs ≡ number_bytes width n rest → n < 256 ^ width →
    number_in width bs i ≡ n
number_back zero n i bs rest e h = omega arith
number_back (suc w) n i bs rest e h =
    let p = pow-suc 256 w in
    let high = number_back w (n / 256) i bs (n % 256 ∷ rest) e (omega arith) in
    let low : at bs (i + w) ≡ n % 256 =
    sym (get_or-drop i bs w 0) ∙ ap (λ xs. at xs w) e ∙ last_byte w (n / 256) (n % 256) rest in
    omega arith

-- the bytes at a place are those of the number in them
pub bytes_back : (width i : ℕ) (bs : List ℕ) → Bytes bs → i + width ≤ length bs →
    number_bytes width (number_in width bs i) (drop (i + width) bs) ≡ drop i bs
bytes_back zero i bs hb h = ap (λ n. drop n bs) (add-zero i)
bytes_back (suc w) i bs hb h =
    let high = number_in w bs i in
    let low = at bs (i + w) in
    let small : low < 256 = byte_at bs (i + w) hb in
    let q : (high * 256 + low) / 256 ≡ high = omega arith in
    let r : (high * 256 + low) % 256 ≡ low = omega arith in
    let s : i + suc w ≡ i + w + 1 = omega arith in
    let next : drop (i + w) bs ≡ low ∷ drop (i + w + 1) bs = drop_more bs (i + w) 0 (omega arith) in
    rw (q, r, s, ← next) (bytes_back w i bs hb (omega arith))

pub number_below : (width i : ℕ) (bs : List ℕ) → Bytes bs → number_in width bs i < 256 ^ width
number_below zero i bs hb = omega arith
number_below (suc w) i bs hb =
    let p = pow-suc 256 w in
    omega (arith, number_below w i bs hb, byte_at bs (i + w) hb)
