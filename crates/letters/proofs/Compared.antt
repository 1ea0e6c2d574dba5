-- Two answers of reading are equal in at most one way, since they are made of numbers. So what a message's invariant
-- says of it, which is known only to hold somehow, gives that it is read back.
use Rattle.std.proofs.Common.{◌≡◌, ℕ, ◌⊎◌, List, ap, inl, inr, arith}
use mathlib.Core.Logic.{∥∥₁_elim}
use base.Stored.{Coded, Coded-set, coded_via, coded_ℕ, coded×, coded⊎, coded_list}
use Rattle.entries.specs.declared.lists.Entry.{Entry}
use Rattle.letters.specs.Contents.{Contents, Lawful}
use Rattle.letters.specs.Reading.{Refusal, reading, handover, Answer, refused, letter}
use Rattle.letters.specs.OneForm.{ReadBack}
use Rattle.letters.proofs.Back.{read_back}

abbrev entry_parts : Entry → ℕ × (ℕ × ℕ)
entry_parts e = (e.depot, (e.shelf, e.wish))

entry_inj : (x y : Entry) → entry_parts x ≡ entry_parts y → x ≡ y
entry_inj x y e = λ i. record { depot = (e i).0; shelf = (e i).1.0; wish = (e i).1.1 }

entry_coded : Coded Entry
entry_coded = coded_via (coded× coded_ℕ (coded× coded_ℕ coded_ℕ)) entry_parts entry_inj

abbrev contents_parts : Contents → (ℕ × (ℕ × ℕ)) × ((ℕ × (ℕ × ℕ)) × List Entry)
contents_parts m = ((m.kind, (m.sender, m.to)), ((m.leader, (m.code, m.number)), m.entries))

contents_inj : (x y : Contents) → contents_parts x ≡ contents_parts y → x ≡ y
contents_inj x y e =
    λ i.
    record {
      kind = (e i).0.0;
      sender = (e i).0.1.0;
      to = (e i).0.1.1;
      leader = (e i).1.0.0;
      code = (e i).1.0.1.0;
      number = (e i).1.0.1.1;
      entries = (e i).1.1;
    }

contents_coded : Coded Contents
contents_coded =
    let three = coded× coded_ℕ (coded× coded_ℕ coded_ℕ) in
    coded_via (coded× three (coded× three (coded_list entry_coded))) contents_parts contents_inj

abbrev refusal_parts : Refusal → ℕ × (ℕ × ℕ)
refusal_parts (reading n p) = (0, (n, p))
refusal_parts (handover n) = (1, (n, 0))

refusal_inj : (x y : Refusal) → refusal_parts x ≡ refusal_parts y → x ≡ y
refusal_inj (reading n p) (reading m q) e = λ i. reading (e i).1.0 (e i).1.1
refusal_inj (reading n p) (handover m) e = absurd (omega (arith, ap (λ x. x.0) e))
refusal_inj (handover n) (reading m q) e = absurd (omega (arith, ap (λ x. x.0) e))
refusal_inj (handover n) (handover m) e = λ i. handover (e i).1.0

abbrev answer_parts : Answer → Refusal ⊎ Contents
answer_parts (refused r) = inl r
answer_parts (letter m) = inr m

answer_inj : (x y : Answer) → answer_parts x ≡ answer_parts y → x ≡ y
answer_inj (refused r) (refused s) e = cc
answer_inj (refused r) (letter m) e = cc
answer_inj (letter m) (refused r) e = cc
answer_inj (letter m) (letter n) e = cc

answer_coded : Coded Answer
answer_coded =
    let refusal-coded = coded_via (coded× coded_ℕ (coded× coded_ℕ coded_ℕ)) refusal_parts refusal_inj in
    coded_via (coded⊎ refusal-coded contents_coded) answer_parts answer_inj

pub message_read_back : (m : Contents) → ∥ Lawful m ∥₁ → ReadBack m
message_read_back m lawful = ∥∥₁_elim lawful (Coded-set answer_coded _ _) (read_back m)
