-- A place of entries stays filled: what is written in front of it, behind its entries, or among them, leaves behind the
-- entries what says nothing.
use Rattle.std.proofs.Common.{◌≡◌, ℕ, ◌+◌, ◌-◌, ◌<◌, ◌≤◌, List, [], ◌∷◌, ◌++◌, length, take, drop, replicate, set, sym, refl, ap, ◌∙◌, arith}
use borrow.Rule.Slice.PartMut.{put_mid}
use Rattle.std.specs.List.{between, insert as inserted}
use Rattle.std.proofs.lemmas.List.{append_assoc, drop-append-le, drop-drop, drop-replicate, drop-set-lt, drop_all, drop_at, length-append, length-replicate, length-set, length-drop, length-take-le, take-append-le, take-take, take_all, take_at}
use Rattle.std.proofs.lemmas.Slice.{between_is}
use Rattle.entries.specs.declared.lists.Entry.{Entry}
use Rattle.entries.specs.declared.filling.Entries.TheInside.{Inside}
use Rattle.entries.specs.Limits.{max_depots}
use Rattle.entries.specs.Lists.{blank}
use Rattle.entries.specs.Place.{Filled}
use Rattle.entries.proofs.Width.{as_many_marks}

-- as many as there is room for that say nothing
pub blank_items : (e : Entry) → e ≡ blank → replicate 16 e ≡ replicate max_depots blank
blank_items e is = ap (replicate 16) is ∙ ap (λ n. replicate n blank) (sym as_many_marks)

-- where everything says nothing, any count keeps the place filled
pub all_filled : (items : List Entry) (n : ℕ) → items ≡ replicate max_depots blank → n ≤ max_depots
    → Filled (record { items = items; count = n })
all_filled items n is few = record {
  whole = ap length is ∙ length-replicate max_depots blank;
  within = few;
  behind = ap (drop n) is ∙ drop-replicate n max_depots blank;
}

-- and where nothing is counted, everything says nothing
pub all_blank : (place : Inside) → Filled place → take place.count place.items ≡ []
    → place.items ≡ replicate max_depots blank
all_blank place is none =
    let whole = is.whole in
    let within = is.within in
    let few = length-take-le place.count place.items (omega arith) in
    let no : length (take place.count place.items) ≡ 0 = ap length none in
    let count : place.count ≡ 0 = omega arith in
    let room : max_depots - place.count ≡ max_depots = omega arith in
    ap (λ n. drop n place.items) (sym count) ∙ (is.behind ∙ ap (λ n. replicate n blank) room)

-- entries in front of what says nothing
pub front_filled : (front items : List Entry) (n : ℕ) → length front ≡ n → n ≤ max_depots
    → items ≡ replicate max_depots blank → Filled (record { items = front ++ drop n items; count = n })
front_filled front items n size few is = record {
  whole =
      let blanks : length items ≡ max_depots = ap length is ∙ length-replicate max_depots blank in
      let all = length-append front (drop n items) in
      let rest = length-drop n items in
      omega arith;
  within = few;
  behind = drop_at front (drop n items) n size ∙ (ap (drop n) is ∙ drop-replicate n max_depots blank);
}

-- an entry behind the others
pub push_filled : (place : Inside) (e : Entry) → Filled place → place.count < max_depots
    → Filled (record { items = set place.items place.count e; count = place.count + 1 })
push_filled place e is room = record {
  whole = length-set place.items place.count e ∙ is.whole;
  within = omega arith;
  behind =
      let one : max_depots - place.count - 1 ≡ max_depots - (place.count + 1) = omega arith in
      drop-set-lt (place.count + 1) place.items place.count e (omega arith)
      ∙ (sym (drop-drop 1 place.count place.items)
      ∙ (ap (drop 1) is.behind
      ∙ (drop-replicate 1 (max_depots - place.count) blank ∙ ap (λ n. replicate n blank) one)));
}

-- what a part holds once its last has come to its front
abbrev pub turned : {X : Type 0} → List X → List X
turned part = drop (length part - 1) part ++ take (length part - 1) part

-- the last of the entries moved up to its place
module _ (place : Inside) (es : List Entry) (e : Entry) (k : ℕ) (is : Filled place) (low : k ≤ length es)
    (last : take place.count place.items ≡ es ++ e ∷ []) where
  count : place.count ≡ length es + 1
  count =
      let whole = is.whole in
      let within = is.within in
      let taken = length-take-le place.count place.items (omega arith) in
      let both = ap length last in
      omega (arith, length-append es (e ∷ []))

  part_is : between k place.count place.items ≡ drop k es ++ e ∷ []
  part_is = between_is place.items k place.count ∙ (ap (drop k) last ∙ drop-append-le k es (e ∷ []) low)

  part_turned : turned (between k place.count place.items) ≡ e ∷ drop k es
  part_turned =
      let before : length (drop k es ++ e ∷ []) - 1 ≡ length (drop k es) = omega (arith, length-append (drop k es) (e ∷ [])) in
      ap turned part_is ∙ rw (
        before,
        drop_at (drop k es) (e ∷ []) (length (drop k es)) refl,
        take_at (drop k es) (e ∷ []) (length (drop k es)) refl,
      )

  below : take k place.items ≡ take k es
  below =
      let size = count in
      sym (take-take k place.count place.items (omega arith))
      ∙ (ap (take k) last ∙ take-append-le k es (e ∷ []) low)

  behind : drop (place.count - k) (drop k place.items) ≡ drop place.count place.items
  behind =
      let size = count in
      let all : k + (place.count - k) ≡ place.count = omega arith in
      drop-drop (place.count - k) k place.items ∙ ap (λ m. drop m place.items) all

  pub moved_up : (part : List Entry) → part ≡ turned (between k place.count place.items)
      → put_mid k (place.count - k) place.items part ≡ inserted es k e ++ drop place.count place.items
  moved_up part is =
      let parts : put_mid k (place.count - k) place.items part
      ≡ take k es ++ ((e ∷ drop k es) ++ drop place.count place.items) =
      rw (is ∙ part_turned, below, behind) refl in
      parts ∙ sym (append_assoc (take k es) (e ∷ drop k es) (drop place.count place.items))

  size : length (inserted es k e) ≡ place.count
  size =
      let all = count in
      omega (arith, length-append (take k es) (e ∷ drop k es), length-take-le k es low, length-drop k es)

  pub moved_filled : (part : List Entry) → part ≡ turned (between k place.count place.items)
      → Filled (record { items = put_mid k (place.count - k) place.items part; count = place.count })
  moved_filled part same =
      let up = moved_up part same in
      record {
        whole =
            let all = is.whole in
            let within = is.within in
            let long = size in
            let parts = length-append (inserted es k e) (drop place.count place.items) in
            ap length up ∙ omega (arith, length-drop place.count place.items);
        within = is.within;
        behind =
            ap (drop place.count) up
            ∙ (drop_at (inserted es k e) (drop place.count place.items) place.count size ∙ is.behind);
      }

  pub moved_list : (part : List Entry) → part ≡ turned (between k place.count place.items)
      → take place.count (put_mid k (place.count - k) place.items part) ≡ inserted es k e
  moved_list part same =
      ap (take place.count) (moved_up part same)
      ∙ take_at (inserted es k e) (drop place.count place.items) place.count size

-- what is put in at the end stands behind all
pub behind_all : (es : List Entry) (e : Entry) (k : ℕ) → k ≡ length es → inserted es k e ≡ es ++ e ∷ []
behind_all es e k is =
    let end : length es ≤ k = omega arith in
    ap (λ xs. xs ++ e ∷ drop k es) (take_all k es end) ∙ ap (λ xs. es ++ e ∷ xs) (drop_all k es end)
