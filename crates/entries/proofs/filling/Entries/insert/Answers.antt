use Rattle.std.proofs.Common.{length, sym, ap, ◌∙◌, arith}
use Rattle.std.specs.List.{insert as inserted, prefix_len}
use Rattle.entries.specs.declared.filling.InsertRefusal.TheVariants.{Present, Full, PastLimit}
use Rattle.entries.proofs.Width.{as_many_marks}
use Rattle.entries.proofs.Insertion.{is_present, is_full, is_past_limit, room_left, refused, taken}
use Rattle.entries.proofs.Placing.{not_above, insert_at}
use Rattle.entries.proofs.filling.Entries.insert.Goals as goal

pub returns-then-on_list : goal.returns-then-on_list
returns-then-on_list c =
    let list = c.as_slice-list.result.now in
    refused c.args.entry list _ c.as_slice-list.ensures.list Present
    (is_present c.args.entry list (sym c.if-on_list.ensures))

pub returns-then-list-eq-PLACES : goal.returns-then-list-eq-PLACES
returns-then-list-eq-PLACES c =
    let list = c.as_slice-list.result.now in
    refused c.args.entry list _ c.as_slice-list.ensures.list Full
    (is_full c.args.entry list (sym c.if-on_list.ensures) (omega (arith, as_many_marks)))

pub returns-then-not-may_hold : goal.returns-then-not-may_hold
returns-then-not-may_hold c =
    let list = c.as_slice-list.result.now in
    refused c.args.entry list _ c.as_slice-list.ensures.list PastLimit
    (is_past_limit c.args.entry list (sym c.if-on_list.ensures)
    (room_left list c.if-list-eq-PLACES.false c.as_slice-list.ensures.few)
    (sym c.if-not-may_hold.ensures))

pub put_at-requires-clause-room : goal.put_at-requires-clause-room
put_at-requires-clause-room c =
    let same = ap length c.as_slice-list.ensures.list in
    let room = room_left c.as_slice-list.result.now c.if-list-eq-PLACES.false c.as_slice-list.ensures.few in
    omega arith

pub returns : goal.returns
returns c =
    let e = c.args.entry in
    let es = c.args.self.now in
    let at = c.place_for-place.ensures.place ∙ ap (prefix_len (not_above e)) c.as_slice-list.ensures.list in
    taken e c.as_slice-list.result.now es c.as_slice-list.ensures.list
    (c.put_at.ensures ∙ (ap (λ n. inserted es n e) at ∙ sym (insert_at e es)))
    (sym c.if-on_list.ensures)
    (room_left c.as_slice-list.result.now c.if-list-eq-PLACES.false c.as_slice-list.ensures.few)
    (sym c.if-not-may_hold.ensures)
