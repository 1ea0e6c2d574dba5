use Rattle.std.proofs.Common.{◌≡◌, Bool, ap, ◌∙◌}
use Rattle.entries.specs.Lists.{on}
use Rattle.protocol.specs.declared.step.Situation.{Situation}
use Rattle.protocol.specs.Steps.{fits_gathered}
use Rattle.book.specs.View.{view}
use Rattle.book.proofs.record.Record.situation.Goals as goal

-- a situation from its five answers
told : Bool → Bool → Bool → Bool → Bool → Situation
told p q x y z =
    record { from_leader = p; to_leader = q; from_listed = x; acceptable = y; gatherable = z }

same_told : (p q : Bool) {x x' y y' z z' : Bool} → x ≡ x' → y ≡ y' → z ≡ z' → told p q x y z ≡ told p q x' y' z'
same_told p q e f g = cc

pub returns : goal.returns
unfolding told
returns c =
    let r = c.args.self.now in
    let h = c.args.letter.now.head in
    let l = c.as_slice-entries.ensures.list in
    same_told _ _ (c.on_list.ensures ∙ ap (λ es. on es h.sender) c.as_slice.ensures.list)
    c.can_accept.ensures
    (c.can_gather.ensures ∙ ap (fits_gathered (view r).gathered) l)
