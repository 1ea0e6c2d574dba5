use Rattle.std.proofs.Common.{◌≡◌, ◌+◌, ◌<◌, [], ◌∷◌, ◌++◌, length, take, set, ap, ◌∙◌, arith}
use Rattle.std.proofs.lemmas.List.{length-take-le, take_more_set}
use Rattle.entries.specs.declared.filling.Entries.TheInside.{Inside}
use Rattle.entries.specs.Limits.{max_depots}
use Rattle.entries.specs.Place.{Filled}
use Rattle.entries.proofs.Place.{push_filled, moved_filled, moved_list}
use Rattle.entries.proofs.filling.Entries.put_at.Goals as goal

-- the place with the new entry behind the others, before those from its own place on are moved up
module _ (c : goal.After-self-1) where
  abbrev written : Inside
  written = record {
    items = set c.self.inside.items c.self.inside.count c.args.entry;
    count = c.self.inside.count + 1;
  }

  room : c.self.inside.count < max_depots
  room =
      let whole = c.self.invariant.whole in
      let within = c.self.invariant.within in
      let size = length-take-le c.self.inside.count c.self.inside.items (omega arith) in
      let same = ap length c.self.view_is in
      let free = c.requires.room in
      omega arith

  filled : Filled written
  filled = push_filled c.self.inside c.args.entry c.self.invariant room

  last : take (c.self.inside.count + 1) written.items ≡ c.args.self.now ++ c.args.entry ∷ []
  last =
      let whole = c.self.invariant.whole in
      let free = room in
      take_more_set c.self.inside.items c.self.inside.count c.args.entry (omega arith)
      ∙ ap (λ es. es ++ c.args.entry ∷ []) c.self.view_is

pub invariant_of-self : goal.invariant_of-self
invariant_of-self c =
    moved_filled (written c) c.args.self.now c.args.entry c.args.place (filled c) c.requires.within (last c)
    c.rotate_right.new.self c.rotate_right.ensures.after

pub returns : goal.returns
returns c =
    moved_list (written c) c.args.self.now c.args.entry c.args.place (filled c) c.requires.within (last c)
    c.rotate_right.new.self c.rotate_right.ensures.after
