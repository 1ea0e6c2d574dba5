use Rattle.std.proofs.Common.{◌≡◌, length, ap, ◌∙◌, arith}
use Rattle.std.proofs.lemmas.List.{length-take-le}
use Rattle.entries.proofs.Place.{all_blank, front_filled}
use Rattle.entries.proofs.Width.{as_many_marks}
use Rattle.entries.proofs.filling.Entries.refill.Goals as goal

pub invariant_of-self : goal.invariant_of-self
invariant_of-self c =
    let written : length c.copy_from_slice.new.self ≡ c.min-count.result =
    ap length c.copy_from_slice.ensures.after ∙ length-take-le c.min-count.result c.args.list.now (omega arith) in
    front_filled c.copy_from_slice.new.self c.self.inside.items c.min-count.result written
    (omega (arith, as_many_marks)) (all_blank c.self.inside c.self.invariant (c.self.view_is ∙ c.clear.ensures))
