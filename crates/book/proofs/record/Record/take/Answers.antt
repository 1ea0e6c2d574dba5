use Rattle.std.proofs.Common.{◌≡◌, Ok, sym, ap, ◌∙◌, subst}
use Rattle.letters.specs.Contents.{Lawful}
use Rattle.letters.specs.Code.{kind_number, says, letter_kind, entry_part}
use Rattle.letters.specs.Reading.{entries_in}
use Rattle.letters.specs.Writing.{message_says}
use Rattle.book.specs.Calls.{Admitted}
use Rattle.book.specs.Sharing.{policy_of}
use Rattle.book.proofs.Following.{line_sound}
use Rattle.book.proofs.record.Record.take.Goals as goal

pub follow-requires : goal.follow-requires
follow-requires g c =
    let p = g.met.P.Policy in
    let P = policy_of g.P.Policy in
    let es = entries_in (entry_part c.args.letter) in
    let same : says (kind_number c.kind.result) c.head.result es ≡ message_says c.owned-letter.result =
    ap (λ k. says (kind_number k) c.head.result es) c.kind.ensures
    ∙ (ap (λ head. says (kind_number (letter_kind c.args.letter)) head es) c.head.ensures ∙ sym c.owned-letter.ensures) in
    line_sound P (record { coded = p.coded; shares = record { each = p.size; all = p.conserves } }) c.args.self.now
    (message_says c.owned-letter.result) (subst Lawful (sym c.owned-letter.ensures) c.requires)
    (subst (λ m. Admitted P m c.args.self.now (Ok tt)) same (c.in_ok-admit.ensures es))
