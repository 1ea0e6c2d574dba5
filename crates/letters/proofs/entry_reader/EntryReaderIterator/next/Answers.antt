use Rattle.std.proofs.Common.{◌≡◌, ◌+◌, ◌≤◌, length, drop, refl, ap, ◌∙◌, arith}
use Rattle.std.proofs.lemmas.List.{take_rest, length-drop}
use Rattle.letters.specs.Format.{entry_len}
use Rattle.letters.specs.Reading.{entry_in}
use Rattle.letters.proofs.Steps.{left_placed}
use Rattle.letters.proofs.entry_reader.EntryReaderIterator.next.Goals as goal

pub returns : goal.returns
returns c =
    let i = c.args.self.now.offset in
    let bs = c.args.self.now.bytes.now in
    let front = c.in_ok-entry.ensures in
    let rest : c.in_ok-get.field-0.now ≡ drop i bs = c.in_ok-get.ensures.lookup.0.2 ∙ take_rest bs i in
    let room : i + entry_len ≤ length bs = omega (arith, front.0, ap length rest, length-drop i bs) in
    let entry : c.in_ok-entry.entry ≡ entry_in (drop i bs) = front.1 ∙ ap entry_in rest in
    let left = left_placed c.args.self.now.first i bs c.in_ok-entry.entry room entry in
    record {
      steps = (
        record {
          whole = room;
          placed = refl;
          entry = entry;
          shelf_fits = omega arith;
          onward = refl;
          same_bytes = refl;
          same_first = refl;
        },
        left,
      );
      goes = record { on = λ _. (tt, tt, omega (arith, ap length left)); keeps = tt; rests = λ _. tt };
    }
