use Rattle.std.proofs.Common.{◌+◌, ◌*◌, [], ◌++◌, length, drop, refl, ap, ◌∙◌, arith}
use Rattle.letters.specs.Format.{head_len, entry_len}
use Rattle.letters.specs.Bytes.{encode, entries_bytes}
use Rattle.letters.specs.Code.{kind_number, says}
use Rattle.letters.specs.Writing.{message_says}
use Rattle.letters.proofs.Back.{length_entries}
use Rattle.letters.proofs.Compared.{message_read_back}
use Rattle.letters.proofs.Written.{letter_written}
use Rattle.letters.proofs.writing.write.Goals as goal

pub returns-then-buffer-len : goal.returns-then-buffer-len
returns-then-buffer-len c =
    let m = c.args.message.now in
    let n = ap length c.as_slice-entries.ensures.list in
    record {
      wrote = (refl, omega (arith, length_entries m.entries, n), refl);
      form = message_read_back (message_says m) m.lawful;
    }

pub returns : goal.returns
returns c =
    let m = c.args.message.now in
    let list = c.as_slice-entries.ensures.list in
    let n = ap length list in
    let es = c.as_slice-entries.result.now in
    let len = entry_len * length es in
    let head = encode (says (kind_number m.kind) m.head []) in
    let was = c.args.buffer.now in
    let done =
    letter_written head (entries_bytes es) was c.copy_from_slice.new.self c.write_entries.new.buffer len refl
    (c.copy_from_slice.ensures.after ∙ c.head_bytes.ensures) c.write_entries.ensures in
    record {
      wrote = (
        omega (arith, length_entries m.entries, n),
        omega arith,
        done ∙ ap (λ xs. head ++ (entries_bytes xs ++ drop (head_len + len) was)) list,
      );
      form = message_read_back (message_says m) m.lawful;
    }
