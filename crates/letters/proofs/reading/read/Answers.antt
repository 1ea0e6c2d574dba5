use Rattle.std.proofs.Common.{◌≡◌, ◌-◌, ◌≤◌, length, take, drop, ◌∙◌, arith, ltb-false}
use Rattle.std.proofs.ByRecursion.{All-from_get_or}
use Rattle.std.proofs.lemmas.List.{take_rest}
use Rattle.std.proofs.lemmas.Result.{IfOk-weaker}
use Rattle.letters.specs.Format as format
use Rattle.letters.specs.Format.{letter_mark, mark_len, to_len, number_len, head_len}
use Rattle.letters.specs.Bytes.{number_in}
use Rattle.letters.specs.Code.{entry_part, answer_of}
use Rattle.letters.proofs.Answered.{marked_reads, read_in_form}
use Rattle.letters.proofs.reading.read.Goals as goal

pub returns : goal.returns
returns c =
    let bs = c.args.bytes.now in
    let r = c.read_marked.result in
    let long : head_len ≤ length bs = omega (arith, ltb-false) in
    let mark : number_in mark_len bs 0 ≡ letter_mark = omega (arith, c.from_be_bytes.ensures) in
    let to : c.from_be_bytes-2.result ≡ number_in to_len bs format.to_at = omega (arith, c.from_be_bytes-2.ensures) in
    let number : c.from_be_bytes-3.result ≡ number_in number_len bs format.number_at =
    omega (arith, c.from_be_bytes-3.ensures) in
    let says =
    marked_reads bs c.from_be_bytes-2.result c.from_be_bytes-3.result (answer_of r) long mark to number
    c.read_marked.ensures.says in
    record {
      says = says;
      part =
          IfOk-weaker r (λ l. entry_part l ≡ take (length bs - head_len) (drop head_len bs))
          (λ l. entry_part l ≡ drop head_len bs)
          (λ l e. e ∙ take_rest bs head_len) c.read_marked.ensures.part;
      form = read_in_form bs r (All-from_get_or _ bs 0 (λ i _. omega (arith, c.type_inv.bytes i))) says;
    }
