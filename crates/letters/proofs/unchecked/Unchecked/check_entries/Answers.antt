use Rattle.std.proofs.Common.{◌≡◌, ◌+◌, ◌*◌, None, Some, length, ◌∙◌, arith}
use Rattle.std.specs.Iterator.Adapters.{enumerate_source, enumerate_count}
use Rattle.std.proofs.lemmas.Result.{err_from_is_err_and}
use Rattle.letters.specs.Format.{head_len, entry_len}
use Rattle.letters.specs.Reading.{first_failed, one_entry_tests}
use Rattle.letters.specs.Code.{kind_number, unread_of}
use Rattle.letters.proofs.Few.{length_few}
use Rattle.letters.proofs.Steps.{chunk_left, entry_turn}
use Rattle.letters.proofs.unchecked.Unchecked.check_entries.Goals as goal

pub overflow_cast-index : goal.overflow_cast-index
overflow_cast-index c =
    let whole = c.args.self.now in
    let few = length_few (kind_number whole.kind) (length whole.entries.now) whole.fits in
    omega (arith, c.in-Some.ensures.steps.1, c.loop-index.invariant.4)

pub loop-index-preserved : goal.loop-index-preserved
loop-index-preserved c =
    let owner = c.owner-owner.result in
    let was = enumerate_source c.loop-index.index-iterator in
    let is = enumerate_source c.next.new.self in
    let place = head_len + entry_len * enumerate_count c.loop-index.index-iterator in
    let chunk = c.in-Some.entry in
    let inv = c.loop-index.invariant in
    let s = c.in-Some.ensures.steps in
    let left = chunk_left owner place was is chunk s.0 inv.2 inv.3 in
    let next : head_len + entry_len * enumerate_count c.next.new.self ≡ place + entry_len = omega (arith, s.2) in
    let passed : None ≡ first_failed (one_entry_tests owner place chunk.now) =
    rw s.1 at c.in_ok-check_entry.ensures in (
      c.in-Some.ensures.goes.keeps,
      tt,
      s.0.0 ∙ inv.2,
      omega (arith, left),
      omega (arith, left, s.2),
      rw next (entry_turn owner place was is chunk s.0 inv.2 inv.3 None passed ∙ inv.5),
    )

pub returns-in_err-check_entry : goal.returns-in_err-check_entry
returns-in_err-check_entry c =
    let owner = c.owner-owner.result in
    let was = enumerate_source c.loop-index.index-iterator in
    let place = head_len + entry_len * enumerate_count c.loop-index.index-iterator in
    let chunk = c.in-Some.entry in
    let inv = c.loop-index.invariant in
    let s = c.in-Some.ensures.steps in
    let r = Some (unread_of c.in_err-check_entry.field-0.0) in
    let refused : r ≡ first_failed (one_entry_tests owner place chunk.now) = rw s.1 at c.in_err-check_entry.ensures in
    let p = err_from_is_err_and c.from_residual.result c.from_residual.ensures.1 in
    rw (p.1, p.2)
    (entry_turn owner place was (enumerate_source c.next.new.self) chunk s.0 inv.2 inv.3 r refused ∙ inv.5)
