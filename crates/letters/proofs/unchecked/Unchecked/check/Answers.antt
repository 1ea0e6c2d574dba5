use Rattle.std.proofs.Common.{Some, None, refl}
use Rattle.std.proofs.lemmas.Result.{err_from_is_err_and}
use Rattle.letters.specs.Code.{unread_of, refusal_of}
use Rattle.letters.proofs.Answered.{values_failed}
use Rattle.letters.proofs.unchecked.Unchecked.check.Goals as goal

pub returns-in_err-check_entries : goal.returns-in_err-check_entries
returns-in_err-check_entries c =
    let p = err_from_is_err_and c.from_residual-in_err-check_entries.result
    c.from_residual-in_err-check_entries.ensures.1 in
    rw (p.1, p.2)
    (values_failed c.args.self.now None (Some (unread_of c.in_err-check_entries.field-0.0)) _ _
    c.in_ok-check_head.ensures c.in_err-check_entries.ensures refl refl)

pub returns-in_err-check_order : goal.returns-in_err-check_order
returns-in_err-check_order c =
    let p = err_from_is_err_and c.from_residual-in_err-check_order.result
    c.from_residual-in_err-check_order.ensures.1 in
    rw (p.1, p.2)
    (values_failed c.args.self.now None None (Some (unread_of c.in_err-check_order.field-0.0)) _
    c.in_ok-check_head.ensures c.in_ok-check_entries.ensures c.in_err-check_order.ensures refl)

pub returns : goal.returns
returns c =
    values_failed c.args.self.now None None None (refusal_of c.check_pool.result) c.in_ok-check_head.ensures
    c.in_ok-check_entries.ensures c.in_ok-check_order.ensures c.check_pool.ensures
