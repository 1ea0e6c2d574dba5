use Rattle.std.proofs.Common.{◌≡◌, ℕ, ltb, List, length, get_or, Some, None, Option, Bor, sym, ap, ◌∙◌, arith}
use Rattle.std.specs.Option.{IfSome, is_some, option_copied, unwrap_or}
use Rattle.std.proofs.lemmas.List.{get_or_past, get_or_read}
use Rattle.std.proofs.lemmas.Bool.Decides.{nat_tests}
use Rattle.book.specs.declared.parts.Row as parts
use Rattle.book.specs.Fields.{row_of, rows_of, blank_row}
use Rattle.book.proofs.parts.Rows.row.Goals as goal

-- the row of a leader, or a blank one past the rows
looked_up : (rs : List parts.Row) (L : ℕ) (r : Option (Bor parts.Row)) → is_some r ≡ ltb L (length rs)
    → IfSome r (λ x. x.now ≡ get_or rs L x.now) → unwrap_or (option_copied r) blank_row ≡ get_or rs L blank_row
looked_up rs L None e h = sym (get_or_past rs L blank_row (grind (arith, nat_tests)))
looked_up rs L (Some x) e h = get_or_read rs L x.now (grind (arith, nat_tests)) h blank_row

pub returns : goal.returns
unfolding rows_of
returns c =
    let rs = c.args.self.now.of in
    let found = looked_up rs c.from.result c.get.result c.get.ensures.lookup.0 c.get.ensures.lookup.1 in
    ap row_of (c.unwrap_or.ensures ∙ ap (λ r. unwrap_or r blank_row) c.copied.ensures ∙ found)
    ∙ ap (λ L. row_of (get_or rs L blank_row)) c.from.ensures
