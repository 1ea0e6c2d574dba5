-- The lines of the lamps, one after another: what is written and what is to come make up all lines.
use Rattle.std.proofs.Common.{◌≡◌, ℕ, ◌+◌, ◌<◌, List, ◌++◌, length, get_or, drop, Some, sym, ap, ◌∙◌, append_assoc, arith}
use Rattle.std.proofs.lemmas.List.{at_drop_more}
use Rattle.std.proofs.lemmas.Option.{slice_get-get_or}
use Rattle.std.specs.Option.{option_map}
use Rattle.forecast.specs.Answers.{need_at}
use Rattle.forecast.specs.Hours.{lamp_need}
use Rattle.forecast.specs.declared.lamp.Lamp.{Lamp}
use Rattle.lamp_report.specs.Report.{lamp_text, lamps_text}

-- one lamp's line more, of which the need was asked by the lamp's place
pub lamp_written : (period : ℕ) (lamps : List Lamp) (i need : ℕ) (d : Lamp) (text line : List ℕ) → i < length lamps →
    need_at period lamps i ≡ Some need → line ≡ lamp_text (i + 2) (get_or lamps i d) need →
    text ++ lamps_text (i + 2) period (drop i lamps) ≡ lamps_text 2 period lamps →
    (text ++ line) ++ lamps_text (i + 1 + 2) period (drop (i + 1) lamps) ≡ lamps_text 2 period lamps
lamp_written period lamps i need d text line below asked says so_far =
    let lamp = get_or lamps i d in
    let there : Some need ≡ Some (lamp_need period lamp)
    = sym asked ∙ ap (option_map (lamp_need period)) (slice_get-get_or lamps i d below) in
    let need_is : need ≡ lamp_need period lamp = cc in
    let line_is : line ≡ lamp_text (i + 2) lamp (lamp_need period lamp) = says ∙ ap (lamp_text (i + 2) lamp) need_is in
    let next : i + 1 + 2 ≡ i + 2 + 1 = omega arith in
    let rest = lamps_text (i + 2 + 1) period (drop (i + 1) lamps) in
    ap (λ n. (text ++ line) ++ lamps_text n period (drop (i + 1) lamps)) next
    ∙ (append_assoc text line rest ∙ (ap (λ l. text ++ (l ++ rest)) line_is
    ∙ (ap (λ bs. text ++ bs) (sym (at_drop_more (lamps_text (i + 2) period) lamps i d below)) ∙ so_far)))
