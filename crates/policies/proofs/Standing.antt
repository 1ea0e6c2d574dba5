-- The share that stands beside a depot: the share at the first place where the depot stands, and 0 where it stands at none.
use Rattle.std.proofs.Common.{◌≡◌, ℕ, zero, suc, ◌<◌, ◌≢◌, List, [], ◌∷◌, length, get_or, Option, None, Some, refl, sym, ◌∙◌, arith}
use Rattle.std.proofs.lemmas.Bool.{eq-eqb, ne_eqb}
use Rattle.std.specs.Option.{MatchOption}
use Rattle.std.specs.List.{AllWithin, HoldsAt}
use Rattle.entries.specs.declared.lists.Entry.{Entry}
use Rattle.policies.specs.Shares.{beside}

-- what a search for a depot's place has found
abbrev pub IsPlaceOf : ℕ → List Entry → Option ℕ → Type 0
IsPlaceOf d es found =
    MatchOption found
    (AllWithin (λ e. e.depot ≢ d) es 0 (length es))
    (λ i. (i < length es) × HoldsAt (λ e. e.depot ≡ d) es i × AllWithin (λ e. e.depot ≢ d) es 0 i)

beside_none : (es : List Entry) (ns : List ℕ) (d : ℕ) → AllWithin (λ e. e.depot ≢ d) es 0 (length es) → beside es ns d ≡ 0
unfolding beside
beside_none [] ns d others = refl
beside_none (e ∷ es) [] d others = refl
beside_none (e ∷ es) (n ∷ ns) d others =
    let apart = ne_eqb e.depot d (others 0 e (omega arith) (omega arith)) in
    rw apart (beside_none es ns d (λ k x low high. others (suc k) x (omega arith) (omega arith)))

beside_first : (es : List Entry) (ns : List ℕ) (d i : ℕ) → i < length es → length ns ≡ length es
    → HoldsAt (λ e. e.depot ≡ d) es i → AllWithin (λ e. e.depot ≢ d) es 0 i → beside es ns d ≡ get_or ns i 0
unfolding beside
beside_first [] ns d i here same is others = absurd (omega arith)
beside_first (e ∷ es) [] d i here same is others = absurd (omega arith)
beside_first (e ∷ es) (n ∷ ns) d zero here same is others = let at = eq-eqb e.depot d (is e) in rw at refl
beside_first (e ∷ es) (n ∷ ns) d (suc i) here same is others =
    let apart = ne_eqb e.depot d (others 0 e (omega arith) (omega arith)) in
    rw apart
    (beside_first es ns d i (omega arith) (omega arith) is (λ k x low high. others (suc k) x (omega arith) (omega arith)))

pub share_found : (es : List Entry) (ns : List ℕ) (d share : ℕ) (found : Option ℕ) → length ns ≡ length es
    → IsPlaceOf d es found → MatchOption found (share ≡ 0) (λ i. share ≡ get_or ns i 0) → share ≡ beside es ns d
share_found es ns d share None same where-is is = is ∙ sym (beside_none es ns d where-is)
share_found es ns d share (Some i) same where-is is =
    is ∙ sym (beside_first es ns d i where-is.0 same where-is.1 where-is.2)
