-- Tests one after another: none fails exactly where each passes, and the first that fails of two lists is that of the
-- first list, or where it has none that of the second.
use Rattle.std.proofs.Common.{◌≡◌, true, List, [], ◌∷◌, ◌++◌, Some, None, refl, inl, inr}
use Rattle.std.specs.List.{AllByRecursion}
use Rattle.std.specs.Option.{option_or}
use Rattle.std.proofs.lemmas.Bool.{cases_Bool}
use Rattle.letters.specs.Reading.{reading, Test, first_failed}

abbrev pub Passes : Test → Type 0
Passes d = d.passes ≡ true

abbrev pub Passed : List Test → Type 0
Passed ds = AllByRecursion Passes ds

pub passed_none : (ds : List Test) → Passed ds → first_failed ds ≡ None
passed_none [] h = refl
passed_none (d ∷ ds) h = rw h.0 (passed_none ds h.1)

pub none_passed : (ds : List Test) → first_failed ds ≡ None → Passed ds
none_passed [] e = tt
none_passed (d ∷ ds) e =
    elim (cases_Bool d.passes) [
      | inl y ↦ (y, none_passed ds (rw y at e))
      | inr n ↦ let bad : Some (reading d.number d.place) ≡ None = rw n at e in absurd (cc)
    ]

pub passed_split : (xs ys : List Test) → Passed (xs ++ ys) → Passed xs × Passed ys
passed_split [] ys h = (tt, h)
passed_split (x ∷ xs) ys h = let r = passed_split xs ys h.1 in ((h.0, r.0), r.1)

pub failed_join : (xs ys : List Test) → first_failed (xs ++ ys) ≡ option_or (first_failed xs) (first_failed ys)
failed_join [] ys = refl
failed_join (x ∷ xs) ys =
    elim (cases_Bool x.passes) [
      | inl y ↦ rw y (failed_join xs ys)
      | inr n ↦ rw n refl
    ]
