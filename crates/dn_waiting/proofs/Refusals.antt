use Rattle.std.proofs.Common.{◌≡◌, ◌+◌, ◌<◌, ◌≤◌, ◌⊎◌, inl, inr, List, [], ◌∷◌, cond, Some, None, length, refl, ap, ◌∙◌, arith}
use Rattle.std.proofs.lemmas.Bool.{cases_lt, lt-ltb, le-ltb}
use Rattle.dn_waiting.specs.declared.calls.OpenCall.{OpenCall}
use Rattle.dn_waiting.specs.declared.calls.Place.{Place}
use Rattle.dn_waiting.specs.declared.calls.Place.TheVariants.{Loading}
use Rattle.dn_waiting.specs.Attempts.{placed, refused_once, refused_through, refusals_of}

-- How many attempts of a call are refused before it is given up.

-- the call after one more, where it stands then
abbrev once_more : OpenCall → Place → OpenCall
once_more c place = record c { refused = c.refused + 1; place = place }

-- there is one more
one_more : (c : OpenCall) (place : Place) → c.refused < 7 → placed (refused_once (Some c) None) place ≡ Some (once_more c place)
one_more c place h =
    ap (λ b. placed (cond b (Some (record c { refused = c.refused + 1; place = Loading None })) None) place) (lt-ltb c.refused 7 h)

-- a call that is gone stays so
none_through : (places : List Place) → refused_through places None ≡ None
none_through [] = refl
none_through (place ∷ places) = none_through places

pub seven : (places : List Place) (c : OpenCall) → c.refused + length places ≤ 7 → refusals_of (refused_through places (Some c)) ≡ Some (c.refused + length places)
seven [] c h = ap (λ n. Some n) (omega arith)
seven (place ∷ places) c h =
    ap (λ o. refusals_of (refused_through places o)) (one_more c place (omega (arith, h)))
    ∙ (seven places (once_more c place) (omega (arith, h)) ∙ ap (λ n. Some n) (omega arith))

eighth_step : (places : List Place) (place : Place) (c : OpenCall) → (c.refused < 7 → refused_through places (Some (once_more c place)) ≡ None) → (c.refused < 7) ⊎ (7 ≤ c.refused)
    → refused_through places (placed (refused_once (Some c) None) place) ≡ None
eighth_step places place c rest (inl h) = ap (refused_through places) (one_more c place h) ∙ rest h
eighth_step places place c rest (inr h) =
    ap (λ b. refused_through places (placed (cond b (Some (record c { refused = c.refused + 1; place = Loading None })) None) place)) (le-ltb c.refused 7 h)
    ∙ none_through places

pub eighth : (places : List Place) (c : OpenCall) → c.refused ≤ 7 → 8 ≤ c.refused + length places → refused_through places (Some c) ≡ None
eighth [] c m h = absurd (omega (arith, h, m))
eighth (place ∷ places) c m h =
    eighth_step places place c (λ x. eighth places (once_more c place) (omega (arith, x)) (omega (arith, h))) (cases_lt c.refused 7)
