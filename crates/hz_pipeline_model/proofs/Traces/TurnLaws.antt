-- The turns of a drill one by one.
use Rattle.std.proofs.Common.{◌≡◌, ◌⊎◌, ⊎_elim, inl, inr, ℕ, zero, suc, ◌+◌, ◌%◌, ◌/◌, ◌<◌, Bool, true, false, cond, List, [], ◌∷◌, ◌++◌, length, Option, Some, None, refl, sym, ap, ◌∙◌, subst, add-one, append_assoc, arith}
use Rattle.std.specs.Prelude.{◌==◌, ◌≢◌, ◌^◌, ◌↔◌}
use Rattle.std.proofs.lemmas.Bool.{eqb-true, eqb-false}
use Rattle.std.proofs.lemmas.List.{append-nil}
use Rattle.hz_pipeline_model.specs.Accepting.Events.{Event, issue, advance, ask}
use Rattle.hz_pipeline_model.specs.Traces.Drills.{next_number, number_after, upper_from, draw, IsTurn, IsDrawnAt, IsAsDrawn, Draws, Drawn}
use Rattle.hz_pipeline_model.proofs.Accepting.ReplayLaws.{ask_no_issue, ask_no_advance}
use Rattle.hz_pipeline_model.proofs.Traces.DrillLaws.{draws_each}

-- what is drawn of a number
drawn_is : (classes number class : ℕ) → draw classes number ≡ Some class → (0 < classes) × (class ≡ number / 2 ^ 16 % classes)
drawn_is classes number class h = by_test (classes == 0) refl h
  where
    by_test : (b : Bool) → (classes == 0) ≡ b → cond b None (Some (number / upper_from % classes)) ≡ Some class → (0 < classes) × (class ≡ number / 2 ^ 16 % classes)
    by_test true e k = absurd (cc)
    by_test false e k =
        let some : classes ≢ 0 = eqb-false classes 0 e in
        (omega (arith, some), let same : number / upper_from % classes ≡ class = cc in sym same)

drawn_comes : (classes number class : ℕ) → 0 < classes → class ≡ number / 2 ^ 16 % classes → draw classes number ≡ Some class
drawn_comes classes number class some is = by_test (classes == 0) refl
  where
    by_test : (b : Bool) → (classes == 0) ≡ b → cond b None (Some (number / upper_from % classes)) ≡ Some class
    by_test true e = let none : classes ≡ 0 = eqb-true classes 0 e in absurd (omega (arith, none, some))
    by_test false e = ap Some (sym is)

not_both : (class : ℕ) (e : Event) → e ≡ issue class → e ≡ advance 1 → ⊥
not_both class e h k = let same : issue class ≡ advance 1 = sym h ∙ k in absurd (cc)

-- the event of a turn
issue_taken : (accepts : List Event → Type 0) (before : List Event) (o : Option ℕ) (e : Event) (class : ℕ) → IsTurn accepts before o e → e ≡ issue class → (o ≡ Some class) × accepts (before ++ issue class ∷ [])
issue_taken accepts before None e class h is = absurd (not_both class e is h)
issue_taken accepts before (Some k) e class (inl (fits, h)) is =
    let same : k ≡ class = let equal : issue k ≡ issue class = sym h ∙ is in cc in
    (ap Some same, subst (λ (x : Event). accepts (before ++ x ∷ [])) (sym h ∙ is) fits)
issue_taken accepts before (Some k) e class (inr (stuck, h)) is = absurd (not_both class e is h)

issue_comes : (accepts : List Event → Type 0) (before : List Event) (o : Option ℕ) (e : Event) (class : ℕ) → IsTurn accepts before o e → o ≡ Some class → accepts (before ++ issue class ∷ []) → e ≡ issue class
issue_comes accepts before None e class h is fits = absurd (cc)
issue_comes accepts before (Some k) e class (inl (also, h)) is fits = h ∙ (let same : k ≡ class = cc in ap issue same)
issue_comes accepts before (Some k) e class (inr (stuck, h)) is fits =
    let same : class ≡ k = cc in
    absurd (stuck (subst (λ (c : ℕ). accepts (before ++ issue c ∷ [])) same fits))

some_event : (accepts : List Event → Type 0) (before : List Event) (o : Option ℕ) (e : Event) → IsTurn accepts before o e → (e ≡ advance 1) ⊎ ((class : ℕ) × (o ≡ Some class) × accepts (before ++ issue class ∷ []))
some_event accepts before None e h = inl h
some_event accepts before (Some k) e (inl (fits, h)) = inr (k, refl, fits)
some_event accepts before (Some k) e (inr (stuck, h)) = inl h

-- the turn of an event after others
turn_at : (accepts : List Event → Type 0) (classes : ℕ) (done : List Event) (number turns : ℕ) (front : List Event) (e : Event) (after : List Event) → Draws accepts classes done number turns (front ++ e ∷ after)
    → IsTurn accepts (done ++ front) (draw classes (number_after number (suc (length front)))) e
turn_at accepts classes done number zero [] e after h = absurd (cc)
turn_at accepts classes done number zero (f ∷ front) e after h = absurd (cc)
turn_at accepts classes done number (suc turns) [] e after (first, h) =
    subst (λ (es : List Event). IsTurn accepts es (draw classes (next_number number)) e) (sym (append-nil done)) first
turn_at accepts classes done number (suc turns) (f ∷ front) e after (first, h) =
    subst (λ (es : List Event). IsTurn accepts es (draw classes (number_after (next_number number) (suc (length front)))) e) (append_assoc done (f ∷ []) front)
    (turn_at accepts classes (done ++ f ∷ []) (next_number number) turns front e after h)

module _ (accepts : List Event → Type 0) (classes number turns : ℕ) (before after : List Event) (e : Event) (h : Drawn accepts classes number turns (before ++ e ∷ after)) where
  abbrev at : ℕ
  at = number_after number (length before + 1)

  turn_is : IsTurn accepts before (draw classes at) e
  turn_is = subst (λ (n : ℕ). IsTurn accepts before (draw classes (number_after number n)) e) (sym (add-one (length before))) (turn_at accepts classes [] number turns before e after h)

  issue_is : (class : ℕ) → (e ≡ issue class) ↔ (IsDrawnAt classes number (length before) class × accepts (before ++ issue class ∷ []))
  issue_is class = (
    λ is. let taken = issue_taken accepts before (draw classes at) e class turn_is is in (drawn_is classes at class taken.0, taken.1),
    λ drawn. issue_comes accepts before (draw classes at) e class turn_is (drawn_comes classes at class (drawn.0).0 (drawn.0).1) drawn.1,
  )

  advance_is : (e ≡ advance 1) ↔ ((class : ℕ) → IsDrawnAt classes number (length before) class → accepts (before ++ issue class ∷ []) → ⊥)
  advance_is = (
    λ is class drawn fits. not_both class e ((issue_is class).1 (drawn, fits)) is,
    λ none. ⊎_elim (λ (is : e ≡ advance 1). is)
        (λ (some : (class : ℕ) × (draw classes at ≡ Some class) × accepts (before ++ issue class ∷ [])). absurd (none some.0 (drawn_is classes at some.0 some.1) some.2))
        (some_event accepts before (draw classes at) e turn_is),
  )

-- ---- and the other way round

as_turn : (accepts : List Event → Type 0) (classes number : ℕ) (before : List Event) (e : Event) → IsAsDrawn accepts classes number before e → IsTurn accepts before (draw classes (number_after number (length before + 1))) e
as_turn accepts classes number before (issue k) a =
    let taken = (a.issued k).0 refl in
    let drawn : draw classes (number_after number (length before + 1)) ≡ Some k = drawn_comes classes (number_after number (length before + 1)) k (taken.0).0 (taken.0).1 in
    subst (λ (o : Option ℕ). IsTurn accepts before o (issue k)) (sym drawn) (inl (taken.1, refl))
as_turn accepts classes number before (advance n) a = by_draw (draw classes (number_after number (length before + 1))) refl
  where
    none_fits : (class : ℕ) → IsDrawnAt classes number (length before) class → accepts (before ++ issue class ∷ []) → ⊥
    none_fits class drawn fits = absurd (let same : advance n ≡ issue class = (a.issued class).1 (drawn, fits) in cc)

    by_draw : (o : Option ℕ) → draw classes (number_after number (length before + 1)) ≡ o → IsTurn accepts before o (advance n)
    by_draw None e = (a.waited).1 none_fits
    by_draw (Some k) e = inr (none_fits k (drawn_is classes (number_after number (length before + 1)) k e), (a.waited).1 none_fits)
as_turn accepts classes number before (ask b u) a =
    let waits : ask b u ≡ advance 1 = (a.waited).1 (λ class drawn fits. let issues : ask b u ≡ issue class = (a.issued class).1 (drawn, fits) in ask_no_issue class b u issues) in
    absurd (ask_no_advance 1 b u waits)

draws_from : (accepts : List Event → Type 0) (classes : ℕ) (done : List Event) (number : ℕ) (t : List Event)
    → ((before after : List Event) (e : Event) → t ≡ before ++ e ∷ after → IsTurn accepts (done ++ before) (draw classes (number_after number (suc (length before)))) e) → Draws accepts classes done number (length t) t
draws_from accepts classes done number [] h = refl
draws_from accepts classes done number (e ∷ t) h = (
  subst (λ (es : List Event). IsTurn accepts es (draw classes (next_number number)) e) (append-nil done) (h [] t e refl),
  draws_from accepts classes (done ++ e ∷ []) (next_number number) t
      (λ before after f parts. subst (λ (es : List Event). IsTurn accepts es (draw classes (number_after (next_number number) (suc (length before)))) f) (sym (append_assoc done (e ∷ []) before))
      (h (e ∷ before) after f (ap (λ (es : List Event). e ∷ es) parts))),
)

pub drawn_by_turns : (accepts : List Event → Type 0) (classes number turns : ℕ) (t : List Event) → Drawn accepts classes number turns t
    ↔ ((length t ≡ turns) × ((before after : List Event) (e : Event) → t ≡ before ++ e ∷ after → IsAsDrawn accepts classes number before e))
drawn_by_turns accepts classes number turns t = (
  λ h. (
    draws_each accepts classes [] number turns t h,
    λ before after e parts.
        let k : Drawn accepts classes number turns (before ++ e ∷ after) = subst (Drawn accepts classes number turns) parts h in
        record { issued = issue_is accepts classes number turns before after e k; waited = advance_is accepts classes number turns before after e k },
  ),
  λ h. subst (λ (n : ℕ). Drawn accepts classes number n t) h.0
      (draws_from accepts classes [] number t (λ before after e parts.
      subst (λ (n : ℕ). IsTurn accepts before (draw classes (number_after number n)) e) (add-one (length before)) (as_turn accepts classes number before e (h.1 before after e parts)))),
)
