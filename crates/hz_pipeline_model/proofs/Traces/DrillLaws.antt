-- Laws of drawn traces, over whatever accepts.
use Rattle.std.proofs.Common.{◌≡◌, ◌⊎◌, ⊎_elim, inl, inr, ℕ, zero, suc, ◌+◌, ◌%◌, ◌/◌, ◌<◌, Bool, true, false, cond, List, [], ◌∷◌, ◌++◌, length, All, Option, Some, None, refl, sym, ap, ◌∙◌, subst, add-one, append_assoc, arith}
use Rattle.std.specs.Prelude.{◌==◌, ◌≢◌}
use Rattle.std.proofs.lemmas.Bool.{eqb-false}
use Rattle.std.proofs.lemmas.List.{append-nil}
use Rattle.std.proofs.lemmas.List.Elements.{All-nil, All-cons, All-push}
use Rattle.hz_pipeline_model.specs.Accepting.Events.{Event, issue, advance, issues_of, cycles_of, IsOfClass}
use Rattle.hz_pipeline_model.specs.Accepting.Asking.{IsOfQuery}
use Rattle.hz_pipeline_model.specs.Traces.Drills.{next_number, number_after, upper_from, draw, IsTurn, IsOfTurn, Draws, Drawn}

-- ---- one turn

-- the class that is drawn is one of so many
pub draw_within : (classes number class : ℕ) → draw classes number ≡ Some class → class < classes
draw_within classes number class h = by_test (classes == 0) refl h
  where
    by_test : (b : Bool) → (classes == 0) ≡ b → cond b None (Some (number / upper_from % classes)) ≡ Some class → class < classes
    by_test true e k = absurd (cc)
    by_test false e k =
        let same : number / upper_from % classes ≡ class = cc in
        let some : classes ≢ 0 = eqb-false classes 0 e in
        omega (arith, same, some)

-- an event of a turn is an issue of one of the classes, or the advance of one cycle
pub data IsOne (classes : ℕ) : Event → Type 0 where
  issued : {class : ℕ} → class < classes → IsOne classes (issue class)
  advanced : IsOne classes (advance 1)

pub turn_one : (accepts : List Event → Type 0) (classes number : ℕ) (before : List Event) (e : Event) → IsTurn accepts before (draw classes number) e → IsOne classes e
turn_one accepts classes number before e = by_draw (draw classes number) refl
  where
    by_draw : (o : Option ℕ) → draw classes number ≡ o → IsTurn accepts before o e → IsOne classes e
    by_draw None is h = subst (IsOne classes) (sym h) advanced
    by_draw (Some class) is (inl (fits, h)) = subst (IsOne classes) (sym h) (issued (draw_within classes number class is))
    by_draw (Some class) is (inr (stuck, h)) = subst (IsOne classes) (sym h) advanced

one_turn : (accepts : List Event → Type 0) (before : List Event) (o : Option ℕ) (e f : Event) → IsTurn accepts before o e → IsTurn accepts before o f → e ≡ f
one_turn accepts before None e f h k = h ∙ sym k
one_turn accepts before (Some class) e f (inl (fits, h)) (inl (also, k)) = h ∙ sym k
one_turn accepts before (Some class) e f (inl (fits, h)) (inr (stuck, k)) = absurd (stuck fits)
one_turn accepts before (Some class) e f (inr (stuck, h)) (inl (fits, k)) = absurd (stuck fits)
one_turn accepts before (Some class) e f (inr (stuck, h)) (inr (also, k)) = h ∙ sym k

some_turn : (accepts : List Event → Type 0) → ((t : List Event) → accepts t ⊎ (accepts t → ⊥)) → (before : List Event) (o : Option ℕ) → (e : Event) × IsTurn accepts before o e
some_turn accepts decide before None = (advance 1, refl)
some_turn accepts decide before (Some class) = ⊎_elim
    (λ (fits : accepts (before ++ issue class ∷ [])). (issue class, inl (fits, refl)))
    (λ (stuck : accepts (before ++ issue class ∷ []) → ⊥). (advance 1, inr (stuck, refl)))
    (decide (before ++ issue class ∷ []))

-- ---- all turns

one_from : (accepts : List Event → Type 0) (classes : ℕ) (before : List Event) (number turns : ℕ) (s t : List Event) → Draws accepts classes before number turns s → Draws accepts classes before number turns t → s ≡ t
one_from accepts classes before number zero s t h k = h ∙ sym k
one_from accepts classes before number (suc turns) [] t h k = absurd h
one_from accepts classes before number (suc turns) (e ∷ s) [] h k = absurd k
one_from accepts classes before number (suc turns) (e ∷ s) (f ∷ t) (first, h) (other, k) =
    let same = one_turn accepts before (draw classes (next_number number)) e f first other in
    ap (λ (x : Event). x ∷ s) same ∙ ap (λ (rest : List Event). f ∷ rest)
    (one_from accepts classes (before ++ f ∷ []) (next_number number) turns s t (subst (λ (x : Event). Draws accepts classes (before ++ x ∷ []) (next_number number) turns s) same h) k)

pub one_drawn : (accepts : List Event → Type 0) (classes number turns : ℕ) (s t : List Event) → Drawn accepts classes number turns s → Drawn accepts classes number turns t → s ≡ t
one_drawn accepts classes number turns s t = one_from accepts classes [] number turns s t

pub some_from : (accepts : List Event → Type 0) → ((t : List Event) → accepts t ⊎ (accepts t → ⊥)) → (classes : ℕ) (before : List Event) (number turns : ℕ) → (t : List Event) × Draws accepts classes before number turns t
some_from accepts decide classes before number zero = ([], refl)
some_from accepts decide classes before number (suc turns) =
    let first = some_turn accepts decide before (draw classes (next_number number)) in
    let rest = some_from accepts decide classes (before ++ first.0 ∷ []) (next_number number) turns in
    (first.0 ∷ rest.0, (first.1, rest.1))

-- what holds of each event that a turn can have holds of all that are drawn
draws_all : (P : Event → Type 0) (accepts : List Event → Type 0) (classes : ℕ) → ((e : Event) → IsOne classes e → P e) → (before : List Event) (number turns : ℕ) (t : List Event) → Draws accepts classes before number turns t → All P t
draws_all P accepts classes each before number zero t h = subst (All P) (sym h) (All-nil P)
draws_all P accepts classes each before number (suc turns) [] h = absurd h
draws_all P accepts classes each before number (suc turns) (e ∷ t) (first, h) =
    All-cons P e t (each e (turn_one accepts classes (next_number number) before e first)) (draws_all P accepts classes each (before ++ e ∷ []) (next_number number) turns t h)

-- the events are of the classes
of_class : (classes : ℕ) (e : Event) → IsOne classes e → IsOfClass classes e
of_class classes _ (issued low) = low
of_class classes _ advanced = tt

pub draws_of_class : (accepts : List Event → Type 0) (classes : ℕ) (before : List Event) (number turns : ℕ) (t : List Event) → Draws accepts classes before number turns t → All (IsOfClass classes) t
draws_of_class accepts classes = draws_all (IsOfClass classes) accepts classes (of_class classes)

of_turn : (classes : ℕ) (e : Event) → IsOne classes e → IsOfTurn classes e
of_turn classes _ (issued low) = low
of_turn classes _ advanced = refl

pub draws_of_turn : (accepts : List Event → Type 0) (classes : ℕ) (before : List Event) (number turns : ℕ) (t : List Event) → Draws accepts classes before number turns t → All (IsOfTurn classes) t
draws_of_turn accepts classes = draws_all (IsOfTurn classes) accepts classes (of_turn classes)

-- none asks
of_query : (queries : List (List (List ℕ))) (classes : ℕ) (e : Event) → IsOne classes e → IsOfQuery queries e
of_query queries classes _ (issued low) = tt
of_query queries classes _ advanced = tt

pub draws_of_query : (accepts : List Event → Type 0) (queries : List (List (List ℕ))) (classes : ℕ) (before : List Event) (number turns : ℕ) (t : List Event) → Draws accepts classes before number turns t → All (IsOfQuery queries) t
draws_of_query accepts queries classes = draws_all (IsOfQuery queries) accepts classes (of_query queries classes)

pub draws_each : (accepts : List Event → Type 0) (classes : ℕ) (before : List Event) (number turns : ℕ) (t : List Event) → Draws accepts classes before number turns t → length t ≡ turns
draws_each accepts classes before number zero t h = ap length h
draws_each accepts classes before number (suc turns) [] h = absurd h
draws_each accepts classes before number (suc turns) (e ∷ t) (first, h) = ap suc (draws_each accepts classes (before ++ e ∷ []) (next_number number) turns t h)

counts_more : (classes : ℕ) (e : Event) (t : List Event) (turns : ℕ) → IsOne classes e → issues_of t + cycles_of t ≡ turns → issues_of (e ∷ t) + cycles_of (e ∷ t) ≡ suc turns
counts_more classes _ t turns (issued low) h = omega (arith, h)
counts_more classes _ t turns advanced h = omega (arith, h)

pub draws_counts : (accepts : List Event → Type 0) (classes : ℕ) (before : List Event) (number turns : ℕ) (t : List Event) → Draws accepts classes before number turns t → issues_of t + cycles_of t ≡ turns
draws_counts accepts classes before number zero t h = ap (λ (es : List Event). issues_of es + cycles_of es) h
draws_counts accepts classes before number (suc turns) [] h = absurd h
draws_counts accepts classes before number (suc turns) (e ∷ t) (first, h) =
    counts_more classes e t turns (turn_one accepts classes (next_number number) before e first) (draws_counts accepts classes (before ++ e ∷ []) (next_number number) turns t h)

-- ---- what accepts the same

module _ (classes : ℕ) (one other : List Event → Type 0) (there : (t : List Event) → All (IsOfClass classes) t → one t → other t) (back : (t : List Event) → All (IsOfClass classes) t → other t → one t) where
  turn_there : (before : List Event) → All (IsOfClass classes) before → (o : Option ℕ) → ((class : ℕ) → o ≡ Some class → class < classes) → (e : Event) → IsTurn one before o e → IsTurn other before o e
  turn_there before all None low e h = h
  turn_there before all (Some class) low e (inl (fits, h)) = inl (there (before ++ issue class ∷ []) (All-push (IsOfClass classes) before (issue class) all (low class refl)) fits, h)
  turn_there before all (Some class) low e (inr (stuck, h)) = inr (λ fits. stuck (back (before ++ issue class ∷ []) (All-push (IsOfClass classes) before (issue class) all (low class refl)) fits), h)

  draws_there : (before : List Event) → All (IsOfClass classes) before → (number turns : ℕ) (t : List Event) → Draws one classes before number turns t → Draws other classes before number turns t
  draws_there before all number zero t h = h
  draws_there before all number (suc turns) [] h = h
  draws_there before all number (suc turns) (e ∷ t) (first, h) = (
    turn_there before all (draw classes (next_number number)) (λ class is. draw_within classes (next_number number) class is) e first,
    draws_there (before ++ e ∷ []) (All-push (IsOfClass classes) before e all (of_class classes e (turn_one one classes (next_number number) before e first))) (next_number number) turns t h,
  )

  pub drawn_there : (number turns : ℕ) (t : List Event) → Drawn one classes number turns t → Drawn other classes number turns t
  drawn_there number turns t = draws_there [] (All-nil (IsOfClass classes)) number turns t

-- ---- what is drawn is accepted

module _ (accepts : List Event → Type 0) (advances : (t : List Event) → accepts t → accepts (t ++ advance 1 ∷ [])) (classes : ℕ) where
  turn_accepted : (before : List Event) → accepts before → (o : Option ℕ) (e : Event) → IsTurn accepts before o e → accepts (before ++ e ∷ [])
  turn_accepted before h None e is = subst (λ (x : Event). accepts (before ++ x ∷ [])) (sym is) (advances before h)
  turn_accepted before h (Some class) e (inl (fits, is)) = subst (λ (x : Event). accepts (before ++ x ∷ [])) (sym is) fits
  turn_accepted before h (Some class) e (inr (stuck, is)) = subst (λ (x : Event). accepts (before ++ x ∷ [])) (sym is) (advances before h)

  pub draws_accepted : (before : List Event) → accepts before → (number turns : ℕ) (t : List Event) → Draws accepts classes before number turns t → accepts (before ++ t)
  draws_accepted before h number zero t is = subst (λ (es : List Event). accepts (before ++ es)) (sym is) (subst accepts (sym (append-nil before)) h)
  draws_accepted before h number (suc turns) [] is = absurd is
  draws_accepted before h number (suc turns) (e ∷ t) (first, is) =
      subst accepts (append_assoc before (e ∷ []) t)
      (draws_accepted (before ++ e ∷ []) (turn_accepted before h (draw classes (next_number number)) e first) (next_number number) turns t is)

-- ---- one turn more, as a loop goes

number_next : (number turns : ℕ) → number_after number (suc turns) ≡ next_number (number_after number turns)
number_next number zero = refl
number_next number (suc turns) = number_next (next_number number) turns

pub number_more : (number turns : ℕ) → number_after number (turns + 1) ≡ next_number (number_after number turns)
number_more number turns = ap (number_after number) (add-one turns) ∙ number_next number turns

draws_next : (accepts : List Event → Type 0) (classes : ℕ) (before : List Event) (number turns : ℕ) (t : List Event) (e : Event) → Draws accepts classes before number turns t
    → IsTurn accepts (before ++ t) (draw classes (next_number (number_after number turns))) e → Draws accepts classes before number (suc turns) (t ++ e ∷ [])
draws_next accepts classes before number zero t e h turn = go t h turn
  where
    go : (es : List Event) → es ≡ [] → IsTurn accepts (before ++ es) (draw classes (next_number number)) e → Draws accepts classes before number (suc zero) (es ++ e ∷ [])
    go [] is k = (subst (λ (es : List Event). IsTurn accepts es (draw classes (next_number number)) e) (append-nil before) k, refl)
    go (f ∷ es) is k = absurd (cc)
draws_next accepts classes before number (suc turns) [] e h turn = absurd h
draws_next accepts classes before number (suc turns) (f ∷ t) e (first, h) turn = (
  first,
  draws_next accepts classes (before ++ f ∷ []) (next_number number) turns t e h
      (subst (λ (es : List Event). IsTurn accepts es (draw classes (next_number (number_after (next_number number) turns))) e) (sym (append_assoc before (f ∷ []) t)) turn),
)

pub draws_more : (accepts : List Event → Type 0) (classes : ℕ) (before : List Event) (number turns : ℕ) (t : List Event) (e : Event) → Draws accepts classes before number turns t
    → IsTurn accepts (before ++ t) (draw classes (next_number (number_after number turns))) e → Draws accepts classes before number (turns + 1) (t ++ e ∷ [])
draws_more accepts classes before number turns t e h turn =
    subst (λ (n : ℕ). Draws accepts classes before number n (t ++ e ∷ [])) (sym (add-one turns)) (draws_next accepts classes before number turns t e h turn)
