-- The trace of one more slot.
use Rattle.std.proofs.Common.{◌≡◌, ℕ, zero, suc, ◌+◌, List, [], ◌∷◌, ◌++◌, length, sym, ap, ◌∙◌, arith}
use Rattle.std.specs.List.{range_with_len}
use Rattle.std.proofs.lemmas.List.{map-append, length-append}
use Rattle.hz_replay.specs.declared.event.Event as trace
use Rattle.hz_sched.specs.Shape.{AreNumbered}

one_more_number : (a n : ℕ) → range_with_len a (suc n) ≡ range_with_len a n ++ (a + n) ∷ []
one_more_number a zero = let same : a ≡ a + 0 = omega arith in ap (λ (k : ℕ). k ∷ []) same
one_more_number a (suc n) =
    let same : (a + 1) + n ≡ a + suc n = omega arith in
    ap (λ (ks : List ℕ). a ∷ ks) (one_more_number (a + 1) n ∙ ap (λ (k : ℕ). range_with_len (a + 1) n ++ k ∷ []) same)

pub numbered_more : (events : List trace.Event) (e : trace.Event) → AreNumbered events → e.line ≡ length events + 1 → AreNumbered (events ++ e ∷ [])
numbered_more events e numbered line =
    let long : length (events ++ e ∷ []) ≡ suc (length events) = omega (arith, length-append events (e ∷ [])) in
    let at : e.line ≡ 1 + length events = omega (arith, line) in
    map-append (λ (x : trace.Event). x.line) events (e ∷ [])
    ∙ (ap (λ (ks : List ℕ). ks ++ e.line ∷ []) numbered
    ∙ (ap (λ (k : ℕ). range_with_len 1 (length events) ++ k ∷ []) at
    ∙ (sym (one_more_number 1 (length events)) ∙ ap (range_with_len 1) (sym long))))
