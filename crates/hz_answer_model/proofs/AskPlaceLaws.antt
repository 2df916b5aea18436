-- What is reported at the asks of events is reported place by place.
use Rattle.std.proofs.Common.{◌≡◌, ℕ, zero, suc, List, [], ◌∷◌, ◌++◌, length, drop, take, Some, slice_get, slice_index_or, refl, sym, ap, ◌∙◌, subst, arith, append_assoc, append-nil}
use Rattle.std.specs.Prelude.{◌↔◌}
use Rattle.std.specs.List.{concat}
use Rattle.std.proofs.lemmas.Option.{none-some, same_Some}
use Rattle.hz_pipeline_model.specs.Accepting.Events.{Event, issue, advance, ask}
use Rattle.hz_pipeline_model.specs.Traces.TraceNames.{TraceNames}
use Rattle.hz_front_model.specs.Asks.{Reserved, AsksSay}
use Rattle.hz_answer_model.specs.AskPlaces.{EventSays, IsReportedByPlaces}

-- the number at a place after the first
number_after : (lines : List ℕ) (p : ℕ) → slice_index_or (drop 1 lines) p 0 ≡ slice_index_or lines (suc p) 0
number_after [] p = refl
number_after (line ∷ lines) p = refl

module _ (reserved : Reserved) (names : TraceNames) where
  -- the same, after other events
  record IsReportedAfter (before : List Event) (lines : List ℕ) (events : List Event) (text : List ℕ) : Type 0 where
    parts : List (List ℕ)
    each : length parts ≡ length events
    says : (p : ℕ) (e : Event) → slice_get events p ≡ Some e → EventSays reserved names (before ++ take p events) (slice_index_or lines p 0) e (slice_index_or parts p [])
    whole : text ≡ concat parts

  -- one event more, before the others
  one_more : (before : List Event) (lines : List ℕ) (e : Event) (events : List Event) (first rest text : List ℕ) → EventSays reserved names before (slice_index_or lines 0 0) e first → text ≡ first ++ rest
      → IsReportedAfter (before ++ e ∷ []) (drop 1 lines) events rest → IsReportedAfter before lines (e ∷ events) text
  one_more before lines e events first rest text says is f = record { parts = first ∷ f.parts; each = ap suc f.each; says = at; whole = is ∙ ap (λ (r : List ℕ). first ++ r) f.whole }
    where
      at : (p : ℕ) (x : Event) → slice_get (e ∷ events) p ≡ Some x → EventSays reserved names (before ++ take p (e ∷ events)) (slice_index_or lines p 0) x (slice_index_or (first ∷ f.parts) p [])
      at zero x there =
          subst (λ (y : Event). EventSays reserved names (before ++ []) (slice_index_or lines 0 0) y first) (same_Some e x there)
          (subst (λ (b : List Event). EventSays reserved names b (slice_index_or lines 0 0) e first) (sym (append-nil before)) says)
      at (suc p) x there =
          subst (λ (line : ℕ). EventSays reserved names (before ++ e ∷ take p events) line x (slice_index_or f.parts p [])) (number_after lines p)
          (subst (λ (b : List Event). EventSays reserved names b (slice_index_or (drop 1 lines) p 0) x (slice_index_or f.parts p [])) (append_assoc before (e ∷ []) (take p events)) (f.says p x there))

  -- the first event, and the others
  record IsParted (before : List Event) (lines : List ℕ) (e : Event) (events : List Event) (text : List ℕ) : Type 0 where
    first : List ℕ
    rest : List ℕ
    says : EventSays reserved names before (slice_index_or lines 0 0) e first
    others : IsReportedAfter (before ++ e ∷ []) (drop 1 lines) events rest
    whole : text ≡ first ++ rest

  one_less : (before : List Event) (lines : List ℕ) (e : Event) (events : List Event) (text : List ℕ) → IsReportedAfter before lines (e ∷ events) text → IsParted before lines e events text
  one_less before lines e events text f = by_parts f.parts f.each f.says f.whole
    where
      by_parts : (parts : List (List ℕ)) → length parts ≡ length (e ∷ events)
          → ((p : ℕ) (x : Event) → slice_get (e ∷ events) p ≡ Some x → EventSays reserved names (before ++ take p (e ∷ events)) (slice_index_or lines p 0) x (slice_index_or parts p []))
          → text ≡ concat parts → IsParted before lines e events text
      by_parts [] each says whole = absurd (omega (arith, each))
      by_parts (first ∷ parts) each says whole = record {
        first = first;
        rest = concat parts;
        says = subst (λ (b : List Event). EventSays reserved names b (slice_index_or lines 0 0) e first) (append-nil before) (says zero e refl);
        others = record {
          parts = parts;
          each = omega (arith, each);
          says = λ p x there.
              subst (λ (line : ℕ). EventSays reserved names ((before ++ e ∷ []) ++ take p events) line x (slice_index_or parts p [])) (sym (number_after lines p))
              (subst (λ (b : List Event). EventSays reserved names b (slice_index_or lines (suc p) 0) x (slice_index_or parts p [])) (sym (append_assoc before (e ∷ []) (take p events))) (says (suc p) x there));
          whole = refl;
        };
        whole = whole;
      }

  placed : (before : List Event) (lines : List ℕ) (events : List Event) (text : List ℕ) → AsksSay reserved names before lines events text → IsReportedAfter before lines events text
  placed before lines [] text say = record { parts = []; each = refl; says = λ p e there. absurd (none-some e there); whole = say }
  placed before lines (issue k ∷ events) text say = one_more before lines (issue k) events [] text text refl refl (placed (before ++ issue k ∷ []) (drop 1 lines) events text say)
  placed before lines (advance n ∷ events) text say = one_more before lines (advance n) events [] text text refl refl (placed (before ++ advance n ∷ []) (drop 1 lines) events text say)
  placed before lines (ask a u ∷ events) text (first, rest, says, others, is) = one_more before lines (ask a u) events first rest text says is (placed (before ++ ask a u ∷ []) (drop 1 lines) events rest others)

  none_left : (parts : List (List ℕ)) (text : List ℕ) → length parts ≡ 0 → text ≡ concat parts → text ≡ []
  none_left [] text each is = is
  none_left (part ∷ parts) text each is = absurd (omega (arith, each))

  listed : (before : List Event) (lines : List ℕ) (events : List Event) (text : List ℕ) → IsReportedAfter before lines events text → AsksSay reserved names before lines events text
  listed before lines [] text f = none_left f.parts text f.each f.whole
  listed before lines (issue k ∷ events) text f =
      let one = one_less before lines (issue k) events text f in
      let same : text ≡ one.rest = one.whole ∙ ap (λ (first : List ℕ). first ++ one.rest) one.says in
      subst (λ (t : List ℕ). AsksSay reserved names (before ++ issue k ∷ []) (drop 1 lines) events t) (sym same) (listed (before ++ issue k ∷ []) (drop 1 lines) events one.rest one.others)
  listed before lines (advance n ∷ events) text f =
      let one = one_less before lines (advance n) events text f in
      let same : text ≡ one.rest = one.whole ∙ ap (λ (first : List ℕ). first ++ one.rest) one.says in
      subst (λ (t : List ℕ). AsksSay reserved names (before ++ advance n ∷ []) (drop 1 lines) events t) (sym same) (listed (before ++ advance n ∷ []) (drop 1 lines) events one.rest one.others)
  listed before lines (ask a u ∷ events) text f =
      let one = one_less before lines (ask a u) events text f in
      (one.first, one.rest, one.says, listed (before ++ ask a u ∷ []) (drop 1 lines) events one.rest one.others, one.whole)

  pub reported_by_places : (lines : List ℕ) (events : List Event) (text : List ℕ) → AsksSay reserved names [] lines events text ↔ IsReportedByPlaces reserved names lines events text
  reported_by_places lines events text = (
    λ say. let f = placed [] lines events text say in record { parts = f.parts; each = f.each; says = f.says; whole = f.whole },
    λ h. listed [] lines events text (record { parts = h.parts; each = h.each; says = h.says; whole = h.whole }),
  )
