-- Turns of a trace that is drawn over a machine, one more at a time.
use Rattle.std.proofs.Common.{◌≡◌, ℕ, zero, suc, add-one, ◌+◌, List, [], ◌∷◌, ◌++◌, Option, Some, None, inl, inr, sym, ap, ◌∙◌, subst, arith}
use Rattle.std.specs.Prelude.{IsSome, option_and_then}
use Rattle.std.specs.List.{range_with_len}
use Rattle.std.proofs.lemmas.List.{map-append}
use Rattle.hz_pipeline_model.specs.Accepting.Events as model
use Rattle.hz_pipeline_model.specs.Traces.Drills.{IsTurn}
use Rattle.hz_pipeline_model.specs.Tables.Machines.{Machine, parts_walk}
use Rattle.hz_pipeline_model.proofs.Tables.MachineLaws.{parts_walk-append}
use Rattle.hz_replay.specs.Drilling.{WalksFrom}
use Rattle.hz_replay.specs.Lines.{event_of}
use Rattle.hz_replay.specs.Replaying.{Standing}
use Rattle.hz_replay.specs.Traces.{events_in, lines_in}
use Rattle.hz_replay.specs.declared.event.Event.{Event}

module _ (start now : Standing) (t : List model.Event) (same : now.machine ≡ start.machine) (walked : parts_walk start.machine.parts start.states t ≡ Some now.states) where
  -- after what is walked, events are walked as from where it ends
  beyond : (u : List model.Event) → parts_walk start.machine.parts start.states (t ++ u) ≡ parts_walk now.machine.parts now.states u
  beyond u =
      parts_walk-append start.machine.parts start.states t u
      ∙ (ap (option_and_then (λ next. parts_walk start.machine.parts next u)) walked ∙ ap (λ (m : Machine). parts_walk m.parts now.states u) (sym same))

  pub turn_after : (drawn : Option ℕ) (e : model.Event) → IsTurn (WalksFrom now) [] drawn e → IsTurn (WalksFrom start) t drawn e
  turn_after None e h = h
  turn_after (Some class) e (inl (fits, h)) = inl (subst IsSome (sym (beyond (model.issue class ∷ []))) fits, h)
  turn_after (Some class) e (inr (stuck, h)) = inr (λ fits. stuck (subst IsSome (beyond (model.issue class ∷ [])) fits), h)

  pub walked_after : (e : model.Event) (next : List ℕ) → parts_walk now.machine.parts now.states (e ∷ []) ≡ Some next → parts_walk start.machine.parts start.states (t ++ e ∷ []) ≡ Some next
  walked_after e next moved = beyond (e ∷ []) ∙ moved

-- one more event of the program's list
pub events_push : (es : List Event) (e : Event) → events_in (es ++ e ∷ []) ≡ events_in es ++ event_of e.what ∷ []
events_push es e = map-append (λ (x : Event). event_of x.what) es (e ∷ [])

pub lines_push : (es : List Event) (e : Event) → lines_in (es ++ e ∷ []) ≡ lines_in es ++ e.line ∷ []
lines_push es e = map-append (λ (x : Event). x.line) es (e ∷ [])

range_next : (a n : ℕ) → range_with_len a (suc n) ≡ range_with_len a n ++ (a + n) ∷ []
range_next a zero = ap (λ (k : ℕ). k ∷ []) (omega arith)
range_next a (suc n) =
    let last : a + 1 + n ≡ a + suc n = omega arith in
    ap (λ (ks : List ℕ). a ∷ ks) (range_next (a + 1) n ∙ ap (λ (k : ℕ). range_with_len (a + 1) n ++ k ∷ []) last)

-- one more place, counted from 1
pub places_push : (n place : ℕ) → place ≡ n + 1 → range_with_len 1 (n + 1) ≡ range_with_len 1 n ++ place ∷ []
places_push n place is = ap (range_with_len 1) (add-one n) ∙ (range_next 1 n ∙ ap (λ (k : ℕ). range_with_len 1 n ++ k ∷ []) (omega (arith, is)))
