-- The trace of a schedule asks nothing, and what is found for a name is there.
use Rattle.std.proofs.Common.{◌≡◌, ℕ, ◌<◌, ◌≤◌, List, [], ◌∷◌, length, map, All, Some, ap, subst, arith, ⊎_elim}
use Rattle.std.specs.Prelude.{slice_index_or}
use Rattle.std.proofs.lemmas.Bool.{cases_lt}
use Rattle.std.proofs.lemmas.List.{get_or-map, get_or_past, length-map}
use Rattle.std.proofs.lemmas.Option.{slice_get_within}
use Rattle.std.proofs.lemmas.List.Elements.{All-nil, All-cons}
use Rattle.hz_pipeline_model.specs.Accepting.Asking.{IsOfQuery, issues_and_advances}
use Rattle.hz_pipeline_model.specs.Accepting.Events.{Event, issue, advance, ask}
use Rattle.hz_pipeline_model.specs.Tables.MachineNames.{names_of_machine}
use Rattle.hz_pipeline_model.specs.Tables.Machines.{Machine, Part, no_part, part_at}
use Rattle.hz_pipeline_model.specs.Traces.TraceNames.{query_place}
use Rattle.hz_pipeline_model.proofs.Traces.NameLaws.{query_named}
use Rattle.hz_block_model.specs.Scheduling.Schedules.{Graph, Slot, spell}
use Rattle.hz_block_model.proofs.Scheduling.TraceLaws.{asks_spelled}

others_only : {Q : Type 0} (queries : List (List Q)) (t : List Event) → All (IsOfQuery queries) (issues_and_advances t)
others_only queries [] = All-nil (IsOfQuery queries)
others_only queries (issue k ∷ t) = All-cons (IsOfQuery queries) (issue k) (issues_and_advances t) tt (others_only queries t)
others_only queries (advance n ∷ t) = All-cons (IsOfQuery queries) (advance n) (issues_and_advances t) tt (others_only queries t)
others_only queries (ask a u ∷ t) = others_only queries t

pub spelled_queries : {Q : Type 0} (queries : List (List Q)) (g : Graph) (slots : List Slot) → All (IsOfQuery queries) (spell g slots)
spelled_queries queries g slots = subst (All (IsOfQuery queries)) (asks_spelled g slots) (others_only queries (spell g slots))

pub asked_within : (m : Machine) (name : List ℕ) (a q : ℕ) → query_place (names_of_machine m) name ≡ Some (a, q) → (a < length m.parts) × (q < length (part_at m a).asks)
asked_within m name a q found = ⊎_elim
    (λ (low : a < length m.parts). (low, subst (λ (units : List (List ℕ)). q < length units) (get_or-map (λ (p : Part). p.asks) m.parts a no_part [] low) there))
    (λ (high : length m.parts ≤ a). absurd (omega (arith, there, ap length (get_or_past asked a [] (omega (arith, length-map m.parts (λ (p : Part). p.asks)))))))
    (cases_lt a (length m.parts))
  where
    asked : List (List (List ℕ))
    asked = map (λ (p : Part). p.asks) m.parts

    there : q < length (slice_index_or asked a [])
    there = slice_get_within (slice_index_or asked a []) q name (query_named (names_of_machine m) name a q found)
