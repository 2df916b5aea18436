-- What is held, by grids and by the calendar.
use Rattle.std.proofs.Common.{◌≡◌, ℕ, Bool, List, [], get_or, Contains, IsTrue, sym, ap, ◌∙◌, subst}
use Rattle.std.specs.Prelude.{◌↔◌, ◌==◌}
use Rattle.std.specs.Cmp.{both_ways}
use Rattle.hz_base_model.specs.Pairs.{Pair}
use Rattle.hz_description_model.specs.Reservations.Automata.{UnitPlace}
use Rattle.hz_pipeline_model.specs.Accepting.Plays.{holds}
use Rattle.hz_pipeline_model.proofs.Accepting.PlayLaws.{has_decides}
use Rattle.hz_pipeline_model.proofs.Accepting.Rows.{numbers_tell, places_tell}
use Rattle.hz_why_model.specs.Reasons.{same_place}
use Rattle.hz_reasons.specs.Calendars.{at}
use Rattle.hz_reasons.specs.Plans.{in_automaton}
use Rattle.hz_reasons.specs.Taken.{is_held}

-- a pair of a unit's number
abbrev numbered : (unit cycle : ℕ) → Pair ℕ
numbered unit cycle = record { unit = unit; cycle = cycle }

-- what is read of the grid of an automaton
pub held_here : (grids : List (List (Pair ℕ))) (u : UnitPlace) (cycle : ℕ) (grid : List (Pair ℕ)) (n : ℕ) (b : Bool) → grid ≡ get_or grids n [] → n ≡ u.automaton → IsTrue b ↔ Contains grid (record { unit = u.unit; cycle = cycle }) → b ≡ is_held grids cycle u
held_here grids u cycle grid n b is number held =
    let there : grid ≡ at grids u.automaton = is ∙ ap (λ (a : ℕ). at grids a) number in
    let decides = has_decides ◌==◌ numbers_tell (at grids u.automaton) (numbered u.unit cycle) in
    both_ways _ _ (λ h. decides.1 (subst (λ (g : List (Pair ℕ)). Contains g (numbered u.unit cycle)) there (held.0 h))) (λ h. held.1 (subst (λ (g : List (Pair ℕ)). Contains g (numbered u.unit cycle)) (sym there) (decides.0 h)))

-- a unit is held in the pairs of its automaton exactly if it is in all pairs
pub held_alike : (grids : List (List (Pair ℕ))) (pairs : List (Pair UnitPlace)) (u : UnitPlace) (here there : ℕ) → Contains (at grids u.automaton) (record { unit = u.unit; cycle = here }) ↔ Contains pairs (in_automaton u.automaton u.unit there) → holds same_place pairs there u ≡ is_held grids here u
held_alike grids pairs u here there same =
    let all = has_decides same_place places_tell pairs (in_automaton u.automaton u.unit there) in
    let grid = has_decides ◌==◌ numbers_tell (at grids u.automaton) (numbered u.unit here) in
    both_ways _ _ (λ h. grid.1 (same.1 (all.0 h))) (λ h. all.1 (same.0 (grid.0 h)))
