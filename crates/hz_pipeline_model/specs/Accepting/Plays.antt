-- Acceptance as a computation, where a test tells whether two units are the same: the states that events can leave.
-- This profile, docs/RULES.md.
use Rattle.std.specs.Prelude.{◌≡◌, ℕ, ◌+◌, ◌==◌, Bool, ◌&&◌, ◌||◌, not, nat_lt, List, [], ◌∷◌, ◌++◌, map, length, if◌then◌else◌}
use Rattle.std.specs.Bool.{Decides}
use Rattle.std.specs.List.{list_any, list_all, flat_map}
use Rattle.hz_base_model.specs.Pairs.{Pair, placed}
use Rattle.hz_description_model.specs.Reservations.Sets.{SetKind, exclusion, presence, final_presence, absence, final_absence, Statement}
use Rattle.hz_pipeline_model.specs.Accepting.Replay.{Treatment, first_fit, any_fit, Pipeline, State, start, alternatives_at}
use Rattle.hz_pipeline_model.specs.Accepting.Events.{Event, issue, advance, ask}

-- the test answers whether two units are the same
abbrev pub Tells : {U : Type 0} → (U → U → Bool) → Type 0
Tells {U} same = (u v : U) → Decides (same u v) (u ≡ v)

-- the pair is among the pairs
abbrev pub has : {U : Type 0} → (U → U → Bool) → List (Pair U) → Pair U → Bool
has same pairs p = list_any (λ q. same q.unit p.unit && q.cycle == p.cycle) pairs

-- the unit is held in the cycle
abbrev pub holds : {U : Type 0} → (U → U → Bool) → List (Pair U) → ℕ → U → Bool
holds same pairs cycle unit = has same pairs (record { unit = unit; cycle = cycle })

-- some pattern is wholly held
abbrev pub holds_pattern : {U : Type 0} → List (List U) → (U → Bool) → Bool
holds_pattern patterns held = list_any (λ pattern. list_all held pattern) patterns

-- what a statement of this kind asks of one cycle
abbrev pub asks : {U : Type 0} → SetKind → List U → List (List U) → (source added result : U → Bool) → Bool
asks exclusion units patterns source added result = not (list_any result units && holds_pattern patterns result)
asks presence units patterns source added result = not (list_any added units) || holds_pattern patterns source
asks final_presence units patterns source added result = not (list_any added units) || holds_pattern patterns result
asks absence units patterns source added result = not (list_any added units && holds_pattern patterns source)
asks final_absence units patterns source added result = not (list_any added units && holds_pattern patterns result)

-- the statement allows each cycle of the result
abbrev pub allows : {U : Type 0} → (U → U → Bool) → (source added result : List (Pair U)) → Statement U → Bool
allows same source added result s = list_all (λ p. asks s.kind s.units s.patterns (holds same source p.cycle) (holds same added p.cycle) (holds same result p.cycle)) result

-- no pair of those that are added is there yet, and each statement allows the result
abbrev pub fits_added : {U : Type 0} → (U → U → Bool) → List (Statement U) → (source added : List (Pair U)) → Bool
fits_added same statements source added = list_all (λ p. not (has same added p)) source && list_all (allows same source added (source ++ added)) statements

-- the alternatives that an issue may take: the first that fits, or under `ndfa` all that fit
abbrev pub taken : {A : Type 0} → Treatment → (A → Bool) → List A → List A
taken treatment fit [] = []
taken first_fit fit (a ∷ others) = if fit a then a ∷ [] else taken first_fit fit others
taken any_fit fit (a ∷ others) = if fit a then a ∷ taken any_fit fit others else taken any_fit fit others

-- the states after one event
abbrev pub next : {U : Type 0} → (U → U → Bool) → Pipeline U → State U → Event → List (State U)
next same m s (advance n) = record { reserved = s.reserved; now = n + s.now } ∷ []
next same m s (ask a u) = s ∷ []
next same m s (issue k) =
    map (λ a. record { reserved = s.reserved ++ placed s.now a.pairs; now = s.now })
    (taken m.treatment (λ a. fits_added same m.statements s.reserved (placed s.now a.pairs)) (alternatives_at m k))

-- the states that events can leave from a state on, one for each list of choices
abbrev pub plays : {U : Type 0} → (U → U → Bool) → Pipeline U → State U → List Event → List (State U)
plays same m s [] = s ∷ []
plays same m s (e ∷ t) = flat_map (λ q. plays same m q t) (next same m s e)

-- some state is left
abbrev pub accepts : {U : Type 0} → (U → U → Bool) → Pipeline U → List Event → Bool
accepts same m t = nat_lt 0 (length (plays same m start t))
