-- Two blocks of two contexts in one pipeline: each context has registers and memory of its own. This profile, docs/RULES.md, 'Two
-- contexts'.
use Rattle.std.specs.Prelude.{ℕ, ◌+◌, ◌-◌, ◌==◌, nat_lt, if◌then◌else◌, List, [], ◌∷◌, ◌++◌, map, filter, length, slice_get}
use Rattle.hz_block_model.specs.Running.Blocks.{Instruction}
use Rattle.hz_block_model.specs.Running.States.{State, after_place}
use Rattle.hz_block_model.specs.Dependences.Graphs.{Edge}
use Rattle.hz_block_model.specs.Scheduling.Schedules.{Graph, Slot}

-- an edge between places that are so many higher
abbrev pub raised : ℕ → Edge → Edge
raised n e = record { from = n + e.from; to = n + e.to; cost = e.cost }

-- the instructions of the first graph, then those of the second, and the edges of each
abbrev pub joined : Graph → Graph → Graph
joined g h = record { nodes = g.nodes ++ h.nodes; edges = g.edges ++ map (raised (length g.nodes)) h.edges }

-- An issue of one of two contexts, 1 and 2: the place of the instruction in the block of its context, and the cycle.
pub record ContextSlot : Type 0 where
  pub context : ℕ
  pub place : ℕ
  pub cycle : ℕ

-- whose issue a slot of the joined graph is, where the first block has so many instructions
abbrev pub in_context : ℕ → Slot → ContextSlot
in_context n x = if nat_lt x.place n then record { context = 1; place = x.place; cycle = x.cycle } else record { context = 2; place = x.place - n; cycle = x.cycle }

-- the same of all slots
abbrev pub in_contexts : ℕ → List Slot → List ContextSlot
in_contexts n slots = map (in_context n) slots

-- the slots of a context alone
abbrev pub own : ℕ → List ContextSlot → List Slot
own c slots = map (λ x. record { place = x.place; cycle = x.cycle }) (filter (λ x. x.context == c) slots)

-- the order of slots: contexts and places
abbrev pub order_of : List ContextSlot → List (ℕ × ℕ)
order_of slots = map (λ x. (x.context, x.place)) slots

-- the states of both contexts after the instructions at the places of an order, each on the state of its context
abbrev pub run_two : List Instruction → List Instruction → List (ℕ × ℕ) → State → State → State × State
run_two first second [] s t = (s, t)
run_two first second ((c, place) ∷ order) s t =
    if c == 1 then run_two first second order (after_place (slice_get first place) s) t else run_two first second order s (after_place (slice_get second place) t)
