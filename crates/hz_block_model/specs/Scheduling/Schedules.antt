-- Schedules of a block: their traces, which are legal, and which are greedy. GCC Internals, 'Specifying processor pipeline
-- description'; list scheduling as in this profile, docs/RULES.md, 'List schedules'.
use Rattle.std.specs.Prelude.{◌≡◌, ◌⊎◌, ℕ, ◌+◌, ◌-◌, ◌<◌, ◌≤◌, nat_lt, if◌then◌else◌, List, [], ◌∷◌, ◌++◌, map, length, slice_index}
use Rattle.std.specs.List.{Contains, AllPairs}
use Rattle.hz_pipeline_model.specs.Accepting.Events.{Event, issue, advance}
use Rattle.hz_block_model.specs.Dependences.Graphs.{Edge}
use Rattle.hz_block_model.specs.Dependences.Orders.{IsOrder}

-- An instruction of a block: its class and its height.
pub record Node : Type 0 where
  pub class : ℕ
  pub height : ℕ

-- The instructions of a block, by their places, and the edges of its dependences.
pub record Graph : Type 0 where
  pub nodes : List Node
  pub edges : List Edge

-- An issue: the place of the instruction, and the cycle.
pub record Slot : Type 0 where
  pub place : ℕ
  pub cycle : ℕ

abbrev pub class_at : Graph → ℕ → ℕ
class_at g place = slice_index (map (λ n. n.class) g.nodes) place

abbrev pub height_at : Graph → ℕ → ℕ
height_at g place = slice_index (map (λ n. n.height) g.nodes) place

-- the places of slots, in their order
abbrev pub places : List Slot → List ℕ
places slots = map (λ x. x.place) slots

-- the cycle of the last slot, or the one before all slots
abbrev pub present : ℕ → List Slot → ℕ
present cycle [] = cycle
present cycle (x ∷ slots) = present x.cycle slots

-- the advance from one cycle to another, where that is later
abbrev pub advance_to : ℕ → ℕ → List Event
advance_to cycle later = if nat_lt cycle later then advance (later - cycle) ∷ [] else []

-- the trace of slots after a cycle: for each the advance to its cycle, where that is later, and the issue of its class
abbrev pub spelled : Graph → ℕ → List Slot → List Event
spelled g cycle [] = []
spelled g cycle (x ∷ slots) = advance_to cycle x.cycle ++ issue (class_at g x.place) ∷ spelled g x.cycle slots

-- the trace of a schedule
abbrev pub spell : Graph → List Slot → List Event
spell g slots = spelled g 0 slots

-- An instruction is ready at a cycle: each on which it depends is issued, at least the cost of the edge before.
abbrev pub IsReady : Graph → List Slot → ℕ → ℕ → Type 0
IsReady g slots cycle j = (e : Edge) → Contains g.edges e → e.to ≡ j → (x : Slot) × Contains slots x × (x.place ≡ e.from) × (x.cycle + e.cost ≤ cycle)

-- A schedule is legal: it holds each instruction once, cycles don't fall, each instruction is ready where it is issued, and the
-- trace is accepted.
pub record Legal (accepts : List Event → Type 0) (g : Graph) (slots : List Slot) : Type 0 where
  pub order : IsOrder (length g.nodes) (places slots)
  pub rising : AllPairs (λ x y. x.cycle ≤ y.cycle) slots
  pub kept : (before after : List Slot) (x : Slot) → slots ≡ before ++ x ∷ after → IsReady g before x.cycle x.place
  pub accepted : accepts (spell g slots)

-- An instruction may follow these slots at a cycle: it is not among them, it is ready, and its issue is accepted after their trace
-- and the advance to the cycle.
pub record IsCandidate (accepts : List Event → Type 0) (g : Graph) (slots : List Slot) (cycle j : ℕ) : Type 0 where
  pub within : j < length g.nodes
  pub left : Contains (places slots) j → ⊥
  pub ready : IsReady g slots cycle j
  pub fits : accepts (spell g slots ++ (advance_to (present 0 slots) cycle ++ issue (class_at g j) ∷ []))

-- one instruction goes before another: its height is greater, or they are equal and it doesn't come after it in the source
abbrev pub GoesBefore : Graph → ℕ → ℕ → Type 0
GoesBefore g i j = (height_at g j < height_at g i) ⊎ ((height_at g i ≡ height_at g j) × (i ≤ j))

-- A slot follows others greedily: it is a candidate at its cycle, it goes before each candidate there, and none is a candidate
-- at a cycle from the present one up to, and without, its own.
pub record FollowsGreedily (accepts : List Event → Type 0) (g : Graph) (slots : List Slot) (x : Slot) : Type 0 where
  pub may : IsCandidate accepts g slots x.cycle x.place
  pub first : (j : ℕ) → IsCandidate accepts g slots x.cycle j → GoesBefore g x.place j
  pub soonest : (cycle j : ℕ) → present 0 slots ≤ cycle → cycle < x.cycle → IsCandidate accepts g slots cycle j → ⊥

-- A schedule is greedy: each slot follows those before it greedily.
abbrev pub Greedy : (List Event → Type 0) → Graph → List Slot → Type 0
Greedy accepts g slots = (before after : List Slot) (x : Slot) → slots ≡ before ++ x ∷ after → FollowsGreedily accepts g before x
