-- Schedules of two blocks in one pipeline, and what they keep of each. This profile, docs/RULES.md, 'Two contexts'. Law:
-- `schedules_of_two_blocks_keep_both`.
use Rattle.std.specs.Prelude.{◌≡◌, ℕ, ◌+◌, ◌≤◌, true, List, ◌∷◌, ◌++◌, length}
use Rattle.std.specs.List.{Contains, AllPairs, range_with_len}
use Rattle.hz_description_model.specs.Check.Places.{Known}
use Rattle.hz_description_model.specs.Reading.Descriptions.{Description}
use Rattle.hz_pipeline_model.specs.Accepting.Replay.{Accepted}
use Rattle.hz_pipeline_model.specs.Pipelines.Pipelines.{pipeline_with}
use Rattle.hz_block_model.specs.Running.Blocks.{Instruction}
use Rattle.hz_block_model.specs.Running.States.{State, run}
use Rattle.hz_block_model.specs.Dependences.Dependences.{depends, cost}
use Rattle.hz_block_model.specs.Dependences.Orders.{IsOrder}
use Rattle.hz_block_model.specs.Scheduling.Schedules.{Graph, Slot, places, spell, Legal, Greedy}
use Rattle.hz_block_model.specs.Scheduled.BlockGraphs.{classes_of, timing_in, IsGraphOf}
use Rattle.hz_measure_model.specs.TwoContexts.Joining.{joined, in_contexts, own, order_of, run_two}

-- A description, by the alternatives of its names.
module _ (d : Description) (known : Known) where
  -- The schedule of two blocks by their dependence graphs: legal and greedy by what the description accepts.
  pub record IsScheduleOfTwo (first second : List Instruction) (g h : Graph) (slots : List Slot) : Type 0 where
    pub first_graph : IsGraphOf d first g
    pub second_graph : IsGraphOf d second h
    pub legal : Legal (Accepted (pipeline_with d known)) (joined g h) slots
    pub greedy : Greedy (Accepted (pipeline_with d known)) (joined g h) slots

  -- What the slots of a context keep of its block, whatever else is issued between them.
  pub record KeepsContext (block : List Instruction) (g : Graph) (slots : List Slot) : Type 0 where
    -- each instruction stands there once, and no other
    pub each : IsOrder (length block) (places slots)
    -- every latency and bypass is kept: an instruction is issued after each on which it depends, by the cost of the dependence
    pub kept : (before after : List Slot) (x : Slot) (i : ℕ) → slots ≡ before ++ x ∷ after → depends block i x.place ≡ true → (y : Slot) × Contains before y × (y.place ≡ i) × (y.cycle + cost block (timing_in d (classes_of g) block) i x.place ≤ x.cycle)

  -- What slots keep of two blocks.
  pub record KeepsBoth (first second : List Instruction) (g h : Graph) (slots : List Slot) : Type 0 where
    pub of_first : KeepsContext first g (own 1 (in_contexts (length first) slots))
    pub of_second : KeepsContext second h (own 2 (in_contexts (length first) slots))
    -- cycles don't fall
    pub rising : AllPairs (λ x y. x.cycle ≤ y.cycle) slots
    -- their trace is accepted
    pub accepted : Accepted (pipeline_with d known) (spell (joined g h) slots)
    -- they leave each context what its block in the order of the source leaves, from every pair of states
    pub leaves : (s t : State) → run_two first second (order_of (in_contexts (length first) slots)) s t ≡ (run first (range_with_len 0 (length first)) s, run second (range_with_len 0 (length second)) t)
