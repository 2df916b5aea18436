-- Schedules of a block by a description, and what they keep of the block. GCC Internals, 'Specifying processor pipeline
-- description'; list scheduling as in this profile, docs/RULES.md, 'List schedules'.
use Rattle.std.specs.Prelude.{◌≡◌, ℕ, ◌+◌, ◌≤◌, true, List, [], ◌∷◌, ◌++◌, length, All, Ok}
use Rattle.std.specs.List.{Contains, AllPairs, range_with_len}
use Rattle.hz_pipeline_model.specs.Accepting.Events.{issue}
use Rattle.hz_pipeline_model.specs.Accepting.Replay.{Accepted}
use Rattle.hz_description_model.specs.Check.Places.{Known}
use Rattle.hz_description_model.specs.Reading.Descriptions.{Description}
use Rattle.hz_pipeline_model.specs.Pipelines.Pipelines.{pipeline_with}
use Rattle.hz_block_model.specs.Running.Blocks.{Instruction}
use Rattle.hz_block_model.specs.Running.States.{State, run}
use Rattle.hz_block_model.specs.Dependences.Dependences.{depends, cost}
use Rattle.hz_block_model.specs.Dependences.Orders.{IsOrder}
use Rattle.hz_block_model.specs.Scheduling.Schedules.{Graph, Slot, places, spell, Legal, Greedy}
use Rattle.hz_block_model.specs.Scheduled.BlockGraphs.{class_in, classes_of, timing_in, IsGraphOf}

-- A description, by the alternatives of its names.
module _ (d : Description) (known : Known) where
  -- an instruction can be issued from the start, where nothing is reserved
  abbrev pub StartsAlone : Instruction → Type 0
  StartsAlone i = (class : ℕ) × (class_in d i ≡ Ok class) × Accepted (pipeline_with d known) (issue class ∷ [])

  -- The first instruction of a block that can't be issued from the start.
  pub record IsFirstStuck (block : List Instruction) (i : Instruction) : Type 0 where
    pub before : List Instruction
    pub after : List Instruction
    pub parts : block ≡ before ++ i ∷ after
    pub start : All StartsAlone before
    pub stuck : StartsAlone i → ⊥

  -- The schedule of a block by its dependence graph: legal and greedy by what the description accepts.
  pub record IsScheduleOf (block : List Instruction) (g : Graph) (slots : List Slot) : Type 0 where
    pub graph : IsGraphOf d block g
    pub legal : Legal (Accepted (pipeline_with d known)) g slots
    pub greedy : Greedy (Accepted (pipeline_with d known)) g slots

  -- What slots keep of a block, whose dependence graph has the classes of its instructions.
  pub record KeepsBlock (block : List Instruction) (g : Graph) (slots : List Slot) : Type 0 where
    -- each instruction stands there once, and no other
    pub each : IsOrder (length block) (places slots)
    -- cycles don't fall
    pub rising : AllPairs (λ x y. x.cycle ≤ y.cycle) slots
    -- every latency and bypass is kept: an instruction is issued after each on which it depends, by the cost of the dependence
    pub kept : (before after : List Slot) (x : Slot) (i : ℕ) → slots ≡ before ++ x ∷ after → depends block i x.place ≡ true → (y : Slot) × Contains before y × (y.place ≡ i) × (y.cycle + cost block (timing_in d (classes_of g) block) i x.place ≤ x.cycle)
    -- their trace is accepted
    pub accepted : Accepted (pipeline_with d known) (spell g slots)
    -- their order leaves from every state what the order of the source leaves
    pub leaves : (state : State) → run block (places slots) state ≡ run block (range_with_len 0 (length block)) state
