-- The edges of a block's graph.
use Rattle.std.specs.Prelude.{◌<◌, ◌≤◌, length}
use Rattle.std.specs.List.{Contains}
use Rattle.hz_description_model.specs.Reading.Limits.{latency_limit}
use Rattle.hz_block_model.specs.Dependences.Graphs.{Edge}
use Rattle.hz_block_model.specs.Scheduling.Schedules.{Graph}

-- Edges lead upwards among the instructions, and their costs are small.
pub record IsUpward (g : Graph) : Type 0 where
  pub upward : (e : Edge) → Contains g.edges e → (e.from < e.to) × (e.to < length g.nodes) × (e.cost ≤ latency_limit)
