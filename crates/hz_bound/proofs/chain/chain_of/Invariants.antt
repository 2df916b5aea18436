use Rattle.std.proofs.Common.{◌<◌, ◌≤◌, length}
use Rattle.hz_bound.proofs.BegunChains.{IsBegun}
use Rattle.hz_bound.specs.Rows.{row_at}
use Rattle.hz_bound.proofs.chain.chain_of.Given as goal

abbrev pub invariant-loop-turn : goal.invariant-loop-turn
invariant-loop-turn l = record {
  ahead : l._turn ≤ l.place;
  inside : l.place < length l.tails;
  begun : IsBegun (row_at l.rows) l.tails l.place l.chain.items;
}
