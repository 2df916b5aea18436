use Rattle.hz_unitsets.proofs.Blocks.{AreSoFar}
use Rattle.hz_unitsets.proofs.rules.block_of.Given as goal

-- the rules so far
abbrev pub invariant-loop-place : goal.invariant-loop-place
invariant-loop-place l = AreSoFar l.rules l.from l.place l.triggers l.keys l.wanted
