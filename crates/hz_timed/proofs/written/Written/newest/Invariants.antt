use Rattle.hz_timed.specs.Shape.{place_of}
use Rattle.hz_timed.specs.Writes.{number_by}
use Rattle.hz_timed.proofs.IndexLemmas.{IsWalk}
use Rattle.hz_timed.proofs.written.Written.newest.Given as goal

-- what is left to be found is what is to be found
abbrev pub invariant-loop-turn : goal.invariant-loop-turn
invariant-loop-turn l = IsWalk (number_by l.waits) l.slot l.self.writes.items (place_of l.fn.what) l.at l._turn
