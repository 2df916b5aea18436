use Rattle.std.proofs.Common.{length}
use Rattle.hz_regexp.specs.State.{state_of}
use Rattle.hz_regexp.specs.Tokens.{tokens_at}
use Rattle.hz_regexp.proofs.Reading.{Taken}
use Rattle.hz_regexp.proofs.reader.parse_expr.Given as goal

abbrev pub invariant-loop-token : goal.invariant-loop-token
invariant-loop-token l = Taken l.fn.text (state_of l.reader) (tokens_at l.place.at l.place.rest.now)

abbrev pub decreases-loop-token : goal.decreases-loop-token
decreases-loop-token l = length l.place.rest.now
