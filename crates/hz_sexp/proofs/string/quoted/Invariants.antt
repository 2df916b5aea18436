use Rattle.std.proofs.Common.{length}
use Rattle.hz_base_model.specs.Forms.Forms.{Inside}
use Rattle.hz_sexp.proofs.string.quoted.Given as goal

abbrev pub invariant-loop-bytes : goal.invariant-loop-bytes
invariant-loop-bytes l = Inside l.fn.place.line l.fn.place.rest.now l.bytes.items l.place.line l.place.rest.now

abbrev pub decreases-loop-bytes : goal.decreases-loop-bytes
decreases-loop-bytes l = length l.place.rest.now
