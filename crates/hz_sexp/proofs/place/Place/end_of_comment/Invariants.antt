use Rattle.std.proofs.Common.{length}
use Rattle.hz_base_model.specs.Forms.Forms.{Comment}
use Rattle.hz_sexp.proofs.place.Place.end_of_comment.Given as goal

abbrev pub invariant-loop-next : goal.invariant-loop-next
invariant-loop-next l = Comment l.self.line l.self.rest.now l.place.line l.place.rest.now

abbrev pub decreases-loop-next : goal.decreases-loop-next
decreases-loop-next l = length l.place.rest.now
