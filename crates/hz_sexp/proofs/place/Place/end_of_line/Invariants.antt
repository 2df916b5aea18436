use Rattle.std.proofs.Common.{length, ◌≡◌}
use Rattle.hz_base_model.specs.Forms.Forms.{line_end}
use Rattle.hz_sexp.proofs.place.Place.end_of_line.Given as goal

abbrev pub invariant-loop-b : goal.invariant-loop-b
invariant-loop-b l = (line_end l.place.rest.now ≡ line_end l.self.rest.now) × (l.place.line ≡ l.self.line)

abbrev pub decreases-loop-b : goal.decreases-loop-b
decreases-loop-b l = length l.place.rest.now
