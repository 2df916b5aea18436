use Rattle.std.proofs.Common.{length}
use Rattle.hz_base_model.proofs.Forms.FormsFront.{Front}
use Rattle.hz_sexp.specs.Shape.{trees}
use Rattle.hz_sexp.specs.State.{frames_of}
use Rattle.hz_sexp.proofs.reader.read_forms.Given as goal

abbrev pub invariant-loop-b : goal.invariant-loop-b
invariant-loop-b l = Front l.bytes (frames_of l.reader) (trees l.reader.forms.items) l.place.line l.place.rest.now

abbrev pub decreases-loop-b : goal.decreases-loop-b
decreases-loop-b l = length l.place.rest.now
