use Rattle.std.proofs.Common.{sym}
use Rattle.hz_base_model.specs.Forms.Forms.{Comment}
use Rattle.hz_sexp.proofs.Parts.{comment_goes}
use Rattle.hz_sexp.proofs.place.Place.end_of_comment.Goals as goal

pub loop-next-init : goal.loop-next-init
loop-next-init c = Comment.stays

pub loop-next-preserved : goal.loop-next-preserved
loop-next-preserved c = let found = c.in-Some.ensures in
    rw found.1 (comment_goes (rw found.0 at c.loop-next.invariant) (rw found.0 at (sym c.if-begins_with.ensures)))
