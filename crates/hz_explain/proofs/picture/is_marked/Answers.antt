use Rattle.hz_reasons.specs.Plans.{unit_of}
use Rattle.hz_explain.proofs.ShowLaws.{marked_read}
use Rattle.std.proofs.Common.{refl}
use Rattle.hz_explain.proofs.picture.is_marked.Goals as goal

pub returns : goal.returns
returns c = marked_read c.args.marks.now (unit_of c.args.unit) c.mark_place-place.result _ refl c.mark_place-place.ensures.place c.mark_place-place.ensures.unit
