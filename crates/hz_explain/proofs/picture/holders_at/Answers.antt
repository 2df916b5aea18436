use Rattle.hz_reasons.specs.Plans.{unit_of}
use Rattle.hz_explain.proofs.GatherLaws.{listed_read}
use Rattle.hz_explain.proofs.picture.holders_at.Goals as goal

pub returns : goal.returns
returns c = listed_read c.args.held.now (unit_of c.args.unit) c.mark_place-place.result _ c.list_of.ensures c.mark_place-place.ensures.place c.mark_place-place.ensures.unit
