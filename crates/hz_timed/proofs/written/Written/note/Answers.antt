use Rattle.std.proofs.Common.{◌≡◌, refl, ◌∙◌}
use Rattle.hz_timed.proofs.IndexLemmas.{indexed_more}
use Rattle.hz_timed.proofs.written.Written.note.Goals as goal

pub returns-clause-indexed : goal.returns-clause-indexed
returns-clause-indexed c =
    indexed_more c.args.self.now c.hold.new.self _ (record { place = c.args.slot.place; cycle = c.args.slot.cycle; what = c.args.what; word = c.args.word; before = c.latest-before.result }) c.len-number.result c.requires c.latest-before.ensures (c.len-number.ensures ∙ c.args.self.now.writes.ok.0)
    c.in_ok-hold.ensures.writes c.in_ok-hold.ensures.held c.in_ok-hold.ensures.size c.in_ok-hold.ensures.ordered c.in_ok-push.ensures.items refl refl
