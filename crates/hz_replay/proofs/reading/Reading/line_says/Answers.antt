use Rattle.std.proofs.Common.{◌≤◌, length, sym, ◌∙◌, subst, length-set}
use Rattle.std.proofs.lemmas.List.Elements.{All-set}
use Rattle.hz_replay.specs.Reading.{Source, IsSeen}
use Rattle.hz_replay.specs.declared.reading.Seen.{Seen}
use Rattle.hz_replay.proofs.reading.Reading.line_says.Goals as goal

pub invariant_of-self : goal.invariant_of-self
invariant_of-self c =
    let names = c.self.inside.names.now in
    let text = c.self.inside.text.now in
    let seen = c.self.inside.seen.items in
    let place = c.place_of-place.result in
    let new : Seen = record { from = c.args.from; to = c.args.to; said = c.line_says-said.result } in
    let reported : IsSeen names text new = record {
      order = c.requires.order;
      within = subst (λ (s : Source). c.args.to ≤ length s.text) (sym c.self.view_is) c.requires.within;
      says = c.line_says-said.ensures;
    } in
    record { places = length-set seen place new ∙ (c.self.invariant).places; each = All-set (IsSeen names text) seen place new reported (c.self.invariant).each }
