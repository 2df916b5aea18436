use Rattle.std.proofs.Common.{◌≡◌, ◌++◌, ◌∙◌, ap, map, List}
use Rattle.hz_measure_model.specs.Exposed.Exposed.{Read}
use Rattle.hz_rtl.specs.Shape.{instruction, instructions}
use Rattle.hz_timed.specs.declared.evaluating.Kept.{Kept}
use Rattle.hz_timed.specs.Shape.{place_of, read_of}
use Rattle.hz_timed.specs.Writes.{notes_in, number_by, place_count}
use Rattle.hz_timed.proofs.WholeLemmas.{all_within}
use Rattle.hz_timed.proofs.TimedLemmas.{reads_are, notes_are}
use Rattle.hz_timed.proofs.timing.time_slot.Goals as goal

pub returns-clause-reads : goal.returns-clause-reads
returns-clause-reads c = λ lefts reported.
    c.in_ok-stores.ensures.reads
    ∙ ap (λ (zs : List Read). map read_of c.args.reads.now.items ++ zs) (reads_are (instructions c.args.waits.now.block.now) (number_by c.args.waits.now) c.args.start.now c.args.written.now.writes.items lefts c.args.slot (instruction c.insn.result.now) c.insn.ensures reported c.args.number)

pub returns-clause-noted : goal.returns-clause-noted
returns-clause-noted c = λ lefts reported.
    c.in_ok-note_all.ensures.noted
    ∙ (ap (λ (ks : List Kept). notes_in c.args.written.now ++ map (λ (k : Kept). record { place = c.args.slot.place; cycle = c.args.slot.cycle; at = place_of k.what; word = k.word }) ks) c.deref.ensures.value
    ∙ notes_are (instructions c.args.waits.now.block.now) (number_by c.args.waits.now) c.args.start.now c.args.written.now.writes.items lefts c.args.slot (instruction c.insn.result.now) c.insn.ensures reported c.in_ok-stores.stores.items c.in_ok-stores.ensures.stores)

pub returns-clause-places : goal.returns-clause-places
returns-clause-places c =
    all_within c.args.written.now.writes.items c.note_all.new.written.writes.items c.args.slot c.deref.result.now (place_count c.args.waits.now) c.requires.slot c.in_ok-note_all.ensures.noted c.requires.places
