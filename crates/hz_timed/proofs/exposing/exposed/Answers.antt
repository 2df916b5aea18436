use Rattle.std.proofs.Common.{◌≡◌, ◌∙◌, [], List, map, length, ap}
use Rattle.hz_block_model.specs.Running.States as states
use Rattle.hz_rtl.specs.Shape.{instructions}
use Rattle.hz_rtl.specs.States.{words}
use Rattle.hz_sched.specs.declared.parts.Slot.{Slot}
use Rattle.hz_sched.specs.Shape.{slots_of}
use Rattle.hz_measure_model.specs.Exposed.Exposed.{Read, lefts_of}
use Rattle.hz_measure_model.specs.Exposed.Exposed as model
use Rattle.hz_timed.specs.declared.write.Write.{Write}
use Rattle.hz_timed.specs.Leaving.{stored_by}
use Rattle.hz_timed.specs.Notes.{Note, notes_of}
use Rattle.hz_timed.specs.Shape.{read_of, number_in}
use Rattle.hz_timed.specs.Writes.{notes_in}
use Rattle.hz_timed.proofs.LeavingLemmas.{exposed_is}
use Rattle.hz_timed.proofs.RangeLemmas.{slots_in_range, writers_in_range}
use Rattle.hz_timed.proofs.exposing.exposed.Goals as goal

pub returns-clause-timed : goal.returns-clause-timed
returns-clause-timed c =
    let block = instructions c.args.block.now in
    let number = number_in c.args.checked.now c.args.block.now c.args.graph.now in
    let start = words c.args.state.now in
    let slots = c.args.schedule.now.slots.items in
    let ran = c.in_ok-ran.ran in
    let reported : notes_in ran.written ≡ notes_of (lefts_of block number start [] (slots_of slots)) = c.in_ok-ran.ensures.written ∙ ap (λ (xs : List Slot). notes_of (lefts_of block number start [] (slots_of xs))) c.deref.ensures.value in
    exposed_is block number start (slots_of slots) ran.written.writes.items (words c.in_ok-state_after.field-0) (map read_of ran.reads.items)
    (c.in_ok-state_after.ensures ∙ ap (λ (ws : List Write). states.all_stored start (map stored_by ws)) c.deref-2.ensures.value) reported
    (c.in_ok-ran.ensures.reads ∙ ap (λ (xs : List Slot). (model.exposed block number start (slots_of xs)).reads) c.deref.ensures.value)

pub returns-clause-range : goal.returns-clause-range
returns-clause-range c =
    let block = instructions c.args.block.now in
    let number = number_in c.args.checked.now c.args.block.now c.args.graph.now in
    let start = words c.args.state.now in
    let slots = c.args.schedule.now.slots.items in
    let reads = c.in_ok-ran.ran.reads.items in
    let count = length c.args.block.now.insns.items in
    let are : map read_of reads ≡ (model.exposed block number start (slots_of slots)).reads = c.in_ok-ran.ensures.reads ∙ ap (λ (xs : List Slot). (model.exposed block number start (slots_of xs)).reads) c.deref.ensures.value in
    record {
      places = c.requires.places;
      slots = slots_in_range block number start slots count c.requires.places reads are;
      writers = writers_in_range block number start slots count c.requires.places reads are;
    }
