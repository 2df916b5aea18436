use Rattle.std.proofs.Common.{◌≡◌, ◌∙◌, ℕ, ◌<◌, List, map, length, All, sym, ap, subst}
use Rattle.std.specs.List.{flat_map}
use Rattle.std.proofs.lemmas.List.Folds.{flat_map-map}
use Rattle.hz_io.specs.Sink.{Wrote, Cut}
use Rattle.hz_io.proofs.Writing.{cut_before, writes_then}
use Rattle.hz_block_model.specs.Texts.StateTexts.{listing_text}
use Rattle.hz_rtl.specs.Shape.{instructions}
use Rattle.hz_rtl.specs.Listings.{listing}
use Rattle.hz_sched.specs.declared.parts.Slot.{Slot}
use Rattle.hz_sched.specs.Shape.{slots_of}
use Rattle.hz_measure_model.specs.Exposed.Texts.{line_of_read, text_of_reads}
use Rattle.hz_timed.specs.declared.parts.ReadNote.{ReadNote}
use Rattle.hz_timed.specs.Reads.{line_by}
use Rattle.hz_timed.specs.Shape.{read_of, IsWriter}
use Rattle.hz_timed.proofs.writing.write_timed.Goals as goal

pub returns-in-Ok : goal.returns-in-Ok
returns-in-Ok g c =
    let block = c.args.block.now in
    let slots = c.args.schedule.now.slots.items in
    let reads = c.args.timed.now.reads.items in
    let line = line_of_read (map (λ i. i.number) (instructions block)) (map (λ x. x.place) (slots_of slots)) (map (λ x. x.cycle) (slots_of slots)) in
    let is : flat_map (line_by block c.deref.result.now) c.deref-2.result.now ≡ text_of_reads (instructions block) (slots_of slots) (map read_of reads) =
    ap (λ (xs : List Slot). flat_map (line_by block xs) c.deref-2.result.now) c.deref.ensures.value
    ∙ (ap (flat_map (line_by block slots)) c.deref-2.ensures.value ∙ sym (flat_map-map line read_of reads)) in
    writes_then c.write_state.new.out (listing_text (listing c.args.timed.now.state)) c.write_state.result
    (subst (λ (bytes : List ℕ). Wrote g.S.Sink.written g.S.Sink.room g.S.Sink.faults c.args.out.now c.put_reads.new.out bytes) is c.in-Ok.ensures) c.write_state.ensures

pub returns-in-Err : goal.returns-in-Err
returns-in-Err g c =
    let block = c.args.block.now in
    let slots = c.args.schedule.now.slots.items in
    let reads = c.args.timed.now.reads.items in
    let line = line_of_read (map (λ i. i.number) (instructions block)) (map (λ x. x.place) (slots_of slots)) (map (λ x. x.cycle) (slots_of slots)) in
    let is : flat_map (line_by block c.deref.result.now) c.deref-2.result.now ≡ text_of_reads (instructions block) (slots_of slots) (map read_of reads) =
    ap (λ (xs : List Slot). flat_map (line_by block xs) c.deref-2.result.now) c.deref.ensures.value
    ∙ (ap (flat_map (line_by block slots)) c.deref-2.ensures.value ∙ sym (flat_map-map line read_of reads)) in
    cut_before (listing_text (listing c.args.timed.now.state))
    (subst (λ (bytes : List ℕ). Cut g.S.Sink.written g.S.Sink.room g.S.Sink.faults c.args.out.now c.put_reads.new.out bytes) is c.in-Err.ensures)
