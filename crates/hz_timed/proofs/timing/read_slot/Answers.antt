use Rattle.std.proofs.Common.{◌≡◌, ◌++◌, ◌∙◌, sym, ap, map, List, ℕ}
use Rattle.std.specs.List.{flat_map}
use Rattle.hz_block_model.specs.Running.States.{reg, cell}
use Rattle.hz_measure_model.specs.Exposed.Exposed.{Read}
use Rattle.hz_block_model.specs.Dependences.Accesses.{registers_in, values_of}
use Rattle.hz_rtl.specs.Shape.{instruction}
use Rattle.hz_timed.specs.Writes.{seen_in}
use Rattle.hz_timed.specs.Asking.{cells_asked}
use Rattle.hz_timed.specs.Shape.{read_of}
use Rattle.hz_timed.specs.Reads.{reads_by}
use Rattle.hz_timed.proofs.AskedLemmas.{reads_in_order}
use Rattle.hz_timed.proofs.timing.read_slot.Goals as goal

pub returns-clause-reads : goal.returns-clause-reads
returns-clause-reads c =
    let s = seen_in c.args.look.now in
    let i = instruction c.args.insn.now in
    let rb = reads_by c.args.look.now c.args.slot in
    c.in_ok-add_cells.ensures
    ∙ (ap (λ (zs : List Read). zs ++ map (λ a. rb (cell a)) c.deref-2.result.now) c.in_ok-add_registers.ensures
    ∙ reads_in_order rb i s (map read_of c.args.reads.now.items) c.stores_of.new.asked.registers.items c.stores_of.new.asked.cells.items c.deref.result.now c.deref-2.result.now
    (c.in_ok-stores.ensures.asked.registers ∙ ap (λ (zs : List ℕ). zs ++ flat_map registers_in (values_of i)) c.new.ensures.items)
    (c.in_ok-stores.ensures.asked.cells ∙ ap (λ (zs : List ℕ). zs ++ flat_map (cells_asked s) (values_of i)) c.new-2.ensures.items)
    (c.deref.ensures.value ∙ c.order_registers.ensures) (c.deref-2.ensures.value ∙ c.order_cells.ensures))
