use Rattle.std.proofs.Common.{[], map}
use Rattle.std.specs.List.{flat_map}
use Rattle.hz_block_model.specs.Running.States as model
use Rattle.hz_block_model.specs.Dependences.Accesses.{registers_in, values_of_effect}
use Rattle.hz_rtl.specs.Shape.{effect}
use Rattle.hz_timed.specs.Asking.{cells_asked, store_of}
use Rattle.hz_timed.proofs.EffectLemmas.{SoFar}
use Rattle.hz_timed.proofs.evaluating.stores_of.Given as goal

-- what was stored and asked for so far
abbrev pub invariant-loop-effect : goal.invariant-loop-effect
invariant-loop-effect g l =
    SoFar (λ e. model.stores_of_effect (g.S.Sight.seen l.fn.sight) l.fn.insn.number (effect e)) l.fn.insn.effects.items [] (map store_of l.stores.items) l.effect-index
    × SoFar (λ e. flat_map registers_in (values_of_effect (effect e))) l.fn.insn.effects.items l.fn.asked.registers.items l.asked.registers.items l.effect-index
    × SoFar (λ e. flat_map (cells_asked (g.S.Sight.seen l.fn.sight)) (values_of_effect (effect e))) l.fn.insn.effects.items l.fn.asked.cells.items l.asked.cells.items l.effect-index
