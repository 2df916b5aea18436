use Rattle.std.proofs.Common.{◌≡◌, ◌++◌, ◌∙◌, refl, sym, ap, [], map, length, get_or, ◌≤◌, ◌<◌, arith}
use Rattle.std.specs.List.{flat_map}
use Rattle.hz_block_model.specs.Running.States as model
use Rattle.hz_block_model.specs.Dependences.Accesses.{registers_in, values_of_effect}
use Rattle.hz_rtl.specs.Shape.{effect}
use Rattle.hz_timed.specs.Asking.{cells_asked, store_of}
use Rattle.hz_timed.proofs.EffectLemmas.{SoFar, so_far_more, so_far_last, flat_once, flat_twice}
use Rattle.hz_timed.proofs.evaluating.stores_of.Goals as goal

pub loop-effect-preserved : goal.loop-effect-preserved
loop-effect-preserved g c =
    let effects = c.args.insn.now.effects.items in
    let i = c.loop-effect.effect-index in
    let inside : i < length effects = omega arith in
    let is : c.effect-item.result ≡ get_or effects i c.effect-item.result = c.effect-item.is ∙ ap (λ xs. get_or xs i c.effect-item.result) c.deref-effect-items.ensures.value in (
      so_far_more _ effects [] (map store_of c.loop-effect.stores.items) _ (map store_of c.push_kept.new.stores.items) i c.effect-item.result inside is c.in_ok-kept.ensures.store c.in_ok-push_kept.ensures c.loop-effect.invariant.0,
      so_far_more _ effects c.args.asked.now.registers.items c.loop-effect.asked.registers.items _ c.store_of.new.asked.registers.items i c.effect-item.result inside is refl c.in_ok-kept.ensures.asked.registers c.loop-effect.invariant.1,
      so_far_more _ effects c.args.asked.now.cells.items c.loop-effect.asked.cells.items _ c.store_of.new.asked.cells.items i c.effect-item.result inside is refl c.in_ok-kept.ensures.asked.cells c.loop-effect.invariant.2,
    )

pub returns-clause-stores : goal.returns-clause-stores
returns-clause-stores g c =
    let effects = c.args.insn.now.effects.items in
    let s = g.S.Sight.seen c.args.sight.now in
    so_far_last (λ e. model.stores_of_effect s c.args.insn.now.number (effect e)) effects [] (map store_of c.loop-effect.stores.items) c.loop-effect.effect-index (omega arith) c.loop-effect.invariant.0
    ∙ flat_once effect (model.stores_of_effect s c.args.insn.now.number) effects

pub returns-clause-asked : goal.returns-clause-asked
returns-clause-asked g c =
    let effects = c.args.insn.now.effects.items in
    let s = g.S.Sight.seen c.args.sight.now in
    record {
      registers = so_far_last (λ e. flat_map registers_in (values_of_effect (effect e))) effects c.args.asked.now.registers.items c.loop-effect.asked.registers.items c.loop-effect.effect-index (omega arith) c.loop-effect.invariant.1
          ∙ ap (λ zs. c.args.asked.now.registers.items ++ zs) (flat_twice effect values_of_effect registers_in effects);
      cells = so_far_last (λ e. flat_map (cells_asked s) (values_of_effect (effect e))) effects c.args.asked.now.cells.items c.loop-effect.asked.cells.items c.loop-effect.effect-index (omega arith) c.loop-effect.invariant.2
          ∙ ap (λ zs. c.args.asked.now.cells.items ++ zs) (flat_twice effect values_of_effect (cells_asked s) effects);
    }
