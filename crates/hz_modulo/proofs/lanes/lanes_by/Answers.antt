use Rattle.std.proofs.Common.{[], ◌∷◌, List, All, sym, subst, arith}
use Rattle.std.proofs.lemmas.List.Elements.{All-append, All-cons, All-nil}
use Rattle.hz_pipeline_model.specs.Tables.Machines.{Machine}
use Rattle.hz_tables.specs.Machines.{machine_of}
use Rattle.hz_modulo.specs.Lanes.{IsLaneOf}
use Rattle.hz_modulo.proofs.LaneLemmas.{has_part}
use Rattle.hz_modulo.proofs.lanes.lanes_by.Goals as goal

pub loop-part-preserved : goal.loop-part-preserved
loop-part-preserved g c =
    let m = machine_of c.args.machine.now in
    let lane = c.in_ok-new.field-0 in
    subst (λ (ls : List Machine). All (IsLaneOf m) ls) (sym c.in_ok-push.ensures.items)
    (All-append (IsLaneOf m) c.loop-part.lanes.items (lane ∷ []) c.loop-part.invariant (All-cons (IsLaneOf m) lane [] (c.loop-part.part, (has_part c.args.machine.now c.loop-part.part (omega (arith, c.loop-part-test.true, c.len-part-end.ensures)), c.in_ok-new.ensures)) (All-nil (IsLaneOf m))))
