use Rattle.std.proofs.Common.{◌≡◌, ◌∷◌, [], drop, is_some}
use Rattle.hz_pipeline_model.specs.Accepting.Events.{issue}
use Rattle.hz_pipeline_model.specs.Tables.Machines.{parts_walk}
use Rattle.hz_tables.specs.Machines.{machine_of}
use Rattle.hz_sched.proofs.fitting.each_steps.Given as goal

-- whether all parts step is whether those that are left do
abbrev pub invariant-loop-part : goal.invariant-loop-part
invariant-loop-part g l =
    is_some (parts_walk (drop l.part (machine_of l.machine).parts) (drop l.part l.states) (issue l.class ∷ [])) ≡ is_some (parts_walk (machine_of l.machine).parts l.states (issue l.class ∷ []))
