use Rattle.std.proofs.Common.{◌≡◌, ◌==◌, ℕ, length, replicate, sym, ap, ◌∙◌, subst}
use Rattle.std.specs.List.{list_all}
use Rattle.hz_pipeline_model.specs.Tables.Machines.{IsMachine}
use Rattle.hz_replay.specs.Replaying.{Standing}
use Rattle.hz_replay.proofs.ReplayerLemmas.{all_zero, zeros_all}
use Rattle.hz_replay.proofs.replayer.Replayer.is_at_start.Goals as goal

pub returns-clause-start : goal.returns-clause-start
returns-clause-start c =
    let n = c.args.self.now in
    let long = subst (λ (s : Standing). length s.states ≡ length s.machine.parts) c.self.view_is c.self.invariant.0.each in
    let reported = c.are_starts.ensures ∙ (ap (list_all (λ (s : ℕ). s == 0)) c.as_slice.ensures ∙ ap (λ (s : Standing). list_all (λ (s : ℕ). s == 0) s.states) c.self.view_is) in
    (λ t. all_zero n.states (sym reported ∙ t) ∙ ap (λ (k : ℕ). replicate k 0) long, λ e. reported ∙ (ap (list_all (λ (s : ℕ). s == 0)) e ∙ zeros_all (length n.machine.parts)))

pub returns-clause-machine : goal.returns-clause-machine
returns-clause-machine c = subst (λ (s : Standing). IsMachine s.machine) c.self.view_is c.self.inside.machine.now.kept
