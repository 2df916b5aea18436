use Rattle.std.proofs.Common.{◌≡◌, rules, ◌∙◌}
use Rattle.hz_io.specs.Drive.{is_to_fail}
use Rattle.hz_io.proofs.DriveLemmas.{steady_turn, steady_next}
use Rattle.hz_io.proofs.mem_files.MemFiles.count_call.Goals as goal

pub returns-clause-steady : goal.returns-clause-steady
returns-clause-steady c =
    λ s. rw c.saturating_add-self-inside.ensures (steady_next _ _ (search rules) (rw (← c.self.view_is) at s))

pub returns-clause-turn : goal.returns-clause-turn
returns-clause-turn c =
    λ s. let answer : c.contains-fails.result ≡ is_to_fail c.args.self.now = search rules in
    answer ∙ steady_turn c.args.self.now s
