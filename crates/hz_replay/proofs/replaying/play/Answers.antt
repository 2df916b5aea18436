use Rattle.std.proofs.Common.{[], ◌∷◌, ap, ◌∙◌}
use Rattle.hz_pipeline_model.specs.Tables.Machines.{parts_walk}
use Rattle.hz_replay.specs.Lines.{event_of}
use Rattle.hz_replay.specs.declared.event.What.{What}
use Rattle.hz_replay.proofs.EventLemmas.{ask_walked}
use Rattle.hz_replay.proofs.replaying.play.Goals as goal

pub returns-in-Ask-clause-taken : goal.returns-in-Ask-clause-taken
returns-in-Ask-clause-taken g c =
    let stands = c.args.replayer.now in
    ap (λ (what : What). parts_walk stands.machine.parts stands.states (event_of what ∷ [])) c.in-Ask.is
    ∙ ask_walked stands.machine.parts stands.states c.in-Ask.part c.in-Ask.ask c.requires.each
