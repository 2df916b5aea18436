use Rattle.hz_front_model.specs.Asks.{held_in}
use Rattle.hz_answer_model.specs.TableAnswers.{reported_by}
use Rattle.hz_answer_model.proofs.AskPlaceLaws.{reported_by_places}
use Rattle.hz_answer_model.proofs.asks.asks_are_reported_at_their_places.Goals as goal

pub returns-clause-description : goal.returns-clause-description
returns-clause-description c d known = reported_by_places (held_in d known)

pub returns-clause-machine : goal.returns-clause-machine
returns-clause-machine c m = reported_by_places (reported_by m)

pub returns-clause-asked : goal.returns-clause-asked
returns-clause-asked c d known names lines events text reported p a u there = reported.says p _ there
