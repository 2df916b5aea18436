-- What each command answers with status 0 is what is promised of it.
use Rattle.std.proofs.Common.{ℕ, List}
use Rattle.hz_base_model.specs.Names.{Held}
use Rattle.hz_words_model.specs.Words.{Order, compile, replay, walk, schedule, eval, drill, timed, bound, duo, modulo}
use Rattle.hz_answer_model.specs.Answers.{AnswersOrder}
use Rattle.hz_answer_model.specs.Headline.{Promised}
use Rattle.hz_answer_model.proofs.DrillHeadline.{writes_drill, accepts_drill}
use Rattle.hz_answer_model.proofs.HeadlineLaws.{writes_schedule, accepts_schedule, keeps_timed, keeps_bound, keeps_two, keeps_kernel}
use Rattle.hz_answer_model.proofs.WalkLaws.{writes_tables, walk_is_replay}

pub promised : (held : Held) (order : Order) (text : List ℕ) → AnswersOrder held order 0 text → Promised held order text
promised held (compile description) text h = record { writes = writes_tables held description text h; walks = walk_is_replay held description text h }
promised held (schedule description block) text h =
    let w = writes_schedule held description block text h in
    record { writes = w; replays = accepts_schedule held description block text w h }
promised held (drill description number turns) text h =
    let w = writes_drill held description number turns text h in
    record { writes = w; replays = accepts_drill held description number turns text w h }
promised held (timed description block state) text h = keeps_timed held description block state text h
promised held (bound description block) text h = keeps_bound held description block text h
promised held (duo description first second) text h = keeps_two held description first second text h
promised held (modulo description block) text h = keeps_kernel held description block text h
promised held (replay description trace) text h = tt
promised held (walk tables trace) text h = tt
promised held (eval block state) text h = tt
