use Rattle.std.proofs.Common.{ℕ, List, length, sym, ap, ◌∙◌, subst}
use Rattle.hz_answer_model.specs.Answers.{JudgesOrder, files_of}
use Rattle.hz_front.proofs.ReadLemmas.{one_text, two_texts, three_texts}
use Rattle.hz_front.specs.Reading.{texts_in}
use Rattle.hz_tool.specs.Deciding.{Decides}
use Rattle.hz_tool_words.specs.Shape.{order_in}
use Rattle.hz_tool_words.specs.declared.order.Order.{Order}
use Rattle.hz_tool_words.specs.declared.order.Order.TheVariants.{Compile, Replay, Walk, Schedule, Eval, Drill, Timed, Bound, Duo, Modulo}
use Rattle.hz_tool.proofs.top.judge_order.Goals as goal

pub returns-in-Compile : goal.returns-in-Compile
returns-in-Compile c =
    subst (λ (o : Order). Decides (JudgesOrder (order_in o) (texts_in c.args.texts.now)) c.judge_compile.result) (sym c.in-Compile.is)
    (subst (λ (texts : List (List ℕ)). Decides (JudgesOrder (order_in (Compile c.in-Compile.order)) texts) c.judge_compile.result)
    (one_text c.args.texts.now _ _ (c.requires.count ∙ ap (λ (o : Order). length (files_of (order_in o))) c.in-Compile.is) c.index-texts-0.is c.as_slice.ensures.value)
    c.judge_compile.ensures)

pub returns-in-Replay : goal.returns-in-Replay
returns-in-Replay c =
    subst (λ (o : Order). Decides (JudgesOrder (order_in o) (texts_in c.args.texts.now)) c.judge_replay.result) (sym c.in-Replay.is)
    (subst (λ (texts : List (List ℕ)). Decides (JudgesOrder (order_in (Replay c.in-Replay.order)) texts) c.judge_replay.result)
    (two_texts c.args.texts.now _ _ _ _ (c.requires.count ∙ ap (λ (o : Order). length (files_of (order_in o))) c.in-Replay.is) c.index-texts-0-in-Replay.is c.index-texts-1.is c.as_slice-in-Replay.ensures.value c.as_slice-in-Replay-2.ensures.value)
    c.judge_replay.ensures)

pub returns-in-Walk : goal.returns-in-Walk
returns-in-Walk c =
    subst (λ (o : Order). Decides (JudgesOrder (order_in o) (texts_in c.args.texts.now)) c.judge_walk.result) (sym c.in-Walk.is)
    (subst (λ (texts : List (List ℕ)). Decides (JudgesOrder (order_in (Walk c.in-Walk.order)) texts) c.judge_walk.result)
    (two_texts c.args.texts.now _ _ _ _ (c.requires.count ∙ ap (λ (o : Order). length (files_of (order_in o))) c.in-Walk.is) c.index-texts-0-in-Walk.is c.index-texts-1-in-Walk.is c.as_slice-in-Walk.ensures.value c.as_slice-in-Walk-2.ensures.value)
    c.judge_walk.ensures)

pub returns-in-Schedule : goal.returns-in-Schedule
returns-in-Schedule c =
    subst (λ (o : Order). Decides (JudgesOrder (order_in o) (texts_in c.args.texts.now)) c.judge_schedule.result) (sym c.in-Schedule.is)
    (subst (λ (texts : List (List ℕ)). Decides (JudgesOrder (order_in (Schedule c.in-Schedule.order)) texts) c.judge_schedule.result)
    (two_texts c.args.texts.now _ _ _ _ (c.requires.count ∙ ap (λ (o : Order). length (files_of (order_in o))) c.in-Schedule.is) c.index-texts-0-in-Schedule.is c.index-texts-1-in-Schedule.is c.as_slice-in-Schedule.ensures.value c.as_slice-in-Schedule-2.ensures.value)
    c.judge_schedule.ensures)

pub returns-in-Eval : goal.returns-in-Eval
returns-in-Eval c =
    subst (λ (o : Order). Decides (JudgesOrder (order_in o) (texts_in c.args.texts.now)) c.judge_eval.result) (sym c.in-Eval.is)
    (subst (λ (texts : List (List ℕ)). Decides (JudgesOrder (order_in (Eval c.in-Eval.order)) texts) c.judge_eval.result)
    (two_texts c.args.texts.now _ _ _ _ (c.requires.count ∙ ap (λ (o : Order). length (files_of (order_in o))) c.in-Eval.is) c.index-texts-0-in-Eval.is c.index-texts-1-in-Eval.is c.as_slice-in-Eval.ensures.value c.as_slice-in-Eval-2.ensures.value)
    c.judge_eval.ensures)

pub returns-in-Bound : goal.returns-in-Bound
returns-in-Bound c =
    subst (λ (o : Order). Decides (JudgesOrder (order_in o) (texts_in c.args.texts.now)) c.judge_bound.result) (sym c.in-Bound.is)
    (subst (λ (texts : List (List ℕ)). Decides (JudgesOrder (order_in (Bound c.in-Bound.order)) texts) c.judge_bound.result)
    (two_texts c.args.texts.now _ _ _ _ (c.requires.count ∙ ap (λ (o : Order). length (files_of (order_in o))) c.in-Bound.is) c.index-texts-0-in-Bound.is c.index-texts-1-in-Bound.is c.as_slice-in-Bound.ensures.value c.as_slice-in-Bound-2.ensures.value)
    c.judge_bound.ensures)

pub returns-in-Drill : goal.returns-in-Drill
returns-in-Drill c =
    subst (λ (o : Order). Decides (JudgesOrder (order_in o) (texts_in c.args.texts.now)) c.judge_drill.result) (sym c.in-Drill.is)
    (subst (λ (texts : List (List ℕ)). Decides (JudgesOrder (order_in (Drill c.in-Drill.order)) texts) c.judge_drill.result)
    (one_text c.args.texts.now _ _ (c.requires.count ∙ ap (λ (o : Order). length (files_of (order_in o))) c.in-Drill.is) c.index-texts-0-in-Drill.is c.as_slice-in-Drill.ensures.value)
    c.judge_drill.ensures)

pub returns-in-Duo : goal.returns-in-Duo
returns-in-Duo c =
    subst (λ (o : Order). Decides (JudgesOrder (order_in o) (texts_in c.args.texts.now)) c.judge_duo.result) (sym c.in-Duo.is)
    (subst (λ (texts : List (List ℕ)). Decides (JudgesOrder (order_in (Duo c.in-Duo.order)) texts) c.judge_duo.result)
    (three_texts c.args.texts.now _ _ _ _ _ _ (c.requires.count ∙ ap (λ (o : Order). length (files_of (order_in o))) c.in-Duo.is) c.index-texts-0-in-Duo.is c.index-texts-1-in-Duo.is c.index-texts-2-in-Duo.is c.as_slice-in-Duo.ensures.value c.as_slice-in-Duo-2.ensures.value c.as_slice-in-Duo-3.ensures.value)
    c.judge_duo.ensures)

pub returns-in-Timed : goal.returns-in-Timed
returns-in-Timed c =
    subst (λ (o : Order). Decides (JudgesOrder (order_in o) (texts_in c.args.texts.now)) c.judge_timed.result) (sym c.in-Timed.is)
    (subst (λ (texts : List (List ℕ)). Decides (JudgesOrder (order_in (Timed c.in-Timed.order)) texts) c.judge_timed.result)
    (three_texts c.args.texts.now _ _ _ _ _ _ (c.requires.count ∙ ap (λ (o : Order). length (files_of (order_in o))) c.in-Timed.is) c.index-texts-0-in-Timed.is c.index-texts-1-in-Timed.is c.index-texts-2.is c.as_slice-in-Timed.ensures.value c.as_slice-in-Timed-2.ensures.value c.as_slice-in-Timed-3.ensures.value)
    c.judge_timed.ensures)

pub returns-in-Modulo : goal.returns-in-Modulo
returns-in-Modulo c =
    subst (λ (o : Order). Decides (JudgesOrder (order_in o) (texts_in c.args.texts.now)) c.judge_modulo.result) (sym c.in-Modulo.is)
    (subst (λ (texts : List (List ℕ)). Decides (JudgesOrder (order_in (Modulo c.in-Modulo.order)) texts) c.judge_modulo.result)
    (two_texts c.args.texts.now _ _ _ _ (c.requires.count ∙ ap (λ (o : Order). length (files_of (order_in o))) c.in-Modulo.is) c.index-texts-0-in-Modulo.is c.index-texts-1-in-Modulo.is c.as_slice-in-Modulo.ensures.value c.as_slice-in-Modulo-2.ensures.value)
    c.judge_modulo.ensures)
