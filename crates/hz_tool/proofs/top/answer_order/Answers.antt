use Rattle.std.proofs.Common.{◌≡◌, List, None, map, ap, ◌∙◌, subst}
use Rattle.std.specs.Prelude.{Contains}
use Rattle.hz_answer_model.specs.Answers.{JudgesOrder, files_of}
use Rattle.hz_front_model.specs.Phases.{FileWord}
use Rattle.hz_front.proofs.ReadLemmas.{read_names, reads_all, refuses_all}
use Rattle.hz_front.specs.Reading.{AreRead, IsReadRefusal, IsUnread, texts_in, wanted_in}
use Rattle.hz_front.specs.Refusals.{Agrees}
use Rattle.hz_tool_words.specs.Shape.{order_in}
use Rattle.hz_tool.proofs.DecideLemmas.{decides_answers, decides_counts, decides_names, decides_ordered, decides_tells}
use Rattle.hz_tool.specs.Deciding.{Decides, IsFileOf, decided_in}
use Rattle.hz_tool.proofs.top.answer_order.Goals as goal

pub returns-in-Ok-read_all-clause-counts : goal.returns-in-Ok-read_all-clause-counts
returns-in-Ok-read_all-clause-counts g c = decides_counts (JudgesOrder (order_in c.args.order.now) (texts_in c.as_slice-in-Ok-read_all.result.now)) _ _ c.judge_order.result c.judge_order.ensures c.in-Ok-read_all.ensures.counts

pub returns-in-Ok-read_all-clause-order : goal.returns-in-Ok-read_all-clause-order
returns-in-Ok-read_all-clause-order g c = decides_ordered (JudgesOrder (order_in c.args.order.now) (texts_in c.as_slice-in-Ok-read_all.result.now)) c.judge_order.result c.judge_order.ensures

pub returns-in-Ok-read_all-clause-tells : goal.returns-in-Ok-read_all-clause-tells
returns-in-Ok-read_all-clause-tells g c = decides_tells (JudgesOrder (order_in c.args.order.now) (texts_in c.as_slice-in-Ok-read_all.result.now)) c.judge_order.result c.judge_order.ensures

pub returns-in-Ok-read_all-clause-file : goal.returns-in-Ok-read_all-clause-file
returns-in-Ok-read_all-clause-file g c = decides_names (JudgesOrder (order_in c.args.order.now) (texts_in c.as_slice-in-Ok-read_all.result.now)) (IsFileOf (order_in c.args.order.now)) c.judge_order.result c.judge_order.ensures

pub returns-in-Ok-read_all-clause-lacks : goal.returns-in-Ok-read_all-clause-lacks
returns-in-Ok-read_all-clause-lacks g c = λ held reported steady. decides_names (JudgesOrder (order_in c.args.order.now) (texts_in c.as_slice-in-Ok-read_all.result.now)) (λ name. held name ≡ None) c.judge_order.result c.judge_order.ensures

pub returns-in-Ok-read_all-clause-answer : goal.returns-in-Ok-read_all-clause-answer
returns-in-Ok-read_all-clause-answer g c = λ held reported known.
    let order = order_in c.args.order.now in
    let texts = texts_in c.in-Ok-read_all.texts.items in
    let wanted : wanted_in c.as_slice.result.now ≡ files_of order = ap wanted_in c.as_slice.ensures.value ∙ c.in-Ok.ensures.words in
    let read = subst (λ (files : List FileWord). AreRead held files texts) wanted (c.in-Ok-read_all.ensures.read held reported) in
    reads_all held (files_of order) texts (JudgesOrder order) (decided_in c.judge_order.result) read
    (decides_answers (JudgesOrder order texts) c.judge_order.result (subst (λ (ts : List _). Decides (JudgesOrder order (texts_in ts)) c.judge_order.result) c.as_slice-in-Ok-read_all.ensures.value c.judge_order.ensures))

pub returns-clause-file : goal.returns-clause-file
returns-clause-file g c =
    let order = order_in c.args.order.now in
    let wanted : wanted_in c.as_slice.result.now ≡ files_of order = ap wanted_in c.as_slice.ensures.value ∙ c.in-Ok.ensures.words in
    read_names (Contains (map (λ file. file.name) (files_of order))) c.in-Err.refusal
    (subst (λ (files : List FileWord). IsReadRefusal (Contains (map (λ file. file.name) files)) c.in-Err.refusal) wanted c.in-Err.ensures.kind)

pub returns-clause-answer : goal.returns-clause-answer
returns-clause-answer g c = λ held reported known.
    let order = order_in c.args.order.now in
    let wanted : wanted_in c.as_slice.result.now ≡ files_of order = ap wanted_in c.as_slice.ensures.value ∙ c.in-Ok.ensures.words in
    refuses_all held (files_of order) (JudgesOrder order) c.in-Err.refusal
    (subst (λ (files : List FileWord). Agrees (IsUnread held files) c.in-Err.refusal) wanted (c.in-Err.ensures.refused held reported known))
