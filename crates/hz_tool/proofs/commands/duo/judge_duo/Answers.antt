use Rattle.std.proofs.Common.{◌≡◌, ◌+◌, ℕ, List, Bool, true, false, length, nat_lt, sym, ap₂, ◌∙◌}
use Rattle.std.proofs.lemmas.Bool.{ltb-false}
use Rattle.std.proofs.lemmas.List.{length-map}
use Rattle.hz_answer_model.specs.BlockAnswers.{HasAtMost, HasBlock}
use Rattle.hz_answer_model.specs.DuoAnswers.{SchedulesBlocks, SchedulesTwo, StartsTwo}
use Rattle.hz_answer_model.specs.Headline.{IsBlockIn}
use Rattle.hz_answer_model.specs.ScheduleAnswers.{HasClasses}
use Rattle.hz_block_model.proofs.Scheduled.GraphLaws.{all_have_classes}
use Rattle.hz_block_model.specs.Running.Blocks.{Instruction}
use Rattle.hz_block_model.specs.Running.Limits.{instruction_limit}
use Rattle.hz_block_model.specs.Scheduled.BlockGraphs.{classes_of}
use Rattle.hz_front.specs.declared.refusal.Refusal.TheVariants.{Insns}
use Rattle.hz_rtl.specs.Shape.{instruction, instructions}
use Rattle.hz_rtl.specs.declared.block.Block.{Block}
use Rattle.hz_sched.specs.Shape.{graph_of}
use Rattle.hz_tool.proofs.BlockLemmas.{graph_size, is_graph}
use Rattle.hz_tool.proofs.CommandLemmas.{compiled_then, decided_then, front_machine, refused_then, uncompiled, whole}
use Rattle.hz_tool.proofs.DecideLemmas.{refuses_weaker}
use Rattle.hz_tool.proofs.JudgeLemmas.{block_else, block_then, classes_else, classes_then, few_then, many_reported}
use Rattle.hz_tool.proofs.MachineLemmas.{classes_named}
use Rattle.hz_tool.specs.Deciding.{Nothing}
use Rattle.hz_tool.specs.Fronts.{IsFrontOf}
use Rattle.hz_tool.specs.declared.phases.compiling.Front.{Front}
use Rattle.hz_tool.proofs.commands.duo.judge_duo.Goals as goal

-- how many instructions there are, of the blocks as they are held and of the definitions
counted : (one other : Block) (b : Bool) → b ≡ nat_lt instruction_limit (length one.insns.items + length other.insns.items) → nat_lt instruction_limit (length (instructions one) + length (instructions other)) ≡ b
counted one other b is = ap₂ (λ (m n : ℕ). nat_lt instruction_limit (m + n)) (length-map one.insns.items instruction) (length-map other.insns.items instruction) ∙ sym is

pub returns-in_err-front : goal.returns-in_err-front
returns-in_err-front c =
    let order = c.args.order.now in
    uncompiled order.description.now c.args.described.now (SchedulesBlocks order.first.now c.args.first.now order.second.now c.args.second.now) c.from_residual.result c.in_err-front.field-0.0 c.from_residual.ensures.1 c.in_err-front.ensures

pub returns-in_err-one : goal.returns-in_err-one
returns-in_err-one c =
    let order = c.args.order.now in
    let a = order.first.now in
    let b = order.second.now in
    let is = c.in_ok-front.ensures in
    refused_then order.description.now c.args.described.now (SchedulesBlocks a c.args.first.now b c.args.second.now) c.in_ok-front.front is (HasBlock a c.args.first.now (λ insns. Nothing))
    (block_else a c.args.first.now (λ mine. HasBlock b c.args.second.now (λ yours. HasAtMost instruction_limit (length mine + length yours) b (SchedulesTwo a b is.checked.d is.checked.is.known mine yours))))
    c.from_residual-in_err-one.result c.in_err-one.field-0.0 c.from_residual-in_err-one.ensures.1 (c.in_err-one.ensures.kind, c.in_err-one.ensures.err)

pub returns-in_err-other : goal.returns-in_err-other
returns-in_err-other c =
    let order = c.args.order.now in
    let a = order.first.now in
    let b = order.second.now in
    let is = c.in_ok-front.ensures in
    let mine = instructions c.in_ok-one.one in
    refused_then order.description.now c.args.described.now (SchedulesBlocks a c.args.first.now b c.args.second.now) c.in_ok-front.front is (HasBlock b c.args.second.now (λ insns. Nothing))
    (λ s t h. block_then a c.args.first.now (λ mine. HasBlock b c.args.second.now (λ yours. HasAtMost instruction_limit (length mine + length yours) b (SchedulesTwo a b is.checked.d is.checked.is.known mine yours))) mine c.in_ok-one.ensures.ok s t
    (block_else b c.args.second.now (λ yours. HasAtMost instruction_limit (length mine + length yours) b (SchedulesTwo a b is.checked.d is.checked.is.known mine yours)) s t h))
    c.from_residual-in_err-other.result c.in_err-other.field-0.0 c.from_residual-in_err-other.ensures.1 (c.in_err-other.ensures.kind, c.in_err-other.ensures.err)

-- what is answered of both blocks, once they are read
both_then : (bytes a first b second : List ℕ) (front : Front) (is : IsFrontOf bytes front) (mine yours : List Instruction) → IsBlockIn first mine → IsBlockIn second yours → (s : ℕ) (t : List ℕ)
    → HasAtMost instruction_limit (length mine + length yours) b (SchedulesTwo a b is.checked.d is.checked.is.known mine yours) s t → SchedulesBlocks a first b second is.checked.d is.checked.is.known s t
both_then bytes a first b second front is mine yours one other s t h =
    block_then a first (λ mine. HasBlock b second (λ yours. HasAtMost instruction_limit (length mine + length yours) b (SchedulesTwo a b is.checked.d is.checked.is.known mine yours))) mine one s t
    (block_then b second (λ yours. HasAtMost instruction_limit (length mine + length yours) b (SchedulesTwo a b is.checked.d is.checked.is.known mine yours)) yours other s t h)

pub returns-then-are_many : goal.returns-then-are_many
returns-then-are_many c =
    let order = c.args.order.now in
    let a = order.first.now in
    let b = order.second.now in
    let is = c.in_ok-front.ensures in
    let mine = instructions c.in_ok-one.one in
    let yours = instructions c.in_ok-other.other in
    let more = SchedulesTwo a b is.checked.d is.checked.is.known mine yours in
    refuses_weaker (HasAtMost instruction_limit (length mine + length yours) b more) (whole order.description.now c.args.described.now (SchedulesBlocks a c.args.first.now b c.args.second.now))
    (λ s t h. compiled_then order.description.now c.args.described.now (SchedulesBlocks a c.args.first.now b c.args.second.now) c.in_ok-front.front is s t
    (both_then c.args.described.now a c.args.first.now b c.args.second.now c.in_ok-front.front is mine yours c.in_ok-one.ensures.ok c.in_ok-other.ensures.ok s t h))
    (Insns order.second) (tt, many_reported instruction_limit (length mine + length yours) b more (counted c.in_ok-one.one c.in_ok-other.other true c.if-are_many.ensures))

pub judge_graph-requires-clause-classes : goal.judge_graph-requires-clause-classes
judge_graph-requires-clause-classes c = c.in_ok-front.ensures.classes

pub judge_graph-requires-2-clause-classes : goal.judge_graph-requires-2-clause-classes
judge_graph-requires-2-clause-classes c = c.in_ok-front.ensures.classes

pub returns-in_err-mine : goal.returns-in_err-mine
returns-in_err-mine c =
    let order = c.args.order.now in
    let a = order.first.now in
    let b = order.second.now in
    let front = c.in_ok-front.front in
    let is = c.in_ok-front.ensures in
    let d = is.checked.d in
    let known = is.checked.is.known in
    let mine = instructions c.in_ok-one.one in
    let yours = instructions c.in_ok-other.other in
    refused_then order.description.now c.args.described.now (SchedulesBlocks a c.args.first.now b c.args.second.now) front is (HasClasses a d mine Nothing)
    (λ s t h. both_then c.args.described.now a c.args.first.now b c.args.second.now front is mine yours c.in_ok-one.ensures.ok c.in_ok-other.ensures.ok s t
    (few_then instruction_limit (length mine + length yours) b (SchedulesTwo a b d known mine yours) (counted c.in_ok-one.one c.in_ok-other.other false c.if-are_many.ensures) s t
    (classes_else a d mine (HasClasses b d yours (StartsTwo a b d known mine yours)) s t h)))
    c.from_residual-in_err-mine.result c.in_err-mine.field-0.0 c.from_residual-in_err-mine.ensures.1 (c.in_err-mine.ensures.kind, c.in_err-mine.ensures.err d is.checked.is (classes_named (front_machine c.args.described.now front is)))

pub returns-in_err-yours : goal.returns-in_err-yours
returns-in_err-yours c =
    let order = c.args.order.now in
    let a = order.first.now in
    let b = order.second.now in
    let front = c.in_ok-front.front in
    let is = c.in_ok-front.ensures in
    let d = is.checked.d in
    let known = is.checked.is.known in
    let mine = instructions c.in_ok-one.one in
    let yours = instructions c.in_ok-other.other in
    let graph = is_graph d front.checked is.checked.is c.in_ok-one.one c.in_ok-mine.mine c.in_ok-mine.ensures.ok in
    refused_then order.description.now c.args.described.now (SchedulesBlocks a c.args.first.now b c.args.second.now) front is (HasClasses b d yours Nothing)
    (λ s t h. both_then c.args.described.now a c.args.first.now b c.args.second.now front is mine yours c.in_ok-one.ensures.ok c.in_ok-other.ensures.ok s t
    (few_then instruction_limit (length mine + length yours) b (SchedulesTwo a b d known mine yours) (counted c.in_ok-one.one c.in_ok-other.other false c.if-are_many.ensures) s t
    (classes_then a d mine (HasClasses b d yours (StartsTwo a b d known mine yours)) (all_have_classes d (classes_of (graph_of c.in_ok-mine.mine)) mine graph.classes) s t
    (classes_else b d yours (StartsTwo a b d known mine yours) s t h))))
    c.from_residual-in_err-yours.result c.in_err-yours.field-0.0 c.from_residual-in_err-yours.ensures.1 (c.in_err-yours.ensures.kind, c.in_err-yours.ensures.err d is.checked.is (classes_named (front_machine c.args.described.now front is)))

pub schedule_pair-requires-clause-settles : goal.schedule_pair-requires-clause-settles
schedule_pair-requires-clause-settles c = c.in_ok-front.ensures.settles

pub schedule_pair-requires-clause-few : goal.schedule_pair-requires-clause-few
schedule_pair-requires-clause-few c =
    ltb-false instruction_limit (length c.in_ok-one.one.insns.items + length c.in_ok-other.other.insns.items) (sym c.if-are_many.ensures)

pub schedule_pair-requires-clause-size_of_first : goal.schedule_pair-requires-clause-size_of_first
schedule_pair-requires-clause-size_of_first c = graph_size c.in_ok-front.front.checked c.in_ok-one.one c.in_ok-mine.mine c.in_ok-mine.ensures.ok

pub schedule_pair-requires-clause-size_of_second : goal.schedule_pair-requires-clause-size_of_second
schedule_pair-requires-clause-size_of_second c = graph_size c.in_ok-front.front.checked c.in_ok-other.other c.in_ok-yours.yours c.in_ok-yours.ensures.ok

pub returns : goal.returns
returns c =
    let order = c.args.order.now in
    let a = order.first.now in
    let b = order.second.now in
    let front = c.in_ok-front.front in
    let is = c.in_ok-front.ensures in
    let machine = front_machine c.args.described.now front is in
    let d = is.checked.d in
    let known = is.checked.is.known in
    let mine = instructions c.in_ok-one.one in
    let yours = instructions c.in_ok-other.other in
    let both = StartsTwo a b d known mine yours in
    let first = is_graph d front.checked is.checked.is c.in_ok-one.one c.in_ok-mine.mine c.in_ok-mine.ensures.ok in
    let second = is_graph d front.checked is.checked.is c.in_ok-other.other c.in_ok-yours.yours c.in_ok-yours.ensures.ok in
    decided_then order.description.now c.args.described.now (SchedulesBlocks a c.args.first.now b c.args.second.now) front is both
    (λ s t h. both_then c.args.described.now a c.args.first.now b c.args.second.now front is mine yours c.in_ok-one.ensures.ok c.in_ok-other.ensures.ok s t
    (few_then instruction_limit (length mine + length yours) b (SchedulesTwo a b d known mine yours) (counted c.in_ok-one.one c.in_ok-other.other false c.if-are_many.ensures) s t
    (classes_then a d mine (HasClasses b d yours both) (all_have_classes d (classes_of (graph_of c.in_ok-mine.mine)) mine first.classes) s t
    (classes_then b d yours both (all_have_classes d (classes_of (graph_of c.in_ok-yours.yours)) yours second.classes) s t h))))
    c.schedule_pair.result (c.schedule_pair.ensures d known machine first second c.in_ok-mine.ensures.ok.numbers c.in_ok-yours.ensures.ok.numbers)
