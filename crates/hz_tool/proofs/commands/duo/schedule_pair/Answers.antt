use Rattle.std.proofs.Common.{inl, refl, ◌∙◌, length, arith}
use Rattle.std.proofs.lemmas.List.{length-map}
use Rattle.hz_block_model.proofs.Scheduled.GraphLaws.{as_many}
use Rattle.hz_block_model.specs.Scheduling.Machines.{cannot_start_alone}
use Rattle.hz_rtl.specs.Shape.{instructions}
use Rattle.hz_sched.specs.Shape.{graph_of, node_of}
use Rattle.hz_tables.specs.Machines.{machine_of}
use Rattle.hz_tool.proofs.DuoLemmas.{none_reported, pair_is, pair_refused, pair_reported, pair_within}
use Rattle.hz_tool.proofs.MachineLemmas.{classes_count, classes_named}
use Rattle.hz_tool.proofs.SlotLemmas.{nodes_below, schedule_is}
use Rattle.hz_tool.proofs.StartLemmas.{each_starts}
use Rattle.hz_tool.proofs.commands.duo.schedule_pair.Goals as goal

pub duo-requires-clause-few : goal.duo-requires-clause-few
duo-requires-clause-few c = let few = c.requires.few in let first = c.requires.size_of_first in let second = c.requires.size_of_second in omega (arith, few, first, second)

pub refuse_pair-requires : goal.refuse_pair-requires
refuse_pair-requires c =
    let m = machine_of c.args.machine in
    pair_within (length c.args.one.now.insns.items) (length c.args.other.now.insns.items) m (graph_of c.args.first) (graph_of c.args.second) c.in-Err.fault
    (length-map c.args.first.insns.items node_of ∙ c.requires.size_of_first) (length-map c.args.second.insns.items node_of ∙ c.requires.size_of_second) c.in-Err.ensures.fault

pub returns-in-Err : goal.returns-in-Err
returns-in-Err c = λ d known machine first second numbers more.
    let m = machine_of c.args.machine in
    let g = graph_of c.args.first in
    let h = graph_of c.args.second in
    let mine = nodes_below (length m.classes) (length d.classes) c.args.first c.requires.first.classes (classes_count d known m machine) in
    let yours = nodes_below (length m.classes) (length d.classes) c.args.second c.requires.second.classes (classes_count d known m machine) in (
      c.refuse_pair.ensures.kind,
      pair_refused d known m machine c.args.one.now.insns.items c.args.other.now.insns.items g h first second mine yours c.args.order.now.first c.args.order.now.second c.in-Err.fault c.refuse_pair.result c.in-Err.ensures.fault c.refuse_pair.ensures.answer,
    )

pub returns-in-Ok-cycles_alone-2 : goal.returns-in-Ok-cycles_alone-2
returns-in-Ok-cycles_alone-2 c = λ d known machine first second numbers more.
    let m = machine_of c.args.machine in
    let g = graph_of c.args.first in
    let h = graph_of c.args.second in
    let one = instructions c.args.one.now in
    let other = instructions c.args.other.now in
    let mine = nodes_below (length m.classes) (length d.classes) c.args.first c.requires.first.classes (classes_count d known m machine) in
    let yours = nodes_below (length m.classes) (length d.classes) c.args.second c.requires.second.classes (classes_count d known m machine) in
    let (none, also) = none_reported (cannot_start_alone m g) (cannot_start_alone m h) c.in-Ok.ensures.fault in
    let both = c.in-Ok.ensures.schedule in
    let alone = c.in-Ok-cycles_alone.ensures in
    let late = c.in-Ok-cycles_alone-2.ensures in (
      record { slots = c.in-Ok.ensures.range; first = c.requires.first.classes; second = c.requires.second.classes },
      inl (
        each_starts d known m machine g one first mine none,
        inl (
          each_starts d known m machine h other second yours also,
          (
            g,
            h,
            both.all,
            alone.slots,
            late.slots,
            pair_is d known m machine one other g h both.all first second mine yours both.legal both.greedy,
            schedule_is d known m one g alone.slots machine first mine alone.legal alone.greedy,
            schedule_is d known m other h late.slots machine second yours late.legal late.greedy,
            (refl, pair_reported d m.classes c.args.one.now c.args.other.now c.args.first c.args.second c.in-Ok.slots.items both.all alone.slots late.slots c.in-Ok-cycles_alone.first_alone c.in-Ok-cycles_alone-2.second_alone (classes_named machine) numbers more both.same (as_many d one g first) alone.last late.last),
          ),
        ),
      ),
    )
