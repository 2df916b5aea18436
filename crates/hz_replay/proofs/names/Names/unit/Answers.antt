use Rattle.std.proofs.Common.{◌≡◌, ◌+◌, ◌<◌, List, Some, drop, length, get_or, sym, ◌∙◌, subst}
use Rattle.hz_pipeline_model.specs.Traces.TraceNames.{TraceNames, query_from, query_place}
use Rattle.hz_replay.specs.Names.{names_in, all_names_in}
use Rattle.hz_tables.proofs.NameLaws.{query_here, query_later}
use Rattle.hz_replay.proofs.NameLemmas.{names_inside, names_at}
use Rattle.hz_replay.proofs.names.Names.unit.Goals as goal

pub returns-in-Some : goal.returns-in-Some
returns-in-Some c =
    let name = c.args.name.now in
    let sets = c.self.inside.units.items in
    let i = c.loop-part.part in
    let set = c.units-item.result in
    let low : i < length sets = subst (λ (ss : List _). i < length ss) c.deref-units-items.ensures.value c.loop-part-test.true in
    let is : set ≡ get_or sets i set = subst (λ (ss : List _). set ≡ get_or ss i set) c.deref-units-items.ensures.value c.units-item.is in
    let found : query_from i (drop i (all_names_in sets)) name ≡ Some (i, c.in-Some.ask) = query_here name (all_names_in sets) i (names_in set.keys) (names_inside sets i set low is) (names_at sets i set low is) c.in-Some.ask (sym c.place_of.ensures ∙ c.in-Some.is) in
    let seen : query_from i (drop i (all_names_in sets)) name ≡ query_place c.args.self.now name =
    subst (λ (names : TraceNames). query_from i (drop i names.queries) name ≡ query_place c.args.self.now name) (sym c.self.view_is) c.loop-part.invariant in
    sym found ∙ seen

pub loop-part-preserved : goal.loop-part-preserved
loop-part-preserved c =
    let name = c.args.name.now in
    let sets = c.self.inside.units.items in
    let i = c.loop-part.part in
    let set = c.units-item.result in
    let low : i < length sets = subst (λ (ss : List _). i < length ss) c.deref-units-items.ensures.value c.loop-part-test.true in
    let is : set ≡ get_or sets i set = subst (λ (ss : List _). set ≡ get_or ss i set) c.deref-units-items.ensures.value c.units-item.is in
    let later : query_from (i + 1) (drop (i + 1) (all_names_in sets)) name ≡ query_from i (drop i (all_names_in sets)) name = query_later name (all_names_in sets) i (names_in set.keys) (names_inside sets i set low is) (names_at sets i set low is) (sym c.place_of.ensures ∙ c.in_default.is) in
    let all : query_from (i + 1) (drop (i + 1) c.args.self.now.queries) name ≡ query_from i (drop i c.args.self.now.queries) name =
    subst (λ (names : TraceNames). query_from (i + 1) (drop (i + 1) names.queries) name ≡ query_from i (drop i names.queries) name) c.self.view_is later in
    all ∙ c.loop-part.invariant
