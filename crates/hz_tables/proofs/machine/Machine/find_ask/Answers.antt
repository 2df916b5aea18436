use Rattle.std.proofs.Common.{◌≡◌, ◌<◌, ◌≤◌, ℕ, List, length, get_or, sym, ap, ◌∙◌, subst}
use Rattle.hz_base_model.specs.Limits.{unit_limit}
use Rattle.hz_base_model.specs.Lines.{place_of}
use Rattle.hz_pipeline_model.specs.Tables.MachineNames.{names_of_machine}
use Rattle.hz_tables.specs.Machines.{machine_of}
use Rattle.hz_tables.specs.declared.part.Part as declared
use Rattle.hz_tables.proofs.NameLaws.{query_here, query_later}
use Rattle.hz_tables.proofs.PartLaws.{few_asks, asks_at, asks_inside}
use Rattle.hz_tables.proofs.machine.Machine.find_ask.Goals as goal

pub place_of-requires : goal.place_of-requires
place_of-requires c =
    let machine = c.args.self.now in
    let i = c.loop-part.part in
    let part = c.one-item.result in
    let low : i < length machine.parts.items = subst (λ (ps : List declared.Part). i < length ps) c.deref-one-items.ensures.value c.loop-part-test.true in
    let is : part ≡ get_or machine.parts.items i part = subst (λ (ps : List declared.Part). part ≡ get_or ps i part) c.deref-one-items.ensures.value c.one-item.is in
    subst (λ (ns : List (List ℕ)). length ns ≤ unit_limit) (sym c.deref.ensures.value) (few_asks machine i part low is machine.kept)

pub returns-in-Some : goal.returns-in-Some
returns-in-Some c =
    let machine = c.args.self.now in
    let i = c.loop-part.part in
    let part = c.one-item.result in
    let name = c.args.name.now in
    let low : i < length machine.parts.items = subst (λ (ps : List declared.Part). i < length ps) c.deref-one-items.ensures.value c.loop-part-test.true in
    let is : part ≡ get_or machine.parts.items i part = subst (λ (ps : List declared.Part). part ≡ get_or ps i part) c.deref-one-items.ensures.value c.one-item.is in
    let there = ap (place_of name) (sym c.deref.ensures.value) ∙ (sym c.place_of.ensures ∙ c.in-Some.is) in
    sym (query_here name (names_of_machine (machine_of machine)).queries i part.asks.items (asks_inside machine i part low is) (asks_at machine i part low is) c.in-Some.ask there) ∙ c.loop-part.invariant

pub loop-part-preserved : goal.loop-part-preserved
loop-part-preserved c =
    let machine = c.args.self.now in
    let i = c.loop-part.part in
    let part = c.one-item.result in
    let name = c.args.name.now in
    let low : i < length machine.parts.items = subst (λ (ps : List declared.Part). i < length ps) c.deref-one-items.ensures.value c.loop-part-test.true in
    let is : part ≡ get_or machine.parts.items i part = subst (λ (ps : List declared.Part). part ≡ get_or ps i part) c.deref-one-items.ensures.value c.one-item.is in
    let none = ap (place_of name) (sym c.deref.ensures.value) ∙ (sym c.place_of.ensures ∙ c.in_default.is) in
    query_later name (names_of_machine (machine_of machine)).queries i part.asks.items (asks_inside machine i part low is) (asks_at machine i part low is) none ∙ c.loop-part.invariant
