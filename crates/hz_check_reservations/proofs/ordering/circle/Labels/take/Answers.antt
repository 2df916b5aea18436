use Rattle.std.proofs.Common.{◌≡◌, ℕ, ◌<◌, List, [], Contains, length, set, Bool, true, subst, sym, ap, ◌∙◌, arith}
use Rattle.std.proofs.lemmas.List.{nil_from_length}
use Rattle.std.proofs.lemmas.List.Elements.{Contains-push}
use Rattle.hz_check_reservations.specs.Circles.{Knowledge, Takes, all_found, knowledge_of}
use Rattle.hz_check_reservations.specs.Graphs.{ends_in}
use Rattle.hz_check_reservations.specs.Walks.{lists_of}
use Rattle.hz_check_reservations.proofs.Taking.{IsTaking, pending_work, pending_falls, taking_begins, taking_goes_on, taking_ends}
use Rattle.hz_check_reservations.proofs.ordering.circle.Labels.take.Goals as goal

pub ends_of-requires : goal.ends_of-requires
ends_of-requires c =
    let low = c.loop-end.invariant.within c.in-Some.end
    (subst (λ (xs : List ℕ). Contains xs c.in-Some.end) (sym c.in-Some.ensures.items) (Contains-push c.pop.new.self.items c.in-Some.end)) in
    omega (arith, c.requires.leads)

pub find_all-requires-clause-leads : goal.find_all-requires-clause-leads
find_all-requires-clause-leads c = λ node h.
    omega (arith, c.requires.inside c.in-Some.end node (subst (λ (xs : List ℕ). Contains xs node) c.ends_of.ensures h), c.requires.leads, c.loop-end.invariant.size)

pub find_all-requires-clause-taken : goal.find_all-requires-clause-taken
find_all-requires-clause-taken c = λ node h.
    omega (arith, c.requires.inside c.in-Some.end node (subst (λ (xs : List ℕ). Contains xs node) c.ends_of.ensures h), c.requires.taken, ap length c.loop-end.invariant.taken)

pub loop-end-init : goal.loop-end-init
loop-end-init c =
    let starts = ends_in (lists_of c.args.starts.now) in
    let old = knowledge_of c.args.self.now in
    let begun = taking_begins starts c.args.node old c.requires.ready (omega (arith, c.requires.node, c.requires.leads)) in
    subst (λ (xs : List ℕ). IsTaking starts c.args.node old (record { leads = old.leads; taken = old.taken; pending = xs })) (sym c.in_ok-push.ensures.items) begun

pub loop-end-preserved : goal.loop-end-preserved
loop-end-preserved c =
    let starts = ends_in (lists_of c.args.starts.now) in
    let old = knowledge_of c.args.self.now in
    let k = knowledge_of c.loop-end.self in
    let popped : Knowledge = record { leads = k.leads; taken = k.taken; pending = c.pop.new.self.items } in
    let new : knowledge_of c.find_all.new.self ≡ all_found (starts c.in-Some.end) popped = c.in_ok-find_all.ensures ∙ ap (λ (xs : List ℕ). all_found xs popped) c.ends_of.ensures in
    subst (IsTaking starts c.args.node old) (sym new)
    (taking_goes_on starts c.args.node old k c.pop.new.self.items c.in-Some.end c.in-Some.ensures.items c.loop-end.invariant
    (λ v h. omega (arith, c.requires.inside c.in-Some.end v h, c.requires.leads)))

pub loop-end-smaller : goal.loop-end-smaller
loop-end-smaller c =
    let starts = ends_in (lists_of c.args.starts.now) in
    let old = knowledge_of c.args.self.now in
    let k = knowledge_of c.loop-end.self in
    let popped : Knowledge = record { leads = k.leads; taken = k.taken; pending = c.pop.new.self.items } in
    let new : knowledge_of c.find_all.new.self ≡ all_found (starts c.in-Some.end) popped = c.in_ok-find_all.ensures ∙ ap (λ (xs : List ℕ). all_found xs popped) c.ends_of.ensures in
    subst (λ (n : Knowledge). pending_work n < pending_work k) (sym new)
    (pending_falls starts c.args.node old k c.pop.new.self.items c.in-Some.end c.in-Some.ensures.items c.loop-end.invariant
    (λ v h. omega (arith, c.requires.inside c.in-Some.end v h, c.requires.leads)))

pub returns : goal.returns
returns c =
    let starts = ends_in (lists_of c.args.starts.now) in
    let old = knowledge_of c.args.self.now in
    let k = knowledge_of c.loop-end.self in
    let none : k.pending ≡ [] = nil_from_length k.pending (omega (arith, c.in_default.ensures.cases.0)) in
    let left : c.pop.new.self.items ≡ [] = nil_from_length c.pop.new.self.items (omega (arith, c.in_default.ensures.cases.1)) in
    let ended = taking_ends starts c.args.node old k none c.loop-end.invariant in
    let marked : set old.taken c.args.node true ≡ set k.taken c.args.node true = ap (λ (b : List Bool). set b c.args.node true) (sym c.loop-end.invariant.taken) in
    subst (λ (xs : List ℕ). Takes starts c.args.node old (record { leads = k.leads; taken = set k.taken c.args.node true; pending = xs })) (none ∙ sym left)
    (subst (λ (b : List Bool). Takes starts c.args.node old (record { leads = k.leads; taken = b; pending = k.pending })) marked ended)
