use Rattle.std.proofs.Common.{◌≡◌, ◌≢◌, ◌<◌, ◌++◌, ◌∷◌, [], ℕ, List, map, take, length, get_or, ap, sym, ◌∙◌, subst}
use Rattle.std.specs.List.{AllPairs}
use Rattle.std.proofs.lemmas.List.{map_push}
use Rattle.hz_pipeline_model.specs.Tables.Machines.{Part}
use Rattle.hz_tables.specs.Machines.{machine_of}
use Rattle.hz_tables.specs.declared.part.Part as declared
use Rattle.hz_replay.specs.Names.{names_in, all_names_in}
use Rattle.hz_replay.proofs.NameLemmas.{asks_apart, units_more}
use Rattle.hz_replay.proofs.names.units_of.Goals as goal

pub set_of-requires : goal.set_of-requires
set_of-requires c =
    let machine = c.args.machine.now in
    let i = c.loop-part.part-index in
    let part = c.part-item.result in
    let parts = c.deref-part-items.ensures.value in
    let low : i < length machine.parts.items = subst (λ (ps : List declared.Part). i < length ps) parts c.loop-part-test.true in
    let is : part ≡ get_or machine.parts.items i part = subst (λ (ps : List declared.Part). part ≡ get_or ps i part) parts c.part-item.is in
    subst (AllPairs (λ a b. a ≢ b)) (sym c.deref.ensures.value) (asks_apart machine i part low is machine.kept)

pub loop-part-preserved : goal.loop-part-preserved
loop-part-preserved c =
    let machine = c.args.machine.now in
    let i = c.loop-part.part-index in
    let part = c.part-item.result in
    let parts = c.deref-part-items.ensures.value in
    let low : i < length machine.parts.items = subst (λ (ps : List declared.Part). i < length ps) parts c.loop-part-test.true in
    let is : part ≡ get_or machine.parts.items i part = subst (λ (ps : List declared.Part). part ≡ get_or ps i part) parts c.part-item.is in
    let set = c.in_ok-set.set in
    let named : names_in set.keys ≡ part.asks.items = c.in_ok-set.ensures ∙ c.deref.ensures.value in
    ap all_names_in c.in_ok-push.ensures.items
    ∙ (map_push (λ (s : _). names_in s.keys) c.loop-part.units.items set
    ∙ (ap (λ (ns : List (List (List ℕ))). ns ++ names_in set.keys ∷ []) c.loop-part.invariant
    ∙ (ap (λ (ns : List (List ℕ)). map (λ (p : Part). p.asks) (take i (machine_of machine).parts) ++ ns ∷ []) named ∙ sym (units_more machine i part low is))))
