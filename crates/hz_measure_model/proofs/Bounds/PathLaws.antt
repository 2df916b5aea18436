-- No legal schedule ends before the greatest tail, and a chain costs the tail that it begins with.
use Rattle.std.proofs.Common.{◌≡◌, ℕ, zero, suc, ◌+◌, ◌<◌, ◌≤◌, ◌⊎◌, inl, inr, ⊎_elim, List, [], ◌∷◌, ◌++◌, length, get_or, Contains, sym, ap, ◌∙◌, subst, arith}
use Rattle.std.specs.Prelude.{slice_index}
use Rattle.std.proofs.lemmas.List.{get_or_default}
use Rattle.std.proofs.lemmas.List.Elements.{Contains-append_left}
use Rattle.hz_base_model.proofs.Elements.{Contains-nil, Contains-cons_cases, Contains-from_map}
use Rattle.hz_pipeline_model.specs.Accepting.Events.{Event}
use Rattle.hz_block_model.specs.Dependences.Graphs.{Edge}
use Rattle.hz_block_model.specs.Scheduling.Schedules.{Graph, Slot, present, Legal}
use Rattle.hz_block_model.proofs.Scheduling.SlotLaws.{below_present}
use Rattle.hz_block_model.proofs.Dependences.HeightLaws.{From, some_from}
use Rattle.hz_measure_model.specs.Bounds.Paths.{greatest, AreTails}

-- the parts of a list round an item
pub record Around {X : Type 0} (xs : List X) (x : X) : Type 0 where
  pub before : List X
  pub after : List X
  pub all : xs ≡ before ++ x ∷ after

pub around : {X : Type 0} (xs : List X) (x : X) → Contains xs x → Around xs x
around [] x there = absurd (Contains-nil x there)
around {X} (y ∷ xs) x there = ⊎_elim
    (λ (e : y ≡ x). record { before = []; after = xs; all = ap (λ (z : X). z ∷ xs) e })
    (λ (m : Contains xs x). let p = around xs x m in record { before = y ∷ p.before; after = p.after; all = ap (λ (zs : List X). y ∷ zs) p.all })
    (Contains-cons_cases y x xs there)

module _ (g : Graph) (tails : List ℕ) (are : AreTails g tails) (upward : (e : Edge) → Contains g.edges e → (e.from < e.to) × (e.to < length g.nodes)) where
  module _ (accepts : List Event → Type 0) (slots : List Slot) (legal : Legal accepts g slots) where
    -- A slot of a place after which there is room for its tail.
    record HasRoom (i : ℕ) : Type 0 where
      slot : Slot
      there : Contains slots slot
      place : slot.place ≡ i
      early : slot.cycle + slice_index tails i ≤ present 0 slots

    slot_of : (i : ℕ) → i < length g.nodes → (x : Slot) × Contains slots x × (x.place ≡ i)
    slot_of i lt = Contains-from_map (λ (x : Slot). x.place) slots i ((legal.order).each i lt)

    -- an edge from a place has room where the place to which it leads has
    before_edge : (e : Edge) → Contains g.edges e → HasRoom e.to → (x : Slot) × Contains slots x × (x.place ≡ e.from) × (x.cycle + e.cost + slice_index tails e.to ≤ present 0 slots)
    before_edge e there room =
        let p = around slots room.slot room.there in
        let (x, inside, place, early) = legal.kept p.before p.after room.slot p.all e there (sym room.place) in
        (x, subst (λ (xs : List Slot). Contains xs x) (sym p.all) (Contains-append_left p.before (room.slot ∷ p.after) x inside), place, omega (arith, early, room.early))

    has_room : (fuel i : ℕ) → i < length g.nodes → length g.nodes ≤ i + fuel → HasRoom i
    has_room zero i lt within = absurd (omega arith)
    has_room (suc fuel) i lt within = go (some_from g.edges i) (λ j more inside. has_room fuel j inside (omega arith))
      where
        go : From g.edges i ⊎ ((e : Edge) → Contains g.edges e → e.from ≡ i → ⊥) → ((j : ℕ) → i < j → j < length g.nodes → HasRoom j) → HasRoom i
        go (inr none) later =
            let (x, inside, place) = slot_of i lt in
            let last = below_present slots 0 legal.rising x inside in
            record { slot = x; there = inside; place = place; early = omega (arith, last, (are.each i lt).none none) }
        go (inl f) later =
            let (e, there, from, is) = (are.each i lt).reached f.edge f.there f.is_from in
            let (up, low) = upward e there in
            let (x, inside, place, early) = before_edge e there (later e.to (omega arith) low) in
            record { slot = x; there = inside; place = place ∙ from; early = omega (arith, early, is) }

    all_below : (ts : List ℕ) (limit : ℕ) → ((i d : ℕ) → i < length ts → get_or ts i d ≤ limit) → greatest ts ≤ limit
    all_below [] limit each = omega arith
    all_below (t ∷ ts) limit each = let rest = all_below ts limit (λ i d lt. each (suc i) d (omega arith)) in let here = each 0 0 (omega arith) in omega (arith, rest, here)

    -- no legal schedule ends before the greatest tail
    pub path_below : greatest tails ≤ present 0 slots
    path_below = all_below tails (present 0 slots) (λ i d lt. let long = are.long in let room = has_room (length g.nodes) i (omega arith) (omega arith) in let early = room.early in omega (arith, early, get_or_default tails i d 0 lt))
