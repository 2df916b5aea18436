-- From which interval on the costs of three turns are kept, by the edges of three copies.
use Rattle.std.proofs.Common.{◌≡◌, ℕ, suc, ◌+◌, ◌*◌, ◌/◌, ◌%◌, ◌-◌, ◌<◌, ◌≤◌, Bool, true, false, cond, max, List, [], ◌∷◌, length, Contains, ⊎_elim, refl, sym, ap, ◌∙◌, subst, mul_comm, arith}
use Rattle.std.specs.Prelude.{◌↔◌, nat_lt}
use Rattle.std.specs.List.{repeat}
use Rattle.std.proofs.lemmas.Bool.{cases_lt, ltb-true, ltb-false}
use Rattle.std.proofs.lemmas.Nat.{div-mul-add, mod-mul-add, div-add-mod', mod_below, div_below, mul-add-lt}
use Rattle.hz_base_model.proofs.Elements.{Contains-nil, Contains-head, Contains-tail, Contains-cons_cases, Contains-map, Contains-from_map}
use Rattle.hz_block_model.specs.Running.Blocks.{Instruction}
use Rattle.hz_block_model.specs.Dependences.Dependences.{depends, Timing, cost}
use Rattle.hz_block_model.specs.Dependences.Graphs.{Edge, edge, IsGraph}
use Rattle.hz_block_model.specs.Dependences.Orders.{IsOrder}
use Rattle.hz_block_model.specs.Scheduling.Schedules.{Slot, places, present}
use Rattle.hz_measure_model.specs.Kernels.Turns.{stages}
use Rattle.hz_measure_model.specs.Kernels.Repeats.{KeepsCosts}
use Rattle.hz_measure_model.proofs.Kernels.UnrollLaws.{length-repeat}
use Rattle.hz_measure_model.proofs.Kernels.DepLaws.{more_copies}
use Rattle.hz_measure_model.proofs.Kernels.CycleLaws.{slot_at}
use Rattle.hz_measure_model.proofs.Kernels.TurnLaws.{from_turns, in_turns}

-- An edge of copies of a body is kept, whose instruction at a place is issued at a cycle.
abbrev pub EdgeKept : (size interval : ℕ) (cycle : ℕ → ℕ) → Edge → Type 0
EdgeKept size interval cycle e = (e.from / size * interval + cycle (e.from % size)) + e.cost ≤ e.to / size * interval + cycle (e.to % size)

module _ (body : List Instruction) (three : Timing) (slots : List Slot) (order : IsOrder (length body) (places slots)) (in_time : (y : Slot) → Contains slots y → y.cycle ≤ present 0 slots)
    (cycle : ℕ → ℕ) (tells : (y : Slot) → Contains slots y → cycle y.place ≡ y.cycle) (edges : List Edge) (graph : IsGraph (repeat 3 body) three edges) where
  low_place : (y : Slot) → Contains slots y → y.place < length body
  low_place y c = order.only y.place (Contains-map (λ (z : Slot). z.place) slots y c)

  at_place : (p : ℕ) → p < length body → (y : Slot) × Contains slots y × (y.place ≡ p)
  at_place p low = Contains-from_map (λ (z : Slot). z.place) slots p (order.each p low)

  some_size : (i n : ℕ) → i < n * length body → 0 < length body
  some_size i n lt = ⊎_elim (λ (pos : 0 < length body). pos) (λ (none : length body ≤ 0). let zero_size : length body ≡ 0 = omega arith in let product = ap (λ (m : ℕ). n * m) zero_size in absurd (omega (arith, lt, product))) (cases_lt 0 (length body))

  -- an edge is kept exactly where its two slots are
  pub edges_kept : (interval : ℕ) → KeepsCosts body three interval slots 3 → (e : Edge) → Contains edges e → EdgeKept (length body) interval cycle e
  edges_kept interval keeps e there =
      let (up, inside, depending, weight) = graph.only e there in
      let long = length-repeat 3 body in
      let size = some_size e.to 3 (omega (arith, inside, long)) in
      let p = div-add-mod' e.from (length body) in
      let q = div-add-mod' e.to (length body) in
      let (y, found, first) = at_place (e.from % length body) (mod_below e.from (length body) size) in
      let (z, also, second) = at_place (e.to % length body) (mod_below e.to (length body) size) in
      let k = div_below e.from (length body) 3 size (omega (arith, up, inside, long)) in
      let l = div_below e.to (length body) 3 size (omega (arith, inside, long)) in
      let time = in_time y found in
      let late = in_time z also in
      let one = more_copies (e.from / length body) 3 interval (omega arith) in
      let other = more_copies (e.to / length body) 3 interval (omega arith) in
      let from : e.from / length body * length body + y.place ≡ e.from = omega (arith, p, first) in
      let to : e.to / length body * length body + z.place ≡ e.to = omega (arith, q, second) in
      let h = keeps (slot_at (e.from / length body * interval + y.cycle) (e.from / length body * length body + y.place)) (slot_at (e.to / length body * interval + z.cycle) (e.to / length body * length body + z.place))
      (in_turns (length body) interval slots 3 (3 * interval + (present 0 slots + 1)) (e.from / length body) y k found (omega arith))
      (in_turns (length body) interval slots 3 (3 * interval + (present 0 slots + 1)) (e.to / length body) z l also (omega arith))
      ((λ i. depends (repeat 3 body) (from i) (to i)) ∙ depending) in
      let costs : e.cost ≡ cost (repeat 3 body) three (e.from / length body * length body + y.place) (e.to / length body * length body + z.place) = weight ∙ (λ i. cost (repeat 3 body) three (sym from i) (sym to i)) in
      let when : cycle (e.from % length body) ≡ y.cycle = ap cycle (sym first) ∙ tells y found in
      let then : cycle (e.to % length body) ≡ z.cycle = ap cycle (sym second) ∙ tells z also in
      omega (arith, h, costs, when, then)

  pub costs_kept : (interval : ℕ) → ((e : Edge) → Contains edges e → EdgeKept (length body) interval cycle e) → KeepsCosts body three interval slots 3
  costs_kept interval each x y here there depending =
      let (f, soon) = from_turns (length body) interval slots 3 (3 * interval + (present 0 slots + 1)) x here in
      let (h, late) = from_turns (length body) interval slots 3 (3 * interval + (present 0 slots + 1)) y there in
      let low = low_place f.slot f.there in
      let high = low_place h.slot h.there in
      let long = length-repeat 3 body in
      let first = mul-add-lt f.turn (length body) f.slot.place 3 f.low low in
      let second = mul-add-lt h.turn (length body) h.slot.place 3 h.low high in
      let kept = each (edge (repeat 3 body) three x.place y.place) (graph.each x.place y.place (omega (arith, f.place, first, long)) (omega (arith, h.place, second, long)) depending) in
      let k : x.place / length body ≡ f.turn = ap (λ (n : ℕ). n / length body) f.place ∙ div-mul-add f.turn (length body) f.slot.place low in
      let l : y.place / length body ≡ h.turn = ap (λ (n : ℕ). n / length body) h.place ∙ div-mul-add h.turn (length body) h.slot.place high in
      let p : cycle (x.place % length body) ≡ f.slot.cycle = ap cycle (ap (λ (n : ℕ). n % length body) f.place ∙ mod-mul-add f.turn (length body) f.slot.place low) ∙ tells f.slot f.there in
      let q : cycle (y.place % length body) ≡ h.slot.cycle = ap cycle (ap (λ (n : ℕ). n % length body) h.place ∙ mod-mul-add h.turn (length body) h.slot.place high) ∙ tells h.slot h.there in
      let one : x.place / length body * interval ≡ f.turn * interval = ap (λ (n : ℕ). n * interval) k in
      let other : y.place / length body * interval ≡ h.turn * interval = ap (λ (n : ℕ). n * interval) l in
      omega (arith, kept, f.cycle, h.cycle, one, other, p, q)

-- The least interval at which an edge between different turns is kept: what lacks in cycles, shared by the turns between, rounded up.
abbrev pub least_for : (size : ℕ) (cycle : ℕ → ℕ) → Edge → ℕ
least_for size cycle e = (((cycle (e.from % size) + e.cost) - cycle (e.to % size)) + ((e.to / size - e.from / size) - 1)) / (e.to / size - e.from / size)

-- a quotient rounded up is at most a number exactly where the number's product is enough
ceil_low : (gap d n : ℕ) → 0 < d → (gap + (d - 1)) / d ≤ n → gap ≤ d * n
ceil_low gap d n some le =
    let parts = div-add-mod' (gap + (d - 1)) d in
    let small = mod_below (gap + (d - 1)) d some in
    let more = more_copies ((gap + (d - 1)) / d) n d le in
    let turned : n * d ≡ d * n = mul_comm n d in
    omega (arith, parts, small, more, turned)

ceil_high : (gap d n : ℕ) → 0 < d → gap ≤ d * n → (gap + (d - 1)) / d ≤ n
ceil_high gap d n some le =
    let turned : n * d ≡ d * n = mul_comm n d in
    let below = div_below (gap + (d - 1)) d (suc n) some (omega (arith, turned)) in
    omega (arith, below)

-- an edge between different turns is kept from its least interval on
pub kept_from : (size interval : ℕ) (cycle : ℕ → ℕ) (e : Edge) → e.from / size < e.to / size → EdgeKept size interval cycle e ↔ (least_for size cycle e ≤ interval)
kept_from size interval cycle e lt = (
  λ kept. ceil_high ((cycle (e.from % size) + e.cost) - cycle (e.to % size)) (e.to / size - e.from / size) interval (omega arith) (let more = spread in omega (arith, kept, more)),
  λ le. let enough = ceil_low ((cycle (e.from % size) + e.cost) - cycle (e.to % size)) (e.to / size - e.from / size) interval (omega arith) le in let more = spread in omega (arith, enough, more),
)
  where
    spread : e.to / size * interval ≡ e.from / size * interval + (e.to / size - e.from / size) * interval
    spread = apart (e.from / size) (e.to / size) (omega arith)
      where
        apart : (a b : ℕ) → a ≤ b → b * interval ≡ a * interval + (b - a) * interval
        apart a b le = let whole : b ≡ a + (b - a) = omega (arith, le) in ap (λ (n : ℕ). n * interval) whole ∙ (let dist : (a + (b - a)) * interval ≡ a * interval + (b - a) * interval = omega arith in dist)

-- an edge inside one turn is kept at every interval or at none
pub kept_inside : (size interval other : ℕ) (cycle : ℕ → ℕ) (e : Edge) → e.from / size ≡ e.to / size → EdgeKept size interval cycle e → EdgeKept size other cycle e
kept_inside size interval other cycle e same kept =
    let one : e.from / size * interval ≡ e.to / size * interval = ap (λ (n : ℕ). n * interval) same in
    let two : e.from / size * other ≡ e.to / size * other = ap (λ (n : ℕ). n * other) same in
    omega (arith, kept, one, two)

-- the greatest of the least intervals of those edges that lead from one copy to another
abbrev pub least_of : (size : ℕ) (cycle : ℕ → ℕ) → List Edge → ℕ
least_of size cycle [] = 0
least_of size cycle (e ∷ edges) = cond (nat_lt (e.from / size) (e.to / size)) (max (least_for size cycle e) (least_of size cycle edges)) (least_of size cycle edges)

low_of : (size : ℕ) (cycle : ℕ → ℕ) (interval : ℕ) (edges : List Edge) → least_of size cycle edges ≤ interval → (e : Edge) → Contains edges e → e.from / size < e.to / size → least_for size cycle e ≤ interval
low_of size cycle interval [] le e there lt = absurd (Contains-nil e there)
low_of size cycle interval (x ∷ edges) le e there lt = go (nat_lt (x.from / size) (x.to / size)) refl le
    (λ rest m. low_of size cycle interval edges rest e m lt)
  where
    go : (b : Bool) → nat_lt (x.from / size) (x.to / size) ≡ b → cond b (max (least_for size cycle x) (least_of size cycle edges)) (least_of size cycle edges) ≤ interval
        → (least_of size cycle edges ≤ interval → Contains edges e → least_for size cycle e ≤ interval) → least_for size cycle e ≤ interval
    go true is h further = ⊎_elim
        (λ (same : x ≡ e). subst (λ (y : Edge). least_for size cycle y ≤ interval) same (omega (arith, h)))
        (λ (m : Contains edges e). further (omega (arith, h)) m)
        (Contains-cons_cases x e edges there)
    go false is h further = ⊎_elim
        (λ (same : x ≡ e). let more = ltb-false (x.from / size) (x.to / size) is in absurd (let less : x.from / size < x.to / size = subst (λ (y : Edge). y.from / size < y.to / size) (sym same) lt in omega (arith, more, less)))
        (λ (m : Contains edges e). further h m)
        (Contains-cons_cases x e edges there)

high_of : (size : ℕ) (cycle : ℕ → ℕ) (interval : ℕ) (edges : List Edge) → ((e : Edge) → Contains edges e → e.from / size < e.to / size → least_for size cycle e ≤ interval) → least_of size cycle edges ≤ interval
high_of size cycle interval [] each = omega arith
high_of size cycle interval (x ∷ edges) each = go (nat_lt (x.from / size) (x.to / size)) refl (high_of size cycle interval edges (λ e m lt. each e (Contains-tail x e edges m) lt))
  where
    go : (b : Bool) → nat_lt (x.from / size) (x.to / size) ≡ b → least_of size cycle edges ≤ interval → cond b (max (least_for size cycle x) (least_of size cycle edges)) (least_of size cycle edges) ≤ interval
    go true is rest = let here = each x (Contains-head x edges) (ltb-true (x.from / size) (x.to / size) is) in omega (arith, here, rest)
    go false is rest = rest

-- a later place stands in no earlier copy
rising_copies : (i j size : ℕ) → 0 < size → i < j → i / size ≤ j / size
rising_copies i j size some lt = ⊎_elim
    (λ (less : j / size < i / size).
    let p = div-add-mod' i size in
    let q = div-add-mod' j size in
    let small = mod_below j size some in
    let more = more_copies (suc (j / size)) (i / size) size (omega arith) in
    absurd (omega (arith, p, q, small, more)))
    (λ (le : i / size ≤ j / size). le)
    (cases_lt (j / size) (i / size))

-- where some interval keeps the costs, an interval keeps them exactly from the least one of the edges on
module _ (body : List Instruction) (three : Timing) (slots : List Slot) (order : IsOrder (length body) (places slots)) (in_time : (y : Slot) → Contains slots y → y.cycle ≤ present 0 slots)
    (cycle : ℕ → ℕ) (tells : (y : Slot) → Contains slots y → cycle y.place ≡ y.cycle) (edges : List Edge) (graph : IsGraph (repeat 3 body) three edges) where
  pub costs_exactly : (other interval : ℕ) → KeepsCosts body three other slots 3 → KeepsCosts body three interval slots 3 ↔ (least_of (length body) cycle edges ≤ interval)
  costs_exactly other interval keeps = (
    (λ kept. high_of (length body) cycle interval edges (λ e there lt. (kept_from (length body) interval cycle e lt).0 (edges_kept body three slots order in_time cycle tells edges graph interval kept e there))),
    (λ le. costs_kept body three slots order in_time cycle tells edges graph interval (λ e there. ⊎_elim
        (λ (lt : e.from / length body < e.to / length body). (kept_from (length body) interval cycle e lt).1 (low_of (length body) cycle interval edges le e there lt))
        (λ (ge : e.to / length body ≤ e.from / length body).
        let (up, inside, depending, weight) = graph.only e there in
        let long = length-repeat 3 body in
        let size = some_size body three slots order in_time cycle tells edges graph e.to 3 (omega (arith, inside, long)) in
        let rising = rising_copies e.from e.to (length body) size up in
        kept_inside (length body) other interval cycle e (omega arith) (edges_kept body three slots order in_time cycle tells edges graph other keeps e there))
        (cases_lt (e.from / length body) (e.to / length body)))),
  )

-- there are few stages exactly from an interval on
pub few_stages : (slots : List Slot) (interval limit : ℕ) → 0 < interval → (stages interval slots ≤ limit) ↔ (present 0 slots / (limit + 1) + 1 ≤ interval)
few_stages slots interval limit some = (
  (λ few.
      let parts = div-add-mod' (present 0 slots) interval in
      let small = mod_below (present 0 slots) interval some in
      let more = more_copies (stages interval slots) limit interval few in
      let turned : interval * (limit + 1) ≡ limit * interval + interval = turn in
      let below = div_below (present 0 slots) (limit + 1) interval (omega arith) (omega (arith, parts, small, more, turned)) in
      omega (arith, below)),
  (λ le.
      let parts = div-add-mod' (present 0 slots) (limit + 1) in
      let small = mod_below (present 0 slots) (limit + 1) (omega arith) in
      let more = more_copies (present 0 slots / (limit + 1) + 1) interval (limit + 1) le in
      let turned : interval * (limit + 1) ≡ limit * interval + interval = turn in
      let step : (present 0 slots / (limit + 1) + 1) * (limit + 1) ≡ present 0 slots / (limit + 1) * (limit + 1) + (limit + 1) = product (present 0 slots / (limit + 1)) in
      let wide : (limit + 1) * interval ≡ limit * interval + interval = omega arith in
      let below = div_below (present 0 slots) interval (limit + 1) some (omega (arith, parts, small, more, turned, step, wide)) in
      omega (arith, below)),
)
  where
    turn : interval * (limit + 1) ≡ limit * interval + interval
    turn = mul_comm interval (limit + 1) ∙ (let dist : (limit + 1) * interval ≡ limit * interval + interval = omega arith in dist)

    product : (q : ℕ) → (q + 1) * (limit + 1) ≡ q * (limit + 1) + (limit + 1)
    product q = omega arith
