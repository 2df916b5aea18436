-- One more slot: its trace, the present cycle, and the fronts of slots.
use Rattle.std.proofs.Common.{◌≡◌, ℕ, ◌-◌, ◌<◌, ◌≤◌, Bool, cond, ⊎_elim, List, [], ◌∷◌, ◌++◌, All, Contains, refl, sym, ap, ◌∙◌, append_assoc, arith}
use Rattle.std.specs.List.{AllPairs}
use Rattle.std.proofs.lemmas.Bool.{lt-ltb}
use Rattle.hz_base_model.proofs.Elements.{Contains-nil, Contains-cons_cases}
use Rattle.hz_base_model.proofs.Ascending.{AllPairs-head, AllPairs-tail, AllPairs-append}
use Rattle.hz_pipeline_model.specs.Accepting.Events.{Event, issue, advance}
use Rattle.hz_block_model.specs.Scheduling.Schedules.{Graph, Slot, class_at, places, present, advance_to, spelled}
use Rattle.hz_block_model.proofs.Scheduling.OneSchedule.{Rises}

-- ---- traces

pub spelled-push : (g : Graph) (cycle : ℕ) (slots : List Slot) (x : Slot) → spelled g cycle (slots ++ x ∷ []) ≡ spelled g cycle slots ++ (advance_to (present cycle slots) x.cycle ++ issue (class_at g x.place) ∷ [])
spelled-push g cycle [] x = refl
spelled-push g cycle (y ∷ slots) x =
    ap (λ (t : List Event). advance_to cycle y.cycle ++ issue (class_at g y.place) ∷ t) (spelled-push g y.cycle slots x)
    ∙ sym (append_assoc (advance_to cycle y.cycle) (issue (class_at g y.place) ∷ spelled g y.cycle slots) (advance_to (present y.cycle slots) x.cycle ++ issue (class_at g x.place) ∷ []))

pub present-push : (cycle : ℕ) (slots : List Slot) (x : Slot) → present cycle (slots ++ x ∷ []) ≡ x.cycle
present-push cycle [] x = refl
present-push cycle (y ∷ slots) x = present-push y.cycle slots x

-- the advance to a later cycle
pub advances_later : (cycle later : ℕ) → cycle < later → advance_to cycle later ≡ advance (later - cycle) ∷ []
advances_later cycle later lt = ap (λ (b : Bool). cond b (advance (later - cycle) ∷ []) []) (lt-ltb cycle later lt)

-- ---- rising slots

above_all : (slots : List Slot) (cycle : ℕ) → All (λ x. cycle ≤ x.cycle) slots → AllPairs Rises slots → cycle ≤ present cycle slots
above_all [] cycle all rising = omega arith
above_all (y ∷ slots) cycle all rising =
    let first : cycle ≤ y.cycle = all 0 y (omega arith) in
    let rest = above_all slots y.cycle (AllPairs-head Rises y slots rising) (AllPairs-tail Rises y slots rising) in
    omega arith

-- no slot is later than the present cycle
pub below_present : (slots : List Slot) (cycle : ℕ) → AllPairs Rises slots → (x : Slot) → Contains slots x → x.cycle ≤ present cycle slots
below_present [] cycle rising x h = absurd (Contains-nil x h)
below_present (y ∷ slots) cycle rising x h = ⊎_elim
    (λ (e : y ≡ x). let rest = above_all slots y.cycle (AllPairs-head Rises y slots rising) (AllPairs-tail Rises y slots rising) in let same = ap (λ (z : Slot). z.cycle) e in omega arith)
    (λ (m : Contains slots x). below_present slots y.cycle (AllPairs-tail Rises y slots rising) x m)
    (Contains-cons_cases y x slots h)

pub rising-push : (slots : List Slot) (y : Slot) → AllPairs Rises slots → present 0 slots ≤ y.cycle → AllPairs Rises (slots ++ y ∷ [])
rising-push slots y rising le = AllPairs-append Rises slots (y ∷ []) rising (λ i j d lt inside. absurd (omega (arith, inside))) above
  where
    above : (a b : Slot) → Contains slots a → Contains (y ∷ []) b → a.cycle ≤ b.cycle
    above a b there last = ⊎_elim
        (λ (e : y ≡ b). let low = below_present slots 0 rising a there in let same = ap (λ (z : Slot). z.cycle) e in omega arith)
        (λ (m : Contains [] b). absurd (Contains-nil b m))
        (Contains-cons_cases y b [] last)

-- ---- fronts of slots

-- A slot of slots after which one more stands: the last, or one of those before it.
pub data Split (slots : List Slot) (y : Slot) (before : List Slot) (x : Slot) : Type 0 where
  last : slots ≡ before → y ≡ x → Split slots y before x
  earlier : (rest : List Slot) → slots ≡ before ++ x ∷ rest → Split slots y before x

pub split : (slots : List Slot) (y : Slot) (before after : List Slot) (x : Slot) → slots ++ y ∷ [] ≡ before ++ x ∷ after → Split slots y before x
split [] y [] after x e = last refl (let same : y ≡ x = cc in same)
split [] y (b ∷ []) after x e = absurd (cc)
split [] y (b ∷ (d ∷ before)) after x e = absurd (cc)
split (z ∷ slots) y [] after x e = earlier slots (let same : z ≡ x = cc in ap (λ (w : Slot). w ∷ slots) same)
split (z ∷ slots) y (b ∷ before) after x e = more (split slots y before after x (let tails : slots ++ y ∷ [] ≡ before ++ x ∷ after = cc in tails))
  where
    heads : z ≡ b
    heads = cc

    more : Split slots y before x → Split (z ∷ slots) y (b ∷ before) x
    more (last same is) = last (λ i. heads i ∷ same i) is
    more (earlier rest same) = earlier rest (λ i. heads i ∷ same i)

-- the slot at a place of the order
pub record At (slots : List Slot) (before : List ℕ) (j : ℕ) : Type 0 where
  pub front : List Slot
  pub slot : Slot
  pub back : List Slot
  pub all : slots ≡ front ++ slot ∷ back
  pub places_before : places front ≡ before
  pub place : slot.place ≡ j

same_cons : (i j : ℕ) (is js : List ℕ) → i ≡ j → is ≡ js → i ∷ is ≡ j ∷ js
same_cons i j is js e f = cc

-- one slot more before it
further : (x : Slot) (slots : List Slot) (b : ℕ) (before : List ℕ) (j : ℕ) → x.place ≡ b → At slots before j → At (x ∷ slots) (b ∷ before) j
further x slots b before j first p = record {
  front = x ∷ p.front;
  slot = p.slot;
  back = p.back;
  all = ap (λ (xs : List Slot). x ∷ xs) p.all;
  places_before = same_cons x.place b (places p.front) before first p.places_before;
  place = p.place;
}

pub at_place : (slots : List Slot) (before after : List ℕ) (j : ℕ) → places slots ≡ before ++ j ∷ after → At slots before j
at_place [] [] after j e = absurd (cc)
at_place [] (b ∷ before) after j e = absurd (cc)
at_place (x ∷ slots) [] after j e = record { front = []; slot = x; back = slots; all = refl; places_before = refl; place = cc }
at_place (x ∷ slots) (b ∷ before) after j e = further x slots b before j (cc) (at_place slots before after j (cc))

-- no slots have no front
pub no_front : (before after : List Slot) (x : Slot) → [] ≡ before ++ x ∷ after → ⊥
no_front [] after x e = cc
no_front (b ∷ before) after x e = cc
