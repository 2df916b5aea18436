-- The issues of each unit as the code gathers them, and that a search of these finds what a search of all finds.
use Rattle.std.proofs.Common.{◌≡◌, ℕ, ◌+◌, ◌-◌, ◌*◌, ◌<◌, ◌≤◌, ⊎_elim, Bool, true, false, cond, List, [], ◌∷◌, ◌++◌, map, filter, drop, length, get_or, set, append_assoc, Contains, Option, Some, None, refl, sym, ap, ◌∙◌, subst, arith, get_or-set_same, get_or-set_other}
use Rattle.std.specs.Prelude.{◌&&◌, ◌||◌, ◌==◌, nat_le, nat_lt, slice_get, unwrap_or}
use Rattle.std.specs.Cmp.{both_ways}
use Rattle.std.specs.List.{find, list_any, flat_map, range_with_len}
use Rattle.std.specs.Option.{option_map, option_or}
use Rattle.std.specs.declared.alloc.Global.{Global}
use Rattle.std.specs.declared.vec.Vec.{Vec}
use Rattle.std.proofs.lemmas.Bool.{cases_lt, and_parts, and_right, lt-ltb, le-ltb, le-leb, lt-leb, eqb-true, eq-eqb, ne_eqb}
use Rattle.std.proofs.lemmas.List.{append-nil, drop_more, drop_all, get_or-map, length-map, map-set}
use Rattle.std.proofs.lemmas.List.Folds.{list_any_at, find-append}
use Rattle.std.proofs.lemmas.Option.{slice_get_past}
use Rattle.hz_base_model.specs.Pairs.{Pair}
use Rattle.hz_base_model.proofs.Elements.{Contains-nil}
use Rattle.hz_check.specs.declared.parts.Parts.{Parts}
use Rattle.hz_description_model.specs.Reservations.Automata.{UnitPlace}
use Rattle.hz_pipeline_model.specs.Accepting.Replay.{Pipeline}
use Rattle.hz_pipeline_model.proofs.Accepting.PlayLaws.{has_decides}
use Rattle.hz_pipeline_model.proofs.Accepting.Rows.{numbers_tell}
use Rattle.hz_why_model.specs.Reasons.{same_place}
use Rattle.hz_reasons.specs.Calendars.{at, parts_of, parts_at}
use Rattle.hz_reasons.specs.Holding.{age_of, is_holder_of}
use Rattle.hz_reasons.specs.Plans.{in_automaton, unit_of, choices_at, pairs_at, IsPlanOf}
use Rattle.hz_reasons.specs.Taken.{is_held}
use Rattle.hz_explain.specs.Showing.{mark_of, is_marked, is_of, is_shown, lists_of, list_at, listed_for, holders_of, lines_shown, Shown, shown_of, shown_by, shown_held, FindAlike}
use Rattle.hz_explain.specs.Telling.{holder_in, unit_in, unit_name}
use Rattle.hz_reasons.specs.declared.holders.Holder.{Holder}
use Rattle.hz_reasons.specs.declared.plan.Choice.{Choice}
use Rattle.hz_reasons.specs.declared.plan.Plan.{Plan}
use Rattle.hz_reasons.proofs.HoldingLaws.{listed_pair}
use Rattle.hz_explain.proofs.ShowLaws.{map_alike, filter_alike}

-- ---- lists by units

-- an issue more at the end of a list that ends with it
pub find_once : (xs : List Holder) (h : Holder) → slice_get xs (length xs - 1) ≡ Some h → FindAlike xs (xs ++ h ∷ [])
find_once [] h is test = absurd (cc)
find_once (x ∷ xs) h is test =
    let count : length (x ∷ xs) - 1 ≡ length xs = omega arith in
    go x xs (sym (ap (slice_get (x ∷ xs)) count) ∙ is)
  where
    one : (y : Holder) → y ≡ h → (b : Bool) → test y ≡ b → cond b (Some y) None ≡ cond b (Some y) (cond (test h) (Some h) None)
    one y e true t = refl
    one y e false t = sym (ap (λ (c : Bool). cond c (Some h) None) (sym (ap test e) ∙ t))

    go : (y : Holder) (ys : List Holder) → slice_get (y ∷ ys) (length ys) ≡ Some h → find test (y ∷ ys) ≡ find test ((y ∷ ys) ++ h ∷ [])
    go y [] e = one y (ap (λ (o : Option Holder). unwrap_or o y) e) (test y) refl
    go y (z ∷ ys) e = ap (λ (o : Option Holder). cond (test y) (Some y) o) (go z ys e)

-- an issue more in the list of a place
more_at : (held : List (Vec Holder Global)) (i : ℕ) (old new : Vec Holder Global) (h : Holder) → i < length held → old ≡ get_or held i old → FindAlike new.items (old.items ++ h ∷ [])
    → (j : ℕ) → FindAlike (list_at (lists_of (set held i new)) j) (list_at (lists_of held) j ++ cond (i == j) (h ∷ []) [])
more_at held i old new h within is grown j test = ap (λ (all : List (List Holder)). find test (list_at all j)) (map-set (λ (v : Vec Holder Global). v.items) held i new) ∙ go (i == j) refl
  where
    inside : i < length (lists_of held)
    inside = let n = length-map held (λ (v : Vec Holder Global). v.items) in omega arith

    there : list_at (lists_of held) i ≡ old.items
    there = get_or-map (λ (v : Vec Holder Global). v.items) held i old [] within ∙ ap (λ (v : Vec Holder Global). v.items) (sym is)

    go : (b : Bool) → (i == j) ≡ b → find test (list_at (set (lists_of held) i new.items) j) ≡ find test (list_at (lists_of held) j ++ cond b (h ∷ []) [])
    go true e =
        let same = eqb-true i j e in
        ap (find test) (ap (list_at (set (lists_of held) i new.items)) (sym same) ∙ get_or-set_same (lists_of held) i new.items [] inside)
        ∙ (grown test ∙ ap (find test) (ap (λ (xs : List Holder). xs ++ h ∷ []) (sym there) ∙ ap (λ (q : ℕ). list_at (lists_of held) q ++ h ∷ []) same))
    go false e =
        let ne : j ≡ i → ⊥ = λ (s : j ≡ i). let t = eq-eqb i j (sym s) in absurd (cc) in
        ap (find test) (get_or-set_other (lists_of held) i j new.items [] ne ∙ sym (append-nil (list_at (lists_of held) j)))

-- an issue more in the list of a unit
pub holder_added : (held : List (Vec Holder Global)) (a k i : ℕ) (old new : Vec Holder Global) (h : Holder) → i < length held → a < 256 → k < 256 → i ≡ a * 256 + k → old ≡ get_or held i old → FindAlike new.items (old.items ++ h ∷ [])
    → (u : UnitPlace) → FindAlike (listed_for (set held i new) u) (listed_for held u ++ cond (same_place (record { automaton = a; unit = k }) u) (h ∷ []) [])
holder_added held a k i old new h within low under place is grown u test = ⊎_elim inside outside (cases_lt u.unit 256)
  where
    here : UnitPlace
    here = record { automaton = a; unit = k }

    same : u.unit < 256 → (i == mark_of u) ≡ same_place here u
    same small = both_ways _ _
        (λ (e : (i == mark_of u) ≡ true).
        let one = eqb-true i (mark_of u) e in
        let home : a ≡ u.automaton = omega arith in
        let number : k ≡ u.unit = omega arith in
        ap (λ (t : Bool). t && k == u.unit) (eq-eqb a u.automaton home) ∙ eq-eqb k u.unit number)
        (λ (e : same_place here u ≡ true).
        let both = and_parts (a == u.automaton) (k == u.unit) e in
        let home = eqb-true a u.automaton both.0 in
        let number = eqb-true k u.unit both.1 in
        eq-eqb i (mark_of u) (omega arith))

    inside : u.unit < 256 → find test (listed_for (set held i new) u) ≡ find test (listed_for held u ++ cond (same_place here u) (h ∷ []) [])
    inside small =
        let on = lt-ltb u.unit 256 small in
        ap (λ (b : Bool). find test (cond b (list_at (lists_of (set held i new)) (mark_of u)) [])) on
        ∙ (more_at held i old new h within is grown (mark_of u) test
        ∙ ap (find test)
        (ap (λ (b : Bool). list_at (lists_of held) (mark_of u) ++ cond b (h ∷ []) []) (same small)
        ∙ sym (ap (λ (b : Bool). cond b (list_at (lists_of held) (mark_of u)) [] ++ cond (same_place here u) (h ∷ []) []) on)))

    outside : 256 ≤ u.unit → find test (listed_for (set held i new) u) ≡ find test (listed_for held u ++ cond (same_place here u) (h ∷ []) [])
    outside large =
        let none = le-ltb u.unit 256 large in
        let other = and_right (a == u.automaton) (k == u.unit) (ne_eqb k u.unit (λ e. absurd (omega arith))) in
        ap (find test)
        (ap (λ (b : Bool). cond b (list_at (lists_of (set held i new)) (mark_of u)) []) none
        ∙ sym (ap (λ (b : Bool). cond b (list_at (lists_of held) (mark_of u)) [] ++ cond (same_place here u) (h ∷ []) []) none ∙ ap (λ (b : Bool). cond b (h ∷ []) []) other))

-- a pair before the cycle, and one that is not before it
pub pair_before : (old : List Holder) (age cycle : ℕ) (t : Bool) (h : Holder) → cycle < age → old ≡ old ++ cond (nat_le age cycle && t) (h ∷ []) []
pair_before old age cycle t h lt = sym (ap (λ (b : Bool). old ++ cond (b && t) (h ∷ []) []) (lt-leb age cycle lt) ∙ append-nil old)

pub pair_from : (old new : List Holder) (age cycle : ℕ) (t : Bool) (h : Holder) → age ≤ cycle → FindAlike new (old ++ cond t (h ∷ []) []) → FindAlike new (old ++ cond (nat_le age cycle && t) (h ∷ []) [])
pair_from old new age cycle t h le is test = is test ∙ sym (ap (λ (b : Bool). find test (old ++ cond (b && t) (h ∷ []) [])) (le-leb age cycle le))

-- the issues of one item more
pub listed_next : {X : Type 0} (f : X → List Holder) (xs : List X) (i : ℕ) (d : X) (a b c : List Holder) → i < length xs → FindAlike (a ++ flat_map f (drop i xs)) c → FindAlike b (a ++ f (get_or xs i d)) → FindAlike (b ++ flat_map f (drop (i + 1) xs)) c
listed_next {X} f xs i d a b c lt come more test =
    find-append test b rest
    ∙ (ap (λ (o : Option Holder). option_or o (find test rest)) (more test)
    ∙ (sym (find-append test (a ++ f (get_or xs i d)) rest)
    ∙ (ap (find test) (append_assoc a (f (get_or xs i d)) rest ∙ sym (ap (λ (ys : List X). a ++ flat_map f ys) (drop_more xs i d lt))) ∙ come test)))
  where
    rest : List Holder
    rest = flat_map f (drop (i + 1) xs)

pub listed_end : {X : Type 0} (f : X → List Holder) (xs : List X) (i : ℕ) (a c : List Holder) → length xs ≤ i → FindAlike (a ++ flat_map f (drop i xs)) c → FindAlike a c
listed_end {X} f xs i a c le come test = ap (find test) (sym (append-nil a) ∙ sym (ap (λ (ys : List X). a ++ flat_map f ys) (drop_all i xs le))) ∙ come test

pub none_listed : (held : List (Vec Holder Global)) → ((place : ℕ) → list_at (lists_of held) place ≡ []) → (u : UnitPlace) → listed_for held u ≡ []
none_listed held none u = ap (λ (xs : List Holder). cond (nat_lt u.unit 256) xs []) (none (mark_of u)) ∙ either (nat_lt u.unit 256)
  where
    either : (b : Bool) → ◌≡◌ {A = List Holder} (cond b [] []) []
    either true = refl
    either false = refl

pub listed_read : (held : List (Vec Holder Global)) (u : UnitPlace) (i : ℕ) (xs : List Holder) → xs ≡ list_at (lists_of held) i → i ≡ mark_of u → u.unit < 256 → xs ≡ listed_for held u
listed_read held u i xs read place small =
    read ∙ (ap (list_at (lists_of held)) place ∙ sym (ap (λ (b : Bool). cond b (list_at (lists_of held) (mark_of u)) []) (lt-ltb u.unit 256 small)))

-- ---- a search of the issues of a unit

-- of one issue, as often as it is listed
module _ {A : Type 0} (f : Holder → Bool) (h : Holder) (t : A → Bool) (rest : List Holder) where
  abbrev listed : List A → List Holder
  listed ps = flat_map (λ p. cond (t p) (h ∷ []) []) ps

  passed_over : f h ≡ false → (ps : List A) → find f (listed ps ++ rest) ≡ find f rest
  passed_over fails [] = refl
  passed_over fails (p ∷ ps) = by_test (t p) (passed_over fails ps)
    where
      by_test : (b : Bool) → find f (listed ps ++ rest) ≡ find f rest → find f (cond b (h ∷ []) [] ++ listed ps ++ rest) ≡ find f rest
      by_test true on = ap (λ (c : Bool). cond c (Some h) (find f (listed ps ++ rest))) fails ∙ on
      by_test false on = on

  found_here : f h ≡ true → (ps : List A) → list_any t ps ≡ true → find f (listed ps ++ rest) ≡ Some h
  found_here passes [] none = absurd (cc)
  found_here passes (p ∷ ps) some = by_test (t p) some (found_here passes ps)
    where
      by_test : (b : Bool) → (b || list_any t ps) ≡ true → (list_any t ps ≡ true → find f (listed ps ++ rest) ≡ Some h) → find f (cond b (h ∷ []) [] ++ listed ps ++ rest) ≡ Some h
      by_test true is on = ap (λ (c : Bool). cond c (Some h) (find f (listed ps ++ rest))) passes
      by_test false is on = on is

  find_listed : (ps : List A) → (f h ≡ true → list_any t ps ≡ true) → find f (listed ps ++ rest) ≡ cond (f h) (Some h) (find f rest)
  find_listed ps some = by_test (f h) refl
    where
      by_test : (b : Bool) → f h ≡ b → find f (listed ps ++ rest) ≡ cond b (Some h) (find f rest)
      by_test true e = found_here e ps (some e)
      by_test false e = passed_over e ps

-- what holds the unit is found among its issues
find_holders : (plan : Plan) (u : UnitPlace) (f : Holder → Bool) → ((h : Holder) → f h ≡ true → list_any (is_of (age_of h) u) (pairs_at (choices_at plan h.class) h.number) ≡ true)
    → (hs : List Holder) → find f (holders_of plan hs u) ≡ find f hs
find_holders plan u f some [] = refl
find_holders plan u f some (h ∷ hs) =
    find_listed f h (is_of (age_of h) u) (holders_of plan hs u) (pairs_at (choices_at plan h.class) h.number) (some h)
    ∙ ap (λ (o : Option Holder). cond (f h) (Some h) o) (find_holders plan u f some hs)

-- an alternative that has a part is there
within_choices : (cs : List Choice) (i a : ℕ) (p : Pair ℕ) → Contains (at (parts_at cs i) a) p → i < length cs
within_choices cs i a p h = ⊎_elim
    (λ (low : i < length cs). low)
    (λ (high : length cs ≤ i). absurd (Contains-nil p (subst (λ (o : Option Choice). Contains (at (parts_of o) a) p) (slice_get_past cs i high) h)))
    (cases_lt i (length cs))

module _ (m : Pipeline UnitPlace) (plan : Plan) (is : IsPlanOf m plan) where
  -- what holds a unit has a pair of it from the present cycle on
  pair_held : (u : UnitPlace) (c : ℕ) → u.automaton < length plan.rules.items → (h : Holder) → is_holder_of plan u c h ≡ true → list_any (is_of (age_of h) u) (pairs_at (choices_at plan h.class) h.number) ≡ true
  pair_held u c low h holds =
      let time : ℕ = h.last - (h.left - c) in
      let cs : List Choice = choices_at plan h.class in
      let p : Pair ℕ = record { unit = u.unit; cycle = time } in
      let parts = and_parts (nat_le c h.left) (is_held (parts_at cs h.number) time u) holds in
      let there : Contains (at (parts_at cs h.number) u.automaton) p = (has_decides ◌==◌ numbers_tell (at (parts_at cs h.number) u.automaton) p).0 parts.1 in
      let lt : h.number < length cs = within_choices cs h.number u.automaton p there in
      let taken = (is.parts h.class h.number u.automaton u.unit time lt low).0 there in
      let (q, listed, e) = listed_pair m plan is h.class h.number lt (in_automaton u.automaton u.unit time) taken in
      let home : q.automaton ≡ u.automaton = ap (λ (r : Pair UnitPlace). r.unit.automaton) e in
      let number : q.unit ≡ u.unit = ap (λ (r : Pair UnitPlace). r.unit.unit) e in
      let cycle : q.cycle ≡ h.last - (h.left - c) = ap (λ (r : Pair UnitPlace). r.cycle) e in
      let reached : h.last - h.left ≤ q.cycle = omega arith in
      let test : is_of (age_of h) u q ≡ true =
      ap (λ (b : Bool). b && same_place (unit_of (unit_in q)) u) (le-leb (age_of h) q.cycle reached)
      ∙ (ap (λ (b : Bool). b && q.unit == u.unit) (eq-eqb q.automaton u.automaton home) ∙ eq-eqb q.unit u.unit number) in
      list_any_at (is_of (age_of h) u) (pairs_at cs h.number) listed.0 q listed.1 (ap (is_of (age_of h) u) listed.2 ∙ test)

  holder_same : (hs : List Holder) (u : UnitPlace) (c : ℕ) → holder_in plan (holders_of plan hs u) u c ≡ holder_in plan hs u c
  holder_same hs u c = ⊎_elim
      (λ (low : u.automaton < length plan.rules.items).
      ap (λ (o : Option Holder). cond (nat_lt u.automaton (length plan.rules.items)) o None) (find_holders plan u (is_holder_of plan u c) (pair_held u c low) hs))
      (λ (high : length plan.rules.items ≤ u.automaton).
      let none = le-ltb u.automaton (length plan.rules.items) high in
      ap (λ (b : Bool). cond b (find (is_holder_of plan u c) (holders_of plan hs u)) None) none ∙ sym (ap (λ (b : Bool). cond b (find (is_holder_of plan u c) hs) None) none))
      (cases_lt u.automaton (length plan.rules.items))

  -- the issues of a unit show what all issues show of it
  pub shown_same : (parts : Parts) (n : ℕ) (hs : List Holder) (u : UnitPlace) → shown_held parts plan hs n u ≡ shown_of parts plan hs n u
  shown_same parts n hs u = ap (λ (ls : List (Option ℕ)). let s : Shown = record { name = unit_name parts u; lines = ls } in s)
      (map_alike (λ (c : ℕ). option_map (λ (h : Holder). h.line) (holder_in plan (holders_of plan hs u) u c)) (λ (c : ℕ). option_map (λ (h : Holder). h.line) (holder_in plan hs u c))
      (λ c. ap (option_map (λ (h : Holder). h.line)) (holder_same hs u c)) (range_with_len 0 n))

-- ---- rows

abbrev shown_with : List ℕ → List (Option ℕ) → Shown
shown_with name lines = record { name = name; lines = lines }

-- lists in which the same is found show the same
shown_alike : (parts : Parts) (plan : Plan) (n : ℕ) (u : UnitPlace) (one other : List Holder) → FindAlike one other → shown_of parts plan one n u ≡ shown_of parts plan other n u
shown_alike parts plan n u one other alike = ap (shown_with (unit_name parts u))
    (map_alike (λ (c : ℕ). option_map (λ (h : Holder). h.line) (holder_in plan one u c)) (λ (c : ℕ). option_map (λ (h : Holder). h.line) (holder_in plan other u c))
    (λ c. ap (λ (o : Option Holder). option_map (λ (h : Holder). h.line) (cond (nat_lt u.automaton (length plan.rules.items)) o None)) (alike (is_holder_of plan u c))) (range_with_len 0 n))

pub row_shown : (parts : Parts) (plan : Plan) (held : List (Vec Holder Global)) (n : ℕ) (u : UnitPlace) (name : List ℕ) (lines : List (Option ℕ)) (hs : List Holder)
    → name ≡ unit_name parts u → lines ≡ lines_shown plan hs n u → hs ≡ listed_for held u → shown_with name lines ≡ shown_by parts plan held n u
row_shown parts plan held n u name lines hs named drawn is =
    ap (λ (x : List ℕ). shown_with x lines) named ∙ (ap (shown_with (unit_name parts u)) drawn ∙ ap (λ (xs : List Holder). shown_of parts plan xs n u) is)

pub rows_held : (parts : Parts) (plan : Plan) (issues : List Holder) (asked : List Choice) (n : ℕ) (held : List (Vec Holder Global)) (marks : List Bool)
    → ((u : UnitPlace) → FindAlike (listed_for held u) (holders_of plan issues u)) → ((u : UnitPlace) → is_marked marks u ≡ is_shown plan issues asked u) → (units : List UnitPlace)
    → map (shown_by parts plan held n) (filter (is_marked marks) units) ≡ map (shown_held parts plan issues n) (filter (is_shown plan issues asked) units)
rows_held parts plan issues asked n held marks listed marked units =
    ap (map (shown_by parts plan held n)) (filter_alike (is_marked marks) (is_shown plan issues asked) marked units)
    ∙ map_alike (shown_by parts plan held n) (shown_held parts plan issues n) (λ u. shown_alike parts plan n u (listed_for held u) (holders_of plan issues u) (listed u)) (filter (is_shown plan issues asked) units)
