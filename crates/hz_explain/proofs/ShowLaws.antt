-- What a picture shows by what the code holds is what the definition shows.
use Rattle.std.proofs.Common.{◌≡◌, ℕ, suc, ◌+◌, ◌-◌, ◌*◌, ◌<◌, ◌≤◌, min, max, ⊎_elim, Bool, true, false, cond, List, [], ◌∷◌, ◌++◌, map, filter, take, drop, length, get_or, All, Contains, Option, Some, None, refl, sym, ap, ◌∙◌, subst, arith}
use Rattle.std.specs.Prelude.{⊤, ◌&&◌, ◌||◌, ◌==◌, nat_le, nat_lt, decimal, slice_get, slice_index_or, slice_set, replicate}
use Rattle.std.specs.Cmp.{both_ways}
use Rattle.std.specs.List.{list_any, flat_map, range_with_len}
use Rattle.std.specs.Option.{option_map}
use Rattle.std.specs.declared.alloc.Global.{Global}
use Rattle.std.specs.declared.vec.Vec.{Vec}
use Rattle.std.proofs.lemmas.Bool.{cases_lt, cases_eq, and_parts, and_cases, and_left, and_right, ltb-false, lt-ltb, le-ltb, le-leb, eqb-true, eq-eqb, ne_eqb, false_from_ne_true}
use Rattle.std.proofs.lemmas.List.{map-append, drop_more, drop_all, take_more, get_or-set_same, get_or-set_other, get_or_past, get_or-replicate, length-replicate}
use Rattle.std.proofs.lemmas.List.Elements.{All-nil, All-cons, filter-append}
use Rattle.std.proofs.lemmas.List.FromFn.{length-map-range_with_len}
use Rattle.std.proofs.lemmas.List.Folds.{list_any-append, list_any_at, Any-from_list_any}
use Rattle.std.proofs.lemmas.Option.{slice_get_past, cond_some, none-some}
use Rattle.hz_base_model.specs.Pairs.{Pair}
use Rattle.hz_base_model.proofs.Elements.{Contains-nil, Contains-head, Contains-tail}
use Rattle.hz_check.specs.declared.parts.Parts.{Parts}
use Rattle.hz_description_model.specs.Reservations.Alternatives.{Alternative}
use Rattle.hz_description_model.specs.Reservations.Automata.{UnitPlace, ascending}
use Rattle.hz_description_model.proofs.Reservations.AscendingLaws.{same_ascending}
use Rattle.hz_pipeline_model.specs.Accepting.Events.{Event, cycles_of}
use Rattle.hz_pipeline_model.specs.Accepting.Replay as replay
use Rattle.hz_pipeline_model.specs.Accepting.Replay.{Pipeline, chosen, alternatives_at}
use Rattle.hz_why_model.specs.Holders.{Entry, entries_of, entries, entry_at, entry_from, entries_from, pairs_in}
use Rattle.hz_why_model.specs.Pictures.{line_limit, cycles_in, picture, rows_of}
use Rattle.hz_why_model.specs.Reasons.{same_place}
use Rattle.hz_explain.specs.Drawing.{picture_text, lines_at, AreRowsOf}
use Rattle.hz_reasons.specs.Holding.{most, age_of, held_by, IsHolder, AreHolders, entry_with}
use Rattle.hz_reasons.specs.Plans as plans
use Rattle.hz_reasons.specs.Plans.{place_of, unit_of, choices_at, IsPlanOf}
use Rattle.hz_explain.specs.Showing.{small_unit, marked_unit, mark_of, is_marked, is_of, is_asked, is_kept, is_shown, cycles_asked, cycles_shown, longest_shown, lines_shown, Shown, shown_in, shown_of, shown_by, rows_of_unit, AskFor}
use Rattle.hz_explain.specs.Telling.{holder_in, unit_name}
use Rattle.hz_explain.specs.declared.drawing.Row.{Row}
use Rattle.hz_reasons.specs.declared.holders.Holder.{Holder}
use Rattle.hz_reasons.specs.declared.plan.Choice.{Choice}
use Rattle.hz_reasons.specs.declared.plan.Place.{Place}
use Rattle.hz_reasons.specs.declared.plan.Plan.{Plan}
use Rattle.hz_explain.proofs.DrawLaws.{drawn_is}
use Rattle.hz_reasons.proofs.ExtentLaws.{most-append, most_within, most_reached, cycles_held, lines_held}
use Rattle.hz_explain.proofs.TellLaws.{reported_from_now}

-- ---- marks

-- a mark more
pub marked_at : (marks : List Bool) (a k i : ℕ) (u : UnitPlace) → length marks ≡ 65536 → a < 256 → k < 256 → i ≡ a * 256 + k → is_marked (slice_set marks i true) u ≡ (same_place (record { automaton = a; unit = k }) u || is_marked marks u)
marked_at marks a k i u long low under place = ⊎_elim inside outside (cases_lt u.unit 256)
  where
    here : UnitPlace
    here = record { automaton = a; unit = k }

    at_unit : (b : Bool) → nat_lt u.unit 256 ≡ true → same_place here u ≡ b → slice_index_or (slice_set marks i true) (mark_of u) false ≡ (b || slice_index_or marks (mark_of u) false) → is_marked (slice_set marks i true) u ≡ (same_place here u || is_marked marks u)
    at_unit b small same read =
        ap (λ (t : Bool). t && slice_index_or (slice_set marks i true) (mark_of u) false) small
        ∙ (read ∙ sym (ap (λ (t : Bool). same_place here u || (t && slice_index_or marks (mark_of u) false)) small ∙ ap (λ (t : Bool). t || slice_index_or marks (mark_of u) false) same))

    inside : u.unit < 256 → is_marked (slice_set marks i true) u ≡ (same_place here u || is_marked marks u)
    inside small = ⊎_elim
        (λ (one : mark_of u ≡ i).
        let home : a ≡ u.automaton = omega arith in
        let number : k ≡ u.unit = omega arith in
        at_unit true (lt-ltb u.unit 256 small) (ap (λ (t : Bool). t && k == u.unit) (eq-eqb a u.automaton home) ∙ eq-eqb k u.unit number)
        (ap (λ (j : ℕ). slice_index_or (slice_set marks i true) j false) one ∙ get_or-set_same marks i true false (omega arith)))
        (λ (other : mark_of u ≡ i → ⊥).
        at_unit false (lt-ltb u.unit 256 small)
        (false_from_ne_true _ (λ (same : same_place here u ≡ true).
        let both = and_parts (a == u.automaton) (k == u.unit) same in
        let home = eqb-true a u.automaton both.0 in
        let number = eqb-true k u.unit both.1 in
        other (omega arith)))
        (get_or-set_other marks i (mark_of u) true false other))
        (cases_eq (mark_of u) i)

    outside : 256 ≤ u.unit → is_marked (slice_set marks i true) u ≡ (same_place here u || is_marked marks u)
    outside large =
        let none = le-ltb u.unit 256 large in
        and_left (nat_lt u.unit 256) (slice_index_or (slice_set marks i true) (mark_of u) false) none
        ∙ sym (ap (λ (t : Bool). t || is_marked marks u) (and_right (a == u.automaton) (k == u.unit) (ne_eqb k u.unit (λ e. absurd (omega arith))))
        ∙ and_left (nat_lt u.unit 256) (slice_index_or marks (mark_of u) false) none)

pub none_marked : (marks : List Bool) (count : ℕ) → marks ≡ replicate count false → (u : UnitPlace) → is_marked marks u ≡ false
none_marked marks count none u = ap (λ (ms : List Bool). is_marked ms u) none ∙ and_right (nat_lt u.unit 256) (slice_index_or (replicate count false) (mark_of u) false)
    (⊎_elim
    (λ (low : mark_of u < count). get_or-replicate count (mark_of u) false false low)
    (λ (high : count ≤ mark_of u). let long = length-replicate count false in get_or_past (replicate count false) (mark_of u) false (omega arith))
    (cases_lt (mark_of u) count))

or_false : (b : Bool) → (b || false) ≡ b
or_false true = refl
or_false false = refl

pub marks_are : (a b n o old : Bool) → n ≡ (a || o) → o ≡ (b || old) → old ≡ false → n ≡ (a || b)
marks_are a b n o old first second none = first ∙ ap (λ (t : Bool). a || t) (second ∙ (ap (λ (t : Bool). b || t) none ∙ or_false b))

pub marked_read : (marks : List Bool) (u : UnitPlace) (i : ℕ) (b : Bool) → b ≡ get_or marks i false → i ≡ mark_of u → u.unit < 256 → b ≡ is_marked marks u
marked_read marks u i b read place small = read ∙ (ap (λ (j : ℕ). get_or marks j false) place ∙ sym (ap (λ (t : Bool). t && get_or marks (mark_of u) false) (lt-ltb u.unit 256 small)))

pub unit_if : (marks : List Bool) (u v : UnitPlace) (b : Bool) → Some v ≡ small_unit u → b ≡ is_marked marks v → cond b (Some v) None ≡ marked_unit marks u
unit_if marks u v b same marked =
    let one : u ≡ v = (cond_some (nat_lt u.automaton 256 && nat_lt u.unit 256) u v (sym same)).1 in
    ap (λ (t : Bool). cond t (Some v) None) marked ∙ ap (λ (x : UnitPlace). cond (is_marked marks x) (Some x) None) (sym one)

pub unit_none : (marks : List Bool) (u : UnitPlace) → length marks ≡ 65536 → None ≡ small_unit u → None ≡ marked_unit marks u
unit_none marks u long none = sym (ap (λ (t : Bool). cond t (Some u) None) unmarked)
  where
    past : (nat_lt u.automaton 256 && nat_lt u.unit 256) ≡ false
    past = false_from_ne_true _ (λ (small : (nat_lt u.automaton 256 && nat_lt u.unit 256) ≡ true). none-some u (none ∙ ap (λ (t : Bool). cond t (Some u) None) small))

    unmarked : is_marked marks u ≡ false
    unmarked = ⊎_elim
        (λ (home : nat_lt u.automaton 256 ≡ false).
        let high = ltb-false u.automaton 256 home in
        and_right (nat_lt u.unit 256) (slice_index_or marks (mark_of u) false) (get_or_past marks (mark_of u) false (omega arith)))
        (λ (number : nat_lt u.unit 256 ≡ false). and_left (nat_lt u.unit 256) (slice_index_or marks (mark_of u) false) number)
        (and_cases (nat_lt u.automaton 256) (nat_lt u.unit 256) past)

-- ---- a test more

or_next : (x rest a : Bool) → ((x || rest) || a) ≡ (rest || (x || a))
or_next true true a = refl
or_next true false a = refl
or_next false rest a = refl

pub any_next : {X : Type 0} (f : X → Bool) (xs : List X) (i : ℕ) (d : X) (a b c : Bool) → i < length xs → (list_any f (drop i xs) || a) ≡ c → b ≡ (f (get_or xs i d) || a) → (list_any f (drop (i + 1) xs) || b) ≡ c
any_next {X} f xs i d a b c lt come more =
    ap (λ (t : Bool). list_any f (drop (i + 1) xs) || t) more
    ∙ (sym (or_next (f (get_or xs i d)) (list_any f (drop (i + 1) xs)) a)
    ∙ (sym (ap (λ (ys : List X). list_any f ys || a) (drop_more xs i d lt)) ∙ come))

pub any_end : {X : Type 0} (f : X → Bool) (xs : List X) (i : ℕ) (a c : Bool) → length xs ≤ i → (list_any f (drop i xs) || a) ≡ c → a ≡ c
any_end {X} f xs i a c le come = sym (ap (λ (ys : List X). list_any f ys || a) (drop_all i xs le)) ∙ come

pub any_mapped : {A B : Type 0} (v : A → B) (g : B → Bool) (xs : List A) → list_any g (map v xs) ≡ list_any (λ x. g (v x)) xs
any_mapped v g [] = refl
any_mapped v g (x ∷ xs) = ap (λ (t : Bool). g (v x) || t) (any_mapped v g xs)

-- lists of the same items
any_into : {X : Type 0} (g : X → Bool) (xs ys : List X) → ((x : X) → Contains xs x → Contains ys x) → list_any g xs ≡ true → list_any g ys ≡ true
any_into g xs ys into e =
    let found = Any-from_list_any g xs e in
    let there = into found.1 (found.0, found.2, found.3) in
    list_any_at g ys there.0 found.1 there.1 (ap g there.2 ∙ found.4)

any_same : {X : Type 0} (g : X → Bool) (xs ys : List X) → ((x : X) → Contains xs x → Contains ys x) → ((x : X) → Contains ys x → Contains xs x) → list_any g xs ≡ list_any g ys
any_same g xs ys into back = both_ways _ _ (any_into g xs ys into) (any_into g ys xs back)

most_same : {X : Type 0} (f : X → ℕ) (xs ys : List X) → ((x : X) → Contains xs x → Contains ys x) → ((x : X) → Contains ys x → Contains xs x) → most f xs ≡ most f ys
most_same f xs ys into back =
    let under : most f xs ≤ most f ys = most_within f (most f ys) xs (λ x there. most_reached f ys x (into x there)) in
    let over : most f ys ≤ most f xs = most_within f (most f xs) ys (λ x there. most_reached f xs x (back x there)) in
    omega arith

most_mapped : {A B : Type 0} (v : A → B) (g : B → ℕ) (xs : List A) → most g (map v xs) ≡ most (λ x. g (v x)) xs
most_mapped v g [] = refl
most_mapped v g (x ∷ xs) = ap (λ (n : ℕ). max (g (v x)) n) (most_mapped v g xs)

cycles_most : (ps : List (Pair UnitPlace)) → cycles_in ps ≡ most (λ p. p.cycle + 1) ps
cycles_most [] = refl
cycles_most (p ∷ ps) = let rest = cycles_most ps in omega arith

-- ---- pairs of the units that are listed, and those that are chosen

module _ (u : UnitPlace) where
  abbrev of_unit : Pair UnitPlace → Bool
  of_unit p = same_place p.unit u

  abbrev of_unit_from : ℕ → Pair UnitPlace → Bool
  of_unit_from n p = nat_le n p.cycle && same_place p.unit u

  any_listed : (n : ℕ) (places : List Place) (pairs : List (Pair UnitPlace)) → map place_of places ≡ ascending pairs → list_any (of_unit_from n) pairs ≡ list_any (is_of n u) places
  any_listed n places pairs listed =
      any_same (of_unit_from n) pairs (ascending pairs) (λ p. (same_ascending pairs p).1) (λ p. (same_ascending pairs p).0)
      ∙ (ap (list_any (of_unit_from n)) (sym listed) ∙ any_mapped place_of (of_unit_from n) places)

  -- no cycle is before the first
  from_start : (ps : List (Pair UnitPlace)) → list_any of_unit ps ≡ list_any (of_unit_from 0) ps
  from_start [] = refl
  from_start (p ∷ ps) =
      ap (λ (b : Bool). (b && same_place p.unit u) || list_any of_unit ps) (sym (le-leb 0 p.cycle (omega arith)))
      ∙ ap (λ (t : Bool). of_unit_from 0 p || t) (from_start ps)

  any_from : (n line class : ℕ) (ps : List (Pair UnitPlace)) → list_any of_unit (pairs_in (entries_from n (entries_of line class ps))) ≡ list_any (of_unit_from n) ps
  any_from n line class [] = refl
  any_from n line class (p ∷ ps) = by_test (nat_le n p.cycle) ∙ ap (λ (t : Bool). (nat_le n p.cycle && same_place p.unit u) || t) (any_from n line class ps)
    where
      rest : List (Entry UnitPlace)
      rest = filter (λ e. nat_le n e.pair.cycle) (entries_of line class ps)

      first : Entry UnitPlace
      first = record { pair = p; line = line; class = class }

      by_test : (b : Bool) → list_any of_unit (pairs_in (map (entry_from n) (cond b (first ∷ rest) rest))) ≡ ((b && same_place p.unit u) || list_any of_unit (pairs_in (map (entry_from n) rest)))
      by_test true = refl
      by_test false = refl

-- ---- what is held

within : (all : List (Alternative UnitPlace)) (i : ℕ) (p : Pair UnitPlace) → Contains (replay.pairs_at (slice_get all i)) p → i < length all
within all i p h = ⊎_elim
    (λ (low : i < length all). low)
    (λ (high : length all ≤ i). absurd (Contains-nil p (subst (λ (o : Option (Alternative UnitPlace)). Contains (replay.pairs_at o) p) (slice_get_past all i high) h)))
    (cases_lt i (length all))

module _ (m : Pipeline UnitPlace) (plan : Plan) (is : IsPlanOf m plan) where
  kept_by : (u : UnitPlace) (h : Holder) → IsHolder m h → list_any (of_unit u) (pairs_in (held_by m h)) ≡ list_any (is_of (age_of h) u) (plans.pairs_at (choices_at plan h.class) h.number)
  kept_by u h of =
      let count = is.numbers h.class in
      let there = within (alternatives_at m h.class) h.number of.reached.0 of.reached.1 in
      any_from u (age_of h) h.line h.class (chosen m h.class h.number)
      ∙ any_listed u (age_of h) (plans.pairs_at (choices_at plan h.class) h.number) (chosen m h.class h.number) (is.listed h.class h.number (omega arith))

  kept_is : (u : UnitPlace) (hs : List Holder) → ((h : Holder) → Contains hs h → IsHolder m h) → list_any (of_unit u) (pairs_in (flat_map (held_by m) hs)) ≡ is_kept plan hs u
  kept_is u [] are = refl
  kept_is u (h ∷ hs) are =
      ap (list_any (of_unit u)) (map-append (λ (e : Entry UnitPlace). e.pair) (held_by m h) (flat_map (held_by m) hs))
      ∙ (list_any-append (of_unit u) (pairs_in (held_by m h)) (pairs_in (flat_map (held_by m) hs))
      ∙ (ap (λ (t : Bool). t || list_any (of_unit u) (pairs_in (flat_map (held_by m) hs))) (kept_by u h (are h (Contains-head h hs)))
      ∙ ap (λ (t : Bool). list_any (is_of (age_of h) u) (plans.pairs_at (choices_at plan h.class) h.number) || t) (kept_is u hs (λ x there. are x (Contains-tail h x hs there)))))

-- ---- what is asked for

pub ask_none : AskFor [] []
ask_none = record { units = λ u. refl; cycles = refl }

abbrev AreListed : List Choice → List (Alternative UnitPlace) → Type 0
AreListed [] [] = ⊤
AreListed (c ∷ cs) (a ∷ alts) = (map place_of c.pairs.items ≡ ascending a.pairs) × AreListed cs alts
AreListed cs alts = ⊥

are_listed : (cs : List Choice) (alts : List (Alternative UnitPlace)) → length cs ≡ length alts → ((i : ℕ) → i < length cs → map place_of (plans.pairs_at cs i) ≡ ascending (replay.pairs_at (slice_get alts i))) → AreListed cs alts
are_listed [] [] long each = tt
are_listed [] (a ∷ alts) long each = absurd (omega arith)
are_listed (c ∷ cs) [] long each = absurd (omega arith)
are_listed (c ∷ cs) (a ∷ alts) long each = (each 0 (omega arith), are_listed cs alts (omega arith) (λ i lt. each (suc i) (omega arith)))

units_asked : (u : UnitPlace) (cs : List Choice) (alts : List (Alternative UnitPlace)) → AreListed cs alts → list_any (of_unit u) (flat_map (λ a. a.pairs) alts) ≡ is_asked cs u
units_asked u [] [] are = refl
units_asked u [] (a ∷ alts) are = absurd are
units_asked u (c ∷ cs) [] are = absurd are
units_asked u (c ∷ cs) (a ∷ alts) are =
    list_any-append (of_unit u) a.pairs (flat_map (λ a. a.pairs) alts)
    ∙ (ap (λ (t : Bool). t || list_any (of_unit u) (flat_map (λ a. a.pairs) alts)) (from_start u a.pairs ∙ any_listed u 0 c.pairs.items a.pairs are.0)
    ∙ ap (λ (t : Bool). list_any (is_of 0 u) c.pairs.items || t) (units_asked u cs alts are.1))

cycles_listed : (c : Choice) (a : Alternative UnitPlace) → map place_of c.pairs.items ≡ ascending a.pairs → most (λ p. p.cycle + 1) a.pairs ≡ most (λ p. p.cycle + 1) c.pairs.items
cycles_listed c a listed =
    most_same (λ (p : Pair UnitPlace). p.cycle + 1) a.pairs (ascending a.pairs) (λ p. (same_ascending a.pairs p).1) (λ p. (same_ascending a.pairs p).0)
    ∙ (ap (most (λ (p : Pair UnitPlace). p.cycle + 1)) (sym listed) ∙ most_mapped place_of (λ (p : Pair UnitPlace). p.cycle + 1) c.pairs.items)

cycles_of_asked : (cs : List Choice) (alts : List (Alternative UnitPlace)) → AreListed cs alts → most (λ (p : Pair UnitPlace). p.cycle + 1) (flat_map (λ a. a.pairs) alts) ≡ cycles_asked cs
cycles_of_asked [] [] are = refl
cycles_of_asked [] (a ∷ alts) are = absurd are
cycles_of_asked (c ∷ cs) [] are = absurd are
cycles_of_asked (c ∷ cs) (a ∷ alts) are =
    most-append (λ (p : Pair UnitPlace). p.cycle + 1) a.pairs (flat_map (λ a. a.pairs) alts)
    ∙ (ap (λ (n : ℕ). max n (most (λ (p : Pair UnitPlace). p.cycle + 1) (flat_map (λ a. a.pairs) alts))) (cycles_listed c a are.0)
    ∙ ap (λ (n : ℕ). max (most (λ (p : Place). p.cycle + 1) c.pairs.items) n) (cycles_of_asked cs alts are.1))

pub ask_class : (m : Pipeline UnitPlace) (plan : Plan) → IsPlanOf m plan → (k : ℕ) → AskFor (choices_at plan k) (flat_map (λ a. a.pairs) (alternatives_at m k))
ask_class m plan is k =
    let are = are_listed (choices_at plan k) (alternatives_at m k) (is.numbers k) (is.listed k) in
    record {
      units = λ u. units_asked u (choices_at plan k) (alternatives_at m k) are;
      cycles = cycles_most (flat_map (λ a. a.pairs) (alternatives_at m k)) ∙ cycles_of_asked (choices_at plan k) (alternatives_at m k) are;
    }

-- ---- rows

pub map_alike : {A B : Type 0} (f g : A → B) → ((x : A) → f x ≡ g x) → (xs : List A) → map f xs ≡ map g xs
map_alike f g each [] = refl
map_alike f g each (x ∷ xs) = ap (λ (y : _). y ∷ map f xs) (each x) ∙ ap (λ (ys : List _). g x ∷ ys) (map_alike f g each xs)

pub filter_alike : {A : Type 0} (f g : A → Bool) → ((x : A) → f x ≡ g x) → (xs : List A) → filter f xs ≡ filter g xs
filter_alike f g each [] = refl
filter_alike f g each (x ∷ xs) = ap (λ (b : Bool). cond b (x ∷ filter f xs) (filter f xs)) (each x) ∙ ap (λ (ys : List _). cond (g x) (x ∷ ys) ys) (filter_alike f g each xs)

or_swap : (a b : Bool) → (a || b) ≡ (b || a)
or_swap true true = refl
or_swap true false = refl
or_swap false true = refl
or_swap false false = refl

cycles_append : (xs ys : List (Pair UnitPlace)) → cycles_in (xs ++ ys) ≡ max (cycles_in xs) (cycles_in ys)
cycles_append [] ys = omega arith
cycles_append (x ∷ xs) ys = let rest = cycles_append xs ys in omega arith

no_cycles : (ps : List (Pair UnitPlace)) → cycles_in ps ≡ 0 → ps ≡ []
no_cycles [] e = refl
no_cycles (p ∷ ps) e = absurd (omega arith)

filter_no : {A : Type 0} (xs : List A) → filter (λ (x : A). false) xs ≡ []
filter_no [] = refl
filter_no (x ∷ xs) = filter_no xs

no_item : {A : Type 0} (x : A) (xs : List A) → x ∷ xs ≡ [] → ⊥
no_item x xs e = let long = ap length e in absurd (omega arith)

abbrev head_of : {A : Type 0} (d : A) → List A → A
head_of d [] = d
head_of d (x ∷ xs) = x

abbrev tail_of : {A : Type 0} → List A → List A
tail_of [] = []
tail_of (x ∷ xs) = xs

same_shown : (row : Row) (s : Shown) → shown_in row ≡ s → (row.name.now ≡ s.name) × (row.lines.items ≡ s.lines)
same_shown row s e = (ap (λ (x : Shown). x.name) e, ap (λ (x : Shown). x.lines) e)

pub rows_one : (parts : Parts) (plan : Plan) (held : List (Vec Holder Global)) (n : ℕ) (b : Bool) (u : UnitPlace) → rows_of_unit parts plan held n (cond b (Some u) None) ≡ cond b (shown_by parts plan held n u ∷ []) []
rows_one parts plan held n true u = refl
rows_one parts plan held n false u = refl

-- a row more
pub rows_next : {A : Type 0} (marked : UnitPlace → Bool) (shown : UnitPlace → Shown) (place : A → UnitPlace) (xs : List A) (i : ℕ) (d : A) (old new : List Shown) (one : List Shown) → i < length xs
    → old ≡ map shown (filter marked (map place (take i xs))) → one ≡ cond (marked (place (get_or xs i d))) (shown (place (get_or xs i d)) ∷ []) [] → new ≡ old ++ one → new ≡ map shown (filter marked (map place (take (i + 1) xs)))
rows_next {A} marked shown place xs i d old new one lt come is more =
    let item : UnitPlace = place (get_or xs i d) in
    let parts : map shown (filter marked (map place (take (i + 1) xs))) ≡ map shown (filter marked (map place (take i xs))) ++ map shown (filter marked (item ∷ [])) =
    ap (λ (ys : List A). map shown (filter marked (map place ys))) (take_more xs i d lt)
    ∙ (ap (λ (us : List UnitPlace). map shown (filter marked us)) (map-append place (take i xs) (get_or xs i d ∷ []))
    ∙ (ap (map shown) (filter-append marked (map place (take i xs)) (item ∷ []))
    ∙ map-append shown (filter marked (map place (take i xs))) (filter marked (item ∷ [])))) in
    more ∙ (ap (λ (l : List Shown). l ++ one) come ∙ (ap (λ (l : List Shown). map shown (filter marked (map place (take i xs))) ++ l) (is ∙ single (marked item) item) ∙ sym parts))
  where
    single : (b : Bool) (u : UnitPlace) → cond b (shown u ∷ []) [] ≡ map shown (cond b (u ∷ []) [])
    single true u = refl
    single false u = refl

module _ (m : Pipeline UnitPlace) (plan : Plan) (is : IsPlanOf m plan) (t : List Event) (lines choices : List ℕ) (issues : List Holder) (are : AreHolders m t lines choices issues) where
  abbrev held : List (Entry UnitPlace)
  held = entries_from (cycles_of t) (entries m 0 t lines choices)

  line_held : (p : Pair UnitPlace) (o : Option Holder) → option_map (λ (h : Holder). h.line) o ≡ option_map (λ (e : Entry UnitPlace). e.line) (option_map (entry_with p) o)
  line_held p None = refl
  line_held p (Some h) = refl

  lines_are : (n : ℕ) (u : UnitPlace) → lines_shown plan issues n u ≡ lines_at same_place held n u
  lines_are n u = map_alike (λ (cycle : ℕ). option_map (λ (h : Holder). h.line) (holder_in plan issues u cycle)) (λ (cycle : ℕ). option_map (λ (e : Entry UnitPlace). e.line) (entry_at same_place held (record { unit = u; cycle = cycle })))
      (λ cycle. line_held (record { unit = u; cycle = cycle }) (holder_in plan issues u cycle) ∙ ap (option_map (λ (e : Entry UnitPlace). e.line)) (reported_from_now m plan is t lines choices issues are u cycle)) (range_with_len 0 n)

  are_rows : (parts : Parts) (n : ℕ) (us : List UnitPlace) (rows : List Row) → map shown_in rows ≡ map (shown_of parts plan issues n) us → AreRowsOf same_place (unit_name parts) held n us rows
  are_rows parts n [] [] e = tt
  are_rows parts n [] (row ∷ rows) e = absurd (no_item _ _ e)
  are_rows parts n (u ∷ us) [] e = absurd (no_item _ _ (sym e))
  are_rows parts n (u ∷ us) (row ∷ rows) e =
      let first = same_shown row (shown_of parts plan issues n u) (ap (head_of (shown_in row)) e) in
      ((first.0, first.1 ∙ lines_are n u), are_rows parts n us rows (ap tail_of e))

  shown_is : (xs : List Choice) (ps : List (Pair UnitPlace)) → AskFor xs ps → (u : UnitPlace) → list_any (λ p. same_place p.unit u) (pairs_in held ++ ps) ≡ is_shown plan issues xs u
  shown_is xs ps ask u =
      list_any-append (of_unit u) (pairs_in held) ps
      ∙ (ap (λ (t : Bool). t || list_any (of_unit u) ps) (ap (λ (es : List (Entry UnitPlace)). list_any (of_unit u) (pairs_in es)) (sym are.all) ∙ kept_is m plan is u issues are.each)
      ∙ (ap (λ (t : Bool). is_kept plan issues u || t) (ask.units u) ∙ or_swap (is_kept plan issues u) (is_asked xs u)))

  cycles_are : (xs : List Choice) (ps : List (Pair UnitPlace)) → AskFor xs ps → cycles_in (pairs_in held ++ ps) ≡ cycles_shown issues xs
  cycles_are xs ps ask = cycles_append (pairs_in held) ps ∙ (ap (λ (n : ℕ). max n (cycles_in ps)) (sym (cycles_held m t lines choices issues are)) ∙ ap (λ (n : ℕ). max (most (λ (h : Holder). h.left + 1) issues) n) ask.cycles)

  -- what is drawn is the picture
  pub picture_is : (parts : Parts) (units : List UnitPlace) (xs : List Choice) (ps : List (Pair UnitPlace)) → AskFor xs ps → (marked : UnitPlace → Bool) → ((u : UnitPlace) → marked u ≡ is_shown plan issues xs u)
      → (n : ℕ) → min (cycles_shown issues xs) line_limit ≤ n → (rows : List Row) → map shown_in rows ≡ map (shown_of parts plan issues n) (filter marked units)
      → picture_text (cycles_shown issues xs) (longest_shown issues (cycles_shown issues xs)) rows ≡ picture same_place (unit_name parts) held units ps
  picture_is parts units xs ps ask marked marks n wide rows drawn =
      let cycles : ℕ = cycles_shown issues xs in
      let us : List UnitPlace = filter marked units in
      ap (λ (l : ℕ). picture_text cycles (max (length (decimal (cycles - 1))) l) rows) (sym (lines_held m t lines choices issues are))
      ∙ (drawn_is same_place (unit_name parts) held cycles n wide us rows (are_rows parts n us rows drawn)
      ∙ (ap (rows_of same_place (unit_name parts) held cycles) (filter_alike marked (λ u. list_any (λ p. same_place p.unit u) (pairs_in held ++ ps)) (λ u. marks u ∙ sym (shown_is xs ps ask u)) units)
      ∙ ap (λ (c : ℕ). rows_of same_place (unit_name parts) held c (filter (λ u. list_any (λ p. same_place p.unit u) (pairs_in held ++ ps)) units)) (sym (cycles_are xs ps ask))))

  -- no cycle, no picture
  pub picture_none : (parts : Parts) (units : List UnitPlace) (xs : List Choice) (ps : List (Pair UnitPlace)) → AskFor xs ps → cycles_shown issues xs ≡ 0 → picture same_place (unit_name parts) held units ps ≡ []
  picture_none parts units xs ps ask none =
      let empty : pairs_in held ++ ps ≡ [] = no_cycles (pairs_in held ++ ps) (cycles_are xs ps ask ∙ none) in
      ap (λ (qs : List (Pair UnitPlace)). rows_of same_place (unit_name parts) held (cycles_in qs) (filter (λ u. list_any (λ p. same_place p.unit u) qs) units)) empty
      ∙ ap (rows_of same_place (unit_name parts) held 0) (filter_no units)

-- each row has so many lines
pub rows_wide : (parts : Parts) (plan : Plan) (issues : UnitPlace → List Holder) (n : ℕ) (us : List UnitPlace) (rows : List Row) → map shown_in rows ≡ map (λ u. shown_of parts plan (issues u) n u) us → All (λ (row : Row). n ≤ length row.lines.items) rows
rows_wide parts plan issues n us [] e = All-nil (λ (row : Row). n ≤ length row.lines.items)
rows_wide parts plan issues n [] (row ∷ rows) e = absurd (no_item _ _ e)
rows_wide parts plan issues n (u ∷ us) (row ∷ rows) e =
    let first = same_shown row (shown_of parts plan (issues u) n u) (ap (head_of (shown_in row)) e) in
    let long = length-map-range_with_len (λ (cycle : ℕ). option_map (λ (h : Holder). h.line) (holder_in plan (issues u) u cycle)) 0 n in
    let same = ap length first.1 in
    All-cons (λ (row : Row). n ≤ length row.lines.items) row rows (omega arith) (rows_wide parts plan issues n us rows (ap tail_of e))
