-- What is reported of what alternatives take is what the definitions say.
use Rattle.std.proofs.Common.{◌≡◌, ℕ, zero, suc, ◌+◌, ◌-◌, ◌<◌, ◌≤◌, ⊎_elim, Bool, true, false, cond, List, [], ◌∷◌, ◌++◌, map, take, drop, length, get_or, append_assoc, All, refl, sym, ap, ◌∙◌, subst, arith}
use Rattle.std.specs.Prelude.{◌&&◌, ◌||◌, ◌==◌, nat_lt, codes, slice_get}
use Rattle.std.specs.List.{concat}
use Rattle.std.specs.declared.alloc.Global.{Global}
use Rattle.std.specs.declared.vec.Vec.{Vec}
use Rattle.std.proofs.lemmas.Bool.{cases_lt, ltb-true, ltb-false, and_parts, and_cases, and_right, ne_eqb, false_from_ne_true}
use Rattle.std.proofs.lemmas.List.{append-nil, drop_more, drop_all, take_at, take_all, take-map, length-map, get_or_past}
use Rattle.std.proofs.lemmas.List.Elements.{All-nil, All-head, All-tail, All-take}
use Rattle.std.proofs.lemmas.Option.{slice_get-get_or, slice_get_cases}
use Rattle.hz_base_model.specs.Pairs.{Pair, same_pair}
use Rattle.hz_description_model.specs.Reservations.Alternatives.{Alternative}
use Rattle.hz_description_model.specs.Reservations.Automata.{UnitPlace, ascending}
use Rattle.hz_description_model.proofs.Reservations.AscendingLaws.{same_ascending}
use Rattle.hz_pipeline_model.specs.Accepting.Plays.{has, holds}
use Rattle.hz_pipeline_model.specs.Accepting.Replay as replay
use Rattle.hz_pipeline_model.specs.Accepting.Replay.{Pipeline, alternatives_at, chosen}
use Rattle.hz_pipeline_model.proofs.Accepting.PlayLaws.{has_decides}
use Rattle.hz_pipeline_model.proofs.Accepting.Rows.{places_tell}
use Rattle.hz_why_model.specs.Groups.{first_place, leaders, led_by, groups_from, group_texts}
use Rattle.hz_why_model.specs.Lists.{alternatives_text}
use Rattle.hz_why_model.specs.Pictures.{line_limit, cycles_in}
use Rattle.hz_why_model.specs.Reasons.{same_place}
use Rattle.hz_why_model.specs.Takes.{Stretch, takes_limit, goes_on, continues, stretch_from, stretches_of, are_same, stretch_text, taken_text, takes_word, takes_line, takes_lines, more_line}
use Rattle.hz_reasons.specs.Calendars.{parts_of, parts_at}
use Rattle.hz_reasons.specs.Plans as plans
use Rattle.hz_reasons.specs.Plans.{place_of, pairs_of, choices_of, choices_at, in_automaton, IsPlanOf, IsWide}
use Rattle.hz_reasons.specs.Taken.{is_held}
use Rattle.hz_explain.specs.Taking.{pairs_in, stretch_of, IsInParts, runs_on, runs_before, runs_to, stretch_at, stretches_at, stretches_by, stretches_in, taken_by, take_alike, more_reported, line_reported, takes_reported}
use Rattle.hz_reasons.specs.declared.plan.Choice.{Choice}
use Rattle.hz_reasons.specs.declared.plan.Place.{Place}
use Rattle.hz_explain.specs.declared.takes.Stretch as code
use Rattle.hz_reasons.specs.declared.plan.Plan.{Plan}
use Rattle.hz_reasons.proofs.TakenLaws.{held_alike}
use Rattle.hz_explain.proofs.CutLaws.{texts_take}

-- ---- how far a unit is taken

module _ (parts : List (List (Pair ℕ))) where
  -- it is not taken in the next cycle
  stops : (most : ℕ) (u : UnitPlace) (cycle : ℕ) → is_held parts (suc cycle) u ≡ false → runs_on parts most u cycle ≡ 0
  stops zero u cycle free = refl
  stops (suc most) u cycle free = ap (λ (b : Bool). cond b (suc (runs_on parts most u (suc cycle))) 0) free

  -- it is
  goes : (most : ℕ) (u : UnitPlace) (cycle : ℕ) → is_held parts (suc cycle) u ≡ true → runs_on parts (suc most) u cycle ≡ suc (runs_on parts most u (suc cycle))
  goes most u cycle held = ap (λ (b : Bool). cond b (suc (runs_on parts most u (suc cycle))) 0) held

  goes_to : (cycles : ℕ) (u : UnitPlace) (cycle : ℕ) → suc cycle < cycles → is_held parts (suc cycle) u ≡ true → runs_to parts cycles u (suc cycle) ≡ runs_to parts cycles u cycle
  goes_to cycles u cycle low held =
      let most : cycles - suc cycle ≡ suc (cycles - suc (suc cycle)) = omega arith in
      let step : runs_on parts (cycles - suc cycle) u cycle ≡ suc (runs_on parts (cycles - suc (suc cycle)) u (suc cycle)) =
      ap (λ (k : ℕ). runs_on parts k u cycle) most ∙ goes (cycles - suc (suc cycle)) u cycle held in
      omega (arith, step)

  abbrev IsTakenIn : ℕ → UnitPlace → ℕ → Bool
  IsTakenIn cycles u next = nat_lt next cycles && is_held parts next u

  pub runs_more : (cycles : ℕ) (u : UnitPlace) (cycle next : ℕ) → suc cycle ≡ next → IsTakenIn cycles u next ≡ true → runs_to parts cycles u next ≡ runs_to parts cycles u cycle
  runs_more cycles u cycle next is taken =
      let P : ℕ → Type 0 = λ k. IsTakenIn cycles u k ≡ true → runs_to parts cycles u k ≡ runs_to parts cycles u cycle in
      subst P is
      (λ (here : IsTakenIn cycles u (suc cycle) ≡ true).
      let both = and_parts (nat_lt (suc cycle) cycles) (is_held parts (suc cycle) u) here in
      goes_to cycles u cycle (ltb-true (suc cycle) cycles both.0) both.1)
      taken

  ends_at : (cycles : ℕ) (u : UnitPlace) (cycle : ℕ) → IsTakenIn cycles u (suc cycle) ≡ false → runs_on parts (cycles - suc cycle) u cycle ≡ 0
  ends_at cycles u cycle free = ⊎_elim
      (λ (past : nat_lt (suc cycle) cycles ≡ false).
      let high = ltb-false (suc cycle) cycles past in
      let none : cycles - suc cycle ≡ 0 = omega arith in
      ap (λ (k : ℕ). runs_on parts k u cycle) none)
      (λ (other : is_held parts (suc cycle) u ≡ false). stops (cycles - suc cycle) u cycle other)
      (and_cases (nat_lt (suc cycle) cycles) (is_held parts (suc cycle) u) free)

  pub runs_end : (cycles : ℕ) (u : UnitPlace) (cycle next : ℕ) → suc cycle ≡ next → IsTakenIn cycles u next ≡ false → cycle ≡ runs_to parts cycles u cycle
  runs_end cycles u cycle next is free =
      let none : runs_on parts (cycles - suc cycle) u cycle ≡ 0 = ends_at cycles u cycle (subst (λ (k : ℕ). IsTakenIn cycles u k ≡ false) (sym is) free) in
      omega (arith, none)

  -- ---- stretches that are found one after the other

  -- what is found, and what begins with the pairs that are left
  abbrev found_with : (cycles : ℕ) → List code.Stretch → List Place → List (Stretch UnitPlace)
  found_with cycles found pairs = map stretch_of found ++ stretches_by parts cycles (map place_of pairs)

  pub found_next : (cycles : ℕ) (found new : List code.Stretch) (pairs : List Place) (i : ℕ) (d : Place) (all : List (Stretch UnitPlace)) → i < length pairs
      → found_with cycles found (drop i pairs) ≡ all → map stretch_of new ≡ map stretch_of found ++ stretches_at parts cycles (place_of (get_or pairs i d)) → found_with cycles new (drop (i + 1) pairs) ≡ all
  found_next cycles found new pairs i d all lt come more =
      let one : List (Stretch UnitPlace) = stretches_at parts cycles (place_of (get_or pairs i d)) in
      let rest : List (Stretch UnitPlace) = stretches_by parts cycles (map place_of (drop (i + 1) pairs)) in
      ap (λ (l : List (Stretch UnitPlace)). l ++ rest) more
      ∙ (append_assoc (map stretch_of found) one rest
      ∙ (sym (ap (found_with cycles found) (drop_more pairs i d lt)) ∙ come))

  -- as many as are looked for
  pub found_enough : (n cycles : ℕ) (found : List code.Stretch) (pairs : List Place) (all : List (Stretch UnitPlace)) → length found ≡ n → found_with cycles found pairs ≡ all → map stretch_of found ≡ take n all
  found_enough n cycles found pairs all long come =
      sym (take_at (map stretch_of found) (stretches_by parts cycles (map place_of pairs)) n (length-map found stretch_of ∙ long)) ∙ ap (take n) come

  -- all
  pub found_all : (n cycles : ℕ) (found : List code.Stretch) (pairs : List Place) (i : ℕ) (all : List (Stretch UnitPlace)) → length found ≤ n → length pairs ≤ i → found_with cycles found (drop i pairs) ≡ all → map stretch_of found ≡ take n all
  found_all n cycles found pairs i all few past come =
      let whole : map stretch_of found ≡ all = sym (append-nil (map stretch_of found)) ∙ (sym (ap (found_with cycles found) (drop_all i pairs past)) ∙ come) in
      let long = length-map found stretch_of in
      sym (take_all n (map stretch_of found) (omega arith)) ∙ ap (take n) whole

-- ---- what the columns show

pub taken_few : {A : Type 0} (text : A → List ℕ) (n columns : ℕ) (items : List A) → columns ≤ n → taken_by columns (map text (take (suc n) items)) ≡ taken_by columns (map text items)
taken_few text n columns [] few = refl
taken_few text n columns (x ∷ items) few = texts_take text (x ∷ items) (suc n) columns (codes " ") (codes ", ") (omega arith) (omega arith) (omega arith)

-- ---- whether lists are the same

pub same_length : (xs ys : List (Pair UnitPlace)) → are_same same_place xs ys ≡ true → length xs ≡ length ys
same_length [] [] same = refl
same_length [] (y ∷ ys) same = absurd (cc)
same_length (x ∷ xs) [] same = absurd (cc)
same_length (x ∷ xs) (y ∷ ys) same = ap suc (same_length xs ys (and_parts (same_pair same_place x y) (are_same same_place xs ys) same).1)

abbrev same_from : List Place → List Place → Bool
same_from xs ys = are_same same_place (map place_of xs) (map place_of ys)

-- at a place
pub same_step : (xs ys : List Place) (i : ℕ) (d e : Place) → i < length xs → i < length ys → same_from (drop i xs) (drop i ys) ≡ (same_pair same_place (place_of (get_or xs i d)) (place_of (get_or ys i e)) && same_from (drop (i + 1) xs) (drop (i + 1) ys))
same_step xs ys i d e low lower = ap (λ (l : List Place). same_from l (drop i ys)) (drop_more xs i d low) ∙ ap (same_from (get_or xs i d ∷ drop (i + 1) xs)) (drop_more ys i e lower)

pub same_end : (xs ys : List Place) (i : ℕ) → length xs ≤ i → length ys ≤ i → same_from (drop i xs) (drop i ys) ≡ true
same_end xs ys i past pasts = ap (λ (l : List Place). same_from l (drop i ys)) (drop_all i xs past) ∙ ap (same_from []) (drop_all i ys pasts)

-- ---- the first that is alike, and groups

pub first_here : {A : Type 0} (test : A → Bool) (xs : List A) (i : ℕ) (d : A) (all : ℕ) → i < length xs → i + first_place test (drop i xs) ≡ all → test (get_or xs i d) ≡ true → i ≡ all
first_here test xs i d all lt come here =
    let step : first_place test (drop i xs) ≡ 0 = ap (first_place test) (drop_more xs i d lt) ∙ ap (λ (b : Bool). cond b 0 (suc (first_place test (drop (i + 1) xs)))) here in
    omega (arith, step, come)

pub first_later : {A : Type 0} (test : A → Bool) (xs : List A) (i : ℕ) (d : A) (all : ℕ) → i < length xs → i + first_place test (drop i xs) ≡ all → test (get_or xs i d) ≡ false → i + 1 + first_place test (drop (i + 1) xs) ≡ all
first_later test xs i d all lt come here =
    let step : first_place test (drop i xs) ≡ suc (first_place test (drop (i + 1) xs)) = ap (first_place test) (drop_more xs i d lt) ∙ ap (λ (b : Bool). cond b 0 (suc (first_place test (drop (i + 1) xs)))) here in
    omega (arith, step, come)

pub first_nowhere : {A : Type 0} (test : A → Bool) (xs : List A) (i : ℕ) (all : ℕ) → length xs ≤ i → i + first_place test (drop i xs) ≡ all → i ≡ all
first_nowhere test xs i all past come =
    let none : first_place test (drop i xs) ≡ 0 = ap (first_place test) (drop_all i xs past) in
    omega (arith, none, come)

-- the text of a group, if the place leads one
abbrev group_at : {A : Type 0} → (List ℕ → A → List ℕ) → (leaders : List ℕ) → (place : ℕ) → A → List ℕ
group_at text leaders place x = cond (get_or leaders place 0 == place) (text (led_by place 1 leaders) x) []

pub groups_next : {A : Type 0} (text : List ℕ → A → List ℕ) (leaders : List ℕ) (xs : List A) (i : ℕ) (d : A) (old new all : List ℕ) → i < length xs
    → old ++ groups_from text leaders i (drop i xs) ≡ all → new ≡ old ++ group_at text leaders i (get_or xs i d) → new ++ groups_from text leaders (i + 1) (drop (i + 1) xs) ≡ all
groups_next text leaders xs i d old new all lt come more =
    let one : List ℕ = group_at text leaders i (get_or xs i d) in
    let rest : List ℕ = groups_from text leaders (suc i) (drop (i + 1) xs) in
    let on : i + 1 ≡ suc i = omega arith in
    ap (λ (n : ℕ). new ++ groups_from text leaders n (drop (i + 1) xs)) on
    ∙ (ap (λ (t : List ℕ). t ++ rest) more
    ∙ (append_assoc old one rest
    ∙ (sym (ap (λ (l : List _). old ++ groups_from text leaders i l) (drop_more xs i d lt)) ∙ come)))

pub groups_end : {A : Type 0} (text : List ℕ → A → List ℕ) (leaders : List ℕ) (xs : List A) (i : ℕ) (old all : List ℕ) → length xs ≤ i → old ++ groups_from text leaders i (drop i xs) ≡ all → old ≡ all
groups_end text leaders xs i old all past come = sym (append-nil old) ∙ (sym (ap (λ (l : List _). old ++ groups_from text leaders i l) (drop_all i xs past)) ∙ come)

-- ---- stretches by all pairs

-- after the last cycle nothing is taken
past_all : (pairs : List (Pair UnitPlace)) (cycle : ℕ) (u : UnitPlace) → cycles_in pairs ≤ cycle → holds same_place pairs cycle u ≡ false
past_all [] cycle u past = refl
past_all (p ∷ pairs) cycle u past =
    ap (λ (b : Bool). b || holds same_place pairs cycle u) (and_right (same_place p.unit u) (p.cycle == cycle) (ne_eqb p.cycle cycle (λ e. absurd (omega arith))))
    ∙ past_all pairs cycle u (omega arith)

module _ (pairs : List (Pair UnitPlace)) (parts : List (List (Pair ℕ))) (same : (cycle : ℕ) (u : UnitPlace) → holds same_place pairs cycle u ≡ is_held parts cycle u) where
  goes_on_is : (most : ℕ) (u : UnitPlace) (cycle : ℕ) → goes_on same_place pairs most u cycle ≡ runs_on parts most u cycle
  goes_on_is zero u cycle = refl
  goes_on_is (suc most) u cycle =
      ap (λ (b : Bool). cond b (suc (goes_on same_place pairs most u (suc cycle))) 0) (same (suc cycle) u)
      ∙ ap (λ (n : ℕ). cond (is_held parts (suc cycle) u) (suc n) 0) (goes_on_is most u (suc cycle))

  -- no more cycles need to be tried than there are
  enough : (most fewer : ℕ) (u : UnitPlace) (cycle : ℕ) → cycles_in pairs ≤ fewer + suc cycle → fewer ≤ most → runs_on parts most u cycle ≡ runs_on parts fewer u cycle
  enough most zero u cycle all few = stops parts most u cycle (sym (same (suc cycle) u) ∙ past_all pairs (suc cycle) u (omega arith))
  enough zero (suc fewer) u cycle all few = absurd (omega arith)
  enough (suc most) (suc fewer) u cycle all few = ap (λ (n : ℕ). cond (is_held parts (suc cycle) u) (suc n) 0) (enough most fewer u (suc cycle) (omega arith) (omega arith))

  -- the stretch from a pair, so many cycles on
  abbrev stretching : Pair UnitPlace → ℕ → Stretch UnitPlace
  stretching p n = record { unit = p.unit; first = p.cycle; last = p.cycle + n }

  begins_is : (p : Pair UnitPlace) → stretch_from same_place pairs p ≡ stretch_at parts (cycles_in pairs) p
  begins_is p =
      let on : goes_on same_place pairs (cycles_in pairs) p.unit p.cycle ≡ runs_on parts (cycles_in pairs - suc p.cycle) p.unit p.cycle =
      goes_on_is (cycles_in pairs) p.unit p.cycle ∙ enough (cycles_in pairs) (cycles_in pairs - suc p.cycle) p.unit p.cycle (omega arith) (omega arith) in
      ap (stretching p) on

  continues_is : (p : Pair UnitPlace) → continues same_place pairs p ≡ runs_before parts p
  continues_is p = ap (λ (b : Bool). nat_lt 0 p.cycle && b) (same (p.cycle - 1) p.unit)

  one_or_none : (b : Bool) (s : Stretch UnitPlace) (rest : List (Stretch UnitPlace)) → cond b rest (s ∷ rest) ≡ cond b [] (s ∷ []) ++ rest
  one_or_none true s rest = refl
  one_or_none false s rest = refl

  stretches_are : (ps : List (Pair UnitPlace)) → stretches_of same_place pairs ps ≡ stretches_by parts (cycles_in pairs) ps
  stretches_are [] = refl
  stretches_are (p ∷ ps) =
      ap (λ (b : Bool). cond b (stretches_of same_place pairs ps) (stretch_from same_place pairs p ∷ stretches_of same_place pairs ps)) (continues_is p)
      ∙ (ap (λ (s : Stretch UnitPlace). cond (runs_before parts p) (stretches_of same_place pairs ps) (s ∷ stretches_of same_place pairs ps)) (begins_is p)
      ∙ (ap (λ (rest : List (Stretch UnitPlace)). cond (runs_before parts p) rest (stretch_at parts (cycles_in pairs) p ∷ rest)) (stretches_are ps)
      ∙ one_or_none (runs_before parts p) (stretch_at parts (cycles_in pairs) p) (stretches_by parts (cycles_in pairs) ps)))

-- ---- groups of items that are something of others

module _ {A B : Type 0} (f : A → B) where
  first_mapped : (test : B → Bool) (xs : List A) → first_place test (map f xs) ≡ first_place (λ x. test (f x)) xs
  first_mapped test [] = refl
  first_mapped test (x ∷ xs) = ap (λ (n : ℕ). cond (test (f x)) 0 (suc n)) (first_mapped test xs)

  map_mapped : (g : B → ℕ) (h : A → ℕ) → ((x : A) → g (f x) ≡ h x) → (xs : List A) → map g (map f xs) ≡ map h xs
  map_mapped g h each [] = refl
  map_mapped g h each (x ∷ xs) = ap (λ (n : ℕ). n ∷ map g (map f xs)) (each x) ∙ ap (λ (ns : List ℕ). h x ∷ ns) (map_mapped g h each xs)

  leaders_mapped : (alike : B → B → Bool) (xs : List A) → leaders alike (map f xs) ≡ leaders (λ x y. alike (f x) (f y)) xs
  leaders_mapped alike xs = map_mapped (λ y. first_place (alike y) (map f xs)) (λ x. first_place (λ z. alike (f x) (f z)) xs) (λ x. first_mapped (alike (f x)) xs) xs

  -- where each text of an item is that of the other
  groups_mapped : (text : List ℕ → A → List ℕ) (other : List ℕ → B → List ℕ) (leaders : List ℕ) (place : ℕ) (xs : List A) → All (λ x. (numbers : List ℕ) → text numbers x ≡ other numbers (f x)) xs
      → groups_from text leaders place xs ≡ groups_from other leaders place (map f xs)
  groups_mapped text other leaders place [] each = refl
  groups_mapped text other leaders place (x ∷ xs) each =
      let Alike : A → Type 0 = λ y. (numbers : List ℕ) → text numbers y ≡ other numbers (f y) in
      ap (λ (t : List ℕ). cond (get_or leaders place 0 == place) t [] ++ groups_from text leaders (suc place) xs) (All-head Alike x xs each (led_by place 1 leaders))
      ∙ ap (λ (t : List ℕ). cond (get_or leaders place 0 == place) (other (led_by place 1 leaders) (f x)) [] ++ t) (groups_mapped text other leaders (suc place) xs (All-tail Alike x xs each))

-- ---- what alternatives take

taken_is : (name : UnitPlace → List ℕ) (columns : ℕ) (ss : List (Stretch UnitPlace)) → taken_by columns (map (stretch_text name) ss) ≡ taken_text name columns ss
taken_is name columns [] = refl
taken_is name columns (s ∷ ss) = refl

module _ (name : UnitPlace → List ℕ) where
  line_is : (c : Choice) → IsInParts c → (numbers : List ℕ) → line_reported name numbers c ≡ takes_line same_place name numbers (pairs_in c)
  line_is c is numbers =
      let columns : ℕ = line_limit - (length (alternatives_text numbers) + length (takes_word numbers)) in
      ap (λ (t : List ℕ). concat (alternatives_text numbers ∷ takes_word numbers ∷ t ∷ codes "\n" ∷ []))
      (taken_is name columns (stretches_in c) ∙ ap (taken_text name columns) (sym (stretches_are (pairs_in c) c.parts.items is (pairs_in c))))

  lines_in : (choices : List Choice) → All IsInParts choices → All (λ c. (numbers : List ℕ) → line_reported name numbers c ≡ takes_line same_place name numbers (pairs_in c)) choices
  lines_in choices are k d lt = line_is (get_or choices k d) (are k d lt)

  groups_are : (choices : List Choice) → All IsInParts choices → group_texts take_alike (line_reported name) choices ≡ group_texts (are_same same_place) (takes_line same_place name) (map pairs_in choices)
  groups_are choices are =
      groups_mapped pairs_in (line_reported name) (takes_line same_place name) (leaders take_alike choices) 0 choices (lines_in choices are)
      ∙ ap (λ (ls : List ℕ). groups_from (takes_line same_place name) ls 0 (map pairs_in choices)) (sym (leaders_mapped pairs_in (are_same same_place) choices))

  pub takes_in_parts : (choices : List Choice) → All IsInParts choices → takes_reported name choices ≡ takes_lines same_place name (map pairs_in choices)
  takes_in_parts choices are =
      ap (λ (t : List ℕ). t ++ more_reported (length choices))
      (groups_are (take takes_limit choices) (All-take IsInParts takes_limit choices are) ∙ ap (group_texts (are_same same_place) (takes_line same_place name)) (sym (take-map pairs_in takes_limit choices)))
      ∙ ap (λ (n : ℕ). group_texts (are_same same_place) (takes_line same_place name) (take takes_limit (map pairs_in choices)) ++ more_line same_place name n) (sym (length-map choices pairs_in))

-- ---- by the plan

pairs_read : (choices : List Choice) (i : ℕ) (d : Choice) → i < length choices → plans.pairs_at choices i ≡ (get_or choices i d).pairs.items
pairs_read choices i d lt = ap pairs_of (slice_get-get_or choices i d lt)

parts_here : (choices : List Choice) (i : ℕ) (d : Choice) → i < length choices → parts_at choices i ≡ (get_or choices i d).parts.items
parts_here choices i d lt = ap parts_of (slice_get-get_or choices i d lt)

-- the pairs of each alternative are listed in order
lists_alike : (choices : List Choice) (options : List (Alternative UnitPlace)) → length choices ≡ length options
    → ((i : ℕ) → i < length choices → map place_of (plans.pairs_at choices i) ≡ ascending (replay.pairs_at (slice_get options i))) → map pairs_in choices ≡ map (λ a. ascending a.pairs) options
lists_alike [] [] long each = refl
lists_alike [] (a ∷ options) long each = absurd (omega arith)
lists_alike (c ∷ choices) [] long each = absurd (omega arith)
lists_alike (c ∷ choices) (a ∷ options) long each =
    ap (λ (ps : List (Pair UnitPlace)). ps ∷ map pairs_in choices) (each 0 (omega arith))
    ∙ ap (λ (ls : List (List (Pair UnitPlace))). ascending a.pairs ∷ ls) (lists_alike choices options (omega arith) (λ i lt. each (suc i) (omega arith)))

module _ (m : Pipeline UnitPlace) (plan : Plan) (is : IsPlanOf m plan) (wide : IsWide plan) (k : ℕ) where
  abbrev here : List Choice
  here = choices_at plan k

  abbrev IsAsWide : Choice → Type 0
  IsAsWide c = length c.parts.items ≡ length plan.rules.items

  wide_here : All IsAsWide here
  wide_here = ⊎_elim
      (λ found. subst (λ (cs : List Choice). All IsAsWide cs) (sym (ap choices_of found.2)) (subst (λ (v : Vec Choice Global). All IsAsWide v.items) found.3 (wide k found.0 found.1)))
      (λ past. subst (λ (cs : List Choice). All IsAsWide cs) (sym (ap choices_of past.1)) (All-nil IsAsWide))
      (slice_get_cases plan.classes.items k).1

  module _ (i : ℕ) (lt : i < length here) (cycle : ℕ) (u : UnitPlace) where
    abbrev pairs : List (Pair UnitPlace)
    pairs = ascending (chosen m k i)

    abbrev p : Pair UnitPlace
    p = in_automaton u.automaton u.unit cycle

    within : u.automaton < length plan.rules.items → holds same_place pairs cycle u ≡ is_held (parts_at here i) cycle u
    within low =
        let part = is.parts k i u.automaton u.unit cycle lt low in
        let listed = same_ascending (chosen m k i) p in
        held_alike (parts_at here i) pairs u cycle cycle (λ h. listed.1 (part.0 h), λ h. part.1 (listed.0 h))

    beyond : length plan.rules.items ≤ u.automaton → length (parts_at here i) ≡ length plan.rules.items → holds same_place pairs cycle u ≡ is_held (parts_at here i) cycle u
    beyond high each =
        false_from_ne_true (holds same_place pairs cycle u) (λ (held : holds same_place pairs cycle u ≡ true).
        let there = (has_decides same_place places_tell pairs p).0 held in
        let low = is.pairs k i p ((same_ascending (chosen m k i) p).0 there) in
        absurd (omega arith))
        ∙ sym (ap (λ (grid : List (Pair ℕ)). has ◌==◌ grid (record { unit = u.unit; cycle = cycle })) (get_or_past (parts_at here i) u.automaton [] (omega arith)))

    alike : length (parts_at here i) ≡ length plan.rules.items → holds same_place pairs cycle u ≡ is_held (parts_at here i) cycle u
    alike each = ⊎_elim within (λ (high : length plan.rules.items ≤ u.automaton). beyond high each) (cases_lt u.automaton (length plan.rules.items))

  in_parts : All IsInParts here
  in_parts i d lt = λ cycle u.
      let parts = parts_here here i d lt in
      let pairs = ap (map place_of) (sym (pairs_read here i d lt)) ∙ is.listed k i lt in
      ap (λ (ps : List (Pair UnitPlace)). holds same_place ps cycle u) pairs
      ∙ (alike i lt cycle u (ap length parts ∙ wide_here i d lt)
      ∙ ap (λ (ps : List (List (Pair ℕ))). is_held ps cycle u) parts)

  -- what is reported is what the alternatives of the class take
  pub takes_are : (name : UnitPlace → List ℕ) → takes_reported name here ≡ takes_lines same_place name (map (λ a. ascending a.pairs) (alternatives_at m k))
  takes_are name =
      takes_in_parts name here in_parts
      ∙ ap (takes_lines same_place name) (lists_alike here (alternatives_at m k) (is.numbers k) (is.listed k))
