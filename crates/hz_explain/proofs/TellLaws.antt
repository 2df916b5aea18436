-- What is reported by what the code holds is what the definitions tell.
use Rattle.std.proofs.Common.{◌≡◌, ℕ, zero, suc, ◌+◌, ◌-◌, ◌<◌, ◌≤◌, ⊎_elim, Bool, true, false, cond, List, [], ◌∷◌, ◌++◌, map, take, drop, length, append_assoc, Contains, Option, Some, None, refl, sym, ap, ◌∙◌, subst, arith}
use Rattle.std.specs.Prelude.{◌&&◌, ◌==◌, codes, decimal, slice_get, slice_index_or, if◌then◌else◌}
use Rattle.std.specs.List.{concat, find, flat_map}
use Rattle.std.specs.Option.{option_map}
use Rattle.std.specs.declared.alloc.Global.{Global}
use Rattle.std.specs.declared.vec.Vec.{Vec}
use Rattle.std.proofs.Math.Path.{fun_ext}
use Rattle.std.proofs.lemmas.Bool.{cases_lt, lt-ltb, le-ltb, eqb-true, eq-eqb, false_from_ne_true, and_parts}
use Rattle.std.proofs.lemmas.List.{append-nil, map_more, map_push}
use Rattle.std.proofs.lemmas.List.Elements.{Contains-append_cases}
use Rattle.std.proofs.lemmas.List.Folds.{concat-append}
use Rattle.std.proofs.lemmas.Option.{slice_get-map, slice_get_cases}
use Rattle.hz_base_model.specs.Pairs.{Pair, later, placed}
use Rattle.hz_base_model.proofs.Elements.{Contains-nil, Contains-head, Contains-tail, Contains-from_map, Contains-from_filter}
use Rattle.hz_description_model.specs.Reservations.Automata.{UnitPlace}
use Rattle.hz_description_model.specs.Reservations.Sets.{Statement}
use Rattle.hz_pipeline_model.specs.Accepting.Events.{Event, issue, advance, ask, cycles_of}
use Rattle.hz_pipeline_model.specs.Accepting.Replay.{Pipeline, chosen, any_fit, first_fit}
use Rattle.hz_why_model.specs.Explanations.{Wording, held_word, choice_line, pair_words, holder_words, pattern_words, reason_words}
use Rattle.hz_why_model.specs.Holders.{Entry, entries, entry_at, entry_from, entries_from}
use Rattle.hz_why_model.specs.Reasons.{same_place, patterns_of}
use Rattle.hz_reasons.specs.Breaking.{reason_at, pattern_at}
use Rattle.hz_reasons.specs.Holding.{AreHolders, entry_with, pair_in, is_holder_of}
use Rattle.hz_reasons.specs.Plans.{unit_of, statement_of, IsPlanOf}
use Rattle.hz_explain.specs.Telling.{holder_in, pattern_or_none, pattern_numbered, patterns_or_none, pattern_in, unit_in, pair_reported, holder_reported, units_reported, pattern_reported, reason_reported, choice_reported}
use Rattle.hz_reasons.specs.declared.holders.Holder.{Holder}
use Rattle.hz_reasons.specs.declared.plan.AutomatonUnit.{AutomatonUnit}
use Rattle.hz_reasons.specs.declared.plan.Plan.{Plan}
use Rattle.hz_reasons.specs.declared.plan.SetStatement.{SetStatement}
use Rattle.hz_reasons.specs.declared.reasons.Break.{Break}
use Rattle.hz_reasons.specs.declared.reasons.Reason.{Reason}
use Rattle.hz_reasons.specs.declared.reasons.Reason.TheVariants.{Taken, Broken}
use Rattle.hz_reasons.proofs.HoldingLaws.{holder_in_all, holder_from_now}

-- one reason more
pub reasons_next : {A R Q : Type 0} (f : R → Q) (g : A → Q) (made : List R) (new : R) (all : List A) (i : ℕ) → i < length all → map f made ≡ map g (take i all)
    → ((a : A) → slice_get all i ≡ Some a → f new ≡ g a) → map f (made ++ new ∷ []) ≡ map g (take (i + 1) all)
reasons_next f g made new all i lt come each = ⊎_elim
    (λ found.
    map_push f made new
    ∙ (ap (λ (l : List _). l ++ f new ∷ []) come
    ∙ (ap (λ (q : _). map g (take i all) ++ q ∷ []) (each found.0 found.2 ∙ ap g (sym found.3)) ∙ sym (map_more g all i found.0 lt))))
    (λ past. let none = past.0 in absurd (omega arith))
    (slice_get_cases all i).1

-- ---- who holds a unit

-- a unit in a cycle that is counted from the present one
abbrev pub in_cycle : (now : ℕ) → UnitPlace → (cycle : ℕ) → Pair UnitPlace
in_cycle now u cycle = record { unit = u; cycle = now + cycle }

find_none : {X : Type 0} (f : X → Bool) (xs : List X) → ((x : X) → Contains xs x → f x ≡ false) → find f xs ≡ None
find_none f [] none = refl
find_none f (x ∷ xs) none = ap (λ (b : Bool). cond b (Some x) (find f xs)) (none x (Contains-head x xs)) ∙ find_none f xs (λ y there. none y (Contains-tail x y xs there))

module _ (m : Pipeline UnitPlace) (plan : Plan) (is : IsPlanOf m plan) where
  -- all units that are held are units of the plan
  entries_low : (now : ℕ) (t : List Event) (lines choices : List ℕ) (e : Entry UnitPlace) → Contains (entries m now t lines choices) e → e.pair.unit.automaton < length plan.rules.items
  entries_low now [] lines choices e h = absurd (Contains-nil e h)
  entries_low now (advance n ∷ t) lines choices e h = entries_low (n + now) t (drop 1 lines) choices e h
  entries_low now (ask a u ∷ t) lines choices e h = entries_low now t (drop 1 lines) choices e h
  entries_low now (issue k ∷ t) lines [] e h = absurd (Contains-nil e h)
  entries_low now (issue k ∷ t) lines (i ∷ choices) e h = ⊎_elim
      (λ here.
      let made = Contains-from_map _ (placed now (chosen m k i)) e here in
      let moved = Contains-from_map (later now) (chosen m k i) made.0 made.1 in
      subst (λ (x : Entry UnitPlace). x.pair.unit.automaton < length plan.rules.items) made.2
      (subst (λ (p : Pair UnitPlace). p.unit.automaton < length plan.rules.items) moved.2 (is.pairs k i moved.0 moved.1)))
      (λ there. entries_low now t (drop 1 lines) choices e there)
      (Contains-append_cases _ (entries m now t (drop 1 lines) choices) e h)

  from_low : (now : ℕ) (t : List Event) (lines choices : List ℕ) (e : Entry UnitPlace) → Contains (entries_from now (entries m 0 t lines choices)) e → e.pair.unit.automaton < length plan.rules.items
  from_low now t lines choices e h =
      let moved = Contains-from_map (entry_from now) _ e h in
      let kept = Contains-from_filter _ moved.0 _ moved.1 in
      subst (λ (x : Entry UnitPlace). x.pair.unit.automaton < length plan.rules.items) moved.2 (entries_low 0 t lines choices moved.0 kept.0)

  -- a unit that is not one of the plan is not held
  free : (es : List (Entry UnitPlace)) → ((e : Entry UnitPlace) → Contains es e → e.pair.unit.automaton < length plan.rules.items) → (p : Pair UnitPlace) → length plan.rules.items ≤ p.unit.automaton → entry_at same_place es p ≡ None
  free es low p high = find_none (λ e. same_place e.pair.unit p.unit && e.pair.cycle == p.cycle) es
      (λ e there. false_from_ne_true _ (λ (same : (same_place e.pair.unit p.unit && e.pair.cycle == p.cycle) ≡ true).
      let both = and_parts (same_place e.pair.unit p.unit) (e.pair.cycle == p.cycle) same in
      let unit = and_parts (e.pair.unit.automaton == p.unit.automaton) (e.pair.unit.unit == p.unit.unit) both.0 in
      let one = eqb-true e.pair.unit.automaton p.unit.automaton unit.0 in
      let under = low e there in
      absurd (omega arith)))

  module _ (t : List Event) (lines choices : List ℕ) (issues : List Holder) (are : AreHolders m t lines choices issues) (u : UnitPlace) (cycle : ℕ) where
    pub reported_in_all : option_map (entry_with (in_cycle (cycles_of t) u cycle)) (holder_in plan issues u cycle) ≡ entry_at same_place (entries m 0 t lines choices) (in_cycle (cycles_of t) u cycle)
    reported_in_all = ⊎_elim
        (λ (low : u.automaton < length plan.rules.items).
        ap (λ (b : Bool). option_map (entry_with (in_cycle (cycles_of t) u cycle)) (cond b (find (is_holder_of plan u cycle) issues) None)) (lt-ltb u.automaton (length plan.rules.items) low)
        ∙ holder_in_all m plan is t lines choices issues are u low cycle)
        (λ (high : length plan.rules.items ≤ u.automaton).
        ap (λ (b : Bool). option_map (entry_with (in_cycle (cycles_of t) u cycle)) (cond b (find (is_holder_of plan u cycle) issues) None)) (le-ltb u.automaton (length plan.rules.items) high)
        ∙ sym (free (entries m 0 t lines choices) (entries_low 0 t lines choices) (in_cycle (cycles_of t) u cycle) high))
        (cases_lt u.automaton (length plan.rules.items))

    pub reported_from_now : option_map (entry_with (record { unit = u; cycle = cycle })) (holder_in plan issues u cycle) ≡ entry_at same_place (entries_from (cycles_of t) (entries m 0 t lines choices)) (record { unit = u; cycle = cycle })
    reported_from_now =
        let p : Pair UnitPlace = record { unit = u; cycle = cycle } in
        ⊎_elim
        (λ (low : u.automaton < length plan.rules.items).
        ap (λ (b : Bool). option_map (entry_with p) (cond b (find (is_holder_of plan u cycle) issues) None)) (lt-ltb u.automaton (length plan.rules.items) low)
        ∙ holder_from_now m plan is t lines choices issues are u low cycle)
        (λ (high : length plan.rules.items ≤ u.automaton).
        ap (λ (b : Bool). option_map (entry_with p) (cond b (find (is_holder_of plan u cycle) issues) None)) (le-ltb u.automaton (length plan.rules.items) high)
        ∙ sym (free (entries_from (cycles_of t) (entries m 0 t lines choices)) (from_low (cycles_of t) t lines choices) p high))
        (cases_lt u.automaton (length plan.rules.items))

-- ---- patterns

abbrev or_nothing : Option (List UnitPlace) → List UnitPlace
or_nothing None = []
or_nothing (Some us) = us

pattern_by : (o : Option (Vec AutomatonUnit Global)) → map unit_of (pattern_or_none o) ≡ or_nothing (option_map (λ pattern. map unit_of pattern.items) o)
pattern_by None = refl
pattern_by (Some pattern) = refl

or_nothing_at : (patterns : List (List UnitPlace)) (n : ℕ) → or_nothing (slice_get patterns n) ≡ slice_index_or patterns n []
or_nothing_at [] n = refl
or_nothing_at (us ∷ patterns) zero = refl
or_nothing_at (us ∷ patterns) (suc n) = or_nothing_at patterns n

numbered_is : (patterns : List (Vec AutomatonUnit Global)) (number : Option ℕ) → map unit_of (pattern_numbered patterns number) ≡ pattern_at (map (λ pattern. map unit_of pattern.items) patterns) number
numbered_is patterns None = refl
numbered_is patterns (Some n) =
    pattern_by (slice_get patterns n) ∙ ap or_nothing (sym (slice_get-map (λ (pattern : Vec AutomatonUnit Global). map unit_of pattern.items) patterns n))
    ∙ or_nothing_at (map (λ pattern. map unit_of pattern.items) patterns) n

of_set : (o : Option SetStatement) → map (λ (pattern : Vec AutomatonUnit Global). map unit_of pattern.items) (patterns_or_none o) ≡ patterns_of (option_map statement_of o)
of_set None = refl
of_set (Some s) = refl

pub pattern_is : (sets : List SetStatement) (statements : List (Statement UnitPlace)) → map statement_of sets ≡ statements → (b : Break) → map unit_of (pattern_in sets b) ≡ pattern_at (patterns_of (slice_get statements b.statement)) b.pattern
pattern_is sets statements same b =
    numbered_is (patterns_or_none (slice_get sets b.statement)) b.pattern
    ∙ ap (λ (ps : List (List UnitPlace)). pattern_at ps b.pattern)
    (of_set (slice_get sets b.statement) ∙ ap patterns_of (sym (slice_get-map statement_of sets b.statement) ∙ ap (λ (ss : List (Statement UnitPlace)). slice_get ss b.statement) same))

-- ---- lines

differ : (a b : ℕ) → (a ≡ b → ⊥) → (a == b) ≡ false
differ a b apart = false_from_ne_true _ (λ e. apart (eqb-true a b e))

-- a cycle is the present one where it is cycle 0 from there
at_present : (now cycle : ℕ) → (now + cycle == now) ≡ (cycle == 0)
at_present now cycle = ⊎_elim
    (λ (past : 0 < cycle). differ (now + cycle) now (λ e. omega arith) ∙ sym (differ cycle 0 (λ e. omega arith)))
    (λ (none : cycle ≤ 0). eq-eqb (now + cycle) now (omega arith) ∙ sym (eq-eqb cycle 0 (omega arith)))
    (cases_lt 0 cycle)

module _ (w : Wording UnitPlace) (now : ℕ) (held : List (Entry UnitPlace)) where
  pair_is : (u : AutomatonUnit) (cycle : ℕ) → concat (pair_words w now held (pair_in now u cycle)) ≡ pair_reported w u cycle
  pair_is u cycle = let same : now + cycle - now ≡ cycle = omega arith in ap (λ (n : ℕ). concat (w.unit (unit_of u) ∷ codes " in cycle " ∷ decimal n ∷ [])) same

  holder_is : (u : AutomatonUnit) (cycle : ℕ) (o : Option Holder) → concat (holder_words w now held (option_map (entry_with (pair_in now u cycle)) o)) ≡ holder_reported w cycle o
  holder_is u cycle None = refl
  holder_is u cycle (Some h) = ap (λ (present : Bool). concat (held_word present ∷ decimal h.line ∷ codes ", " ∷ w.class h.class ∷ [])) (at_present now cycle)

  units_are : (us : List AutomatonUnit) → concat (flat_map (λ v. codes " " ∷ w.unit v ∷ []) (map unit_of us)) ≡ units_reported w us
  units_are [] = refl
  units_are (u ∷ us) = ap (λ (t : List ℕ). codes " " ++ (w.unit (unit_of u) ++ t)) (units_are us) ∙ sym (append_assoc (codes " ") (w.unit (unit_of u)) (units_reported w us))

  pattern_said : (us : List AutomatonUnit) → concat (pattern_words w now held (map unit_of us)) ≡ pattern_reported w us
  pattern_said [] = append-nil (codes " without a pattern")
  pattern_said (u ∷ us) = ap (λ (t : List ℕ). codes " with" ++ t) (units_are (u ∷ us))

  module _ (plan : Plan) (issues : List Holder) (statements : List (Statement UnitPlace)) (sets : map statement_of plan.sets.items ≡ statements)
      (holders : (u : UnitPlace) (cycle : ℕ) → option_map (entry_with (in_cycle now u cycle)) (holder_in plan issues u cycle) ≡ entry_at same_place held (in_cycle now u cycle))
      (same : (a b : UnitPlace) → w.same a b ≡ same_place a b) where
    at_same : (p : Pair UnitPlace) → entry_at w.same held p ≡ entry_at same_place held p
    at_same p = ap (λ (s : UnitPlace → UnitPlace → Bool). entry_at s held p) (fun_ext (λ a. fun_ext (λ b. same a b)))

    pub reason_is : (r : Reason) → concat (reason_words w now held (reason_at statements now r)) ≡ reason_reported w plan issues r
    reason_is (Taken p) =
        let q : Pair UnitPlace = pair_in now (unit_in p) p.cycle in
        concat-append (pair_words w now held q) (holder_words w now held (entry_at w.same held q))
        ∙ (ap (λ (t : List ℕ). t ++ concat (holder_words w now held (entry_at w.same held q))) (pair_is (unit_in p) p.cycle)
        ∙ ap (λ (t : List ℕ). pair_reported w (unit_in p) p.cycle ++ t)
        (ap (λ (o : Option (Entry UnitPlace)). concat (holder_words w now held o)) (at_same q ∙ sym (holders (unit_of (unit_in p)) p.cycle)) ∙ holder_is (unit_in p) p.cycle (holder_in plan issues (unit_of (unit_in p)) p.cycle)))
    reason_is (Broken b) =
        let q : Pair UnitPlace = pair_in now b.unit b.cycle in
        let pattern : List UnitPlace = pattern_at (patterns_of (slice_get statements b.statement)) b.pattern in
        let reported : List ℕ = pattern_reported w (pattern_in plan.sets.items b) in
        let said : concat (pattern_words w now held pattern) ≡ reported = ap (λ (us : List UnitPlace). concat (pattern_words w now held us)) (sym (pattern_is plan.sets.items statements sets b)) ∙ pattern_said (pattern_in plan.sets.items b) in
        let both : concat (pair_words w now held q ++ pattern_words w now held pattern) ≡ pair_reported w b.unit b.cycle ++ (reported ++ []) =
        concat-append (pair_words w now held q) (pattern_words w now held pattern)
        ∙ (ap (λ (t : List ℕ). t ++ concat (pattern_words w now held pattern)) (pair_is b.unit b.cycle)
        ∙ ap (λ (t : List ℕ). pair_reported w b.unit b.cycle ++ t) (said ∙ sym (append-nil reported))) in
        ap (λ (t : List ℕ). w.statement b.statement ++ (codes " line " ++ (decimal (w.line b.statement) ++ (codes ", " ++ t)))) both

-- ---- by which choices

pub choice_is : (any : Bool) → choice_reported any ≡ choice_line (if any then any_fit else first_fit)
choice_is true = refl
choice_is false = refl
