-- What holds of each alternative of an expression, and of each name in it.
use Rattle.std.proofs.Common.{ℕ, zero, suc, ◌+◌, ◌<◌, max, inl, inr, ⊎_elim, Bool, List, [], All, refl, sym, subst, arith}
use Rattle.std.specs.Prelude.{IsTrue, ◌↔◌}
use Rattle.std.proofs.lemmas.Bool.{and_parts, and_from, leb-true}
use Rattle.std.proofs.lemmas.List.Elements.{All-nil, All-cons, All-append, All-map, All-contains, Contains-get_or}
use Rattle.hz_base_model.specs.Pairs.{Pair, later, placed}
use Rattle.hz_description_model.specs.Reservations.Alternatives.{Alternative, Expression, named, nothing, sequence, one_of, all_of, repeat, Parts, none, more, idle, followed_by, beside, copies, alternatives_of, in_sequence, any_of, together}
use Rattle.hz_description_model.specs.Reservations.Expressions.{is_expression, are_expressions}
use Rattle.hz_description_model.specs.Reservations.Meanings.{Mentions, MentionsIn}
use Rattle.hz_description_model.specs.Reservations.NamesIn.{all_names, all_names_in}
use Rattle.hz_description_model.specs.Reservations.Automata.{UnitPlace, ascending, listed}
use Rattle.hz_description_model.specs.Reservations.AlternativeLists.{IsPlaced, AreSound, IsCuttable}
use Rattle.hz_base_model.specs.Limits.{automaton_limit, unit_limit}
use Rattle.hz_description_model.proofs.Reservations.AscendingLaws.{Contains-from_ascending}
use Rattle.hz_description_model.proofs.Reservations.ListedLaws.{All-each_choice}
use Rattle.hz_description_model.proofs.Reservations.ExpressionLaws.{one_followed, one_beside}

-- some part
abbrev pub IsSome : Parts → Type 0
IsSome none = ⊥
IsSome (more first others) = Unit {0}

module _ {U : Type 0} (P : Alternative U → Type 0) (idles : P idle) (follows : (a b : Alternative U) → P a → P b → P (followed_by a b)) (sides : (a b : Alternative U) → P a → P b → P (beside a b)) where
  pub every_copy : (n : ℕ) (xs : List (Alternative U)) → 0 < n → All P xs → All P (copies n xs)
  every_copy zero xs h each = absurd (omega arith)
  every_copy (suc zero) xs h each = subst (All P) (sym (one_followed xs)) each
  every_copy (suc (suc n)) xs h each = All-each_choice P followed_by follows xs (copies (suc n) xs) each (every_copy (suc n) xs (omega arith) each)

  module _ (known : List ℕ → List (Alternative U)) where
    -- P holds of what is known of the names
    abbrev AllOf : (List ℕ → Type 0) → Type 0
    AllOf names = (name : List ℕ) → names name → All P (known name)

    mutual
      pub every_alternative : (e : Expression) → IsTrue (is_expression e) → AllOf (Mentions e) → All P (alternatives_of known e)
      every_alternative (named name) is each = each name refl
      every_alternative nothing is each = All-cons P idle [] idles (All-nil P)
      every_alternative (sequence none) is each = absurd (cc)
      every_alternative (sequence (more first others)) is each = every_sequence (more first others) tt (and_parts _ _ is).1 each
      every_alternative (one_of parts) is each = every_any parts (and_parts _ _ is).1 each
      every_alternative (all_of none) is each = absurd (cc)
      every_alternative (all_of (more first others)) is each = every_together (more first others) tt (and_parts _ _ is).1 each
      every_alternative (repeat part times) is each = every_copy times (alternatives_of known part) (leb-true 1 times (and_parts _ _ (and_parts _ _ is).0).1) (every_alternative part (and_parts _ _ (and_parts _ _ is).0).0 each)

      pub every_sequence : (parts : Parts) → IsSome parts → IsTrue (are_expressions parts) → AllOf (MentionsIn parts) → All P (in_sequence known parts)
      every_sequence none some is each = absurd some
      every_sequence (more first none) some is each = subst (All P) (sym (one_followed (alternatives_of known first))) (every_alternative first (and_parts _ _ is).0 (λ name h. each name (inl h)))
      every_sequence (more first (more second others)) some is each =
          All-each_choice P followed_by follows (alternatives_of known first) (in_sequence known (more second others))
          (every_alternative first (and_parts _ _ is).0 (λ name h. each name (inl h)))
          (every_sequence (more second others) tt (and_parts _ _ is).1 (λ name h. each name (inr h)))

      pub every_any : (parts : Parts) → IsTrue (are_expressions parts) → AllOf (MentionsIn parts) → All P (any_of known parts)
      every_any none is each = All-nil P
      every_any (more first others) is each =
          All-append P (alternatives_of known first) (any_of known others)
          (every_alternative first (and_parts _ _ is).0 (λ name h. each name (inl h)))
          (every_any others (and_parts _ _ is).1 (λ name h. each name (inr h)))

      pub every_together : (parts : Parts) → IsSome parts → IsTrue (are_expressions parts) → AllOf (MentionsIn parts) → All P (together known parts)
      every_together none some is each = absurd some
      every_together (more first none) some is each = subst (All P) (sym (one_beside (alternatives_of known first))) (every_alternative first (and_parts _ _ is).0 (λ name h. each name (inl h)))
      every_together (more first (more second others)) some is each =
          All-each_choice P beside sides (alternatives_of known first) (together known (more second others))
          (every_alternative first (and_parts _ _ is).0 (λ name h. each name (inl h)))
          (every_together (more second others) tt (and_parts _ _ is).1 (λ name h. each name (inr h)))

-- ---- alternatives that a description can have

pub idle_placed : IsPlaced idle
idle_placed = record { runs = omega arith; within = All-nil _; automata = All-nil _; units = All-nil _ }

pub followed_placed : (a b : Alternative UnitPlace) → IsPlaced a → IsPlaced b → IsPlaced (followed_by a b)
followed_placed a b is_a is_b =
    let runs = is_a.runs in record {
      runs = omega arith;
      within = All-append (λ p. p.cycle < a.cycles + b.cycles) a.pairs (placed a.cycles b.pairs)
          (λ k d lt. let low = is_a.within k d lt in omega arith)
          (All-map (λ p. p.cycle < a.cycles + b.cycles) (later a.cycles) b.pairs (λ k d lt. let low = is_b.within k d lt in omega arith));
      automata = All-append (λ p. p.unit.automaton < automaton_limit) a.pairs (placed a.cycles b.pairs) is_a.automata (All-map (λ p. p.unit.automaton < automaton_limit) (later a.cycles) b.pairs is_b.automata);
      units = All-append (λ p. p.unit.unit < unit_limit) a.pairs (placed a.cycles b.pairs) is_a.units (All-map (λ p. p.unit.unit < unit_limit) (later a.cycles) b.pairs is_b.units);
    }

pub beside_placed : (a b : Alternative UnitPlace) → IsPlaced a → IsPlaced b → IsPlaced (beside a b)
beside_placed a b is_a is_b =
    let runs = is_a.runs in record {
      runs = omega arith;
      within = All-append (λ p. p.cycle < max a.cycles b.cycles) a.pairs b.pairs
          (λ k d lt. let low = is_a.within k d lt in omega arith)
          (λ k d lt. let low = is_b.within k d lt in omega arith);
      automata = All-append (λ p. p.unit.automaton < automaton_limit) a.pairs b.pairs is_a.automata is_b.automata;
      units = All-append (λ p. p.unit.unit < unit_limit) a.pairs b.pairs is_a.units is_b.units;
    }

-- the alternatives of names that a description can have make such ones
pub placed_alternatives : (known : List ℕ → List (Alternative UnitPlace)) (e : Expression) → IsTrue (is_expression e) → ((name : List ℕ) → Mentions e name → All IsPlaced (known name)) → All IsPlaced (alternatives_of known e)
placed_alternatives = every_alternative IsPlaced idle_placed followed_placed beside_placed

pub placed_sequence : (known : List ℕ → List (Alternative UnitPlace)) (parts : Parts) → IsSome parts → IsTrue (are_expressions parts) → ((name : List ℕ) → MentionsIn parts name → All IsPlaced (known name)) → All IsPlaced (in_sequence known parts)
placed_sequence = every_sequence IsPlaced idle_placed followed_placed beside_placed

pub placed_any : (known : List ℕ → List (Alternative UnitPlace)) (parts : Parts) → IsTrue (are_expressions parts) → ((name : List ℕ) → MentionsIn parts name → All IsPlaced (known name)) → All IsPlaced (any_of known parts)
placed_any = every_any IsPlaced idle_placed followed_placed beside_placed

pub placed_together : (known : List ℕ → List (Alternative UnitPlace)) (parts : Parts) → IsSome parts → IsTrue (are_expressions parts) → ((name : List ℕ) → MentionsIn parts name → All IsPlaced (known name)) → All IsPlaced (together known parts)
placed_together = every_together IsPlaced idle_placed followed_placed beside_placed

pub All-ascending : (P : Pair UnitPlace → Type 0) (ps : List (Pair UnitPlace)) → All P ps → All P (ascending ps)
All-ascending P ps each k d lt = All-contains P ps _ each (Contains-from_ascending _ ps (Contains-get_or (ascending ps) k d lt))

-- an alternative that is listed the one way is one that a description can have, too
pub listed_placed : (a : Alternative UnitPlace) → IsPlaced a → IsPlaced (listed a)
listed_placed a is = record {
  runs = is.runs;
  within = All-ascending (λ p. p.cycle < a.cycles) a.pairs is.within;
  automata = All-ascending (λ p. p.unit.automaton < automaton_limit) a.pairs is.automata;
  units = All-ascending (λ p. p.unit.unit < unit_limit) a.pairs is.units;
}

-- sound alternatives can be cut down to grids
pub sound_cut : (alternatives : List (Alternative UnitPlace)) → AreSound alternatives → All IsCuttable alternatives
sound_cut alternatives are k d lt =
    let is = are.each k d lt in
    let short = is.short in
    record {
      units = is.placed.units;
      cycles = λ i e within. let low = is.placed.within i e within in omega arith;
    }

-- ---- names

module _ (test : List ℕ → Bool) where
  mutual
    pub name_passes : (e : Expression) → IsTrue (all_names test e) → (name : List ℕ) → Mentions e name → IsTrue (test name)
    name_passes (named other) all name h = subst (λ (n : List ℕ). IsTrue (test n)) h all
    name_passes nothing all name h = absurd h
    name_passes (sequence parts) all name h = name_in_passes parts all name h
    name_passes (one_of parts) all name h = name_in_passes parts all name h
    name_passes (all_of parts) all name h = name_in_passes parts all name h
    name_passes (repeat part times) all name h = name_passes part all name h

    pub name_in_passes : (parts : Parts) → IsTrue (all_names_in test parts) → (name : List ℕ) → MentionsIn parts name → IsTrue (test name)
    name_in_passes none all name h = absurd h
    name_in_passes (more first others) all name h = ⊎_elim (name_passes first (and_parts _ _ all).0 name) (name_in_passes others (and_parts _ _ all).1 name) h

  mutual
    pub all_pass : (e : Expression) → ((name : List ℕ) → Mentions e name → IsTrue (test name)) → IsTrue (all_names test e)
    all_pass (named other) each = each other refl
    all_pass nothing each = refl
    all_pass (sequence parts) each = all_in_pass parts each
    all_pass (one_of parts) each = all_in_pass parts each
    all_pass (all_of parts) each = all_in_pass parts each
    all_pass (repeat part times) each = all_pass part each

    all_in_pass : (parts : Parts) → ((name : List ℕ) → MentionsIn parts name → IsTrue (test name)) → IsTrue (all_names_in test parts)
    all_in_pass none each = refl
    all_in_pass (more first others) each = and_from _ _ (all_pass first (λ name h. each name (inl h))) (all_in_pass others (λ name h. each name (inr h)))

pub all_names_law : (test : List ℕ → Bool) (e : Expression) → IsTrue (all_names test e) ↔ ((name : List ℕ) → Mentions e name → IsTrue (test name))
all_names_law test e = (name_passes test e, all_pass test e)
