-- Laws of machines.
use Rattle.std.proofs.Common.{◌≡◌, ℕ, zero, suc, List, [], ◌∷◌, ◌++◌, length, slice_get, Option, None, Some, IsTrue, is_some, option_and_then, replicate, refl, sym, ap, ◌∙◌}
use Rattle.std.proofs.lemmas.List.{append_assoc, append-nil}
use Rattle.hz_pipeline_model.specs.Accepting.Events.{Event, issue, advance, ask}
use Rattle.hz_pipeline_model.specs.Accepting.Asking.{issues_and_advances}
use Rattle.hz_pipeline_model.proofs.Accepting.AskLaws.{without-append}
use Rattle.hz_pipeline_model.specs.Tables.Tables.{Table, entry, walk}
use Rattle.hz_pipeline_model.specs.Tables.Machines.{Part, Machine, column_of, next_of, word_of, part_walk, onto_states, parts_walk, machine_walk, advance_of}
use Rattle.hz_pipeline_model.proofs.Tables.TableLaws.{walk-append}

pub word_of-append : (part : Part) (s t : List Event) → word_of part (s ++ t) ≡ word_of part s ++ word_of part t
word_of-append part [] t = refl
word_of-append part (issue class ∷ s) t = ap (λ w. column_of part class ∷ w) (word_of-append part s t)
word_of-append part (ask a u ∷ s) t = word_of-append part s t
word_of-append part (advance n ∷ s) t =
    ap (λ w. replicate n (advance_of part) ++ w) (word_of-append part s t) ∙ sym (append_assoc (replicate n (advance_of part)) (word_of part s) (word_of part t))

pub word_of-asked : (part : Part) (t : List Event) → word_of part (issues_and_advances t) ≡ word_of part t
word_of-asked part [] = refl
word_of-asked part (issue class ∷ t) = ap (λ w. column_of part class ∷ w) (word_of-asked part t)
word_of-asked part (advance n ∷ t) = ap (λ w. replicate n (advance_of part) ++ w) (word_of-asked part t)
word_of-asked part (ask a u ∷ t) = word_of-asked part t

-- ---- one event

entry_alone : (table : Table) (next : Option ℕ) → walk table next [] ≡ next
entry_alone table None = refl
entry_alone table (Some state) = refl

pub issue_alone : (part : Part) (state class : ℕ) → part_walk part state (issue class ∷ []) ≡ next_of part state (Some class)
issue_alone part state class = entry_alone part.rows (entry part.rows state (column_of part class))

pub advance_alone : (part : Part) (state : ℕ) → part_walk part state (advance 1 ∷ []) ≡ next_of part state None
advance_alone part state = entry_alone part.rows (entry part.rows state (advance_of part))

pub ask_alone : (part : Part) (state automaton query : ℕ) → part_walk part state (ask automaton query ∷ []) ≡ Some state
ask_alone part state automaton query = refl

-- ---- several parts

onto_none : (next : Option ℕ) → onto_states next None ≡ None
onto_none None = refl
onto_none (Some state) = refl

continued : (part : Part) (parts : List Part) (t : List Event) (next : Option ℕ) (others : Option (List ℕ))
    → onto_states (walk part.rows next (word_of part t)) (option_and_then (λ states. parts_walk parts states t) others)
    ≡ option_and_then (λ states. parts_walk (part ∷ parts) states t) (onto_states next others)
continued part parts t None others = refl
continued part parts t (Some state) None = onto_none (walk part.rows (Some state) (word_of part t))
continued part parts t (Some state) (Some states) = refl

pub parts_walk-append : (parts : List Part) (states : List ℕ) (s t : List Event) → parts_walk parts states (s ++ t) ≡ option_and_then (λ next. parts_walk parts next t) (parts_walk parts states s)
parts_walk-append [] states s t = refl
parts_walk-append (part ∷ parts) [] s t = refl
parts_walk-append (part ∷ parts) (state ∷ states) s t =
    let own : part_walk part state (s ++ t) ≡ walk part.rows (part_walk part state s) (word_of part t) =
    ap (walk part.rows (Some state)) (word_of-append part s t) ∙ walk-append part.rows (Some state) (word_of part s) (word_of part t) in
    (λ i. onto_states (own i) (parts_walk-append parts states s t i)) ∙ continued part parts t (part_walk part state s) (parts_walk parts states s)

-- the states are left as they are by asks
pub parts_walk-asked : (parts : List Part) (states : List ℕ) (t : List Event) → parts_walk parts states (issues_and_advances t) ≡ parts_walk parts states t
parts_walk-asked [] states t = refl
parts_walk-asked (part ∷ parts) [] t = refl
parts_walk-asked (part ∷ parts) (state ∷ states) t = λ i. onto_states (walk part.rows (Some state) (word_of-asked part t i)) (parts_walk-asked parts states t i)

pub machine_walk-asked : (m : Machine) (t : List Event) → machine_walk m (issues_and_advances t) ≡ machine_walk m t
machine_walk-asked m t = parts_walk-asked m.parts (replicate (length m.parts) 0) t

pub machine_walk-ask : (m : Machine) (t : List Event) (automaton query : ℕ) → machine_walk m (t ++ ask automaton query ∷ []) ≡ machine_walk m t
machine_walk-ask m t automaton query =
    sym (machine_walk-asked m (t ++ ask automaton query ∷ []))
    ∙ (ap (machine_walk m) (without-append t (ask automaton query ∷ []) ∙ append-nil (issues_and_advances t)) ∙ machine_walk-asked m t)

-- the states that are walked to, where there are any
both_some : (next : Option ℕ) (others : Option (List ℕ)) (states : List ℕ) → onto_states next others ≡ Some states → (state : ℕ) × (rest : List ℕ) × (next ≡ Some state) × (others ≡ Some rest) × (states ≡ state ∷ rest)
both_some None others states e = cc
both_some (Some state) None states e = cc
both_some (Some state) (Some rest) states e = (state, rest, refl, refl, cc)

each_walk : (parts : List Part) (t : List Event) (states : List ℕ) → parts_walk parts (replicate (length parts) 0) t ≡ Some states → length states ≡ length parts
each_walk [] t states e = let same : [] ≡ states = cc in ap length (sym same)
each_walk (part ∷ parts) t states e =
    let found = both_some (part_walk part 0 t) (parts_walk parts (replicate (length parts) 0) t) states e in
    ap length found.4 ∙ ap suc (each_walk parts t found.1 found.3)

part_in_walk : (parts : List Part) (t : List Event) (states : List ℕ) → parts_walk parts (replicate (length parts) 0) t ≡ Some states → (i : ℕ) (part : Part) → slice_get parts i ≡ Some part → slice_get states i ≡ part_walk part 0 t
part_in_walk [] t states e i part at = cc
part_in_walk (first ∷ parts) t states e zero part at =
    let found = both_some (part_walk first 0 t) (parts_walk parts (replicate (length parts) 0) t) states e in
    let same : first ≡ part = cc in
    ap (λ list. slice_get list 0) found.4 ∙ sym found.2 ∙ ap (λ p. part_walk p 0 t) same
part_in_walk (first ∷ parts) t states e (suc i) part at =
    let found = both_some (part_walk first 0 t) (parts_walk parts (replicate (length parts) 0) t) states e in
    ap (λ list. slice_get list (suc i)) found.4 ∙ part_in_walk parts t found.1 found.3 i part at

all_in_walk : (parts : List Part) (t : List Event) → ((i : ℕ) (part : Part) → slice_get parts i ≡ Some part → IsTrue (is_some (part_walk part 0 t))) → IsTrue (is_some (parts_walk parts (replicate (length parts) 0) t))
all_in_walk [] t all = refl
all_in_walk (part ∷ parts) t all = joined (part_walk part 0 t) (parts_walk parts (replicate (length parts) 0) t) (all 0 part refl) (all_in_walk parts t (λ i. all (suc i)))
  where
    joined : (next : Option ℕ) (others : Option (List ℕ)) → IsTrue (is_some next) → IsTrue (is_some others) → IsTrue (is_some (onto_states next others))
    joined None others h k = h
    joined (Some state) None h k = k
    joined (Some state) (Some states) h k = refl

pub machine_walk-each : (m : Machine) (t : List Event) (states : List ℕ) → machine_walk m t ≡ Some states → length states ≡ length m.parts
machine_walk-each m = each_walk m.parts

pub machine_walk-part : (m : Machine) (t : List Event) (states : List ℕ) → machine_walk m t ≡ Some states → (i : ℕ) (part : Part) → slice_get m.parts i ≡ Some part → slice_get states i ≡ part_walk part 0 t
machine_walk-part m = part_in_walk m.parts

pub machine_walk-all : (m : Machine) (t : List Event) → ((i : ℕ) (part : Part) → slice_get m.parts i ≡ Some part → IsTrue (is_some (part_walk part 0 t))) → IsTrue (is_some (machine_walk m t))
machine_walk-all m = all_in_walk m.parts
