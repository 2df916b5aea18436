-- What the issues of events took, and which of them still hold something.
use Rattle.std.proofs.Common.{◌≡◌, ℕ, ◌+◌, true, List, [], ◌∷◌, ◌++◌, map, drop, length, nat_le, slice_index, Contains, refl, ap, arith}
use Rattle.std.specs.Prelude.{◌↔◌}
use Rattle.std.specs.List.{flat_map}
use Rattle.std.proofs.lemmas.Bool.{leb-true, le-leb}
use Rattle.hz_base_model.specs.Pairs.{Pair}
use Rattle.hz_base_model.proofs.Elements.{Contains-filter, Contains-from_filter}
use Rattle.hz_pipeline_model.specs.Accepting.Events.{Event, issue, advance, ask, issues_of, cycles_of}
use Rattle.hz_pipeline_model.specs.Accepting.Replay.{Pipeline, chosen}
use Rattle.hz_why_model.specs.Holders.{Entry, entries}
use Rattle.hz_why_model.specs.Ways.{Way, ways, still_holds, ways_left}
use Rattle.hz_why_model.proofs.Finding.{found, found_any, any_from}
use Rattle.hz_why_laws.specs.Holding.{taken_by, HoldsFrom}

module _ {U : Type 0} (m : Pipeline U) where
  pub took_all : (now : ℕ) (t : List Event) (lines choices : List ℕ) → flat_map (taken_by m) (ways now t lines choices) ≡ entries m now t lines choices
  took_all now [] lines choices = refl
  took_all now (advance n ∷ t) lines choices = took_all (n + now) t (drop 1 lines) choices
  took_all now (ask a u ∷ t) lines choices = took_all now t (drop 1 lines) choices
  took_all now (issue k ∷ t) lines [] = refl
  took_all now (issue k ∷ t) lines (i ∷ choices) = ap (λ (es : List (Entry U)). taken_by m (record { line = slice_index lines 0; class = k; number = i; cycle = now }) ++ es) (took_all now t (drop 1 lines) choices)

  holds_from : (now : ℕ) (way : Way) → still_holds m now way ≡ true → HoldsFrom m now way
  holds_from now way h =
      let first = found_any (λ (p : Pair U). nat_le now (way.cycle + p.cycle)) (chosen m way.class way.number) h in
      let is = found (λ (p : Pair U). nat_le now (way.cycle + p.cycle)) (chosen m way.class way.number) first.0 first.1 in
      (first.0, is.0, leb-true _ _ is.1)

  from_holds : (now : ℕ) (way : Way) → HoldsFrom m now way → still_holds m now way ≡ true
  from_holds now way (p, is, late) = any_from (λ (q : Pair U). nat_le now (way.cycle + q.cycle)) (chosen m way.class way.number) p is (le-leb _ _ late)

  pub left_hold : (t : List Event) (lines choices : List ℕ) (way : Way) → Contains (ways_left m t lines choices) way ↔ (Contains (ways 0 t lines choices) way × HoldsFrom m (cycles_of t) way)
  left_hold t lines choices way = (
    λ h. let is = Contains-from_filter (still_holds m (cycles_of t)) way (ways 0 t lines choices) h in (is.0, holds_from (cycles_of t) way is.1),
    λ h. Contains-filter (still_holds m (cycles_of t)) way (from_holds (cycles_of t) way h.1) (ways 0 t lines choices) h.0,
  )

pub numbers_chosen : (now : ℕ) (t : List Event) (lines choices : List ℕ) → length choices ≡ issues_of t → map (λ way. way.number) (ways now t lines choices) ≡ choices
numbers_chosen now [] lines [] h = refl
numbers_chosen now [] lines (i ∷ choices) h = absurd (cc)
numbers_chosen now (advance n ∷ t) lines choices h = numbers_chosen (n + now) t (drop 1 lines) choices h
numbers_chosen now (ask a u ∷ t) lines choices h = numbers_chosen now t (drop 1 lines) choices h
numbers_chosen now (issue k ∷ t) lines [] h = absurd (cc)
numbers_chosen now (issue k ∷ t) lines (i ∷ choices) h = ap (λ (is : List ℕ). i ∷ is) (numbers_chosen now t (drop 1 lines) choices (omega (arith, h)))
