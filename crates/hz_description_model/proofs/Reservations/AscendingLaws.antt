-- Pairs of units of several automata in the one way to list them.
use Rattle.std.proofs.Common.{◌≡◌, ℕ, ◌<◌, IsTrue, false, List, ◌∷◌, All, Contains, refl}
use Rattle.std.specs.Cmp.{IsTotalOrder}
use Rattle.std.specs.Ordering.{nat_cmp, ordering_then}
use Rattle.std.specs.FinMap.{IsAntisymmetric, nat_cmp-IsAntisymmetric}
use Rattle.std.specs.declared.cmp.Ordering.{Ordering}
use Rattle.std.specs.declared.cmp.Ordering.TheVariants.{Less, Equal, Greater}
use Rattle.std.proofs.lemmas.Cmp.{nat_cmp_total, on_total, then_total}
use Rattle.hz_base_model.specs.Pairs.{Pair, SamePairs, later, precedes_by, with_pair_by}
use Rattle.hz_base_model.proofs.PairOrder as order
use Rattle.hz_description_model.specs.Reservations.Alternatives.{Alternative, SameAs}
use Rattle.hz_description_model.specs.Reservations.Automata.{UnitPlace, place_cmp, ascending, listed}
use Rattle.hz_description_model.specs.Reservations.AlternativeLists.{IsAscending}

place_total : IsTotalOrder place_cmp
place_total = then_total (on_total (λ (u : UnitPlace). u.automaton) nat_cmp_total) (on_total (λ (u : UnitPlace). u.unit) nat_cmp_total)

same_from : (u v : UnitPlace) (o : Ordering) → nat_cmp u.automaton v.automaton ≡ o → ordering_then o (nat_cmp u.unit v.unit) ≡ Equal → u ≡ v
same_from u v Less e h = cc
same_from u v Greater e h = cc
same_from u v Equal e h =
    let automata = nat_cmp-IsAntisymmetric u.automaton v.automaton e in
    let units = nat_cmp-IsAntisymmetric u.unit v.unit h in
    λ i. record { automaton = automata i; unit = units i }

place_exact : IsAntisymmetric place_cmp
place_exact u v h = same_from u v (nat_cmp u.automaton v.automaton) refl h

abbrev pub pair_at : (cycle automaton unit : ℕ) → Pair UnitPlace
pair_at cycle automaton unit = record { unit = record { automaton = automaton; unit = unit }; cycle = cycle }

-- ---- what holds over any order of units

abbrev pub Precedes : Pair UnitPlace → Pair UnitPlace → Type 0
Precedes p q = IsTrue (precedes_by place_cmp p q)

pub Precedes_transitive : (p q r : Pair UnitPlace) → Precedes p q → Precedes q r → Precedes p r
Precedes_transitive = order.Precedes_transitive place_cmp place_total place_exact

pub same_from_neither : (p q : Pair UnitPlace) → precedes_by place_cmp p q ≡ false → precedes_by place_cmp q p ≡ false → p ≡ q
same_from_neither = order.same_from_neither place_cmp place_total place_exact

pub Precedes-earlier : (p q : Pair UnitPlace) → p.cycle < q.cycle → Precedes p q
Precedes-earlier = order.Precedes-earlier place_cmp place_total place_exact

pub Precedes-later : (n : ℕ) (p q : Pair UnitPlace) → Precedes p q → Precedes (later n p) (later n q)
Precedes-later = order.Precedes-later place_cmp place_total place_exact

pub with_pair_least : (p : Pair UnitPlace) (qs : List (Pair UnitPlace)) → All (Precedes p) qs → with_pair_by place_cmp p qs ≡ p ∷ qs
with_pair_least = order.with_pair_least place_cmp place_total place_exact

pub with_pair_cases : (p q : Pair UnitPlace) (qs : List (Pair UnitPlace)) (P : List (Pair UnitPlace) → Type 0) → (Precedes p q → P (p ∷ q ∷ qs)) → (Precedes q p → P (q ∷ with_pair_by place_cmp p qs)) → (p ≡ q → P (q ∷ qs)) → P (with_pair_by place_cmp p (q ∷ qs))
with_pair_cases = order.with_pair_cases place_cmp place_total place_exact

pub IsAscending-ascending : (ps : List (Pair UnitPlace)) → IsAscending (ascending ps)
IsAscending-ascending = order.IsAscending-ascending place_cmp place_total place_exact

pub Contains-ascending : (x : Pair UnitPlace) (ps : List (Pair UnitPlace)) → Contains ps x → Contains (ascending ps) x
Contains-ascending = order.Contains-ascending place_cmp place_total place_exact

pub Contains-from_ascending : (x : Pair UnitPlace) (ps : List (Pair UnitPlace)) → Contains (ascending ps) x → Contains ps x
Contains-from_ascending = order.Contains-from_ascending place_cmp place_total place_exact

pub same_ascending : (ps : List (Pair UnitPlace)) → SamePairs (ascending ps) ps
same_ascending = order.same_ascending place_cmp place_total place_exact

pub ascending_is : (ps qs : List (Pair UnitPlace)) → IsAscending qs → SamePairs qs ps → ascending ps ≡ qs
ascending_is = order.ascending_is place_cmp place_total place_exact

pub ascending_same : (ps qs : List (Pair UnitPlace)) → SamePairs ps qs → ascending ps ≡ ascending qs
ascending_same = order.ascending_same place_cmp place_total place_exact

pub ascending_itself : (ps : List (Pair UnitPlace)) → IsAscending ps → ascending ps ≡ ps
ascending_itself = order.ascending_itself place_cmp place_total place_exact

-- ---- alternatives

pub listed_same : (a : Alternative UnitPlace) → SameAs (listed a) a
listed_same a = record { pairs = same_ascending a.pairs; cycles = refl }
