-- What a part of a machine does by itself.
use Rattle.std.proofs.Common.{◌≡◌, ℕ, zero, suc, ◌+◌, ◌-◌, ◌<◌, ◌≤◌, ◌&&◌, List, [], ◌∷◌, length, get_or, Option, Some, None, ⊎_elim, replicate, All, refl, sym, ap, ◌∙◌, subst, arith}
use Rattle.std.specs.Prelude.{is_some, true, option_and_then, slice_index, IfNone, nat_le}
use Rattle.std.proofs.lemmas.Bool.{cases_lt, le-leb}
use Rattle.std.proofs.lemmas.List.{length-map}
use Rattle.hz_tables.specs.declared.machine.Machine as declared
use Rattle.hz_tables.specs.Machines.{machine_of}
use Rattle.hz_tables.specs.Parts.{part_of}
use Rattle.hz_pipeline_model.specs.Accepting.Events.{Event}
use Rattle.hz_pipeline_model.specs.Tables.Machines.{Part, Machine, part_at, no_part, part_walk, onto_states, parts_walk, starts_of, IsPart}
use Rattle.hz_block_model.specs.Scheduling.Schedules.{Graph}
use Rattle.hz_measure_model.specs.Kernels.Kernels.{KernelSlot, interval_trace}
use Rattle.hz_modulo.specs.Lanes.{lane_of, IsLaneOf, IsStuck}
use Rattle.hz_modulo.specs.Repeating.{edge_by, RepeatsBy}

-- a part that a machine has
pub has_part : (machine : declared.Machine) (p : ℕ) → p < length machine.parts.items → p < length (machine_of machine).parts
has_part machine p lt = let long = length-map machine.parts.items part_of in omega (arith, lt, long)

pub part_is : (machine : declared.Machine) (p : ℕ) → p < length machine.parts.items → IsPart (length machine.classes.items) (part_at (machine_of machine) p)
part_is machine p lt = machine.kept.parts p no_part (has_part machine p lt)

-- what follows where there is none
pub none_then : {T : Type 0} (o : Option T) {P Q : Type 0} → IfNone o P → (P → Q) → IfNone o Q
none_then None h f = f h
none_then (Some x) h f = tt

-- a stage that has begun
pub has_begun : (stage turn : ℕ) → stage ≤ turn → (nat_le 0 stage && nat_le stage turn) ≡ true
has_begun stage turn le = λ i. le-leb 0 stage (omega arith) i && le-leb stage turn le i

-- a state before others
record IsOnto (own : Option ℕ) (others : Option (List ℕ)) (next : List ℕ) : Type 0 where
  first : ℕ
  rest : List ℕ
  own_is : own ≡ Some first
  others_are : others ≡ Some rest
  is : next ≡ first ∷ rest

onto_some : (own : Option ℕ) (others : Option (List ℕ)) (next : List ℕ) → onto_states own others ≡ Some next → IsOnto own others next
onto_some None others next e = absurd (cc)
onto_some (Some first) None next e = absurd (cc)
onto_some (Some first) (Some rest) next e = record { first = first; rest = rest; own_is = refl; others_are = refl; is = (let same : first ∷ rest ≡ next = cc in sym same) }

-- where all parts go on, each does by itself
pub lane_walks : (parts : List Part) (states next : List ℕ) (t : List Event) (p : ℕ) → p < length parts → parts_walk parts states t ≡ Some next
    → parts_walk (get_or parts p no_part ∷ []) (slice_index states p ∷ []) t ≡ Some (slice_index next p ∷ [])
lane_walks [] states next t p lt e = absurd (omega arith)
lane_walks (part ∷ parts) [] next t p lt e = absurd (cc)
lane_walks (part ∷ parts) (state ∷ states) next t zero lt e =
    let x = onto_some (part_walk part state t) (parts_walk parts states t) next e in
    ap (λ (o : Option ℕ). onto_states o (Some [])) x.own_is ∙ ap (λ (xs : List ℕ). let o : Option (List ℕ) = Some (slice_index xs 0 ∷ []) in o) (sym x.is)
lane_walks (part ∷ parts) (state ∷ states) next t (suc p) lt e =
    let x = onto_some (part_walk part state t) (parts_walk parts states t) next e in
    lane_walks parts states x.rest t p (omega arith) x.others_are ∙ ap (λ (xs : List ℕ). let o : Option (List ℕ) = Some (slice_index xs (suc p) ∷ []) in o) (sym x.is)

start_at : (count p : ℕ) → p < count → slice_index (replicate count 0) p ≡ 0
start_at zero p lt = absurd (omega arith)
start_at (suc count) zero lt = refl
start_at (suc count) (suc p) lt = start_at count p (omega arith)

module _ (m : Machine) (g : Graph) (interval : ℕ) (kernel : List KernelSlot) where
  abbrev pub after_turn : ℕ → Option (List ℕ) → Option (List ℕ)
  after_turn turn o = option_and_then (λ states. parts_walk m.parts states (interval_trace g interval 0 turn kernel)) o

  -- after none there is none
  pub none_after : (n more : ℕ) → edge_by m g interval kernel n ≡ None → edge_by m g interval kernel (more + n) ≡ None
  none_after n zero e = let same : 0 + n ≡ n = omega arith in ap (edge_by m g interval kernel) same ∙ e
  none_after n (suc more) e =
      let next : suc more + n ≡ suc (more + n) = omega arith in
      ap (edge_by m g interval kernel) next ∙ ap (after_turn (more + n)) (none_after n more e)

  module _ (p : ℕ) (lt : p < length m.parts) where
    abbrev lane_turn : ℕ → Option (List ℕ) → Option (List ℕ)
    lane_turn n o = option_and_then (λ s. parts_walk (lane_of m p).parts s (interval_trace g interval 0 n kernel)) o

    one_more : (n : ℕ) (states : List ℕ) → edge_by m g interval kernel (suc n) ≡ Some states
        → ((s : List ℕ) → edge_by m g interval kernel n ≡ Some s → edge_by (lane_of m p) g interval kernel n ≡ Some (slice_index s p ∷ []))
        → (o : Option (List ℕ)) → edge_by m g interval kernel n ≡ o → lane_turn n (edge_by (lane_of m p) g interval kernel n) ≡ Some (slice_index states p ∷ [])
    one_more n states e before None q = absurd (let none : None ≡ Some states = sym (ap (after_turn n) q) ∙ e in cc)
    one_more n states e before (Some s) q =
        ap (lane_turn n) (before s q)
        ∙ lane_walks m.parts s states (interval_trace g interval 0 n kernel) p lt (sym (ap (after_turn n) q) ∙ e)

    -- the starts of turns of a part by itself
    pub lane_edge : (n : ℕ) (states : List ℕ) → edge_by m g interval kernel n ≡ Some states → edge_by (lane_of m p) g interval kernel n ≡ Some (slice_index states p ∷ [])
    lane_edge zero states e =
        let same : starts_of m ≡ states = cc in
        ap (λ (n : ℕ). let o : Option (List ℕ) = Some (n ∷ []) in o) (sym (start_at (length m.parts) p lt) ∙ ap (λ (xs : List ℕ). slice_index xs p) same)
    lane_edge (suc n) states e = one_more n states e (λ s q. lane_edge n s q) (edge_by m g interval kernel n) refl

    pub lane_none : (n : ℕ) → edge_by (lane_of m p) g interval kernel n ≡ None → edge_by m g interval kernel n ≡ None
    lane_none n e = go (edge_by m g interval kernel n) refl
      where
        go : (o : Option (List ℕ)) → edge_by m g interval kernel n ≡ o → edge_by m g interval kernel n ≡ None
        go None q = q
        go (Some s) q = absurd (let none : None ≡ Some (slice_index s p ∷ []) = sym e ∙ lane_edge n s q in cc)

    -- no turns repeat where a part by itself does not go on
    pub stuck_lane_repeats_never : (stages first second : ℕ) → IsStuck (edge_by (lane_of m p) g interval kernel) stages → RepeatsBy m g interval stages kernel first second → ⊥
    stuck_lane_repeats_never stages first second stuck r = go (edge_by m g interval kernel first) refl
      where
        go : (o : Option (List ℕ)) → edge_by m g interval kernel first ≡ o → ⊥
        go None q = let no = ap is_some (sym q) ∙ r.walked in absurd (cc)
        go (Some s) q = ⊎_elim (early (stages + 1) (omega (arith, r.settled, r.before))) late stuck
          where
            there : edge_by m g interval kernel second ≡ Some s
            there = sym r.same ∙ q

            early : (n : ℕ) → n ≤ second → edge_by (lane_of m p) g interval kernel n ≡ None → ⊥
            early n le e =
                let place : (second - n) + n ≡ second = omega (arith, le) in
                let none : None ≡ Some s = sym (none_after n (second - n) (lane_none n e)) ∙ (ap (edge_by m g interval kernel) place ∙ there) in
                absurd (cc)

            late : (edge_by (lane_of m p) g interval kernel (stages + 2) ≡ None) × (edge_by (lane_of m p) g interval kernel stages ≡ edge_by (lane_of m p) g interval kernel (stages + 1) → ⊥) → ⊥
            late x = ⊎_elim
                (λ (less : second < stages + 2).
                let settled = r.settled in
                let before = r.before in
                let a : first ≡ stages = omega (arith, settled, before, less) in
                let b : second ≡ stages + 1 = omega (arith, settled, before, less) in
                x.1 (ap (edge_by (lane_of m p) g interval kernel) (sym a) ∙ (lane_edge first s q ∙ (sym (lane_edge second s there) ∙ ap (edge_by (lane_of m p) g interval kernel) b))))
                (λ (le : stages + 2 ≤ second). early (stages + 2) le x.0)
                (cases_lt second (stages + 2))

-- the same of a lane of the machine
pub stuck_never : (m lane : Machine) (g : Graph) (interval : ℕ) (kernel : List KernelSlot) (stages first second : ℕ) → IsLaneOf m lane → IsStuck (edge_by lane g interval kernel) stages → RepeatsBy m g interval stages kernel first second → ⊥
stuck_never m lane g interval kernel stages first second x stuck =
    stuck_lane_repeats_never m g interval kernel x.0 x.1.0 stages first second (subst (λ (l : Machine). IsStuck (edge_by l g interval kernel) stages) x.1.1 stuck)

-- where a part by itself does not take an issue, it does not go on
pub stuck_early : (lane : Machine) (g : Graph) (interval : ℕ) (kernel : List KernelSlot) (stages turn : ℕ) (states : List ℕ) → turn ≤ stages → edge_by lane g interval kernel turn ≡ Some states
    → parts_walk lane.parts states (interval_trace g interval 0 turn kernel) ≡ None → edge_by lane g interval kernel (stages + 1) ≡ None
stuck_early lane g interval kernel stages turn states le here refused =
    let place : (stages - turn) + suc turn ≡ stages + 1 = omega (arith, le) in
    ap (edge_by lane g interval kernel) (sym place) ∙ none_after lane g interval kernel (suc turn) (stages - turn) (ap (after_turn lane g interval kernel turn) here ∙ refused)

-- a lane has the classes of its machine
pub lane_classes : (m lane : Machine) (classes : List ℕ) → IsLaneOf m lane → All (λ c. c < length m.classes) classes → All (λ c. c < length lane.classes) classes
lane_classes m lane classes x all = subst (λ (l : Machine). All (λ c. c < length l.classes) classes) (sym x.1.1) all
