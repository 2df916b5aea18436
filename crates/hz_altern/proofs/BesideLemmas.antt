-- Parts that begin in the same cycle, of which those with one alternative are joined as one and the others one by one.
use Rattle.std.proofs.Common.{◌≡◌, inl, inr, ⊎_elim, Contains, ℕ, ◌+◌, ◌<◌, ◌≤◌, max, List, [], ◌∷◌, ◌++◌, length, map, take, drop, get_or, All, refl, sym, ap, ◌∙◌, subst, arith, append_assoc, length-append}
use Rattle.std.specs.Prelude.{IsTrue}
use Rattle.std.proofs.lemmas.Bool.{and_parts}
use Rattle.std.proofs.lemmas.List.{append-nil, length-map}
use Rattle.std.proofs.lemmas.List.Elements.{All-contains, All-head, All-tail, All-nil, All-cons, Contains-get_or, Contains-append_left, Contains-append_right, Contains-append_cases}
use Rattle.hz_base_model.specs.Limits.{cycle_limit, automaton_limit, unit_limit}
use Rattle.hz_base_model.specs.Pairs.{Pair, SamePairs, placed}
use Rattle.hz_base_model.proofs.Elements.{Contains-nil}
use Rattle.hz_grid.specs.declared.cycles.Cycles.{Cycles}
use Rattle.hz_altern.specs.Answers.{total_weight, Refuses}
use Rattle.hz_altern.specs.declared.fault.AlternFault.{AlternFault}
use Rattle.hz_altern.specs.declared.listing.joining.Joining.TheVariants.{Together}
use Rattle.hz_altern.specs.declared.known.Known.{Known}
use Rattle.hz_altern.specs.declared.listing.leaves.Leaves.{Leaves}
use Rattle.hz_altern.specs.declared.mark.Mark.TheVariants.{Plus}
use Rattle.hz_altern.specs.Beside.{IsBeside}
use Rattle.hz_altern.specs.Joinings.{IsListed, joined_by}
use Rattle.hz_altern.specs.Leaves.{all_pairs, BeginsIn, Begins, Takes, AreTaken, IsGathered}
use Rattle.hz_altern.specs.Tables.{alternatives_in, known_alternatives, is_held}
use Rattle.hz_altern.proofs.ChoiceWeights.{firsts_weigh, seconds_weigh}
use Rattle.hz_altern.proofs.GatherLemmas.{together_of, part_at}
use Rattle.hz_altern.proofs.HalfLemmas.{greatest-listed}
use Rattle.hz_altern.proofs.KnownLemmas.{some_of, placed_of, some_of_parts, placed_of_parts, all_listed}
use Rattle.hz_altern.proofs.LeafLemmas.{only as the_only, placed_now}
use Rattle.hz_altern.proofs.Lengths.{greatest-beside, greatest-each_choice}
use Rattle.hz_altern.proofs.ListedLemmas.{IsListed-listed}
use Rattle.hz_altern.proofs.PartLemmas.{halves, are_expressions-append, all_names_in-append}
use Rattle.hz_altern.proofs.Weights.{refuses_larger}
use Rattle.hz_regexp.specs.declared.expr.Expr.{Expr}
use Rattle.hz_regexp.specs.Shape.{expression, expressions}
use Rattle.hz_description_model.specs.Reservations.Alternatives.{Alternative, Expression, nothing, idle, beside, each_choice, alternatives_of, parts_of}
use Rattle.hz_description_model.specs.Reservations.AlternativeLists.{IsPlaced, IsAscending, greatest_length}
use Rattle.hz_description_model.specs.Reservations.Automata.{UnitPlace, ascending, listed}
use Rattle.hz_description_model.specs.Reservations.Expressions.{is_expression, are_expressions}
use Rattle.hz_description_model.specs.Reservations.NamesIn.{all_names, all_names_in}
use Rattle.hz_description_model.proofs.Reservations.AscendingLaws.{same_ascending, ascending_same, ascending_is}
use Rattle.hz_description_model.proofs.Reservations.ExpressionLaws.{length-each_choice, one_beside, positive_product}
use Rattle.hz_description_model.proofs.Reservations.ListedLaws.{map-each_choice, each_choice-assoc, All-each_choice, listed_beside, together-append}
use Rattle.hz_description_model.proofs.Reservations.PlacedLaws.{beside_placed, idle_placed}
use Rattle.hz_description_model.proofs.Reservations.SamePairsLaws.{same_append, append_swapped}

abbrev Alternatives : Type 0
Alternatives = List (Alternative UnitPlace)

abbrev pub whole : List (Pair UnitPlace) → ℕ → Alternative UnitPlace
whole pairs cycles = record { pairs = pairs; cycles = cycles }

-- ---- pairs as sets

same_itself : (ps : List (Pair UnitPlace)) → SamePairs ps ps
same_itself ps = λ p. (λ c. c, λ c. c)

same_then : (ps qs rs : List (Pair UnitPlace)) → SamePairs ps qs → SamePairs qs rs → SamePairs ps rs
same_then ps qs rs h k = λ p. (λ c. (k p).0 ((h p).0 c), λ c. (h p).1 ((k p).1 c))

same_equal : (ps qs : List (Pair UnitPlace)) → ps ≡ qs → SamePairs ps qs
same_equal ps qs e = subst (SamePairs ps) e (same_itself ps)

-- ---- alternatives beside one another, listed

abbrev with_listed : Alternative UnitPlace → Alternative UnitPlace → Alternative UnitPlace
with_listed = joined_by Together

-- all choices of two lists, listed
abbrev pub joins : Alternatives → Alternatives → Alternatives
joins xs ys = each_choice with_listed xs ys

same_listed : (a b : Alternative UnitPlace) → SamePairs a.pairs b.pairs → a.cycles ≡ b.cycles → listed a ≡ listed b
same_listed a b pairs cycles = ap (λ ps. whole ps a.cycles) (ascending_same a.pairs b.pairs pairs) ∙ ap (whole (ascending b.pairs)) cycles

left_listed : (a b : Alternative UnitPlace) → listed (beside (listed a) b) ≡ listed (beside a b)
left_listed a b = same_listed _ _ (same_append _ _ _ _ (same_ascending a.pairs) (same_itself b.pairs)) refl

right_listed : (a b : Alternative UnitPlace) → listed (beside a (listed b)) ≡ listed (beside a b)
right_listed a b = same_listed _ _ (same_append _ _ _ _ (same_itself a.pairs) (same_ascending b.pairs)) refl

joins-assoc : (a b c : Alternative UnitPlace) → with_listed (with_listed a b) c ≡ with_listed a (with_listed b c)
joins-assoc a b c =
    let most : max (max a.cycles b.cycles) c.cycles ≡ max a.cycles (max b.cycles c.cycles) = omega arith in
    left_listed (beside a b) c
    ∙ (same_listed (beside (beside a b) c) (beside a (beside b c)) (same_equal _ _ (append_assoc a.pairs b.pairs c.pairs)) most
    ∙ sym (right_listed a (beside b c)))

-- one beside another and a third is the first and the third beside the other
joins-rotated : (s o a : Alternative UnitPlace) → with_listed (with_listed (listed s) o) (listed a) ≡ with_listed (listed (beside s a)) o
joins-rotated s o a =
    let most : max (max s.cycles o.cycles) a.cycles ≡ max (max s.cycles a.cycles) o.cycles = omega arith in
    let swapped : SamePairs (o.pairs ++ a.pairs) (a.pairs ++ o.pairs) = λ p. (append_swapped o.pairs a.pairs p, append_swapped a.pairs o.pairs p) in
    let pairs = same_then _ _ _ (same_append _ _ _ _ (same_append _ _ _ _ (same_ascending s.pairs) (same_itself o.pairs)) (same_itself a.pairs))
    (same_then _ _ _ (same_equal _ _ (append_assoc s.pairs o.pairs a.pairs))
    (same_then _ _ _ (same_append _ _ _ _ (same_itself s.pairs) swapped) (same_equal _ _ (sym (append_assoc s.pairs a.pairs o.pairs))))) in
    left_listed (beside (listed s) o) (listed a)
    ∙ (right_listed (beside (listed s) o) a
    ∙ (same_listed (beside (beside (listed s) o) a) (beside (beside s a) o) pairs most
    ∙ sym (left_listed (beside s a) o)))

joins_rotated : (s a : Alternative UnitPlace) (os : Alternatives) → joins (joins (listed s ∷ []) os) (listed a ∷ []) ≡ joins (listed (beside s a) ∷ []) os
joins_rotated s a [] = refl
joins_rotated s a (o ∷ os) =
    ap (λ w. w ∷ joins (joins (listed s ∷ []) os) (listed a ∷ [])) (joins-rotated s o a)
    ∙ ap (λ ws. with_listed (listed (beside s a)) o ∷ ws) (joins_rotated s a os)

-- beside no pair for one cycle, an alternative that runs for some stays as it is
idle_beside : (xs : Alternatives) → All IsPlaced xs → map listed (each_choice beside (idle ∷ []) xs) ≡ map listed xs
idle_beside [] each = refl
idle_beside (x ∷ xs) each =
    let runs = (All-head IsPlaced x xs each).runs in
    let most : max 1 x.cycles ≡ x.cycles = omega arith in
    ap (λ (w : Alternative UnitPlace). w ∷ map listed (each_choice beside (idle ∷ []) xs)) (ap (λ (n : ℕ). whole (ascending x.pairs) n) most)
    ∙ ap (λ (ws : Alternatives). listed x ∷ ws) (idle_beside xs (All-tail IsPlaced x xs each))

listed_choices : (xs ys : Alternatives) → map listed (each_choice beside xs ys) ≡ joins (map listed xs) (map listed ys)
listed_choices xs ys = map-each_choice listed beside with_listed (λ _. Unit {0}) (λ a b _. listed_beside a b) xs ys (λ k d lt. tt)

listed_with : (a b : Alternative UnitPlace) → IsListed a → IsListed b → IsListed (with_listed a b)
listed_with a b is_a is_b = IsListed-listed (beside a b) (beside_placed a b is_a.placed is_b.placed)

greatest-joins : (xs ys : Alternatives) → 0 < length xs → 0 < length ys → greatest_length (joins xs ys) ≡ max (greatest_length xs) (greatest_length ys)
greatest-joins = greatest-each_choice with_listed max (λ a b. refl) (λ a b c. omega arith) (λ a b c. omega arith)

placed_same : (a b : Alternative UnitPlace) → SamePairs b.pairs a.pairs → b.cycles ≡ a.cycles → IsPlaced a → IsPlaced b
placed_same a b pairs cycles is =
    let runs = is.runs in
    record {
      runs = omega arith;
      within = λ k d lt. let low = All-contains (λ (p : Pair UnitPlace). p.cycle < a.cycles) a.pairs _ is.within ((pairs _).0 (Contains-get_or b.pairs k d lt)) in omega arith;
      automata = λ k d lt. All-contains (λ (p : Pair UnitPlace). p.unit.automaton < automaton_limit) a.pairs _ is.automata ((pairs _).0 (Contains-get_or b.pairs k d lt));
      units = λ k d lt. All-contains (λ (p : Pair UnitPlace). p.unit.unit < unit_limit) a.pairs _ is.units ((pairs _).0 (Contains-get_or b.pairs k d lt));
    }

-- ---- parts so far

module _ (known : Known) where
  abbrev of : List Expression → Alternatives
  of = together_of known

  pub none_beside : (leaves : Leaves) (others : Alternatives) → leaves.names.entries ≡ [] → others ≡ idle ∷ [] → IsBeside known [] leaves 1 others
  none_beside leaves others none only = subst (λ os. IsBeside known [] leaves 1 os) (sym only) (record {
    ends = λ name start b. absurd (begins name start b);
    pairs = [];
    taken = λ p. (λ c. absurd (Contains-nil p c), λ t. absurd (begins t.name t.start t.begins));
    is_placed = idle_placed;
    short = omega arith;
    are_listed = All-cons IsListed idle [] (IsListed-listed idle idle_placed) (All-nil IsListed);
    some = omega arith;
    short_others = omega arith;
    same = refl;
  })
    where
      begins : (name : List ℕ) (start : ℕ) → Begins leaves name start → ⊥
      begins name start b = subst (λ (es : List (List ℕ × Cycles)). BeginsIn es name start) none b

  parted : (es fs : List Expression) → map listed (of (es ++ fs)) ≡ joins (map listed (of es)) (map listed (of fs))
  parted es fs = ap (map listed) (together-append (known_alternatives known) es fs) ∙ listed_choices (of es) (of fs)

  last : (es : List Expression) (e : Expression) → map listed (of (es ++ e ∷ [])) ≡ joins (map listed (of es)) (map listed (alternatives_of (known_alternatives known) e))
  last es e = parted es (e ∷ []) ∙ ap (λ xs. joins (map listed (of es)) (map listed xs)) (one_beside (alternatives_of (known_alternatives known) e))

  module _ (es : List Expression) (e : Expression) (leaves : Leaves) (cycles : ℕ) (others : Alternatives) (before : IsBeside known es leaves cycles others) (formed : IsTrue (is_expression e)) (short : greatest_length (alternatives_of (known_alternatives known) e) ≤ cycle_limit) where
    abbrev xs : Alternatives
    xs = alternatives_of (known_alternatives known) e

    -- one more part with one alternative
    pub single_more : (new : Leaves) (now : ℕ) → length xs ≡ 1 → IsGathered known 0 xs leaves new → now ≡ max (greatest_length xs) cycles → IsBeside known (es ++ e ∷ []) new now others
    single_more new now one gathered is =
        let (a, alone) = the_only xs one in
        let long : greatest_length xs ≡ a.cycles = ap greatest_length alone ∙ (let most : max a.cycles 0 ≡ a.cycles = omega arith in most) in
        let these : placed 0 (all_pairs xs) ≡ a.pairs = placed_now (all_pairs xs) ∙ (ap all_pairs alone ∙ append-nil a.pairs) in
        let both : List (Pair UnitPlace) = before.pairs ++ a.pairs in
        let cycled : now ≡ max cycles a.cycles = omega arith in
        let joined : listed (whole both now) ≡ listed (beside (whole before.pairs cycles) a) = same_listed (whole both now) (beside (whole before.pairs cycles) a) (same_itself both) cycled in
        let placed_a : IsPlaced a = All-head IsPlaced a [] (subst (All IsPlaced) alone (placed_of known e formed)) in
        let still = before.short in
        record {
          ends = gathered.ends cycle_limit (omega arith) before.ends;
          pairs = both;
          taken = λ p. (there a these p, back a these p);
          is_placed = placed_same (beside (whole before.pairs cycles) a) (whole both now) (same_itself both) cycled (beside_placed (whole before.pairs cycles) a before.is_placed placed_a);
          short = omega arith;
          are_listed = before.are_listed;
          some = before.some;
          short_others = before.short_others;
          same =
              last (nothing ∷ es) e
              ∙ (ap (λ ws. joins ws (map listed xs)) before.same
              ∙ (ap (λ ys. joins (joins (listed (whole before.pairs cycles) ∷ []) others) (map listed ys)) alone
              ∙ (joins_rotated (whole before.pairs cycles) a others
              ∙ ap (λ w. joins (w ∷ []) others) (sym joined))));
        }
      where
        there : (a : Alternative UnitPlace) → placed 0 (all_pairs xs) ≡ a.pairs → (p : Pair UnitPlace) → Contains (before.pairs ++ a.pairs) p → Takes known new p
        there a these p c = ⊎_elim
            (λ (o : Contains before.pairs p). (gathered.pairs p).1 (inl ((before.taken p).0 o)))
            (λ (m : Contains a.pairs p). (gathered.pairs p).1 (inr (subst (λ (ps : List (Pair UnitPlace)). Contains ps p) (sym these) m)))
            (Contains-append_cases before.pairs a.pairs p c)

        back : (a : Alternative UnitPlace) → placed 0 (all_pairs xs) ≡ a.pairs → (p : Pair UnitPlace) → Takes known new p → Contains (before.pairs ++ a.pairs) p
        back a these p t = ⊎_elim
            (λ (o : Takes known leaves p). Contains-append_left before.pairs a.pairs p ((before.taken p).1 o))
            (λ (m : Contains (placed 0 (all_pairs xs)) p). Contains-append_right before.pairs a.pairs p (subst (λ (ps : List (Pair UnitPlace)). Contains ps p) these m))
            ((gathered.pairs p).0 t)

    -- one more part with several
    module _ (held : IsTrue (all_names (is_held (alternatives_in known)) e)) where
      pub listed_more : All IsListed (map listed xs)
      listed_more = all_listed xs (placed_of known e formed)

      some_more : 0 < length (map listed xs)
      some_more = simp length-map (some_of known e formed held)

      pub short_more : greatest_length (joins others (map listed xs)) ≤ cycle_limit
      short_more =
          let long = greatest-joins others (map listed xs) before.some some_more in
          let still = before.short_others in
          omega (arith, greatest-listed xs)

      joined_more : map listed (of (nothing ∷ (es ++ e ∷ []))) ≡ joins (listed (whole before.pairs cycles) ∷ []) (joins others (map listed xs))
      joined_more =
          last (nothing ∷ es) e
          ∙ (ap (λ ws. joins ws (map listed xs)) before.same
          ∙ each_choice-assoc with_listed joins-assoc (listed (whole before.pairs cycles) ∷ []) others (map listed xs))

      listed_both : All IsListed (joins others (map listed xs))
      listed_both = All-each_choice IsListed with_listed listed_with others (map listed xs) before.are_listed listed_more

      pub others_more : (new : Alternatives) → new ≡ joins others (map listed xs) → IsBeside known (es ++ e ∷ []) leaves cycles new
      others_more new is = subst (IsBeside known (es ++ e ∷ []) leaves cycles) (sym is) (record {
        ends = before.ends;
        pairs = before.pairs;
        taken = before.taken;
        is_placed = before.is_placed;
        short = before.short;
        are_listed = listed_both;
        some = let both = positive_product _ _ before.some some_more in omega (arith, length-each_choice with_listed others (map listed xs));
        short_others = short_more;
        same = joined_more;
      })

      -- what is refused of the others is refused of the parts so far
      pub refused_more : (most : ℕ) (fault : AlternFault) → Refuses most (joins others (map listed xs)) fault → Refuses most (map listed (of (nothing ∷ (es ++ e ∷ [])))) fault
      refused_more most = refuses_larger most (joins others (map listed xs)) (map listed (of (nothing ∷ (es ++ e ∷ [])))) (subst (λ ws. total_weight (joins others (map listed xs)) ≤ total_weight ws) (sym joined_more)
          (seconds_weigh Together (listed (whole before.pairs cycles) ∷ []) (joins others (map listed xs))
          (All-cons IsListed _ [] (IsListed-listed _ before.is_placed) (All-nil IsListed)) listed_both (omega arith)))

  -- ---- all parts

  module _ (es : List Expression) (some : 0 < length es) (formed : IsTrue (are_expressions (parts_of es))) where
    -- `nothing` before them changes nothing
    pub with_nothing : map listed (of (nothing ∷ es)) ≡ map listed (of es)
    with_nothing = idle_beside (of es) (placed_of_parts known Plus es some formed)

  -- what is refused of the first parts is refused of all
  pub refused_front : (es fs : List Expression) → 0 < length (es ++ fs) → IsTrue (are_expressions (parts_of (es ++ fs))) → IsTrue (all_names_in (is_held (alternatives_in known)) (parts_of (es ++ fs)))
      → (most : ℕ) (fault : AlternFault) → Refuses most (map listed (of (nothing ∷ es))) fault → Refuses most (map listed (of (es ++ fs))) fault
  refused_front es [] some formed held most fault refusal =
      subst (λ ws. Refuses most ws fault) (ap (λ (gs : List Expression). map listed (of (nothing ∷ gs))) (sym (append-nil es)) ∙ with_nothing (es ++ []) some formed) refusal
  refused_front es (f ∷ fs) some formed held most fault refusal =
      let parts = are_expressions-append es (f ∷ fs) formed in
      let names = all_names_in-append (is_held (alternatives_in known)) es (f ∷ fs) held in
      let first = all_listed _ (placed_of_parts known Plus (nothing ∷ es) (omega arith) parts.0) in
      let second = all_listed _ (placed_of_parts known Plus (f ∷ fs) (omega arith) parts.1) in
      let more = some_of_parts known Plus (f ∷ fs) (omega arith) parts.1 names.1 in
      subst (λ ws. Refuses most ws fault) (sym (parted (nothing ∷ es) (f ∷ fs)) ∙ with_nothing (es ++ f ∷ fs) some formed)
      (refuses_larger most (map listed (of (nothing ∷ es))) (joins (map listed (of (nothing ∷ es))) (map listed (of (f ∷ fs)))) (firsts_weigh Together (map listed (of (nothing ∷ es))) (map listed (of (f ∷ fs))) first second (simp length-map more)) fault refusal)

  -- a part is no longer than all
  pub part_short : (es : List Expression) (e : Expression) (fs : List Expression) → IsTrue (are_expressions (parts_of (es ++ e ∷ fs))) → IsTrue (all_names_in (is_held (alternatives_in known)) (parts_of (es ++ e ∷ fs)))
      → greatest_length (of (es ++ e ∷ fs)) ≤ cycle_limit → greatest_length (alternatives_of (known_alternatives known) e) ≤ cycle_limit
  part_short [] e [] formed held short = subst (λ ws. greatest_length ws ≤ cycle_limit) (one_beside (alternatives_of (known_alternatives known) e)) short
  part_short [] e (f ∷ fs) formed held short =
      let parts = and_parts _ _ formed in
      let names = and_parts _ _ held in
      let long = greatest-beside (alternatives_of (known_alternatives known) e) (of (f ∷ fs)) (some_of known e parts.0 names.0) (some_of_parts known Plus (f ∷ fs) (omega arith) parts.1 names.1) in
      omega arith
  part_short (d ∷ es) e fs formed held short =
      let parts = and_parts _ _ formed in
      let names = and_parts _ _ held in
      let more : 0 < length (es ++ e ∷ fs) = omega (arith, length-append es (e ∷ fs)) in
      let long = greatest-beside (alternatives_of (known_alternatives known) d) (of (es ++ e ∷ fs)) (some_of known d parts.0 names.0) (some_of_parts known Plus (es ++ e ∷ fs) more parts.1 names.1) in
      part_short es e fs parts.1 names.1 (omega arith)

  -- the part at a place of the code's parts
  pub record BesideAt (ps : List Expr) (i : ℕ) (p : Expr) : Type 0 where
    pub short : greatest_length (alternatives_of (known_alternatives known) (expression p)) ≤ cycle_limit
    pub refused : (most : ℕ) (fault : AlternFault) → Refuses most (map listed (of (nothing ∷ (expressions (take i ps) ++ expression p ∷ [])))) fault → Refuses most (map listed (of (expressions ps))) fault

  pub beside_at : (ps : List Expr) (i : ℕ) (p : Expr) → i < length ps → p ≡ get_or ps i p → IsTrue (are_expressions (parts_of (expressions ps))) → IsTrue (all_names_in (is_held (alternatives_in known)) (parts_of (expressions ps)))
      → greatest_length (of (expressions ps)) ≤ cycle_limit → BesideAt ps i p
  beside_at ps i p lt is formed held short =
      let at = part_at (is_held (alternatives_in known)) ps i p lt is formed held in
      let front = expressions (take i ps) in
      let back = expressions (drop (i + 1) ps) in
      let all : expressions ps ≡ (front ++ expression p ∷ []) ++ back = sym (halves (i + 1) ps) ∙ ap (λ (es : List Expression). es ++ back) at.next in
      let flat : expressions ps ≡ front ++ expression p ∷ back = all ∙ append_assoc front (expression p ∷ []) back in
      let some : 0 < length ((front ++ expression p ∷ []) ++ back) = omega (arith, length-append (front ++ expression p ∷ []) back, length-append front (expression p ∷ [])) in
      record {
        short = part_short front (expression p) back (subst (λ (es : List Expression). IsTrue (are_expressions (parts_of es))) flat formed) (subst (λ (es : List Expression). IsTrue (all_names_in (is_held (alternatives_in known)) (parts_of es))) flat held)
            (subst (λ (es : List Expression). greatest_length (of es) ≤ cycle_limit) flat short);
        refused = λ most fault refusal. subst (λ (es : List Expression). Refuses most (map listed (of es)) fault) (sym all)
            (refused_front (front ++ expression p ∷ []) back some (subst (λ (es : List Expression). IsTrue (are_expressions (parts_of es))) all formed) (subst (λ (es : List Expression). IsTrue (all_names_in (is_held (alternatives_in known)) (parts_of es))) all held) most fault refusal);
      }

  -- the first cycle alone is refused where all parts are
  pub refused_idle : (es : List Expression) → 0 < length es → IsTrue (are_expressions (parts_of es)) → IsTrue (all_names_in (is_held (alternatives_in known)) (parts_of es)) → (most : ℕ) (fault : AlternFault) → Refuses most (idle ∷ []) fault → Refuses most (map listed (of es)) fault
  refused_idle es = refused_front [] es

-- what is refused of a part is refused of all choices of it and of others
pub refused_part : (known : Known) (e : Expression) → IsTrue (is_expression e) → (others : Alternatives) → 0 < length others → All IsListed others
    → (most : ℕ) (fault : AlternFault) → Refuses most (map listed (alternatives_of (known_alternatives known) e)) fault → Refuses most (joins others (map listed (alternatives_of (known_alternatives known) e))) fault
refused_part known e formed others some each most =
    let xs = map listed (alternatives_of (known_alternatives known) e) in
    refuses_larger most xs (joins others xs) (seconds_weigh Together others xs each (all_listed _ (placed_of known e formed)) some)

-- ---- what is taken, listed

pub listed_taken : (known : Known) (leaves : Leaves) (made taken : List (Pair UnitPlace)) → IsAscending made → AreTaken known leaves made → AreTaken known leaves taken → made ≡ ascending taken
listed_taken known leaves made taken up same are = sym (ascending_is taken made up (λ p. (λ c. (are p).1 ((same p).0 c), λ c. (same p).1 ((are p).0 c))))

-- ---- the single one and the others

module _ (known : Known) (es : List Expression) (leaves : Leaves) (cycles : ℕ) (others : Alternatives) (are : IsBeside known es leaves cycles others) (some : 0 < length es) (formed : IsTrue (are_expressions (parts_of es))) where
  abbrev one : Alternatives
  one = listed (whole are.pairs cycles) ∷ []

  -- no pair of the one alternative is too late
  pub within_length : (p : Pair UnitPlace) → Takes known leaves p → p.cycle < cycles
  within_length p t = All-contains (λ (q : Pair UnitPlace). q.cycle < cycles) are.pairs p are.is_placed.within ((are.taken p).1 t)

  pub listed_single : All IsListed one
  listed_single = All-cons IsListed (listed (whole are.pairs cycles)) [] (IsListed-listed (whole are.pairs cycles) are.is_placed) (All-nil IsListed)

  pub short_both : greatest_length (joins one others) ≤ cycle_limit
  short_both =
      let long = greatest-joins one others (omega arith) are.some in
      let low = are.short in
      let still = are.short_others in
      omega arith

  pub all_beside : joins one others ≡ map listed (together_of known es)
  all_beside = sym are.same ∙ with_nothing known es some formed

  pub refused_single : (most : ℕ) (fault : AlternFault) → Refuses most one fault → Refuses most (map listed (together_of known es)) fault
  refused_single most = refuses_larger most one (map listed (together_of known es)) (subst (λ ws. total_weight one ≤ total_weight ws) all_beside (firsts_weigh Together one others listed_single are.are_listed are.some))
