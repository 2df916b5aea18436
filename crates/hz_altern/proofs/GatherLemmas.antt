-- Parts of an expression with one alternative, gathered one by one.
use Rattle.std.proofs.Common.{◌≡◌, ℕ, zero, suc, ◌+◌, ◌*◌, ◌<◌, ◌≤◌, max, Bool, List, [], ◌∷◌, ◌++◌, length, take, drop, get_or, Contains, ◌⊎◌, inl, inr, ⊎_elim, refl, sym, ap, ◌∙◌, subst, arith, length-append}
use Rattle.std.specs.Prelude.{IsTrue}
use Rattle.std.proofs.Math.Nat.{mul-le-mul_left, mul_comm}
use Rattle.std.proofs.lemmas.Bool.{and_parts}
use Rattle.std.proofs.lemmas.List.{map-append, take_more}
use Rattle.std.proofs.lemmas.List.Elements.{Contains-append_left, Contains-append_right, Contains-append_cases}
use Rattle.hz_base_model.specs.Limits.{cycle_limit}
use Rattle.hz_base_model.specs.Pairs.{Pair, placed, later}
use Rattle.hz_base_model.proofs.Elements.{Contains-nil, Contains-map, Contains-from_map}
use Rattle.hz_grid.specs.declared.cycles.Cycles.{Cycles}
use Rattle.hz_altern.specs.declared.known.Known.{Known}
use Rattle.hz_altern.specs.declared.listing.leaves.Leaves.{Leaves}
use Rattle.hz_altern.specs.Leaves.{all_pairs, BeginsIn, Begins, BeginsInCopy, AddsCopies, Takes, AllEndBy, IsGathered}
use Rattle.hz_altern.specs.Tables.{alternatives_in, known_alternatives, is_held}
use Rattle.hz_altern.proofs.KnownLemmas.{some_of, name_runs}
use Rattle.hz_altern.proofs.LeafLemmas.{placed_now, placed_again, pairs_followed}
use Rattle.hz_altern.proofs.Lengths.{greatest-followed, greatest-beside, greatest-copies}
use Rattle.hz_altern.proofs.Nodes.{nodes, all_nodes}
use Rattle.hz_altern.proofs.PartLemmas.{halves}
use Rattle.hz_regexp.specs.declared.expr.Expr.{Expr}
use Rattle.hz_regexp.specs.Shape.{expression, expressions}
use Rattle.hz_description_model.specs.Reservations.Alternatives.{Alternative, Expression, followed_by, beside, each_choice, copies, alternatives_of, in_sequence, any_of, together, parts_of}
use Rattle.hz_description_model.specs.Reservations.AlternativeLists.{greatest_length}
use Rattle.hz_description_model.specs.Reservations.Automata.{UnitPlace}
use Rattle.hz_description_model.specs.Reservations.Expressions.{are_several, is_expression, are_expressions}
use Rattle.hz_description_model.specs.Reservations.NamesIn.{all_names, all_names_in}
use Rattle.hz_description_model.proofs.Reservations.ExpressionLaws.{length-each_choice, one_followed, one_beside}
use Rattle.hz_description_model.proofs.Reservations.ListedLaws.{in_sequence-append, together-append, copies-add}

-- ---- parts of the code one by one

-- a part at a place, and the parts up to it
pub record PartAt (test : List ℕ → Bool) (ps : List Expr) (i : ℕ) (p : Expr) : Type 0 where
  pub formed : IsTrue (is_expression (expression p))
  pub names_known : IsTrue (all_names test (expression p))
  pub fewer : nodes p ≤ all_nodes ps
  pub next : expressions (take (i + 1) ps) ≡ expressions (take i ps) ++ expression p ∷ []

part_formed : (ps : List Expr) (i : ℕ) (p : Expr) → i < length ps → p ≡ get_or ps i p → IsTrue (are_expressions (parts_of (expressions ps))) → IsTrue (is_expression (expression p))
part_formed [] i p lt e h = absurd (omega arith)
part_formed (q ∷ ps) zero p lt e h = subst (λ (x : Expr). IsTrue (is_expression (expression x))) (sym e) (and_parts _ _ h).0
part_formed (q ∷ ps) (suc i) p lt e h = part_formed ps i p (omega arith) e (and_parts _ _ h).1

part_known : (test : List ℕ → Bool) (ps : List Expr) (i : ℕ) (p : Expr) → i < length ps → p ≡ get_or ps i p → IsTrue (all_names_in test (parts_of (expressions ps))) → IsTrue (all_names test (expression p))
part_known test [] i p lt e h = absurd (omega arith)
part_known test (q ∷ ps) zero p lt e h = subst (λ (x : Expr). IsTrue (all_names test (expression x))) (sym e) (and_parts _ _ h).0
part_known test (q ∷ ps) (suc i) p lt e h = part_known test ps i p (omega arith) e (and_parts _ _ h).1

part_fewer : (ps : List Expr) (i : ℕ) (p : Expr) → i < length ps → p ≡ get_or ps i p → nodes p ≤ all_nodes ps
part_fewer [] i p lt e = absurd (omega arith)
part_fewer (q ∷ ps) zero p lt e = let same = ap nodes e in omega (arith, same)
part_fewer (q ∷ ps) (suc i) p lt e = let rest = part_fewer ps i p (omega arith) e in omega (arith, rest)

part_next : (ps : List Expr) (i : ℕ) (p : Expr) → i < length ps → p ≡ get_or ps i p → expressions (take (i + 1) ps) ≡ expressions (take i ps) ++ expression p ∷ []
part_next ps i p lt e = ap expressions (take_more ps i p lt) ∙ (map-append expression (take i ps) (get_or ps i p ∷ []) ∙ ap (λ (q : Expr). expressions (take i ps) ++ expression q ∷ []) (sym e))

pub part_at : (test : List ℕ → Bool) (ps : List Expr) (i : ℕ) (p : Expr) → i < length ps → p ≡ get_or ps i p → IsTrue (are_expressions (parts_of (expressions ps))) → IsTrue (all_names_in test (parts_of (expressions ps))) → PartAt test ps i p
part_at test ps i p lt e h k = record { formed = part_formed ps i p lt e h; names_known = part_known test ps i p lt e k; fewer = part_fewer ps i p lt e; next = part_next ps i p lt e }

-- ---- counts of alternatives

-- ---- one alternative of each part

pub factors_one : (a b : ℕ) → a * b ≡ 1 → (a ≡ 1) × (b ≡ 1)
factors_one zero b e = absurd (omega arith)
factors_one (suc zero) b e = (refl, omega arith)
factors_one (suc (suc a)) zero e = absurd (omega arith)
factors_one (suc (suc a)) (suc b) e = absurd (omega arith)

abbrev Alternatives : Type 0
Alternatives = List (Alternative UnitPlace)

-- parts joined in some way, where all of them have one alternative: those so far and the next part have one each
pub record OneAt (known : Known) (join : Alternative UnitPlace → Alternative UnitPlace → Alternative UnitPlace) (both : ℕ → ℕ → ℕ) (all : List Expression → Alternatives) (ps : List Expr) (i : ℕ) (p : Expr) : Type 0 where
  pub before : length (all (expressions (take i ps))) ≡ 1
  pub part : length (alternatives_of (known_alternatives known) (expression p)) ≡ 1
  pub next : all (expressions (take (i + 1) ps)) ≡ each_choice join (all (expressions (take i ps))) (alternatives_of (known_alternatives known) (expression p))
  pub long : greatest_length (all (expressions (take (i + 1) ps))) ≡ both (greatest_length (all (expressions (take i ps)))) (greatest_length (alternatives_of (known_alternatives known) (expression p)))
  pub rest : (n : ℕ) × (greatest_length (all (expressions ps)) ≡ both (greatest_length (all (expressions (take (i + 1) ps)))) n)

module _ (known : Known) (join : Alternative UnitPlace → Alternative UnitPlace → Alternative UnitPlace) (both : ℕ → ℕ → ℕ) (all : List Expression → Alternatives)
    (append : (es fs : List Expression) → all (es ++ fs) ≡ each_choice join (all es) (all fs))
    (alone : (e : Expression) → all (e ∷ []) ≡ alternatives_of (known_alternatives known) e)
    (greatest : (xs ys : Alternatives) → 0 < length xs → 0 < length ys → greatest_length (each_choice join xs ys) ≡ both (greatest_length xs) (greatest_length ys)) where
  one_at : (ps : List Expr) (i : ℕ) (p : Expr) → i < length ps → p ≡ get_or ps i p → length (all (expressions ps)) ≡ 1 → OneAt known join both all ps i p
  one_at ps i p lt is one =
      let es = expressions (take i ps) in
      let upto = expressions (take (i + 1) ps) in
      let fs = expressions (drop (i + 1) ps) in
      let ys = alternatives_of (known_alternatives known) (expression p) in
      let whole : all (expressions ps) ≡ each_choice join (all upto) (all fs) = ap all (sym (halves (i + 1) ps)) ∙ append upto fs in
      let next : all upto ≡ each_choice join (all es) ys = ap all (part_next ps i p lt is) ∙ (append es (expression p ∷ []) ∙ ap (each_choice join (all es)) (alone (expression p))) in
      let outer = factors_one (length (all upto)) (length (all fs)) (sym (length-each_choice join (all upto) (all fs)) ∙ (sym (ap length whole) ∙ one)) in
      let inner = factors_one (length (all es)) (length ys) (sym (length-each_choice join (all es) ys) ∙ (sym (ap length next) ∙ outer.0)) in
      record {
        before = inner.0;
        part = inner.1;
        next = next;
        long = ap greatest_length next ∙ greatest (all es) ys (let some = inner.0 in omega arith) (let some = inner.1 in omega arith);
        rest = (greatest_length (all fs), ap greatest_length whole ∙ greatest (all upto) (all fs) (let some = outer.0 in omega arith) (let some = outer.1 in omega arith));
      }

module _ (known : Known) where
  abbrev pub sequence_of : List Expression → Alternatives
  sequence_of es = in_sequence (known_alternatives known) (parts_of es)

  abbrev pub together_of : List Expression → Alternatives
  together_of es = together (known_alternatives known) (parts_of es)

  pub sequence_at : (ps : List Expr) (i : ℕ) (p : Expr) → i < length ps → p ≡ get_or ps i p → length (sequence_of (expressions ps)) ≡ 1 → OneAt known followed_by (λ a b. a + b) sequence_of ps i p
  sequence_at = one_at known followed_by (λ a b. a + b) sequence_of (in_sequence-append (known_alternatives known)) (λ e. one_followed (alternatives_of (known_alternatives known) e)) greatest-followed

  pub together_at : (ps : List Expr) (i : ℕ) (p : Expr) → i < length ps → p ≡ get_or ps i p → length (together_of (expressions ps)) ≡ 1 → OneAt known beside max together_of ps i p
  together_at = one_at known beside max together_of (together-append (known_alternatives known)) (λ e. one_beside (alternatives_of (known_alternatives known) e)) greatest-beside

  -- an alternation has two alternatives or more
  pub several_of : (es : List Expression) → IsTrue (are_several (parts_of es)) → IsTrue (are_expressions (parts_of es)) → IsTrue (all_names_in (is_held (alternatives_in known)) (parts_of es)) → length (any_of (known_alternatives known) (parts_of es)) ≡ 1 → ⊥
  several_of [] several formed held one = absurd (cc)
  several_of (e ∷ []) several formed held one = absurd (cc)
  several_of (e ∷ f ∷ es) several formed held one =
      let k = known_alternatives known in
      let here = and_parts _ _ formed in
      let there = and_parts _ _ here.1 in
      let names = and_parts _ _ held in
      let others = and_parts _ _ names.1 in
      let first = some_of known e here.0 names.0 in
      let second = some_of known f there.0 others.0 in
      omega (arith, length-append (alternatives_of k e) (any_of k (parts_of (f ∷ es))), length-append (alternatives_of k f) (any_of k (parts_of es)))

-- ---- copies

module _ (xs : Alternatives) where
  pub one_of_copies : (n : ℕ) → 1 ≤ n → length (copies n xs) ≡ 1 → length xs ≡ 1
  one_of_copies zero h one = absurd (omega arith)
  one_of_copies (suc n) h one = (factors_one (length xs) (length (copies n xs)) (sym (length-each_choice followed_by xs (copies n xs)) ∙ one)).0

  one_copied : length xs ≡ 1 → (n : ℕ) → length (copies n xs) ≡ 1
  one_copied one zero = refl
  one_copied one (suc n) = length-each_choice followed_by xs (copies n xs) ∙ (ap (λ (m : ℕ). m * length (copies n xs)) one ∙ (let rest = one_copied one n in omega arith))

  copies_next : (n : ℕ) → copies (n + 1) xs ≡ each_choice followed_by (copies n xs) xs
  copies_next n = copies-add n 1 xs ∙ ap (each_choice followed_by (copies n xs)) (one_followed xs)

  pub copies_long : length xs ≡ 1 → (n : ℕ) → greatest_length (copies (n + 1) xs) ≡ greatest_length (copies n xs) + greatest_length xs
  copies_long one n = ap greatest_length (copies_next n) ∙ greatest-followed (copies n xs) xs (let some = one_copied one n in omega arith) (omega arith)

  pub copies_within : length xs ≡ 1 → (n times : ℕ) → n < times → greatest_length (copies n xs) + greatest_length xs ≤ greatest_length (copies times xs)
  copies_within one n times lt =
      let long = copies_long one n in
      let more = mul-le-mul_left {m = n + 1} {n = times} (greatest_length xs) (omega arith) in
      omega (arith, greatest-copies (n + 1) xs (omega arith), greatest-copies times xs (omega arith))

  pub copied_long : length xs ≡ 1 → (n long : ℕ) → long ≡ greatest_length xs → n * long ≡ greatest_length (copies n xs)
  copied_long one n long is = mul_comm n long ∙ (ap (λ (m : ℕ). m * n) is ∙ sym (greatest-copies n xs (omega arith)))

  -- the pairs of copies are those of the one, from each copy's cycle on
  copy_at : length xs ≡ 1 → (n start : ℕ) (p : Pair UnitPlace) → Contains (placed start (all_pairs (copies n xs))) p → (copy : ℕ) × (copy < n) × Contains (placed (start + copy * greatest_length xs) (all_pairs xs)) p
  copy_at one zero start p c = absurd (Contains-nil p c)
  copy_at one (suc n) start p c =
      ⊎_elim
      (λ (here : Contains (placed start (all_pairs xs)) p). (0, omega arith, subst (λ (s : ℕ). Contains (placed s (all_pairs xs)) p) (omega arith) here))
      (λ (there : Contains (placed (start + greatest_length xs) (all_pairs (copies n xs))) p).
      let rest = copy_at one n (start + greatest_length xs) p there in
      (suc rest.0, (let within = rest.1 in omega arith), subst (λ (s : ℕ). Contains (placed s (all_pairs xs)) p) (next rest.0) rest.2))
      (Contains-append_cases _ _ p (subst (λ (ps : List (Pair UnitPlace)). Contains ps p) (pairs_followed start xs (copies n xs) one (one_copied one n)) c))
    where
      next : (k : ℕ) → (start + greatest_length xs) + k * greatest_length xs ≡ start + suc k * greatest_length xs
      next k = omega arith

  copy_among : length xs ≡ 1 → (n start copy : ℕ) (p : Pair UnitPlace) → copy < n → Contains (placed (start + copy * greatest_length xs) (all_pairs xs)) p → Contains (placed start (all_pairs (copies n xs))) p
  copy_among one zero start copy p lt c = absurd (omega arith)
  copy_among one (suc n) start zero p lt c =
      let here = subst (λ (s : ℕ). Contains (placed s (all_pairs xs)) p) (omega arith) c in
      subst (λ (ps : List (Pair UnitPlace)). Contains ps p) (sym (pairs_followed start xs (copies n xs) one (one_copied one n))) (Contains-append_left (placed start (all_pairs xs)) _ p here)
  copy_among one (suc n) start (suc k) p lt c =
      let there = copy_among one n (start + greatest_length xs) k p (omega arith) (subst (λ (s : ℕ). Contains (placed s (all_pairs xs)) p) (omega arith) c) in
      subst (λ (ps : List (Pair UnitPlace)). Contains ps p) (sym (pairs_followed start xs (copies n xs) one (one_copied one n))) (Contains-append_right (placed start (all_pairs xs)) _ p there)

  -- Leaves that were gathered by themselves, added in the cycles of all copies.
  module _ (known : Known) (one : length xs ≡ 1) (none once : Leaves) (nothing : none.names.entries ≡ []) (gathered : IsGathered known 0 xs none once) where
    none_begins : (name : List ℕ) (cycle : ℕ) → Begins none name cycle → ⊥
    none_begins name cycle b = subst (λ (es : List (List ℕ × Cycles)). BeginsIn es name cycle) nothing b

    -- the part's pairs, each of a name from its cycle on
    once_from : (p : Pair UnitPlace) → Contains (all_pairs xs) p → Takes known once p
    once_from p c = (gathered.pairs p).1 (inr (subst (λ (ps : List (Pair UnitPlace)). Contains ps p) (sym (placed_now (all_pairs xs))) c))

    once_to : (p : Pair UnitPlace) → Takes known once p → Contains (all_pairs xs) p
    once_to p t = ⊎_elim (λ (n : Takes known none p). absurd (none_begins n.name n.start n.begins)) (λ (c : Contains (placed 0 (all_pairs xs)) p). subst (λ (ps : List (Pair UnitPlace)). Contains ps p) (placed_now (all_pairs xs)) c) ((gathered.pairs p).0 t)

    once_ends : AllEndBy known (greatest_length xs) once
    once_ends = gathered.ends (greatest_length xs) (omega arith) (λ name cycle b. absurd (none_begins name cycle b))

    module _ (times start : ℕ) (old new : Leaves) (added : AddsCopies once.names.entries times (greatest_length xs) start old new) where
      abbrev apart : ℕ
      apart = greatest_length xs

      -- where a copy of a name ends
      copy_ends : (name : List ℕ) (copy earlier : ℕ) → copy < times → Begins once name earlier → (start + (copy * apart + earlier)) + greatest_length (known_alternatives known name) ≤ start + greatest_length (copies times xs)
      copy_ends name copy earlier lt b =
          let ends = (once_ends name earlier b).ends in
          let within = copies_within one copy times lt in
          let some : 0 < length xs = omega arith in
          let long = greatest-copies copy xs some in
          let swapped = mul_comm (greatest_length xs) copy in
          omega arith

      there : (p : Pair UnitPlace) → Takes known new p → Takes known old p ⊎ Contains (placed start (all_pairs (copies times xs))) p
      there p t =
          ⊎_elim
          (λ (b : Begins old t.name t.start). inl (record { name = t.name; start = t.start; begins = b; taken = t.taken }))
          (λ (b : BeginsInCopy once.names.entries times apart start t.name t.start).
          let pairs = all_pairs (known_alternatives known t.name) in
          let at : t.start ≡ (start + b.copy * apart) + b.earlier = (let is = b.later in omega arith) in
          let taken = subst (λ (ps : List (Pair UnitPlace)). Contains ps p) (sym (placed_again (start + b.copy * apart) b.earlier pairs)) (subst (λ (s : ℕ). Contains (placed s pairs) p) at t.taken) in
          let first = Contains-from_map (later (start + b.copy * apart)) (placed b.earlier pairs) p taken in
          let among = once_to first.0 (record { name = t.name; start = b.earlier; begins = b.begins; taken = first.1 }) in
          inr (copy_among one times start b.copy p b.within (subst (λ (q : Pair UnitPlace). Contains (placed (start + b.copy * apart) (all_pairs xs)) q) first.2 (Contains-map (later (start + b.copy * apart)) (all_pairs xs) first.0 among))))
          ((added t.name t.start).0 t.begins)

      module _ (short : start + greatest_length (copies times xs) ≤ cycle_limit) where
        from_copy : (p : Pair UnitPlace) → Contains (placed start (all_pairs (copies times xs))) p → Takes known new p
        from_copy p c =
            let at = copy_at one times start p c in
            let first = Contains-from_map (later (start + at.0 * apart)) (all_pairs xs) p at.2 in
            let t = once_from first.0 first.1 in
            let pairs = all_pairs (known_alternatives known t.name) in
            let ends = copy_ends t.name at.0 t.start at.1 t.begins in
            let one_known = (once_ends t.name t.start t.begins).one in
            let runs = name_runs known t.name one_known in
            let is : (start + at.0 * apart) + t.start ≡ start + (at.0 * apart + t.start) = omega arith in
            record {
              name = t.name;
              start = start + (at.0 * apart + t.start);
              begins = (added t.name (start + (at.0 * apart + t.start))).1 (inr (record { inside = omega arith; copy = at.0; within = at.1; earlier = t.start; begins = t.begins; later = refl }));
              taken = subst (λ (s : ℕ). Contains (placed s pairs) p) is
                  (subst (λ (ps : List (Pair UnitPlace)). Contains ps p) (placed_again (start + at.0 * apart) t.start pairs)
                  (subst (λ (q : Pair UnitPlace). Contains (placed (start + at.0 * apart) (placed t.start pairs)) q) first.2 (Contains-map (later (start + at.0 * apart)) (placed t.start pairs) first.0 t.taken)));
            }

        pub copies_gathered : IsGathered known start (copies times xs) old new
        copies_gathered = record {
          pairs = λ p. (
            there p,
            λ c. ⊎_elim
                (λ (t : Takes known old p). record { name = t.name; start = t.start; begins = (added t.name t.start).1 (inl t.begins); taken = t.taken })
                (from_copy p) c,
          );
          ends = λ most low each name cycle b. ⊎_elim
              (each name cycle)
              (λ (c : BeginsInCopy once.names.entries times apart start name cycle).
              let ends = copy_ends name c.copy c.earlier c.within c.begins in
              let is = c.later in
              record { one = (once_ends name c.earlier c.begins).one; ends = omega arith })
              ((added name cycle).0 b);
        }
