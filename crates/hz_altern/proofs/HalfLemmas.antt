-- Listed alternatives of parts that are cut in two.
use Rattle.std.proofs.Common.{◌/◌, get_or, take, drop, ◌≡◌, ℕ, zero, suc, ◌<◌, ◌≤◌, max, List, [], ◌∷◌, ◌++◌, length, map, All, refl, sym, ap, ◌∙◌, subst, arith}
use Rattle.std.specs.Prelude.{IsTrue}
use Rattle.std.proofs.Common.{add-zero}
use Rattle.std.proofs.lemmas.Bool.{and_parts, leb-true}
use Rattle.std.proofs.lemmas.List.{length-map, map-append}
use Rattle.hz_regexp.specs.declared.expr.Expr.{Expr}
use Rattle.hz_regexp.specs.declared.expr.Expr.TheVariants.{Repeat}
use Rattle.std.specs.declared.alloc.Global.{Global}
use Rattle.std.specs.declared.boxed.Box.{Box}
use Rattle.hz_base_model.specs.Limits.{cycle_limit}
use Rattle.hz_altern.proofs.Shapes.{repeat_is}
use Rattle.hz_altern.proofs.PartLemmas.{only_one}
use Rattle.hz_regexp.specs.Shape.{expression, expressions}
use Rattle.hz_altern.specs.declared.fault.AlternFault.{AlternFault}
use Rattle.hz_altern.specs.declared.fault.AlternFault.TheVariants.{AlternativesLimit, CyclesLimit, SizeLimit, NoMemory}
use Rattle.hz_altern.specs.declared.known.Known.{Known}
use Rattle.hz_altern.specs.declared.listing.joining.Joining.TheVariants.{Together}
use Rattle.hz_altern.specs.declared.mark.Mark.{Mark}
use Rattle.hz_altern.specs.declared.mark.Mark.TheVariants.{Comma, Bar, Plus}
use Rattle.hz_altern.specs.Answers.{total_weight, Refuses}
use Rattle.hz_altern.specs.Joinings.{IsListed, joined_by, joined_parts, left_after, listed_lists}
use Rattle.hz_altern.proofs.JoinedLists.{joined_lists}
use Rattle.hz_altern.specs.Tables.{alternatives_in, known_alternatives, is_held}
use Rattle.hz_altern.proofs.ChoiceWeights.{parts_weigh}
use Rattle.hz_altern.proofs.KnownLemmas.{some_of, placed_of, some_of_parts, placed_of_parts, all_listed}
use Rattle.hz_altern.proofs.Lengths.{greatest-append, greatest-followed, greatest-beside}
use Rattle.hz_altern.proofs.PartLemmas.{are_expressions-append, all_names_in-append, joined_parts-append, joined_parts-one}
use Rattle.hz_altern.proofs.ListedLemmas.{copies_one, copies_short, copies_refused}
use Rattle.hz_altern.proofs.Nodes.{nodes, all_nodes, Cut, cut_in_two}
use Rattle.hz_altern.proofs.Weights.{refuses_larger, weight-append}
use Rattle.hz_description_model.specs.Reservations.Alternatives.{Alternative, Expression, repeat, alternatives_of, each_choice, followed_by, beside, copies, parts_of}
use Rattle.hz_description_model.specs.Reservations.AlternativeLists.{IsPlaced, greatest_length}
use Rattle.hz_description_model.specs.Reservations.Automata.{UnitPlace, listed}
use Rattle.hz_description_model.specs.Reservations.Expressions.{is_expression, are_expressions}
use Rattle.hz_description_model.specs.Reservations.NamesIn.{all_names, all_names_in}
use Rattle.hz_description_model.proofs.Reservations.ListedLaws.{map-each_choice, listed_followed, listed_beside}

-- ---- listing joined lists is joining listed ones

pub listed_joined : (mark : Mark) (xs ys : List (Alternative UnitPlace)) → All IsPlaced xs → map listed (joined_lists mark xs ys) ≡ listed_lists mark (map listed xs) (map listed ys)
listed_joined Comma xs ys each = map-each_choice listed followed_by followed_by IsPlaced (λ a b is. listed_followed a b is.within) xs ys each
listed_joined Bar xs ys each = map-append listed xs ys
listed_joined Plus xs ys each = map-each_choice listed beside (joined_by Together) IsPlaced (λ a b is. listed_beside a b) xs ys each

pub listed_copied : (n : ℕ) (xs : List (Alternative UnitPlace)) → All IsPlaced xs → map listed (copies n xs) ≡ copies n (map listed xs)
listed_copied zero xs each = refl
listed_copied (suc n) xs each =
    map-each_choice listed followed_by followed_by IsPlaced (λ a b is. listed_followed a b is.within) xs (copies n xs) each
    ∙ ap (each_choice followed_by (map listed xs)) (listed_copied n xs each)

pub greatest-listed : (xs : List (Alternative UnitPlace)) → greatest_length (map listed xs) ≡ greatest_length xs
greatest-listed [] = refl
greatest-listed (x ∷ xs) = ap (max x.cycles) (greatest-listed xs)

-- a part is no longer than the whole
longer : (mark : Mark) (xs ys : List (Alternative UnitPlace)) → 0 < length xs → 0 < length ys → (greatest_length xs ≤ greatest_length (joined_lists mark xs ys)) × (greatest_length ys ≤ greatest_length (joined_lists mark xs ys))
longer Comma xs ys h k = let all = greatest-followed xs ys h k in (omega arith, omega arith)
longer Bar xs ys h k = let all = greatest-append xs ys in (omega arith, omega arith)
longer Plus xs ys h k = let all = greatest-beside xs ys h k in (omega arith, omega arith)

-- what is refused of the second list, for what the first leaves of it, is refused of both
refused_after : (mark : Mark) (xs ys : List (Alternative UnitPlace)) (most : ℕ) → total_weight ys ≤ total_weight (listed_lists mark xs ys) → (fault : AlternFault) → Refuses (left_after mark (total_weight xs) most) ys fault → Refuses most (listed_lists mark xs ys) fault
refused_after Comma xs ys most more fault refusal = refuses_larger most ys (listed_lists Comma xs ys) more fault refusal
refused_after Plus xs ys most more fault refusal = refuses_larger most ys (listed_lists Plus xs ys) more fault refusal
refused_after Bar xs ys most more AlternativesLimit never = absurd never
refused_after Bar xs ys most more CyclesLimit never = absurd never
refused_after Bar xs ys most more SizeLimit over = omega (arith, weight-append xs ys)
refused_after Bar xs ys most more NoMemory free = tt

-- ---- halves

-- the alternatives of parts of the code
abbrev pub of_parts : Mark → Known → List Expr → List (Alternative UnitPlace)
of_parts mark known ps = joined_parts mark (known_alternatives known) (parts_of (expressions ps))

-- what the alternatives of both halves are to those of all
pub record Halved (known : Known) (mark : Mark) (ps front back : List Expr) : Type 0 where
  pub cut : Cut ps front back
  pub formed_front : IsTrue (are_expressions (parts_of (expressions front)))
  pub formed_back : IsTrue (are_expressions (parts_of (expressions back)))
  pub named_front : IsTrue (all_names_in (is_held (alternatives_in known)) (parts_of (expressions front)))
  pub named_back : IsTrue (all_names_in (is_held (alternatives_in known)) (parts_of (expressions back)))
  pub short_front : greatest_length (of_parts mark known front) ≤ cycle_limit
  pub short_back : greatest_length (of_parts mark known back) ≤ cycle_limit
  pub listed_front : All IsListed (map listed (of_parts mark known front))
  pub listed_back : All IsListed (map listed (of_parts mark known back))
  pub all : map listed (of_parts mark known ps) ≡ listed_lists mark (map listed (of_parts mark known front)) (map listed (of_parts mark known back))
  pub short : greatest_length (listed_lists mark (map listed (of_parts mark known front)) (map listed (of_parts mark known back))) ≤ cycle_limit
  pub refused_front : (most : ℕ) (fault : AlternFault) → Refuses most (map listed (of_parts mark known front)) fault → Refuses most (map listed (of_parts mark known ps)) fault
  pub refused_back : (most : ℕ) (fault : AlternFault) → Refuses (left_after mark (total_weight (map listed (of_parts mark known front))) most) (map listed (of_parts mark known back)) fault → Refuses most (map listed (of_parts mark known ps)) fault

pub halved : (known : Known) (mark : Mark) (ps front back : List Expr) → front ≡ take (length ps / 2) ps → back ≡ drop (length ps / 2) ps → (length ps / 2 ≡ 0 → ⊥) → IsTrue (are_expressions (parts_of (expressions ps))) → IsTrue (all_names_in (is_held (alternatives_in known)) (parts_of (expressions ps))) → greatest_length (of_parts mark known ps) ≤ cycle_limit → Halved known mark ps front back
halved known mark ps front back e f several formed named short =
    let pieces = cut_in_two ps front back e f several in
    let test = is_held (alternatives_in known) in
    let es = expressions front in
    let fs = expressions back in
    let cut : expressions ps ≡ es ++ fs = ap expressions pieces.is ∙ map-append expression front back in
    let formed' = are_expressions-append es fs (rw (← cut) formed) in
    let named' = all_names_in-append test es fs (rw (← cut) named) in
    let xs = of_parts mark known front in
    let ys = of_parts mark known back in
    let some_es : 0 < length es = simp length-map pieces.some_front in
    let some_fs : 0 < length fs = simp length-map pieces.some_back in
    let some_xs = some_of_parts known mark es some_es formed'.0 named'.0 in
    let some_ys = some_of_parts known mark fs some_fs formed'.1 named'.1 in
    let placed_xs = placed_of_parts known mark es some_es formed'.0 in
    let placed_ys = placed_of_parts known mark fs some_fs formed'.1 in
    let whole : of_parts mark known ps ≡ joined_lists mark xs ys = ap (λ gs. joined_parts mark (known_alternatives known) (parts_of gs)) cut ∙ joined_parts-append mark (known_alternatives known) es fs in
    let all : map listed (of_parts mark known ps) ≡ listed_lists mark (map listed xs) (map listed ys) = ap (map listed) whole ∙ listed_joined mark xs ys placed_xs in
    let long = ap greatest_length whole in
    let same = ap greatest_length all in
    let parts = longer mark xs ys some_xs some_ys in
    let weights = parts_weigh mark (map listed xs) (map listed ys) (all_listed xs placed_xs) (all_listed ys placed_ys) (simp length-map some_xs) (simp length-map some_ys) in
    let together = ap total_weight all in
    record {
      cut = pieces;
      formed_front = formed'.0;
      formed_back = formed'.1;
      named_front = named'.0;
      named_back = named'.1;
      short_front = omega arith;
      short_back = omega arith;
      listed_front = all_listed xs placed_xs;
      listed_back = all_listed ys placed_ys;
      all = all;
      short = omega (arith, greatest-listed (of_parts mark known ps));
      refused_front = λ most. refuses_larger most (map listed xs) (map listed (of_parts mark known ps)) (omega arith);
      refused_back = λ most fault refusal. subst (λ ws. Refuses most ws fault) (sym all) (refused_after mark (map listed xs) (map listed ys) most weights.1 fault refusal);
    }

-- ---- one part

-- what the alternatives of a single part are to those of the parts
pub record Single (known : Known) (mark : Mark) (ps : List Expr) (p : Expr) : Type 0 where
  pub formed : IsTrue (is_expression (expression p))
  pub named : IsTrue (all_names (is_held (alternatives_in known)) (expression p))
  pub same : of_parts mark known ps ≡ alternatives_of (known_alternatives known) (expression p)
  pub short : greatest_length (alternatives_of (known_alternatives known) (expression p)) ≤ cycle_limit
  pub counted : all_nodes ps ≡ nodes p

pub single : (known : Known) (mark : Mark) (ps : List Expr) (p : Expr) → 0 < length ps → length ps / 2 ≡ 0 → p ≡ get_or ps 0 p → IsTrue (are_expressions (parts_of (expressions ps))) → IsTrue (all_names_in (is_held (alternatives_in known)) (parts_of (expressions ps))) → greatest_length (of_parts mark known ps) ≤ cycle_limit → Single known mark ps p
single known mark ps p some few item formed named short =
    let is = only_one ps p (omega arith) some item in
    let same = ap (of_parts mark known) is ∙ joined_parts-one mark (known_alternatives known) (expression p) in
    record {
      formed = (and_parts _ _ (subst (λ qs. IsTrue (are_expressions (parts_of (expressions qs)))) is formed)).0;
      named = (and_parts _ _ (subst (λ qs. IsTrue (all_names_in (is_held (alternatives_in known)) (parts_of (expressions qs)))) is named)).0;
      same = same;
      short = subst (λ ws. greatest_length ws ≤ cycle_limit) same short;
      counted = ap all_nodes is ∙ add-zero (nodes p);
    }

-- ---- repeats

-- what the alternatives of a part are to those of its repeat
pub record Repeated (known : Known) (e : Expr) (part : Expression) (times : ℕ) : Type 0 where
  pub formed : IsTrue (is_expression part)
  pub named : IsTrue (all_names (is_held (alternatives_in known)) part)
  pub some : 0 < length (map listed (alternatives_of (known_alternatives known) part))
  pub times_some : 1 ≤ times
  pub listed_part : All IsListed (map listed (alternatives_of (known_alternatives known) part))
  pub short_part : greatest_length (alternatives_of (known_alternatives known) part) ≤ cycle_limit
  pub all : map listed (alternatives_of (known_alternatives known) (expression e)) ≡ copies times (map listed (alternatives_of (known_alternatives known) part))
  pub short : greatest_length (copies times (map listed (alternatives_of (known_alternatives known) part))) ≤ cycle_limit
  pub refused : (most : ℕ) (fault : AlternFault) → Refuses most (map listed (alternatives_of (known_alternatives known) part)) fault → Refuses most (map listed (alternatives_of (known_alternatives known) (expression e))) fault

pub repeated : (known : Known) (e : Expr) (box : Box Expr Global) (times : ℕ) → e ≡ Repeat box times → IsTrue (is_expression (expression e)) → IsTrue (all_names (is_held (alternatives_in known)) (expression e)) → greatest_length (alternatives_of (known_alternatives known) (expression e)) ≤ cycle_limit → Repeated known e (expression box.value) times
repeated known e box times variant formed named short =
    let part = expression box.value in
    let is : expression e ≡ repeat part times = ap expression variant ∙ repeat_is box times in
    let test = is_held (alternatives_in known) in
    let ranges = and_parts _ _ (subst (λ f. IsTrue (is_expression f)) is formed) in
    let inner = and_parts _ _ ranges.0 in
    let named' : IsTrue (all_names test part) = subst (λ f. IsTrue (all_names test f)) is named in
    let xs = alternatives_of (known_alternatives known) part in
    let some = some_of known part inner.0 named' in
    let placed = placed_of known part inner.0 in
    let low : 1 ≤ times = leb-true 1 times inner.1 in
    let whole : alternatives_of (known_alternatives known) (expression e) ≡ copies times xs = ap (alternatives_of (known_alternatives known)) is in
    let all = ap (map listed) whole ∙ listed_copied times xs placed in
    let some' : 0 < length (map listed xs) = simp length-map some in
    let each = all_listed xs placed in
    let long = ap greatest_length whole in
    let short_copies : greatest_length (copies times (map listed xs)) ≤ cycle_limit = subst (λ ws. greatest_length ws ≤ cycle_limit) all (omega (arith, greatest-listed (alternatives_of (known_alternatives known) (expression e)))) in
    record {
      formed = inner.0;
      named = named';
      some = some';
      times_some = low;
      listed_part = each;
      short_part = omega (arith, greatest-listed xs, subst (λ ws. greatest_length ws ≤ cycle_limit) (copies_one (map listed xs)) (copies_short (map listed xs) some' each 1 times cycle_limit low short_copies));
      all = all;
      short = short_copies;
      refused = λ most fault no. subst (λ ws. Refuses most ws fault) (sym all) (copies_refused (map listed xs) some' each most 1 times fault (omega arith) low (subst (λ ws. Refuses most ws fault) (sym (copies_one (map listed xs))) no));
    }
