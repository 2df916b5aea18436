-- Extents of alternatives that are joined.
use Rattle.std.proofs.Common.{◌≡◌, ℕ, ◌<◌, ◌≤◌, min, List, ◌++◌, length, refl, sym, ap, ◌∙◌, arith, length-append, ◌+◌}
use Rattle.std.proofs.lemmas.List.{length-map}
use Rattle.std.proofs.lemmas.Bool.{and_parts, leb-true}
use Rattle.std.proofs.Common.{true, take, drop, Option, Some, subst, length-drop, length-take}
use Rattle.std.specs.Prelude.{IsTrue}
use Rattle.hz_base_model.specs.Limits.{cycle_limit}
use Rattle.hz_description_model.specs.Reservations.Limits.{alternative_limit}
use Rattle.hz_regexp.specs.declared.expr.Expr.{Expr}
use Rattle.hz_regexp.specs.Shape.{expressions}
use Rattle.hz_altern.specs.declared.mark.Mark.{Mark}
use Rattle.hz_altern.specs.declared.mark.Mark.TheVariants.{Comma, Bar, Plus}
use Rattle.hz_altern.specs.Joinings.{joined_parts}
use Rattle.hz_altern.proofs.JoinedLists.{joined_lists}
use Rattle.hz_altern.specs.Tables.{AreRight, AreRightIn}
use Rattle.hz_altern.specs.Extents.{cut_extent, joined_extents, repeated_extent}
use Rattle.hz_altern.proofs.Lengths.{greatest-append, greatest-followed, greatest-beside, greatest-copies}
use Rattle.hz_altern.proofs.Cutting.{cut_product, cut_power, cut_times}
use Rattle.hz_altern.proofs.PartLemmas.{halves, formed_halves, right_halves, joined_parts-append, some_joined}
use Rattle.hz_description_model.specs.Reservations.Expressions.{is_expression, are_expressions}
use Rattle.hz_description_model.specs.Reservations.Alternatives.{parts_of, Alternative, Expression, named, nothing, repeat, alternatives_of, each_choice, followed_by, beside, copies}
use Rattle.hz_description_model.specs.Reservations.AlternativeLists.{Extent, extent_of, greatest_length}
use Rattle.hz_description_model.specs.Reservations.Automata.{UnitPlace}
use Rattle.hz_description_model.proofs.Reservations.ExpressionLaws.{length-each_choice, count_copies, some_alternatives}

extent_from : (xs : List (Alternative UnitPlace)) (count longest : ℕ) → length xs ≡ count → greatest_length xs ≡ longest → extent_of xs ≡ cut_extent count longest
extent_from xs count longest e f = ap (λ n. cut_extent n (greatest_length xs)) e ∙ ap (cut_extent count) f

same_extent : (a b c d : ℕ) → min a (alternative_limit + 1) ≡ min c (alternative_limit + 1) → min b (cycle_limit + 1) ≡ min d (cycle_limit + 1) → cut_extent a b ≡ cut_extent c d
same_extent a b c d e f = cc

pub extent-joined : (mark : Mark) (xs ys : List (Alternative UnitPlace)) → 0 < length xs → 0 < length ys → extent_of (joined_lists mark xs ys) ≡ joined_extents mark (extent_of xs) (extent_of ys)
extent-joined Comma xs ys h k =
    extent_from (each_choice followed_by xs ys) _ _ (length-each_choice followed_by xs ys) (greatest-followed xs ys h k)
    ∙ same_extent _ _ _ _ (sym (cut_product (alternative_limit + 1) (length xs) (length ys) (omega arith) h k)) (omega arith)
extent-joined Bar xs ys h k =
    extent_from (xs ++ ys) _ _ (length-append xs ys) (greatest-append xs ys)
    ∙ same_extent _ _ _ _ (omega arith) (omega arith)
extent-joined Plus xs ys h k =
    extent_from (each_choice beside xs ys) _ _ (length-each_choice beside xs ys) (greatest-beside xs ys h k)
    ∙ same_extent _ _ _ _ (sym (cut_product (alternative_limit + 1) (length xs) (length ys) (omega arith) h k)) (omega arith)

pub extent-copies : (n : ℕ) (xs : List (Alternative UnitPlace)) → 1 ≤ n → 0 < length xs → extent_of (copies n xs) ≡ repeated_extent n (extent_of xs)
extent-copies n xs k h =
    extent_from (copies n xs) _ _ (count_copies n xs) (greatest-copies n xs h)
    ∙ same_extent _ _ _ _ (sym (cut_power (alternative_limit + 1) (length xs) n (omega arith) h k)) (sym (cut_times (cycle_limit + 1) (greatest_length xs) n k))

-- what an extent says of the parts of a list, for each assignment that is held right
abbrev pub Measures : Mark → (List ℕ → Option Extent) → List Expr → Extent → Type 0
Measures mark held ps extent = (known : List ℕ → List (Alternative UnitPlace)) → AreRightIn held known (parts_of (expressions ps)) → extent ≡ extent_of (joined_parts mark known (parts_of (expressions ps)))

-- the extents of both halves make that of all
pub extent-halves : (mark : Mark) (held : List ℕ → Option Extent) (m : ℕ) (ps : List Expr) → 0 < m → m < length ps → IsTrue (are_expressions (parts_of (expressions ps))) → (a b : Extent) → Measures mark held (take m ps) a → Measures mark held (drop m ps) b → Measures mark held ps (joined_extents mark a b)
extent-halves mark held m ps low high formed a b front back known right =
    let right' = right_halves held known m ps right in
    let formed' = formed_halves (λ _. true) m ps formed in
    let es = expressions (take m ps) in
    let fs = expressions (drop m ps) in
    let xs = joined_parts mark known (parts_of es) in
    let ys = joined_parts mark known (parts_of fs) in
    let some_xs = some_joined mark known es (simp (length-map, length-take) (omega arith)) formed'.0 right'.0.some in
    let some_ys = some_joined mark known fs (simp (length-map, length-drop) (omega arith)) formed'.1 right'.1.some in
    ap (λ e. joined_extents mark e b) (front known right'.0)
    ∙ (ap (joined_extents mark (extent_of xs)) (back known right'.1)
    ∙ (sym (extent-joined mark xs ys some_xs some_ys)
    ∙ ap extent_of (sym (joined_parts-append mark known es fs) ∙ ap (λ gs. joined_parts mark known (parts_of gs)) (halves m ps))))

-- what an extent says of an expression, for each assignment that is held right
abbrev pub Says : (List ℕ → Option Extent) → Expression → Extent → Type 0
Says held e extent = (known : List ℕ → List (Alternative UnitPlace)) → AreRight held known e → extent ≡ extent_of (alternatives_of known e)

pub says_same : (held : List ℕ → Option Extent) (e f : Expression) (extent : Extent) → e ≡ f → Says held f extent → Says held e extent
says_same held e f extent same says = subst (λ (x : Expression). Says held x extent) (sym same) says

pub says_named : (held : List ℕ → Option Extent) (name : List ℕ) (extent : Extent) → held name ≡ Some extent → Says held (named name) extent
says_named held name extent is known right = let there = right.each name refl in cc

pub says_nothing : (held : List ℕ → Option Extent) → Says held nothing (record { count = 1; longest = 1 })
says_nothing held known right = refl

pub says_repeat : (held : List ℕ → Option Extent) (part : Expression) (times : ℕ) (extent : Extent) → IsTrue (is_expression (repeat part times)) → Says held part extent → Says held (repeat part times) (repeated_extent times extent)
says_repeat held part times extent formed says known right =
    let parts = and_parts _ _ formed in
    let inner = and_parts _ _ parts.0 in
    ap (repeated_extent times) (says known (record { each = right.each; some = right.some }))
    ∙ sym (extent-copies times (alternatives_of known part) (leb-true 1 times inner.1) (some_alternatives known part inner.0 right.some))

abbrev pub cut_free : ℕ × (ℕ × Unit {0}) → Extent
cut_free both = record { count = both.0; longest = both.1.0 }

-- the extent of a number and a length
pub extent_of_both : (both : ℕ × (ℕ × Unit {0})) (extent : Extent) → both ≡ (extent.count, (extent.longest, tt)) → cut_free both ≡ extent
extent_of_both both extent e = ap cut_free e
