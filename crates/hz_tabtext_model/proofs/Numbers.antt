-- Numbers of fields: each is the number that `decimal` spells, and the other way round.
use Rattle.std.proofs.Common.{◌≡◌, ℕ, zero, suc, ◌^◌, ◌<◌, ◌≤◌, Bool, true, false, cond, not, nat_lt, List, [], ◌∷◌, length, get_or, Option, Some, None, Ok, refl, sym, ap, ◌∙◌, subst, arith, rules, decimal, codes, ⊎_elim, eqb-true, eq-eqb}
use Rattle.std.specs.Prelude.{◌==◌, ◌||◌}
use Rattle.std.specs.Char.{is_ascii_digit}
use Rattle.std.specs.List.{list_all}
use Rattle.std.specs.Str.{bytes_eq}
use Rattle.std.proofs.lemmas.Bool.{and_parts, and_from, or_cases, not-true, ltb-true, lt-ltb, eqb-false, ne_eqb, false_from_ne_true}
use Rattle.std.proofs.lemmas.Slice.Eq.{bytes_eq-Decides}
use Rattle.std.proofs.lemmas.Str.Parse.{IsNumeralModel, numerals_by_fold}
use Rattle.std.proofs.lemmas.Fmt.{decimal-digits_value, digits_decimal, digits_value-decimal, first_decimal, decimal_nonempty, decimal_digit}
use Rattle.hz_base_model.specs.Lines.{number_from}
use Rattle.hz_tabtext_model.specs.Judging.{Kind, bad_number, out_of_range, ◌>>=◌}
use Rattle.hz_tabtext_model.specs.Fields.{is_nil, is_decimal, passing, number_in, number_where, number_below, entry_in, advance_in, ask_entry_in}
use Rattle.hz_tabtext_model.specs.Texts.{entry_field, IsEntry, IsAskEntry}
use Rattle.hz_tabtext_model.proofs.Steps.{bind_ok, guard_ok, ok_is}

own : IsNumeralModel (λ ds. list_all is_ascii_digit ds ≡ true) (number_from 0)
own = numerals_by_fold _ (search rules) number_from (search rules)

-- ---- decimal digits

nil_length : {A : Type 0} (xs : List A) → is_nil xs ≡ true → length xs ≡ 0
nil_length [] h = refl
nil_length (x ∷ xs) h = absurd (cc)

-- digits without a leading zero are those of their number
decimal_takes : (field : List ℕ) → is_decimal field ≡ true → number_from 0 field < 2 ^ 64 → field ≡ decimal (number_from 0 field)
decimal_takes [] h lt = absurd (cc)
decimal_takes (b ∷ bs) h lt =
    let parts = and_parts (list_all is_ascii_digit (b ∷ bs)) (not (b == 48) || is_nil bs) h in
    sym (decimal-digits_value own (b ∷ bs) parts.0 (omega arith)
    (λ e. ⊎_elim
    (λ (n : not (b == 48) ≡ true). absurd (eqb-false b 48 (not-true (b == 48) n) e))
    (λ (n : is_nil bs ≡ true). let none = nil_length bs n in omega arith)
    (or_cases (not (b == 48)) (is_nil bs) parts.1)) lt)

no_zero : (n : ℕ) (ds : List ℕ) → list_all is_ascii_digit ds ≡ true → 0 < length ds → (48 < get_or ds 0 0) → is_decimal ds ≡ true
no_zero n [] digits some first = absurd (omega arith)
no_zero n (b ∷ bs) digits some first =
    and_from (list_all is_ascii_digit (b ∷ bs)) (not (b == 48) || is_nil bs) digits (let other = ne_eqb b 48 (λ e. omega (arith, e, first)) in rw other refl)

is_decimal_again : (n : ℕ) → n < 2 ^ 64 → is_decimal (decimal n) ≡ true
is_decimal_again zero lt = rw (decimal_digit 0 (omega arith)) refl
is_decimal_again (suc n) lt = no_zero (suc n) (decimal (suc n)) (digits_decimal own (suc n) lt) (decimal_nonempty (suc n) lt) (first_decimal (suc n) (omega arith) lt)

-- ---- numbers

passing_takes : (test : ℕ → Bool) (m n : ℕ) → passing test m ≡ Ok n → (m ≡ n) × (test n ≡ true)
passing_takes test m n e = let g = guard_ok (test m) (Ok m) out_of_range n e in let same = ok_is {E = Kind} m n g.1 in (same, subst (λ (k : ℕ). test k ≡ true) same g.0)

pub number_takes : (field : List ℕ) (n : ℕ) → number_in field ≡ Ok n → (field ≡ decimal n) × (n < 2 ^ 32)
unfolding number_in
number_takes field n e =
    let g = guard_ok (is_decimal field) (passing (λ n. nat_lt n (2 ^ 32)) (number_from 0 field)) bad_number n e in
    let p = passing_takes (λ n. nat_lt n (2 ^ 32)) (number_from 0 field) n g.1 in
    let low = ltb-true n (2 ^ 32) p.1 in
    let same = p.0 in
    let lt : number_from 0 field < 2 ^ 64 = omega arith in
    (decimal_takes field g.0 lt ∙ ap decimal same, low)

pub number_again : (n : ℕ) → n < 2 ^ 32 → number_in (decimal n) ≡ Ok n
unfolding number_in
number_again n lt =
    let wide : n < 2 ^ 64 = omega arith in
    let value : number_from 0 (decimal n) ≡ n = digits_value-decimal own n wide in
    let low : nat_lt n (2 ^ 32) ≡ true = lt-ltb n (2 ^ 32) lt in
    rw (is_decimal_again n wide, value, low) refl

pub where_takes : (test : ℕ → Bool) (field : List ℕ) (n : ℕ) → number_where test field ≡ Ok n → (field ≡ decimal n) × (n < 2 ^ 32) × (test n ≡ true)
where_takes test field n e =
    let b = bind_ok (number_in field) (passing test) n e in
    let p = passing_takes test b.0 n b.2 in
    let t = number_takes field b.0 b.1 in
    let same = p.0 in
    let lt : n < 2 ^ 32 = subst (λ (k : ℕ). k < 2 ^ 32) same t.1 in
    (t.0 ∙ ap decimal same, lt, p.1)

pub where_again : (test : ℕ → Bool) (n : ℕ) → n < 2 ^ 32 → test n ≡ true → number_where test (decimal n) ≡ Ok n
where_again test n lt passes = rw (number_again n lt, passes) refl

pub below_takes : (limit : ℕ) (field : List ℕ) (n : ℕ) → number_below limit field ≡ Ok n → (field ≡ decimal n) × (n < limit)
unfolding number_below
below_takes limit field n e = let t = where_takes (λ n. nat_lt n limit) field n e in (t.0, ltb-true n limit t.2)

pub below_again : (limit n : ℕ) → limit ≤ 2 ^ 32 → n < limit → number_below limit (decimal n) ≡ Ok n
unfolding number_below
below_again limit n small lt = where_again (λ n. nat_lt n limit) n (omega arith) (lt-ltb n limit lt)

-- ---- entries

pub entry_takes : (states : ℕ) (field : List ℕ) (entry : Option ℕ) → entry_in states field ≡ Ok entry → (field ≡ entry_field entry) × IsEntry states entry
unfolding entry_in
entry_takes states field entry e = by_test (bytes_eq field (codes "-")) refl e
  where
    by_test : (b : Bool) → bytes_eq field (codes "-") ≡ b → cond b (Ok None) (number_below states field >>= λ state. Ok (Some state)) ≡ Ok entry → (field ≡ entry_field entry) × IsEntry states entry
    by_test true is h = subst (λ (x : Option ℕ). (field ≡ entry_field x) × IsEntry states x) (ok_is {E = Kind} None entry h) ((bytes_eq-Decides field (codes "-")).0 is, tt)
    by_test false is h =
        let b = bind_ok (number_below states field) (λ state. Ok (Some state)) entry h in
        subst (λ (x : Option ℕ). (field ≡ entry_field x) × IsEntry states x) (ok_is {E = Kind} (Some b.0) entry b.2) (below_takes states field b.0 b.1)

-- a number is no `-`
no_dash : (n : ℕ) → n < 2 ^ 64 → bytes_eq (decimal n) (codes "-") ≡ false
no_dash n lt = false_from_ne_true (bytes_eq (decimal n) (codes "-")) (λ h.
    let same : decimal n ≡ codes "-" = (bytes_eq-Decides (decimal n) (codes "-")).0 h in
    let digits : list_all is_ascii_digit (codes "-") ≡ true = subst (λ (ds : List ℕ). list_all is_ascii_digit ds ≡ true) same (digits_decimal own n lt) in
    let none : false ≡ true = digits in cc)

pub entry_again : (states : ℕ) (entry : Option ℕ) → states ≤ 2 ^ 32 → IsEntry states entry → entry_in states (entry_field entry) ≡ Ok entry
unfolding entry_in
entry_again states None small h = refl
entry_again states (Some state) small h = let wide : state < 2 ^ 64 = omega (arith, h) in rw (no_dash state wide, below_again states state small h) refl

-- an entry of an ask is the number of its row
pub ask_entry_takes : (number : ℕ) (field : List ℕ) (entry : Option ℕ) → ask_entry_in number field ≡ Ok entry → (field ≡ entry_field entry) × IsAskEntry number entry
unfolding ask_entry_in
ask_entry_takes number field entry e = by_test (bytes_eq field (codes "-")) refl e
  where
    by_test : (b : Bool) → bytes_eq field (codes "-") ≡ b → cond b (Ok None) (number_where (λ n. n == number) field >>= λ state. Ok (Some state)) ≡ Ok entry → (field ≡ entry_field entry) × IsAskEntry number entry
    by_test true is h = subst (λ (x : Option ℕ). (field ≡ entry_field x) × IsAskEntry number x) (ok_is {E = Kind} None entry h) ((bytes_eq-Decides field (codes "-")).0 is, tt)
    by_test false is h =
        let b = bind_ok (number_where (λ n. n == number) field) (λ state. Ok (Some state)) entry h in
        let t = where_takes (λ n. n == number) field b.0 b.1 in
        subst (λ (x : Option ℕ). (field ≡ entry_field x) × IsAskEntry number x) (ok_is {E = Kind} (Some b.0) entry b.2) (t.0, eqb-true b.0 number t.2)

pub ask_entry_again : (number : ℕ) (entry : Option ℕ) → number < 2 ^ 32 → IsAskEntry number entry → ask_entry_in number (entry_field entry) ≡ Ok entry
unfolding ask_entry_in
ask_entry_again number None small h = refl
ask_entry_again number (Some state) small h =
    let wide : state < 2 ^ 64 = omega (arith, h, small) in
    let same : (state == number) ≡ true = eq-eqb state number h in
    rw (no_dash state wide, where_again (λ n. n == number) state (omega (arith, h, small)) same) refl

-- the advance is a state
pub advance_takes : (states : ℕ) (field : List ℕ) (entry : Option ℕ) → advance_in states field ≡ Ok entry → (state : ℕ) × (entry ≡ Some state) × (field ≡ decimal state) × (state < states)
unfolding advance_in
advance_takes states field entry e =
    let b = bind_ok (number_below states field) (λ state. Ok (Some state)) entry e in
    let t = below_takes states field b.0 b.1 in
    (b.0, sym (ok_is {E = Kind} (Some b.0) entry b.2), t.0, t.1)

pub advance_again : (states state : ℕ) → states ≤ 2 ^ 32 → state < states → advance_in states (decimal state) ≡ Ok (Some state)
unfolding advance_in
advance_again states state small lt = rw (below_again states state small lt) refl

pub digits_of_decimal : (n : ℕ) → n < 2 ^ 64 → list_all is_ascii_digit (decimal n) ≡ true
digits_of_decimal n lt = digits_decimal own n lt
