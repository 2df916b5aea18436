-- Lists an item more, and runs a number more.
use Rattle.std.proofs.Common.{◌≡◌, ℕ, suc, ◌+◌, ◌-◌, ◌<◌, Bool, true, false, cond, List, [], ◌∷◌, ◌++◌, map, drop, length, get_or, append_assoc, refl, sym, ap, ◌∙◌, arith}
use Rattle.std.specs.Prelude.{◌==◌, nat_le, codes, if◌then◌else◌}
use Rattle.std.proofs.lemmas.Bool.{cond-true, ne_eqb}
use Rattle.std.proofs.lemmas.List.{drop_more, map_push, nil_from_length}
use Rattle.hz_why_model.specs.Lists.{kept_for, listed, Run, before_runs, runs}
use Rattle.hz_explain.specs.Listing.{run_of, and_number}
use Rattle.hz_explain.specs.declared.lists.Run as code

-- ---- lists

pub kept_more : (texts : List (List ℕ)) (n : ℕ) → n < length texts → 3 ≡ kept_for (drop n texts)
kept_more texts n lt = sym (ap kept_for (drop_more texts n [] lt))

module _ (texts : List (List ℕ)) (place left kept : ℕ) (before between start item : List ℕ) (lt : place < length texts)
    (first : start ≡ (if place == 0 then before else between)) (here : item ≡ get_or texts place []) (keep : kept ≡ kept_for (drop (place + 1) texts)) where
  -- what is listed from the place on
  at_place : listed left (if place == 0 then before else between) between (drop place texts) ≡ (if nat_le (length start + length item + kept) left then start ++ (item ++ listed (left - (length start + length item)) between between (drop (place + 1) texts)) else codes " ..")
  at_place =
      ap (λ (s : List ℕ). listed left s between (drop place texts)) (sym first)
      ∙ (ap (listed left start between) (drop_more texts place [] lt)
      ∙ (ap (λ (i : List ℕ). listed left start between (i ∷ drop (place + 1) texts)) (sym here)
      ∙ ap (λ (k : ℕ). if nat_le (length start + length item + k) left then start ++ (item ++ listed (left - (length start + length item)) between between (drop (place + 1) texts)) else codes " ..") (sym keep)))

  module _ (old text all : List ℕ) (come : old ++ listed left (if place == 0 then before else between) between (drop place texts) ≡ all) where
    pub listed_next : nat_le (length start + length item + kept) left ≡ true → text ≡ old ++ (start ++ item)
        → text ++ listed (left - (length start + length item)) (if place + 1 == 0 then before else between) between (drop (place + 1) texts) ≡ all
    listed_next fits more =
        let others : List ℕ = listed (left - (length start + length item)) between between (drop (place + 1) texts) in
        let not_first : (place + 1 == 0) ≡ false = ne_eqb (place + 1) 0 (λ e. omega arith) in
        ap (λ (b : Bool). text ++ listed (left - (length start + length item)) (cond b before between) between (drop (place + 1) texts)) not_first
        ∙ (ap (λ (t : List ℕ). t ++ others) more
        ∙ (append_assoc old (start ++ item) others
        ∙ (ap (λ (t : List ℕ). old ++ t) (append_assoc start item others ∙ sym (at_place ∙ cond-true _ (start ++ (item ++ others)) (codes " ..") fits)) ∙ come)))

-- ---- runs

through : {A B : Type 0} (f : A → B) (b : Bool) (x y : A) → f (cond b x y) ≡ cond b (f x) (f y)
through f true x y = refl
through f false x y = refl

exchanged : {A : Type 0} (a b : Bool) (x y z w : A) → cond b (cond a x y) (cond a z w) ≡ cond a (cond b x z) (cond b y w)
exchanged true true x y z w = refl
exchanged true false x y z w = refl
exchanged false true x y z w = refl
exchanged false false x y z w = refl

before_and : (m n : ℕ) (rs : List Run) → before_runs m (and_number rs n) ≡ and_number (before_runs m rs) n
before_and m n [] = refl
before_and m n (r ∷ []) =
    let a : Bool = suc m == r.first in
    let b : Bool = suc r.last == n in
    let one : Run = record { first = n; last = n } in
    let lone : Run = record { first = m; last = m } in
    let joined : List Run = record { first = m; last = n } ∷ [] in
    let more : List Run = record { first = r.first; last = n } ∷ [] in
    through (before_runs m) b more (r ∷ one ∷ [])
    ∙ (exchanged a b joined (lone ∷ more) (record { first = m; last = r.last } ∷ one ∷ []) (lone ∷ r ∷ one ∷ [])
    ∙ (ap (λ (l : List Run). cond a (cond b joined (record { first = m; last = r.last } ∷ one ∷ [])) l) (sym (through (λ (l : List Run). lone ∷ l) b more (r ∷ one ∷ [])))
    ∙ sym (through (λ (l : List Run). and_number l n) a (record { first = m; last = r.last } ∷ []) (lone ∷ r ∷ []))))
before_and m n (r ∷ q ∷ rs) = sym (through (λ (l : List Run). and_number l n) (suc m == r.first) (record { first = m; last = r.last } ∷ q ∷ rs) (record { first = m; last = m } ∷ r ∷ q ∷ rs))

-- the runs of numbers and one more
pub runs_more : (ns : List ℕ) (n : ℕ) → runs (ns ++ n ∷ []) ≡ and_number (runs ns) n
runs_more [] n = refl
runs_more (m ∷ ns) n = ap (before_runs m) (runs_more ns n) ∙ before_and m n (runs ns)

and_after : (rs : List Run) (r : Run) (n : ℕ) → and_number (rs ++ r ∷ []) n ≡ rs ++ and_number (r ∷ []) n
and_after [] r n = refl
and_after (q ∷ []) r n = refl
and_after (q ∷ p ∷ rs) r n = ap (λ (l : List Run). q ∷ l) (and_after (p ∷ rs) r n)

-- a number after the last of runs, and after none
pub after_last : (old left : List code.Run) (run : code.Run) (n : ℕ) → old ≡ left ++ run ∷ [] → map run_of left ++ and_number (run_of run ∷ []) n ≡ and_number (map run_of old) n
after_last old left run n same =
    sym (ap (λ (rs : List Run). and_number rs n) (ap (map run_of) same ∙ map_push run_of left run) ∙ and_after (map run_of left) (run_of run) n)

pub after_none : (old left : List code.Run) (n : ℕ) → length old ≡ 0 → length left ≡ 0 → map run_of left ++ record { first = n; last = n } ∷ [] ≡ and_number (map run_of old) n
after_none old left n none empty =
    ap (λ (rs : List code.Run). map run_of rs ++ record { first = n; last = n } ∷ []) (nil_from_length left empty)
    ∙ sym (ap (λ (rs : List code.Run). and_number (map run_of rs) n) (nil_from_length old none))
