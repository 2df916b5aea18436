-- What is known while the starts of turns are walked in a row, and what ends the search.
use Rattle.std.proofs.Common.{◌≡◌, ℕ, zero, suc, ◌+◌, ◌-◌, ◌<◌, ◌≤◌, true, List, Option, Some, None, ⊎_elim, sym, ap, ◌∙◌, subst, arith}
use Rattle.std.specs.Prelude.{is_some}
use Rattle.std.proofs.lemmas.Bool.{cases_lt}
use Rattle.hz_measure_model.specs.Kernels.Repeats.{repeat_limit}
use Rattle.hz_modulo.specs.Repeating.{RepeatsAt}

module _ (at drain : ℕ → Option (List ℕ)) (stages : ℕ) where
  -- The start of a turn is walked, all fewer turns are drained, and no two starts before it are the same.
  pub record IsScanned (turn : ℕ) : Type 0 where
    pub here : is_some (at turn) ≡ true
    pub fewer : (count : ℕ) → count < turn → is_some (drain count) ≡ true
    pub apart : (a b : ℕ) → stages ≤ a → a < b → b < turn → at a ≡ at b → ⊥

  -- no start before this one is the same
  abbrev pub IsNew : ℕ → Type 0
  IsNew turn = (a : ℕ) → stages ≤ a → a < turn → at a ≡ at turn → ⊥

  pub scan_start : is_some (at 0) ≡ true → IsScanned 0
  scan_start here = record { here = here; fewer = λ count lt. absurd (omega arith); apart = λ a b low lt high e. omega arith }

  up_to : (turn : ℕ) → IsScanned turn → is_some (drain turn) ≡ true → (count : ℕ) → count ≤ turn → is_some (drain count) ≡ true
  up_to turn scan here count le = ⊎_elim
      (λ (lt : count < turn). scan.fewer count lt)
      (λ (ge : turn ≤ count). subst (λ (n : ℕ). is_some (drain n) ≡ true) (let is : turn ≡ count = omega arith in is) here)
      (cases_lt count turn)

  -- the start is the same as an earlier one: the two are the pair
  pub scan_found : (turn first : ℕ) → IsScanned turn → is_some (drain turn) ≡ true → turn ≤ stages + repeat_limit → stages ≤ first → first < turn → at first ≡ at turn → RepeatsAt at drain stages first turn
  scan_found turn first scan here soon settled before same = record {
    settled = settled;
    before = before;
    soon = soon;
    walked = ap is_some same ∙ scan.here;
    same = same;
    different = λ a b low lt high e. scan.apart a b low lt high e;
    each = up_to turn scan here;
  }

  -- it is new, and the next start is walked
  pub scan_next : (turn : ℕ) → IsScanned turn → is_some (drain turn) ≡ true → IsNew turn → is_some (at (suc turn)) ≡ true → IsScanned (suc turn)
  scan_next turn scan here new next = record {
    here = next;
    fewer = λ count lt. up_to turn scan here count (omega arith);
    apart = λ a b low lt high e. ⊎_elim
        (λ (less : b < turn). scan.apart a b low lt less e)
        (λ (ge : turn ≤ b). let is : b ≡ turn = omega arith in new a low (omega arith) (e ∙ ap at is))
        (cases_lt b turn);
  }

  later_pair : (turn : ℕ) → IsScanned turn → (first second : ℕ) → RepeatsAt at drain stages first second → turn ≤ second
  later_pair turn scan first second r = ⊎_elim (λ (lt : second < turn). absurd (scan.apart first second r.settled r.before lt r.same)) (λ (le : turn ≤ second). le) (cases_lt second turn)

  -- so many turns are not drained: nothing repeats
  pub scan_undrained : (turn : ℕ) → IsScanned turn → drain turn ≡ None → (first second : ℕ) → RepeatsAt at drain stages first second → ⊥
  scan_undrained turn scan none first second r = let some = r.each turn (later_pair turn scan first second r) in cc

  -- a start past the limit
  pub scan_ends : (turn : ℕ) → IsScanned turn → stages + repeat_limit < turn → (first second : ℕ) → RepeatsAt at drain stages first second → ⊥
  scan_ends turn scan past first second r = let le = later_pair turn scan first second r in let soon = r.soon in omega arith

  -- no start is walked after one that is not
  module _ (dead : (turn : ℕ) → at turn ≡ None → at (suc turn) ≡ None) where
    dead_later : (turn more : ℕ) → at turn ≡ None → at (turn + more) ≡ None
    dead_later turn zero e = ap at (let same : turn + 0 ≡ turn = omega arith in same) ∙ e
    dead_later turn (suc more) e = ap at (let same : turn + suc more ≡ suc (turn + more) = omega arith in same) ∙ dead (turn + more) (dead_later turn more e)

    -- the start is new, and the next one is not walked: nothing repeats
    pub scan_stops : (turn : ℕ) → IsScanned turn → IsNew turn → at (suc turn) ≡ None → (first second : ℕ) → RepeatsAt at drain stages first second → ⊥
    scan_stops turn scan new stopped first second r = ⊎_elim
        (λ (lt : turn < second).
        let gone : at (suc turn + (second - suc turn)) ≡ None = dead_later (suc turn) (second - suc turn) stopped in
        let is : suc turn + (second - suc turn) ≡ second = omega arith in
        let walked : is_some (at second) ≡ true = ap is_some (sym r.same) ∙ r.walked in
        none_walked (at second) (sym (ap at is) ∙ gone) walked)
        (λ (ge : second ≤ turn).
        let le = later_pair turn scan first second r in
        let is : second ≡ turn = omega arith in
        new first r.settled (let lt = r.before in omega arith) (r.same ∙ ap at is))
        (cases_lt turn second)
      where
        none_walked : (o : Option (List ℕ)) → o ≡ None → is_some o ≡ true → ⊥
        none_walked None e h = cc
        none_walked (Some states) e h = cc
