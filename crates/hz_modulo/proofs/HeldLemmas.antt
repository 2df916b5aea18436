-- States that are kept.
use Rattle.std.proofs.Common.{◌≡◌, ℕ, zero, suc, ◌+◌, ◌-◌, ◌<◌, ◌≤◌, Bool, true, false, cond, List, [], ◌∷◌, ◌++◌, length, get_or, Option, Some, None, ⊎_elim, refl, sym, ap, ◌∙◌, subst, arith, rules}
use Rattle.std.specs.Prelude.{IsTrue, ◌↔◌, nat_lt, IfNone}
use Rattle.std.specs.Global.{Vec}
use Rattle.std.proofs.lemmas.Bool.{cases_lt, lt-ltb, le-ltb}
use Rattle.std.proofs.lemmas.List.{length-append}
use Rattle.hz_modulo.specs.Repeating.{lists_in, states_at}
use Rattle.hz_modulo.proofs.KeptStates.{AreKept}

pub held_at : (held : List (Vec ℕ)) (i : ℕ) (x : Vec ℕ) → i < length held → x ≡ get_or held i x → states_at (lists_in held) i ≡ x.items
held_at [] i x lt is = absurd (omega arith)
held_at (v ∷ held) zero x lt is = ap (λ (w : Vec ℕ). w.items) (sym is)
held_at (v ∷ held) (suc i) x lt is = held_at held i x (omega arith) is

pub not_same : (b : Bool) (A : Type 0) → IsTrue b ↔ A → b ≡ false → A → ⊥
not_same true A h e a = absurd (cc)
not_same false A h e a = let t : IsTrue false = h.1 a in search (rules, t)

-- none up to a place
pub none_yet : (lists : List (List ℕ)) (states : List ℕ) (place : ℕ) → ((i : ℕ) → i < place → states_at lists i ≡ states → ⊥) → (states_at lists place ≡ states → ⊥) → (i : ℕ) → i < place + 1 → states_at lists i ≡ states → ⊥
none_yet lists states place before here i lt e = ⊎_elim
    (λ (less : i < place). before i less e)
    (λ (le : place ≤ i). here (ap (states_at lists) (let is : place ≡ i = omega arith in is) ∙ e))
    (cases_lt i place)

pub if_none : {T : Type 0} (o : Option T) (P : Type 0) → o ≡ None → IfNone o P → P
if_none None P e h = h
if_none (Some x) P e h = absurd (cc)

same_states : (one other : List ℕ) → Some one ≡ Some other → one ≡ other
same_states one other e = cc

-- ---- the lists that are kept

at_append : (lists : List (List ℕ)) (more : List ℕ) (i : ℕ) → i < length lists → states_at (lists ++ more ∷ []) i ≡ states_at lists i
at_append [] more i lt = absurd (omega arith)
at_append (l ∷ lists) more zero lt = refl
at_append (l ∷ lists) more (suc i) lt = at_append lists more i (omega arith)

at_end : (lists : List (List ℕ)) (more : List ℕ) → states_at (lists ++ more ∷ []) (length lists) ≡ more
at_end [] more = refl
at_end (l ∷ lists) more = at_end lists more

module _ (edge : ℕ → Option (List ℕ)) (stages turn : ℕ) (states : List ℕ) (here : edge turn ≡ Some states) where
  -- what was not kept is new
  pub is_new : (lists : List (List ℕ)) → AreKept edge stages turn lists → ((i : ℕ) → i < length lists → states_at lists i ≡ states → ⊥) → (a : ℕ) → stages ≤ a → a < turn → edge a ≡ edge turn → ⊥
  is_new lists kept none a low lt e =
      let many = kept.many in
      let inside : a - stages < length lists = omega (arith, many, low, lt) in
      let place : stages + (a - stages) ≡ a = omega (arith, low) in
      none (a - stages) inside (same_states (states_at lists (a - stages)) states (sym (kept.each (a - stages) inside) ∙ (ap edge place ∙ (e ∙ here))))

  -- the next turn, where these states are kept too
  pub kept_more : (lists others : List (List ℕ)) → AreKept edge stages turn lists → others ≡ cond (nat_lt turn stages) lists (lists ++ states ∷ []) → AreKept edge stages (turn + 1) others
  kept_more lists others kept is = ⊎_elim
      (λ (early : turn < stages).
      subst (AreKept edge stages (turn + 1)) (sym (is ∙ ap (λ (b : Bool). cond b lists (lists ++ states ∷ [])) (lt-ltb turn stages early)))
      (record { many = let many = kept.many in omega (arith, many, early); each = kept.each }))
      (λ (le : stages ≤ turn).
      subst (AreKept edge stages (turn + 1)) (sym (is ∙ ap (λ (b : Bool). cond b lists (lists ++ states ∷ [])) (le-ltb turn stages le)))
      (with_more le))
      (cases_lt turn stages)
    where
      with_more : stages ≤ turn → AreKept edge stages (turn + 1) (lists ++ states ∷ [])
      with_more le = record {
        many = let many = kept.many in let long = length-append lists (states ∷ []) in omega (arith, many, long, le);
        each = λ i lt. ⊎_elim
            (λ (low : i < length lists). kept.each i low ∙ ap (λ (xs : List ℕ). let o : Option (List ℕ) = Some xs in o) (sym (at_append lists states i low)))
            (λ (ge : length lists ≤ i).
            let long = length-append lists (states ∷ []) in
            let many = kept.many in
            let last : length lists ≡ i = omega (arith, lt, ge, long) in
            let place : stages + i ≡ turn = omega (arith, many, last, le) in
            ap edge place ∙ (here ∙ ap (λ (xs : List ℕ). let o : Option (List ℕ) = Some xs in o) (sym (ap (states_at (lists ++ states ∷ [])) (sym last) ∙ at_end lists states))))
            (cases_lt i (length lists));
      }
