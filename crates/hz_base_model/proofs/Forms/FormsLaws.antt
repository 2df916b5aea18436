-- One text has one list of forms or one fault.
use Rattle.std.proofs.Common.{◌≡◌, ℕ, List, [], ◌∷◌, ◌++◌, refl, sym, ap, ◌∙◌, subst, Option, Some, None, append_assoc}
use Rattle.std.specs.Option.{option_and_then}
use Rattle.hz_base_model.specs.Forms.Trees.{Tree, Trees, list, vector, atom, quoted, number, none, more}
use Rattle.hz_base_model.specs.Forms.Forms.{Bracket, round, square, OpenBracket, Token, closes, spelled_tree, spelled, open_after, open_after_all, Reading, Reads, FormFault, FaultAt}
use Rattle.hz_base_model.proofs.Forms.FormsNext.{stops, next, step_next, fault_next}

open_after_both : (o : Option (List OpenBracket)) (front back : List Token)
    → ((now : List OpenBracket) → open_after_all now (front ++ back) ≡ option_and_then (λ n. open_after_all n back) (open_after_all now front))
    → option_and_then (λ now. open_after_all now (front ++ back)) o ≡ option_and_then (λ n. open_after_all n back) (option_and_then (λ now. open_after_all now front) o)
open_after_both None front back each = refl
open_after_both (Some now) front back each = each now

pub open_after_all-append : (opened : List OpenBracket) (front back : List Token) → open_after_all opened (front ++ back) ≡ option_and_then (λ now. open_after_all now back) (open_after_all opened front)
open_after_all-append opened [] back = refl
open_after_all-append opened (token ∷ front) back = open_after_both (open_after opened token) front back (λ now. open_after_all-append now front back)

-- tokens that may stand one after another
pub record Opened (opened : List OpenBracket) (front : List Token) (back : List Token) (last : List OpenBracket) : Type 0 where
  pub now : List OpenBracket
  pub first : open_after_all opened front ≡ Some now
  pub second : open_after_all now back ≡ Some last

pub opened_parts : (opened : List OpenBracket) (front back : List Token) (last : List OpenBracket) → open_after_all opened (front ++ back) ≡ Some last → Opened opened front back last
opened_parts opened front back last e = go (open_after_all opened front) refl (sym (open_after_all-append opened front back) ∙ e)
  where
    go : (o : Option (List OpenBracket)) → open_after_all opened front ≡ o → option_and_then (λ now. open_after_all now back) o ≡ Some last → Opened opened front back last
    go None f h = absurd (cc)
    go (Some now) f h = record { now = now; first = f; second = h }

-- From one place there is one ending: what comes next tells each step, and where they stop.
pub one_ending : (opened : List OpenBracket) (line : ℕ) (text : List ℕ) {last last' : ℕ} {rest rest' : List ℕ} {tokens tokens' : List Token} (after after' : List OpenBracket) (fault fault' : Option (FormFault × ℕ))
    → Reading line text tokens last rest → open_after_all opened tokens ≡ Some after → next after last rest ≡ stops fault
    → Reading line text tokens' last' rest' → open_after_all opened tokens' ≡ Some after' → next after' last' rest' ≡ stops fault'
    → (tokens ≡ tokens') × (fault ≡ fault')
one_ending opened line text after after' fault fault' Reading.stops e h Reading.stops e' h' = let same : after ≡ after' = cc in (refl, cc)
one_ending opened line text after after' fault fault' Reading.stops e h (Reading.steps {tokens = tokens} {others} step reading) e' h' =
    let parts = opened_parts opened tokens others after' e' in
    let same : opened ≡ after = cc in
    let on = step_next opened parts.now step parts.first in absurd (cc)
one_ending opened line text after after' fault fault' (Reading.steps {tokens = tokens} {others} step reading) e h Reading.stops e' h' =
    let parts = opened_parts opened tokens others after e in
    let same : opened ≡ after' = cc in
    let on = step_next opened parts.now step parts.first in absurd (cc)
one_ending opened line text {last' = last'} {rest' = rest'} after after' fault fault' (Reading.steps {now = now} {left = left} {tokens = tokens} {others} step reading) e h (Reading.steps {now = now'} {left = left'} {tokens = tokens'} {others = others'} step' reading') e' h' =
    let parts = opened_parts opened tokens others after e in
    let parts' = opened_parts opened tokens' others' after' e' in
    let on = step_next opened parts.now step parts.first in
    let on' = step_next opened parts'.now step' parts'.first in
    let open_same : parts'.now ≡ parts.now = cc in
    let line_same : now' ≡ now = cc in
    let left_same : left' ≡ left = cc in
    let tokens_same : tokens ≡ tokens' = cc in
    let P : ℕ → List ℕ → Type 0 = λ n t. Reading n t others' last' rest' in
    let moved = subst (λ t. P now t) left_same (subst (λ n. P n left') line_same reading') in
    let ih = one_ending parts.now now left after after' fault fault' reading parts.second h moved (rw (← open_same) parts'.second) h' in
    (cc, ih.1)

-- what may follow forms: nothing, or a closing bracket
pub data Follows : List Token → Type 0 where
  nothing : Follows []
  bracket : {b : Bracket} {rest : List Token} → Follows (closes b ∷ rest)

not_follows : (t : Tree) (rest others : List Token) → others ≡ spelled_tree t ++ rest → Follows others → ⊥
not_follows (list line forms) rest others e Follows.nothing = cc
not_follows (list line forms) rest others e Follows.bracket = cc
not_follows (vector line forms) rest others e Follows.nothing = cc
not_follows (vector line forms) rest others e Follows.bracket = cc
not_follows (atom line bytes) rest others e Follows.nothing = cc
not_follows (atom line bytes) rest others e Follows.bracket = cc
not_follows (quoted line bytes) rest others e Follows.nothing = cc
not_follows (quoted line bytes) rest others e Follows.bracket = cc
not_follows (number line value) rest others e Follows.nothing = cc
not_follows (number line value) rest others e Follows.bracket = cc

-- what comes after the closing bracket
beyond : (xs ys end x y : List Token) → (xs ++ end) ++ x ≡ (ys ++ end) ++ y → xs ++ (end ++ x) ≡ ys ++ (end ++ y)
beyond xs ys end x y e = sym (append_assoc xs end x) ∙ e ∙ append_assoc ys end y

-- tokens spell one tree, and one list of trees
mutual
  one_tree : (a b : Tree) (x y : List Token) → spelled_tree a ++ x ≡ spelled_tree b ++ y → (a ≡ b) × (x ≡ y)
  one_tree (list line forms) (list line' forms') x y e =
      let ih = one_list forms forms' (closes round ∷ x) (closes round ∷ y) Follows.bracket Follows.bracket (beyond (spelled forms) (spelled forms') (closes round ∷ []) x y (cc)) in (cc, cc)
  one_tree (vector line forms) (vector line' forms') x y e =
      let ih = one_list forms forms' (closes square ∷ x) (closes square ∷ y) Follows.bracket Follows.bracket (beyond (spelled forms) (spelled forms') (closes square ∷ []) x y (cc)) in (cc, cc)
  one_tree (atom line bytes) (atom line' bytes') x y e = (cc, cc)
  one_tree (quoted line bytes) (quoted line' bytes') x y e = (cc, cc)
  one_tree (number line value) (number line' value') x y e = (cc, cc)
  one_tree _ _ x y e = absurd (cc)

  one_list : (a b : Trees) (x y : List Token) → Follows x → Follows y → spelled a ++ x ≡ spelled b ++ y → (a ≡ b) × (x ≡ y)
  one_list none none x y fx fy e = (refl, e)
  one_list none (more first others) x y fx fy e = absurd (not_follows first (spelled others ++ y) x (e ∙ append_assoc (spelled_tree first) (spelled others) y) fx)
  one_list (more first others) none x y fx fy e = absurd (not_follows first (spelled others ++ x) y (sym e ∙ append_assoc (spelled_tree first) (spelled others) x) fy)
  one_list (more first others) (more first' others') x y fx fy e =
      let one = one_tree first first' (spelled others ++ x) (spelled others' ++ y) (sym (append_assoc (spelled_tree first) (spelled others) x) ∙ e ∙ append_assoc (spelled_tree first') (spelled others') y) in
      let two = one_list others others' x y fx fy one.1 in (cc, two.1)

-- One text has one list of forms.
pub one_reading : (text : List ℕ) (a b : Trees) → Reads text a → Reads text b → a ≡ b
one_reading text a b r s = let same = one_ending [] 1 text [] [] None None r.reading r.nests refl s.reading s.nests refl in
    (one_list a b [] [] Follows.nothing Follows.nothing (ap (λ ts. ts ++ []) same.0)).0

-- One text has one fault, at one line.
pub one_fault : (text : List ℕ) (f g : FormFault) (m n : ℕ) → FaultAt text f m → FaultAt text g n → (f ≡ g) × (m ≡ n)
one_fault text f g m n p q = let same = one_ending [] 1 text p.opened q.opened (Some (f, m)) (Some (g, n)) p.reading p.nests (fault_next p.wrong) q.reading q.nests (fault_next q.wrong) in
    let pairs : (f, m) ≡ (g, n) = cc in (ap (λ (x : FormFault × ℕ). x.0) pairs, ap (λ (x : FormFault × ℕ). x.1) pairs)

-- No text has both.
pub forms_or_fault : (text : List ℕ) (forms : Trees) (fault : FormFault) (place : ℕ) → Reads text forms → FaultAt text fault place → ⊥
forms_or_fault text forms fault place r p = let same = one_ending [] 1 text [] p.opened None (Some (fault, place)) r.reading r.nests refl p.reading p.nests (fault_next p.wrong) in
    absurd (let clash = same.1 in cc)
