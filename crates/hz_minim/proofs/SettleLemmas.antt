-- Leaders are settled by parting those that a state leads from those that it does not.
use Rattle.std.proofs.Common.{◌≡◌, ◌≢◌, inl, inr, ℕ, zero, suc, ◌+◌, ◌<◌, ◌≤◌, Bool, cond, eqb, List, [], ◌∷◌, ◌++◌, length, Option, Some, None, refl, sym, ap, ◌∙◌, subst, arith, ⊎_elim}
use Rattle.std.specs.Prelude.{is_some}
use Rattle.std.proofs.lemmas.Bool.{cases_lt, cases_eq, eq-eqb, ne_eqb}
use Rattle.std.proofs.lemmas.List.{length_push, get_or_append_left, get_or_push}
use Rattle.hz_pipeline_model.specs.Tables.Tables.{Table, entry, walk, IsTable}
use Rattle.hz_pipeline_model.specs.Tables.Apart.{Apart}
use Rattle.hz_minim.specs.Leading.{leader_of, led, led_entry, IsCoarse, Strays, GoesAlong, IsPartedTo, IsParted}
use Rattle.hz_minim.proofs.LedStates.{led_below}

-- ---- states that lead to different leaders

pub apart_turned : (table : Table) (one other : ℕ) → Apart table one other → Apart table other one
apart_turned table one other apart = record { word = apart.word; once = λ e. apart.once (sym e) }

-- a word that one entry is walked by, and not the other, tells their states apart
apart_next : (table : Table) (one other column : ℕ) (a b : Option ℕ) → entry table one column ≡ a → entry table other column ≡ b → (w : List ℕ) → is_some (walk table a w) ≢ is_some (walk table b w) → Apart table one other
apart_next table one other column a b is is' w once = record {
  word = column ∷ w;
  once = λ e. once (ap (λ (o : Option ℕ). is_some (walk table o w)) (sym is) ∙ e ∙ ap (λ (o : Option ℕ). is_some (walk table o w)) is');
}

apart_entries : (table : Table) (columns : ℕ) (leaders : List ℕ) → IsTable table columns → IsCoarse table leaders → (one other column : ℕ) (a b : Option ℕ) → entry table one column ≡ a → entry table other column ≡ b → led leaders a ≢ led leaders b → Apart table one other
apart_entries table columns leaders is coarse one other column None None e e' differ = absurd (differ refl)
apart_entries table columns leaders is coarse one other column None (Some s) e e' differ = apart_next table one other column None (Some s) e e' [] (λ h. cc)
apart_entries table columns leaders is coarse one other column (Some s) None e e' differ = apart_next table one other column (Some s) None e e' [] (λ h. cc)
apart_entries table columns leaders is coarse one other column (Some s) (Some r) e e' differ =
    let next = coarse.apart s r (is.targets one column s e) (is.targets other column r e') (λ h. differ (ap Some h)) in
    apart_next table one other column (Some s) (Some r) e e' next.word next.once

pub apart_led : (table : Table) (columns : ℕ) (leaders : List ℕ) → IsTable table columns → IsCoarse table leaders → (one other column : ℕ) → led_entry table leaders one column ≢ led_entry table leaders other column → Apart table one other
apart_led table columns leaders is coarse one other column differ = apart_entries table columns leaders is coarse one other column (entry table one column) (entry table other column) refl refl differ

-- ---- who follows

-- ---- a parting

pub parted_more : (table : Table) (leaders : List ℕ) (other column k : ℕ) (parted : List ℕ) (leader : ℕ) → IsParted table leaders other column k parted → IsPartedTo table leaders other column k leader → IsParted table leaders other column (k + 1) (parted ++ leader ∷ [])
parted_more table leaders other column k parted leader so here = record {
  each = omega (arith, length_push parted leader, so.each);
  at = λ state below. ⊎_elim
      (λ (less : state < k). subst (IsPartedTo table leaders other column state) (sym (get_or_append_left parted (leader ∷ []) 0 state (omega (arith, so.each)))) (so.at state less))
      (λ (last : k ≤ state).
      let same : k ≡ state = omega arith in
      subst (λ (s : ℕ). IsPartedTo table leaders other column s (leader_of (parted ++ leader ∷ []) s)) same
      (subst (IsPartedTo table leaders other column k) (sym (get_or_push parted leader 0 k so.each)) here))
      (cases_lt state k);
}

module _ (table : Table) (columns : ℕ) (leaders : List ℕ) (other column : ℕ) (parted : List ℕ) (is : IsTable table columns) (coarse : IsCoarse table leaders) (strays : Strays table columns leaders other column) (parts : IsParted table leaders other column (length table) parted) where
  -- no leader goes along
  stays : (leader : ℕ) → leader_of leaders leader ≡ leader → GoesAlong table leaders other column leader → ⊥
  stays leader leads along =
      let same : leader_of leaders other ≡ leader = sym along.0 ∙ leads in
      strays.otherwise (sym (ap (λ (s : ℕ). led_entry table leaders s column) same ∙ along.1))

  -- a leader stays one
  pub leads_on : (leader : ℕ) → leader < length table → leader_of leaders leader ≡ leader → leader_of parted leader ≡ leader
  leads_on leader low leads = ⊎_elim (λ along. absurd (stays leader leads along.0)) (λ not. not.1 ∙ leads) (parts.at leader low)

  -- the other one becomes one
  pub leads_now : leader_of parted other ≡ other
  leads_now = ⊎_elim (λ along. along.1) (λ not. absurd (not.0 (refl, refl))) (parts.at other strays.here)

  pub led_before : leader_of leaders other ≢ other
  led_before leads = stays other leads (refl, refl)

  -- one goes along, and the other does not
  divided : (one two : ℕ) → one < length table → two < length table → GoesAlong table leaders other column one → (GoesAlong table leaders other column two → ⊥) → Apart table one two
  divided one two low low' along not = ⊎_elim
      (λ (same : leader_of leaders one ≡ leader_of leaders two). apart_led table columns leaders is coarse one two column (λ e. not (sym same ∙ along.0, sym e ∙ along.1)))
      (λ differ. coarse.apart one two low low' differ)
      (cases_eq (leader_of leaders one) (leader_of leaders two))

  pub parted_coarse : IsCoarse table parted
  parted_coarse = record {
    each = parts.each;
    within = λ state low. ⊎_elim
        (λ along. subst (λ (s : ℕ). s < length table) (sym along.1) strays.here)
        (λ not. subst (λ (s : ℕ). s < length table) (sym not.1) (coarse.within state low))
        (parts.at state low);
    itself = λ state low. ⊎_elim
        (λ along. ap (leader_of parted) along.1 ∙ leads_now ∙ sym along.1)
        (λ not. ap (leader_of parted) not.1 ∙ leads_on (leader_of leaders state) (coarse.within state low) (coarse.itself state low) ∙ sym not.1)
        (parts.at state low);
    apart = λ one two low low' differ. by_parts one two low low' differ (parts.at one low) (parts.at two low');
  }
    where
      by_parts : (one two : ℕ) → one < length table → two < length table → leader_of parted one ≢ leader_of parted two → IsPartedTo table leaders other column one (leader_of parted one) → IsPartedTo table leaders other column two (leader_of parted two) → Apart table one two
      by_parts one two low low' differ (inl a) (inl b) = absurd (differ (a.1 ∙ sym b.1))
      by_parts one two low low' differ (inl a) (inr b) = divided one two low low' a.0 b.0
      by_parts one two low low' differ (inr a) (inl b) = apart_turned table two one (divided two one low' low b.0 a.0)
      by_parts one two low low' differ (inr a) (inr b) = coarse.apart one two low low' (λ e. differ (a.1 ∙ e ∙ sym b.1))

-- ---- how many are led

led_at : List ℕ → ℕ → ℕ
led_at leaders k = cond (eqb (leader_of leaders k) k) 0 1

led_itself : (leaders : List ℕ) (k : ℕ) → leader_of leaders k ≡ k → led_at leaders k ≡ 0
unfolding led_at
led_itself leaders k e = ap (λ (t : Bool). cond t 0 1) (eq-eqb (leader_of leaders k) k e)

led_else : (leaders : List ℕ) (k : ℕ) → leader_of leaders k ≢ k → led_at leaders k ≡ 1
unfolding led_at
led_else leaders k e = ap (λ (t : Bool). cond t 0 1) (ne_eqb (leader_of leaders k) k e)

led_most : (leaders : List ℕ) (k : ℕ) → led_at leaders k ≤ 1
led_most leaders k = ⊎_elim (λ e. omega (arith, led_itself leaders k e)) (λ e. omega (arith, led_else leaders k e)) (cases_eq (leader_of leaders k) k)

led_next : (leaders : List ℕ) (k : ℕ) → led_below leaders (suc k) ≡ led_at leaders k + led_below leaders k
unfolding led_at
led_next leaders k = refl

module _ (old new : List ℕ) where
  led_less : (k : ℕ) → (leader_of old k ≡ k → leader_of new k ≡ k) → led_at new k ≤ led_at old k
  led_less k keeps = ⊎_elim
      (λ e. omega (arith, led_itself new k (keeps e)))
      (λ e. omega (arith, led_else old k e, led_most new k))
      (cases_eq (leader_of old k) k)

  pub no_more_led : (k : ℕ) → ((leader : ℕ) → leader < k → leader_of old leader ≡ leader → leader_of new leader ≡ leader) → led_below new k ≤ led_below old k
  no_more_led zero keeps = omega arith
  no_more_led (suc k) keeps =
      let rest = no_more_led k (λ leader low leads. keeps leader (omega arith) leads) in
      let here = led_less k (λ leads. keeps k (omega arith) leads) in
      omega (arith, led_next new k, led_next old k)

  pub fewer_led : (k other : ℕ) → ((leader : ℕ) → leader < k → leader_of old leader ≡ leader → leader_of new leader ≡ leader) → other < k → leader_of old other ≢ other → leader_of new other ≡ other → led_below new k < led_below old k
  fewer_led zero other keeps low led leads = absurd (omega arith)
  fewer_led (suc k) other keeps low led leads = ⊎_elim
      (λ (less : other < k).
      let rest = fewer_led k other (λ leader below is. keeps leader (omega arith) is) less led leads in
      let here = led_less k (λ is. keeps k (omega arith) is) in
      omega (arith, led_next new k, led_next old k))
      (λ (last : k ≤ other).
      let same : other ≡ k = omega arith in
      let rest = no_more_led k (λ leader below is. keeps leader (omega arith) is) in
      let was : led_at old k ≡ 1 = subst (λ (s : ℕ). led_at old s ≡ 1) same (led_else old other led) in
      let now : led_at new k ≡ 0 = subst (λ (s : ℕ). led_at new s ≡ 0) same (led_itself new other leads) in
      omega (arith, led_next new k, led_next old k))
      (cases_lt other k)

-- the parting makes one leader more
pub parting_falls : (table : Table) (columns : ℕ) (leaders : List ℕ) (other column : ℕ) (parted : List ℕ) → IsTable table columns → IsCoarse table leaders → Strays table columns leaders other column → IsParted table leaders other column (length table) parted → led_below parted (length parted) < led_below leaders (length leaders)
parting_falls table columns leaders other column parted is coarse strays parts =
    rw (parts.each, coarse.each)
    (fewer_led leaders parted (length table) other (λ leader low leads. leads_on table columns leaders other column parted is coarse strays parts leader low leads) strays.here
    (led_before table columns leaders other column parted is coarse strays parts)
    (leads_now table columns leaders other column parted is coarse strays parts))
