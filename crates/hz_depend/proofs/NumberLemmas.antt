-- The numbers of bypasses in rows.
use Rattle.std.proofs.Common.{◌≡◌, ℕ, zero, suc, ◌<◌, Bool, true, false, cond, List, [], ◌∷◌, length, map, filter, get_or, Option, Some, None, All, Vec, Global, refl, sym, ap, ◌∙◌, subst, arith}
use Rattle.std.specs.Prelude.{not, slice_get, slice_index, slice_index_or}
use Rattle.std.specs.Option.{option_map}
use Rattle.std.proofs.Math.Path.{fun_ext}
use Rattle.std.proofs.lemmas.List.{length-map, get_or-map}
use Rattle.std.proofs.lemmas.Option.{slice_get-map, get_or_from_slice_get}
use Rattle.hz_checked.specs.declared.checked.CheckedBypass.{CheckedBypass}
use Rattle.hz_checked.specs.declared.checked.Checked.{Checked}
use Rattle.hz_checked.specs.declared.checked.CheckedClass.{CheckedClass}
use Rattle.hz_checked.specs.Shape.{bypass_of, class_of}
use Rattle.hz_depend.specs.GraphShape.{latencies_of}
use Rattle.hz_checked.specs.NumberRows.{rows_of, number_at}
use Rattle.hz_description_model.specs.Check.CheckedParts.{BypassParts}
use Rattle.hz_block_model.specs.Dependences.Classes.{bypass_between, number_between}
use Rattle.hz_block_model.specs.Running.Blocks.{Instruction}
use Rattle.hz_depend.specs.declared.finding.numbers.Numbers.{Numbers}
use Rattle.hz_depend.proofs.HeldNumbers.{number}
use Rattle.hz_depend.specs.Numbers.{served, numbers_in, HoldsNumbers}

-- the numbers that are held are those of the bypasses
pub numbers_are : (bypasses : List BypassParts) (n : Numbers) → HoldsNumbers bypasses n → numbers_in n ≡ number bypasses
unfolding numbers_in
numbers_are bypasses n h = fun_ext (λ f. fun_ext (λ s.
    ap (λ (o : Option ℕ). served o (number_at (rows_of n.plain.items) f.class s.class) f.latency f.instruction s.instruction) (h.guarded f.class s.class)
    ∙ ap (λ (o : Option ℕ). served (bypass_between (filter (λ b. b.guard) bypasses) f.class s.class) o f.latency f.instruction s.instruction) (h.plain f.class s.class)))

-- where there is no number with the guard, it isn't asked
pub none_served : (b : Bool) (o : Option ℕ) → cond b o o ≡ o
none_served true o = refl
none_served false o = refl

-- a row of a number
pub row_there : (rows : List (Vec (Option ℕ) Global)) (out : ℕ) (row : Vec (Option ℕ) Global) → slice_get rows out ≡ Some row → slice_index_or (rows_of rows) out [] ≡ row.items
row_there rows out row e = get_or_from_slice_get (rows_of rows) out row.items [] (slice_get-map (λ (r : Vec (Option ℕ) Global). r.items) rows out ∙ ap (option_map (λ (r : Vec (Option ℕ) Global). r.items)) e)

pub no_row : (rows : List (Vec (Option ℕ) Global)) (out : ℕ) → slice_get rows out ≡ None → slice_index_or (rows_of rows) out [] ≡ []
no_row [] out e = refl
no_row (r ∷ rows) zero e = absurd (cc)
no_row (r ∷ rows) (suc out) e = no_row rows out e

-- what is kept of all bypasses, said of those that the code holds
pub held_classes : (checked : Checked) (bypasses : List CheckedBypass) (m : ℕ) → bypasses ≡ checked.bypasses.items → m ≡ length checked.classes.items → All (λ b. All (λ c. c < m) b.outs.items × All (λ c. c < m) b.ins.items) bypasses
held_classes checked bypasses m are is = λ k d lt.
    let long : m ≡ length (map class_of checked.classes.items) = is ∙ sym (length-map checked.classes.items class_of) in
    let within : k < length checked.bypasses.items = omega (arith, ap length are) in
    let h = checked.kept.bypass_classes k (bypass_of d) (omega (arith, length-map checked.bypasses.items bypass_of)) in
    let at : get_or (map bypass_of checked.bypasses.items) k (bypass_of d) ≡ bypass_of (get_or bypasses k d) =
    get_or-map bypass_of checked.bypasses.items k d (bypass_of d) within ∙ ap (λ (bs : List CheckedBypass). bypass_of (get_or bs k d)) (sym are) in
    rw (at, ← long) at h

-- the latency of a class
pub latency_is : (checked : Checked) (class : ℕ) (c : CheckedClass) → class < length checked.classes.items → c ≡ get_or checked.classes.items class c → slice_index (latencies_of checked) class ≡ c.latency
latency_is checked class c lt is = get_or-map (λ (k : CheckedClass). k.latency) checked.classes.items class c 0 lt ∙ ap (λ (k : CheckedClass). k.latency) (sym is)

-- what is kept of the bypass at a place
pub bounded_at : (bypasses : List CheckedBypass) (k n : ℕ) (b : CheckedBypass) → All (λ b. All (λ c. c < n) b.outs.items × All (λ c. c < n) b.ins.items) bypasses → k < length bypasses → b ≡ get_or bypasses k b → All (λ c. c < n) b.outs.items × All (λ c. c < n) b.ins.items
bounded_at bypasses k n b all lt is = subst (λ (x : CheckedBypass). All (λ c. c < n) x.outs.items × All (λ c. c < n) x.ins.items) (sym is) (all k b lt)

-- the number of two instructions by those that the bypasses give their classes
pub ripe_by : (checked : Checked) (out into : ℕ) (c : CheckedClass) (first second : Instruction) (g p : Option ℕ) (n : ℕ) → out < length checked.classes.items → c ≡ get_or checked.classes.items out c
    → g ≡ bypass_between (filter (λ b. b.guard) (map bypass_of checked.bypasses.items)) out into → p ≡ bypass_between (filter (λ b. not b.guard) (map bypass_of checked.bypasses.items)) out into
    → n ≡ served g p c.latency first second → n ≡ number_between (map bypass_of checked.bypasses.items) (slice_index (latencies_of checked) out) out into first second
ripe_by checked out into c first second g p n lt is with_guard without e =
    let bypasses : List BypassParts = map bypass_of checked.bypasses.items in
    let guarded : Option ℕ = bypass_between (filter (λ b. b.guard) bypasses) out into in
    let plain : Option ℕ = bypass_between (filter (λ b. not b.guard) bypasses) out into in
    e
    ∙ (ap (λ (o : Option ℕ). served o p c.latency first second) with_guard
    ∙ (ap (λ (o : Option ℕ). served guarded o c.latency first second) without
    ∙ ap (λ (l : ℕ). served guarded plain l first second) (sym (latency_is checked out c lt is))))

-- the same by the numbers that are held
pub ripe_is : (checked : Checked) (numbers : Numbers) (out into : ℕ) (c : CheckedClass) (first second : Instruction) (g p : Option ℕ) (n : ℕ) → HoldsNumbers (map bypass_of checked.bypasses.items) numbers
    → out < length checked.classes.items → c ≡ get_or checked.classes.items out c → g ≡ number_at (rows_of numbers.guarded.items) out into → p ≡ number_at (rows_of numbers.plain.items) out into
    → n ≡ served g p c.latency first second → n ≡ number_between (map bypass_of checked.bypasses.items) (slice_index (latencies_of checked) out) out into first second
ripe_is checked numbers out into c first second g p n holds lt is with_guard without e =
    ripe_by checked out into c first second g p n lt is (with_guard ∙ holds.guarded out into) (without ∙ holds.plain out into) e
