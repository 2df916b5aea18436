-- The tests of a pair over what is held are those of the definitions.
use Rattle.std.proofs.Common.{◌≡◌, ℕ, ◌+◌, ◌-◌, ◌<◌, Bool, ◌||◌, ◌&&◌, not, cond, List, [], ◌∷◌, map, Some, refl, sym, ap, ◌∙◌}
use Rattle.std.specs.Prelude.{slice_get, nat_lt, max}
use Rattle.std.specs.List.{list_any}
use Rattle.std.proofs.lemmas.Bool.{lt-ltb}
use Rattle.std.proofs.lemmas.Option.{slice_get-map}
use Rattle.hz_rtl.specs.declared.block.Insn.{Insn}
use Rattle.hz_rtl.specs.Shape.{instruction}
use Rattle.hz_block_model.specs.Running.Blocks.{Value}
use Rattle.hz_checked.specs.declared.checked.Checked.{Checked}
use Rattle.hz_block_model.specs.Dependences.Accesses.{Access, access_of, is_among, based_of}
use Rattle.hz_block_model.specs.Dependences.Dependences as model
use Rattle.hz_block_model.specs.Dependences.Dependences.{apart_by, may_meet, is_written, at_places, depends, Timing}
use Rattle.hz_depend.specs.Held.{node_for, meet, last_of, is_true, is_anti, is_output}
use Rattle.hz_depend.proofs.LastLemmas.{nodes_in, block_in, last_tells}

meets_same : (since : ℕ → Bool) (v : Value) (ws : List Value) → list_any (λ w. not (apart_by since (based_of v) w)) (map based_of ws) ≡ list_any (λ w. not (apart_by since (based_of v) (based_of w))) ws
meets_same since v [] = refl
meets_same since v (w ∷ ws) = ap (λ (b : Bool). not (apart_by since (based_of v) (based_of w)) || b) (meets_same since v ws)

meet_same : (since : ℕ → Bool) (vs ws : List Value) → meet since (map based_of vs) (map based_of ws) ≡ may_meet since vs ws
meet_same since [] ws = refl
meet_same since (v ∷ vs) ws =
    ap (λ (b : Bool). b || meet since (map based_of vs) (map based_of ws)) (meets_same since v ws)
    ∙ ap (λ (b : Bool). list_any (λ w. not (apart_by since (based_of v) (based_of w))) ws || b) (meet_same since vs ws)

module _ (checked : Checked) (insns : List Insn) (i j : ℕ) (x y : Insn) where
  abbrev between : ℕ → Bool
  between = is_written (block_in checked insns) (i + 1) j

  abbrev since : ℕ → Bool
  since = is_written (block_in checked insns) i j

  abbrev first : Access
  first = access_of (instruction x)

  abbrev second : Access
  second = access_of (instruction y)

  abbrev last : ℕ → ℕ
  last = last_of (nodes_in checked insns) j

  -- the tables tell what is written
  abbrev lately : ℕ → Bool
  lately = λ r. nat_lt i (last r)

  since_same : lately ≡ since
  since_same = sym (last_tells checked insns i j)

  pub true_same : is_true last i (node_for checked x) (node_for checked y) ≡ model.is_true between since first second
  true_same =
      ap (λ (b : Bool). list_any (λ r. is_among first.registers_written r && not (nat_lt (i + 1) (last r))) second.registers_read || b) (meet_same lately first.addresses_written second.addresses_read)
      ∙ (ap (λ (u : ℕ → Bool). model.is_true u lately first second) (sym (last_tells checked insns (i + 1) j)) ∙ ap (λ (u : ℕ → Bool). model.is_true between u first second) since_same)

  pub anti_same : is_anti last i (node_for checked x) (node_for checked y) ≡ model.is_anti between since first second
  anti_same =
      ap (λ (b : Bool). list_any (is_among second.registers_written) first.registers_read || b) (meet_same lately first.addresses_read second.addresses_written)
      ∙ ap (λ (u : ℕ → Bool). model.is_anti between u first second) since_same

  pub output_same : is_output last i (node_for checked x) (node_for checked y) ≡ model.is_output between since first second
  output_same =
      ap (λ (b : Bool). list_any (is_among second.registers_written) first.registers_written || b) (meet_same lately first.addresses_written second.addresses_written)
      ∙ ap (λ (u : ℕ → Bool). model.is_output between u first second) since_same

  module _ (at_i : slice_get insns i ≡ Some x) (at_j : slice_get insns j ≡ Some y) where
    there : (k : ℕ) (z : Insn) → slice_get insns k ≡ Some z → slice_get (block_in checked insns) k ≡ Some (instruction z)
    there k z e = rw (slice_get-map instruction insns k, e) refl

    test_same : (test : (between since : ℕ → Bool) (f g : Access) → Bool) → at_places test (block_in checked insns) i j (slice_get (block_in checked insns) i) (slice_get (block_in checked insns) j) ≡ test between since first second
    test_same test = rw (there i x at_i, there j y at_j) refl

    abbrev t : Bool
    t = model.is_true between since first second

    abbrev a : Bool
    a = model.is_anti between since first second

    abbrev o : Bool
    o = model.is_output between since first second

    pub depends_is : i < j → depends (block_in checked insns) i j ≡ (t || a || o)
    depends_is lt = ap (λ (b : Bool). nat_lt i j && b) (test_same (λ b s f g. model.is_true b s f g || model.is_anti b s f g || model.is_output b s f g)) ∙ ap (λ (b : Bool). b && (t || a || o)) (lt-ltb i j lt)

    pub cost_is : (timing : Timing) → model.cost (block_in checked insns) timing i j ≡ max (cond t (timing.number i j) 0) (cond o (timing.latency i - timing.latency j) 0)
    cost_is timing =
        ap (λ (b : Bool). max (cond b (timing.number i j) 0) (cond (at_places model.is_output (block_in checked insns) i j (slice_get (block_in checked insns) i) (slice_get (block_in checked insns) j)) (timing.latency i - timing.latency j) 0)) (test_same model.is_true)
        ∙ ap (λ (b : Bool). max (cond t (timing.number i j) 0) (cond b (timing.latency i - timing.latency j) 0)) (test_same model.is_output)
