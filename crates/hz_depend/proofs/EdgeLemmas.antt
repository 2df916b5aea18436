-- The edges to one more instruction, and its registers among the last writers.
use Rattle.std.proofs.Common.{◌≡◌, ℕ, zero, suc, replicate, ◌+◌, cond, List, ◌++◌, map, take, Option, Some, refl, sym, ap, ◌∙◌, arith}
use Rattle.std.specs.Prelude.{slice_get, slice_index}
use Rattle.std.proofs.Math.Path.{fun_ext}
use Rattle.std.proofs.lemmas.List.{take-map}
use Rattle.std.proofs.lemmas.Option.{slice_get-map}
use Rattle.std.specs.Option.{option_map}
use Rattle.hz_depend.specs.declared.nodes.Node.{Node}
use Rattle.hz_block_model.specs.Dependences.Accesses.{is_among}
use Rattle.hz_block_model.specs.Dependences.Graphs.{Edge}
use Rattle.hz_depend.specs.Held.{Held, held, found, writes, last_of, edges_to, all_found}

pub zeros : (n r : ℕ) → slice_index (replicate n 0) r ≡ 0
zeros zero r = refl
zeros (suc n) zero = refl
zeros (suc n) (suc r) = zeros n r

module _ (nodes : List Node) (j : ℕ) (node : Node) (at : slice_get nodes j ≡ Some node) where
  is_held : slice_get (map held nodes) j ≡ Some (held node)
  is_held = slice_get-map held nodes j ∙ ap (option_map held) at

  pub more_edges : (cycles : Held → Held → ℕ) (last : List ℕ) (old new : List Edge) → ((r : ℕ) → slice_index last r ≡ last_of (map held nodes) j r) → old ≡ all_found cycles (map held nodes) j
      → new ≡ old ++ found (slice_index last) cycles j (held node) 0 (map held (take j nodes)) → new ≡ all_found cycles (map held nodes) (j + 1)
  more_edges cycles last old new same is e =
      let one : j + 1 ≡ suc j = omega arith in
      let tables : slice_index last ≡ last_of (map held nodes) j = fun_ext same in
      e ∙ (ap (λ (xs : List Edge). xs ++ found (slice_index last) cycles j (held node) 0 (map held (take j nodes))) is
      ∙ (ap (λ (t : ℕ → ℕ). all_found cycles (map held nodes) j ++ found t cycles j (held node) 0 (map held (take j nodes))) tables
      ∙ (ap (λ (fs : List Held). all_found cycles (map held nodes) j ++ found (last_of (map held nodes) j) cycles j (held node) 0 fs) (sym (take-map held j nodes))
      ∙ (ap (λ (o : Option Held). all_found cycles (map held nodes) j ++ edges_to cycles (map held nodes) j o) (sym is_held)
      ∙ ap (λ (n : ℕ). all_found cycles (map held nodes) n) (sym one)))))

  pub more_written : (old new : List ℕ) → ((r : ℕ) → slice_index old r ≡ last_of (map held nodes) j r) → ((r : ℕ) → slice_index new r ≡ cond (is_among node.access.written.registers.items r) (j + 1) (slice_index old r))
      → (r : ℕ) → slice_index new r ≡ last_of (map held nodes) (j + 1) r
  more_written old new same is r =
      let one : j + 1 ≡ suc j = omega arith in
      is r
      ∙ (ap (λ (n : ℕ). cond (is_among node.access.written.registers.items r) n (slice_index old r)) one
      ∙ (ap (λ (n : ℕ). cond (is_among node.access.written.registers.items r) (suc j) n) (same r)
      ∙ (ap (λ (o : Option Held). cond (writes o r) (suc j) (last_of (map held nodes) j r)) (sym is_held)
      ∙ ap (λ (n : ℕ). last_of (map held nodes) n r) (sym one))))
