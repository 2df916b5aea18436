-- The trees of forms without brackets.
use Rattle.std.proofs.Common.{◌≡◌, ℕ, List, ap, sym, ◌∙◌}
use Rattle.std.specs.Prelude.{ℤ}
use Rattle.hz_sexp.specs.declared.form.Node.TheVariants.{Atom, Quoted, Number, rolls-Atom, rolls-Quoted, rolls-Number}
use Rattle.hz_sexp.specs.declared.form.Node.TheOpen.{Node-F}
use Rattle.hz_sexp.specs.declared.form.Node.TheViews.{roll-Form, roll-Node}
use Rattle.hz_sexp.specs.declared.form.Node.TheFolds.{fold-Node, fold-roll-Form, fold-roll-Node}
use Rattle.hz_sexp.specs.declared.form.Form.{Form}
use Rattle.hz_sexp.specs.declared.form.Node.{Node}
use Rattle.hz_sexp.specs.Shape.{tree, node_step, form_step}
use Rattle.hz_base_model.specs.Forms.Trees.{Tree, atom, quoted, number}

-- the tree of a form is that of its node
tree_of_node : (line : ℕ) (node : Node) (n : Node-F Node Form) → roll-Node n ≡ node
    → tree (roll-Form (record { line = line; node = node })) ≡ fold-Node (ℕ → Tree) Tree node_step form_step (roll-Node n) line
tree_of_node line node n e = fold-roll-Form (ℕ → Tree) Tree node_step form_step (record { line = line; node = node }) ∙ ap (λ m. fold-Node (ℕ → Tree) Tree node_step form_step m line) (sym e)

pub tree-atom : (line : ℕ) (text : List ℕ) → tree (roll-Form (record { line = line; node = Atom text })) ≡ atom line text
tree-atom line text = tree_of_node line (Atom text) (Node-F.Atom text) (rolls-Atom text) ∙ ap (λ (f : ℕ → Tree). f line) (fold-roll-Node (ℕ → Tree) Tree node_step form_step (Node-F.Atom text))

pub tree-quoted : (line : ℕ) (text : List ℕ) → tree (roll-Form (record { line = line; node = Quoted text })) ≡ quoted line text
tree-quoted line text = tree_of_node line (Quoted text) (Node-F.Quoted text) (rolls-Quoted text) ∙ ap (λ (f : ℕ → Tree). f line) (fold-roll-Node (ℕ → Tree) Tree node_step form_step (Node-F.Quoted text))

pub tree-number : (line : ℕ) (value : ℤ) → tree (roll-Form (record { line = line; node = Number value })) ≡ number line value
tree-number line value = tree_of_node line (Number value) (Node-F.Number value) (rolls-Number value) ∙ ap (λ (f : ℕ → Tree). f line) (fold-roll-Node (ℕ → Tree) Tree node_step form_step (Node-F.Number value))
