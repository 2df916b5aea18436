-- The forms that the code holds, as the forms of the definitions.
use Rattle.std.specs.Prelude.{ℕ, List, [], ◌∷◌, map}
use Rattle.hz_sexp.specs.declared.form.Form.{Form}
use Rattle.hz_sexp.specs.declared.form.Node.TheOpen.{Form-F, Node-F}
use Rattle.hz_sexp.specs.declared.form.Node.TheFolds.{fold-Form}
use Rattle.hz_base_model.specs.Forms.Trees.{Tree, Trees, none, more, list, vector, atom, quoted, number}

-- forms side by side
abbrev pub trees_from : List Tree → Trees
trees_from [] = none
trees_from (first ∷ others) = more first (trees_from others)

-- a node with the forms below it as trees, at a line
abbrev pub node_step : Node-F (ℕ → Tree) Tree → ℕ → Tree
node_step (Node-F.List forms) line = list line (trees_from forms.items)
node_step (Node-F.Vector forms) line = vector line (trees_from forms.items)
node_step (Node-F.Atom text) line = atom line text
node_step (Node-F.Quoted text) line = quoted line text
node_step (Node-F.Number value) line = number line value

abbrev pub form_step : Form-F (ℕ → Tree) Tree → Tree
form_step form = form.node form.line

-- the tree of a form
abbrev pub tree : Form → Tree
tree = fold-Form (ℕ → Tree) Tree node_step form_step

-- the trees of forms
abbrev pub trees : List Form → Trees
trees forms = trees_from (map tree forms)
