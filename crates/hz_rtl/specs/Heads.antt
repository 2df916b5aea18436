-- Lists by the words that they begin with.
use Rattle.std.specs.Prelude.{ℕ, List, Option, Some, None, map}
use Rattle.hz_sexp.specs.declared.form.Form.{Form}
use Rattle.hz_sexp.specs.Shape.{tree}
use Rattle.hz_base_model.specs.Forms.Trees.{Tree, Trees, list, vector, atom, more}
use Rattle.hz_block_model.specs.Running.Blocks.{Value}
use Rattle.hz_block_model.specs.Texts.Operands.{Judged}
use Rattle.hz_block_model.specs.Texts.Values.{value_of}

-- the word that a list begins with, and its operands
abbrev pub head_of : Tree → Option (List ℕ × Trees)
head_of (list line (more (atom at word) operands)) = Some (word, operands)
head_of form = None

-- the forms of a vector
abbrev pub vector_in : Tree → Option Trees
vector_in (vector line forms) = Some forms
vector_in form = None

-- what each form is in the place of a value
abbrev pub judged : List Form → List (Judged Value)
judged forms = map (λ form. value_of (tree form)) forms
