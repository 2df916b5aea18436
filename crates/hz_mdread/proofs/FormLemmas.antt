-- Forms by their words, with their lines and short strings.
use Rattle.std.proofs.Common.{◌≡◌, ℕ, zero, suc, ◌<◌, Bool, true, false, ◌&&◌, List, [], ◌∷◌, length, get_or, Some, refl, ap, ◌∙◌, arith}
use Rattle.hz_sexp.specs.declared.form.Form.{Form, out-Form}
use Rattle.hz_sexp.specs.declared.form.Node.TheOpen.{Node-F}
use Rattle.hz_sexp.specs.declared.form.Node.TheFolds.{fold_out-Form, fold_out-Node}
use Rattle.hz_sexp.specs.Shape.{tree, trees, node_step, form_step}
use Rattle.hz_base_model.specs.Forms.Trees.{Tree, Trees, list, atom, more, line_of}
use Rattle.hz_description_model.specs.Reading.DescriptionShape.{FormKind}
use Rattle.hz_description_model.specs.Reading.DescriptionForms.{Said, headed, kind_of, form_of_kind, form_says, string_below, strings_below}

line_of_step : (node : Node-F (ℕ → Tree) Tree) (line : ℕ) → line_of (node_step node line) ≡ line
line_of_step (Node-F.List forms) line = refl
line_of_step (Node-F.Vector forms) line = refl
line_of_step (Node-F.Atom text) line = refl
line_of_step (Node-F.Quoted text) line = refl
line_of_step (Node-F.Number value) line = refl

-- the line of a form's tree is the form's
pub line_is : (form : Form) → line_of (tree form) ≡ (out-Form form).line
line_is form =
    let line : ℕ = (out-Form form).line in
    ap line_of (fold_out-Form (ℕ → Tree) Tree node_step form_step form) ∙ (ap (λ (f : ℕ → Tree). line_of (f line)) (fold_out-Node (ℕ → Tree) Tree node_step form_step (out-Form form).node) ∙ line_of_step _ line)

first_true : (a b : Bool) → (a && b) ≡ true → a ≡ true
first_true true b e = refl
first_true false b e = absurd (cc)

second_true : (a b : Bool) → (a && b) ≡ true → b ≡ true
second_true true b e = e
second_true false b e = absurd (cc)

-- the strings of one operand
pub string_at : (size : ℕ) (operands : List Form) (i : ℕ) (operand : Form) → strings_below size (trees operands) ≡ true → i < length operands → operand ≡ get_or operands i operand → string_below size (tree operand) ≡ true
string_at size [] i operand h inside is = absurd (omega arith)
string_at size (first ∷ operands) zero operand h inside is = rw is (first_true (string_below size (tree first)) (strings_below size (trees operands)) h)
string_at size (first ∷ operands) (suc i) operand h inside is = string_at size operands i operand (second_true (string_below size (tree first)) (strings_below size (trees operands)) h) (omega arith) is

some_pair : (p q : List ℕ × Trees) → Some p ≡ Some q → p ≡ q
some_pair p q e = cc

-- the strings of all operands
pub headed_strings : (size : ℕ) (form : Tree) (word : List ℕ) (operands : Trees) → Some (word, operands) ≡ headed form → string_below size form ≡ true → strings_below size operands ≡ true
headed_strings size (list line (more (atom at w) os)) word operands is h = ap (λ (p : List ℕ × Trees). strings_below size p.1) (some_pair (word, operands) (w, os) is) ∙ h
headed_strings size _ word operands is h = absurd (cc)

-- what a form of a known word says
pub form_is : (read : List ℕ → Said) (n : ℕ) (form : Form) (word : List ℕ) (operands : Trees) (kind : FormKind) → Some (word, operands) ≡ headed (tree form) → Some kind ≡ kind_of word
    → form_says read n (tree form) ≡ form_of_kind (out-Form form).line n read kind operands
form_is read n form word operands kind is of = rw (← is, ← of, line_is form) refl
