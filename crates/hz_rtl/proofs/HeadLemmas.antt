-- Lists by the words that they begin with, their lines and sizes.
use Rattle.std.proofs.Common.{◌≡◌, ℕ, zero, suc, ◌+◌, ◌<◌, List, [], ◌∷◌, length, get_or, Option, Some, None, Err, refl, sym, ap, ◌∙◌, arith}
use Rattle.hz_sexp.specs.declared.form.Form.{Form, out-Form}
use Rattle.hz_sexp.specs.declared.form.Node.TheOpen.{Node-F}
use Rattle.hz_sexp.specs.declared.form.Node.TheFolds.{fold_out-Form, fold_out-Node}
use Rattle.hz_sexp.specs.Shape.{tree, trees, node_step, form_step}
use Rattle.hz_base_model.specs.Forms.Trees.{Tree, Trees, list, vector, atom, quoted, number, none, more, line_of}
use Rattle.hz_block_model.specs.Running.Blocks.{Value}
use Rattle.hz_block_model.specs.Texts.Operands.{Judged, bad_shape, unknown_code, and_then, or_fault, by_head}
use Rattle.hz_block_model.specs.Texts.Values.{ValueCode, value_code, value_with, value_of, values_of}
use Rattle.hz_rtl.specs.Heads.{head_of, judged}

line_of_step : (node : Node-F (ℕ → Tree) Tree) (line : ℕ) → line_of (node_step node line) ≡ line
line_of_step (Node-F.List forms) line = refl
line_of_step (Node-F.Vector forms) line = refl
line_of_step (Node-F.Atom text) line = refl
line_of_step (Node-F.Quoted text) line = refl
line_of_step (Node-F.Number value) line = refl

-- the line of a form's tree is the form's
pub line_is : (form : Form) → line_of (tree form) ≡ (out-Form form).line
line_is form =
    let line : ℕ = (out-Form form).line in
    ap line_of (fold_out-Form (ℕ → Tree) Tree node_step form_step form) ∙ (ap (λ (f : ℕ → Tree). line_of (f line)) (fold_out-Node (ℕ → Tree) Tree node_step form_step (out-Form form).node) ∙ line_of_step _ line)

some_pair : (p q : List ℕ × Trees) → Some p ≡ Some q → p ≡ q
some_pair p q e = cc

head_says : {A : Type 0} (says : ℕ → List ℕ → Trees → Judged A) (t : Tree) (word : List ℕ) (operands : Trees) → Some (word, operands) ≡ head_of t → by_head says t ≡ says (line_of t) word operands
head_says says (list line (more (atom at w) os)) word operands h = sym (ap (λ (p : List ℕ × Trees). says line p.0 p.1) (some_pair (word, operands) (w, os) h))
head_says says _ word operands h = absurd (cc)

no_head_says : {A : Type 0} (says : ℕ → List ℕ → Trees → Judged A) (t : Tree) → None ≡ head_of t → by_head says t ≡ Err (bad_shape, line_of t)
no_head_says says (list line (more (atom at w) os)) h = absurd (cc)
no_head_says says _ h = refl

-- what a list says by its word
pub headed_says : {A : Type 0} (says : ℕ → List ℕ → Trees → Judged A) (form : Form) (word : List ℕ) (operands : Trees) → Some (word, operands) ≡ head_of (tree form) → by_head says (tree form) ≡ says (out-Form form).line word operands
headed_says says form word operands h = head_says says (tree form) word operands h ∙ ap (λ (line : ℕ). says line word operands) (line_is form)

pub unheaded_says : {A : Type 0} (says : ℕ → List ℕ → Trees → Judged A) (form : Form) → None ≡ head_of (tree form) → by_head says (tree form) ≡ Err (bad_shape, (out-Form form).line)
unheaded_says says form h = no_head_says says (tree form) h ∙ ap (λ (line : ℕ). Err (bad_shape, line)) (line_is form)

value_head : (t : Tree) → value_of t ≡ by_head (λ line word operands. and_then (or_fault unknown_code line (value_code word)) (λ code. value_with line code operands (values_of operands))) t
unfolding value_of
value_head (list line (more (atom at w) os)) = refl
value_head _ = refl

-- what each operand is in the place of a value
judged_is : (operands : List Form) → values_of (trees operands) ≡ judged operands
unfolding value_of values_of
judged_is [] = refl
judged_is (a ∷ operands) = ap (λ vs. value_of (tree a) ∷ vs) (judged_is operands)

-- the same for the value that a form is
pub value_headed : (form : Form) (word : List ℕ) (operands : List Form) → Some (word, trees operands) ≡ head_of (tree form)
    → value_of (tree form) ≡ and_then (or_fault unknown_code (out-Form form).line (value_code word)) (λ code. value_with (out-Form form).line code (trees operands) (judged operands))
value_headed form word operands h =
    value_head (tree form)
    ∙ (headed_says (λ line word operands. and_then (or_fault unknown_code line (value_code word)) (λ code. value_with line code operands (values_of operands))) form word (trees operands) h
    ∙ ap (λ (vs : List (Judged Value)). and_then (or_fault unknown_code (out-Form form).line (value_code word)) (λ code. value_with (out-Form form).line code (trees operands) vs)) (judged_is operands))

pub value_is : (form : Form) (word : List ℕ) (operands : List Form) (code : ValueCode) → Some (word, trees operands) ≡ head_of (tree form) → Some code ≡ value_code word
    → value_of (tree form) ≡ value_with (out-Form form).line code (trees operands) (judged operands)
value_is form word operands code h e = value_headed form word operands h ∙ ap (λ (found : Option ValueCode). and_then (or_fault unknown_code (out-Form form).line found) (λ code. value_with (out-Form form).line code (trees operands) (judged operands))) (sym e)

pub value_unknown : (form : Form) (word : List ℕ) (operands : List Form) → Some (word, trees operands) ≡ head_of (tree form) → None ≡ value_code word
    → value_of (tree form) ≡ Err (unknown_code, (out-Form form).line)
value_unknown form word operands h e = value_headed form word operands h ∙ ap (λ (found : Option ValueCode). and_then (or_fault unknown_code (out-Form form).line found) (λ code. value_with (out-Form form).line code (trees operands) (judged operands))) (sym e)

pub value_unheaded : (form : Form) → None ≡ head_of (tree form) → value_of (tree form) ≡ Err (bad_shape, (out-Form form).line)
value_unheaded form h = value_head (tree form) ∙ unheaded_says (λ line word operands. and_then (or_fault unknown_code line (value_code word)) (λ code. value_with line code operands (values_of operands))) form h

-- how much stands in a form
abbrev mutual
  pub size : Tree → ℕ
  size (list line forms) = sizes forms + 1
  size (vector line forms) = sizes forms + 1
  size (atom line bytes) = 0
  size (quoted line bytes) = 0
  size (number line value) = 0

  pub sizes : Trees → ℕ
  sizes none = 0
  sizes (more first others) = size first + sizes others + 1

-- and so is each form of several
pub place_size : (forms : List Form) (i : ℕ) (form : Form) → i < length forms → form ≡ get_or forms i form → size (tree form) < sizes (trees forms)
place_size [] i form inside is = absurd (omega arith)
place_size (first ∷ forms) zero form inside is = let same = ap (λ (f : Form). size (tree f)) is in omega (arith, same)
place_size (first ∷ forms) (suc i) form inside is = let h = place_size forms i form (omega arith) is in omega arith

-- the operands of a list are less than the list
pub headed_size : (t : Tree) (word : List ℕ) (operands : Trees) → Some (word, operands) ≡ head_of t → sizes operands < size t
headed_size (list line (more (atom at w) os)) word operands h = let same = ap (λ (p : List ℕ × Trees). sizes p.1) (some_pair (word, operands) (w, os) h) in omega (arith, same)
headed_size _ word operands h = absurd (cc)
