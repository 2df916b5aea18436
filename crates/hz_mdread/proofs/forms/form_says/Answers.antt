use Rattle.hz_sexp.specs.Shape.{tree, trees}
use Rattle.hz_mdread.specs.Reading.{reading}
use Rattle.hz_mdread.specs.Shape.{kind_in}
use Rattle.hz_mdread.proofs.FormLemmas.{headed_strings, form_is}
use Rattle.hz_mdread.proofs.forms.form_says.Goals as goal

pub form_of_kind-requires : goal.form_of_kind-requires
form_of_kind-requires c = headed_strings _ (tree c.args.form.now) c.in-Some.word.now (trees c.in-Some.operands.now) c.in-Some.ensures c.requires

pub returns-clause-ok : goal.returns-clause-ok
returns-clause-ok c = rw (form_is reading c.args.number c.args.form.now c.in-Some.word.now (trees c.in-Some.operands.now) (kind_in c.in-Some-kind_of.kind) c.in-Some.ensures c.in-Some-kind_of.ensures) c.form_of_kind.ensures.ok

pub returns-clause-err : goal.returns-clause-err
returns-clause-err c = rw (form_is reading c.args.number c.args.form.now c.in-Some.word.now (trees c.in-Some.operands.now) (kind_in c.in-Some-kind_of.kind) c.in-Some.ensures c.in-Some-kind_of.ensures) c.form_of_kind.ensures.err
