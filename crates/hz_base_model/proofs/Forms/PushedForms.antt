-- Forms with one more at their end.
use Rattle.hz_base_model.specs.Forms.Trees.{Tree, Trees, none, more}

-- one more form at the end
abbrev pub push : Trees → Tree → Trees
push none form = more form none
push (more first others) form = more first (push others form)
