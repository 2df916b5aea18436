-- The head of an automaton.
use Rattle.hz_tabtext_model.specs.Lines as model
use Rattle.hz_tabfile.specs.declared.reading.head.Head.{Head}

-- as a definition
abbrev pub head_said : Head → model.Head
head_said head = record { name = head.name; columns = head.columns; states = head.states }
