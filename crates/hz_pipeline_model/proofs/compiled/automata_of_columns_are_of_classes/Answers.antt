use Rattle.hz_pipeline_model.proofs.Compiling.CompiledLaws.{walks_accepted, tells_left, numbered, tells_held}
use Rattle.hz_pipeline_model.proofs.compiled.automata_of_columns_are_of_classes.Goals as goal

pub returns-clause-walks : goal.returns-clause-walks
returns-clause-walks c = λ treatment statements rules asks lists columns part table marks grids sets parents is count has auto. walks_accepted treatment statements rules asks lists columns part is count table marks has grids sets parents auto

pub returns-clause-tells : goal.returns-clause-tells
returns-clause-tells c = λ treatment statements rules asks lists columns part table marks grids sets parents is count has auto. tells_left treatment statements rules asks lists columns part is count table marks has grids sets parents auto

pub returns-clause-numbered : goal.returns-clause-numbered
returns-clause-numbered c = λ treatment statements rules asks lists columns part table marks grids sets parents is count has auto. numbered treatment statements rules asks lists columns part is count table marks has grids sets parents auto

pub returns-clause-held : goal.returns-clause-held
returns-clause-held c = λ treatment statements rules asks lists columns part table marks grids sets parents is count has auto first queries many present. tells_held treatment statements rules asks lists columns part is count table marks has grids sets parents auto first queries many present
