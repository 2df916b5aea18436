use Rattle.hz_pipeline_model.proofs.Asks.AskLaws.{asked_table, asks_stay}
use Rattle.hz_pipeline_model.proofs.Asks.BareLaws.{without}
use Rattle.hz_pipeline_model.proofs.asking.asks_are_columns.Goals as goal

pub returns-clause-table : goal.returns-clause-table
returns-clause-table c = asked_table

pub returns-clause-stays : goal.returns-clause-stays
returns-clause-stays c = asks_stay

pub returns-clause-without : goal.returns-clause-without
returns-clause-without c = without
