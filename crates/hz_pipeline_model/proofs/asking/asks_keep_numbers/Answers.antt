use Rattle.hz_pipeline_model.proofs.Asks.NumberLaws.{numbers_beside}
use Rattle.hz_pipeline_model.proofs.asking.asks_keep_numbers.Goals as goal

pub returns : goal.returns
returns c table asked columns asks marks parents is has order = numbers_beside table asked columns asks marks is has parents order
