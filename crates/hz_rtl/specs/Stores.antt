-- The stores that the code holds, as what the definitions speak of.
use Rattle.hz_rtl.specs.declared.running.store.Spot.{Spot}
use Rattle.hz_rtl.specs.declared.running.store.Spot.TheVariants.{Register, Cell}
use Rattle.hz_rtl.specs.declared.running.store.Store.{Store}
use Rattle.hz_block_model.specs.Running.States as model

abbrev pub place : Spot → model.Place
place (Register number) = model.reg number
place (Cell address) = model.cell address

abbrev pub store : Store → model.Store
store s = record { place = place s.spot; word = s.word }
