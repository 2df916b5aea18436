-- How long one instruction of a block waits for another, by the instructions and the classes at their places.
use Rattle.std.proofs.Common.{◌≡◌, ℕ, Bool, List, Option, Some, sym, ap, ◌∙◌}
use Rattle.std.specs.Prelude.{slice_get, slice_index}
use Rattle.hz_description_model.specs.Check.CheckedParts.{BypassParts}
use Rattle.hz_block_model.specs.Running.Blocks.{Instruction}
use Rattle.hz_block_model.specs.Dependences.Classes.{number_where, number_between, timing_of}
use Rattle.hz_block_model.specs.Dependences.Stores.{stores_data, stores_data_if, stores_data_at}

pub number_is : (bypasses : List BypassParts) (latencies classes : List ℕ) (block : List Instruction) (i j a b : ℕ) (first second : Instruction) → slice_get block i ≡ Some first → slice_get block j ≡ Some second → a ≡ slice_index classes i → b ≡ slice_index classes j
    → number_between bypasses (slice_index latencies a) a b first second ≡ (timing_of latencies bypasses classes block).number i j
number_is bypasses latencies classes block i j a b first second first_is second_is a_is b_is =
    ap (λ (c : ℕ). number_where bypasses (slice_index latencies c) (stores_data first second) c b) a_is
    ∙ (ap (λ (c : ℕ). number_where bypasses (slice_index latencies (slice_index classes i)) (stores_data first second) (slice_index classes i) c) b_is
    ∙ ap (λ (t : Bool). number_where bypasses (slice_index latencies (slice_index classes i)) t (slice_index classes i) (slice_index classes j)) stores)
  where
    stores : stores_data first second ≡ stores_data_at block i j
    stores = sym (ap (λ (o : Option Instruction). stores_data_if o (slice_get block j)) first_is ∙ ap (stores_data_if (Some first)) second_is)
