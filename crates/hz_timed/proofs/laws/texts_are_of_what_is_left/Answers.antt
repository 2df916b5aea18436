use Rattle.std.proofs.Common.{refl}
use Rattle.hz_rtl.specs.Listings.{listing}
use Rattle.hz_rtl.proofs.ListingLemmas.{is_listed}
use Rattle.hz_block_model.specs.Texts.StateTexts.{listing_text}
use Rattle.hz_timed.proofs.laws.texts_are_of_what_is_left.Goals as goal

pub returns : goal.returns
returns c = λ block schedule t. record {
  tail = listing_text (listing t.state);
  state_is = record { listing = listing t.state; is_listing = is_listed t.state; text_is = refl };
  text_is = refl;
}
