use Rattle.hz_block_model.proofs.Texts.Listings.{same_listing, same_text}
use Rattle.hz_block_model.proofs.text_laws.one_listing.Goals as goal

pub returns-clause-listing : goal.returns-clause-listing
returns-clause-listing c = same_listing

pub returns-clause-text : goal.returns-clause-text
returns-clause-text c = same_text
