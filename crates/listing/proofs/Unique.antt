-- Any two outcomes that the contracts of this crate's public functions allow are equal: what each returns and leaves in what was lent to it.
use mathlib.Core.Path.{◌≡◌}
use Rattle.model.proofs.Unique.{Unique}
use Rattle.listing.proofs.put_listing.Kinds as put-listing-kinds
use Rattle.listing.proofs.put_listing.Reads as put-listing

pub put_listing_unique : Unique put-listing-kinds.ps put-listing-kinds.r put-listing.Learnt
put_listing_unique κs a z z' ws ws' p q =
    let b : ws.1.1.1.0 ≡ ws'.1.1.1.0 = cc in
    (cc, λ j. (ws.0, (ws.1.0, (ws.1.1.0, (b j, ws.1.1.1.1)))))
