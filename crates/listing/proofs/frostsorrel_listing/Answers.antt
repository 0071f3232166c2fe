use native.Mathlib.Omega.{arith}
use Rattle.rules.proofs.Calls.{listing_call}
use Rattle.listing.proofs.frostsorrel_listing.Goals as goal

pub returns : goal.returns
returns c =
    listing_call _ _ _ _ (record { small = λ i. omega (arith, c.shared_slice_known-1.given i) }) c.list.ensures
