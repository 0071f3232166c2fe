use borrow.Author.Tests.{le-leb, lt-leb}
use Rattle.reading.specs.Read.{place_of}
use Rattle.reading.proofs.place.Goals as goal

pub returns-then-n-ge64 : goal.returns-then-n-ge64
unfolding place_of
returns-then-n-ge64 c = rw (le-leb 64 _ c.if-n-ge64.true)

pub returns : goal.returns
unfolding place_of
returns c = rw (lt-leb 64 _ c.if-n-ge64.false)
