-- The end of a step leaves a good block.
use Rattle.registers.specs.declared.Block.{Block}
use Rattle.registers.specs.Modes.{ready, settled}
use Rattle.good.proofs.Facts.{GoodBlock}
use Rattle.keeps.proofs.Words.{either}
use Rattle.keeps.proofs.Open.{Open, entered-good, kept_good}

pub settled-good : (b : Block) → Open b → GoodBlock (settled b)
unfolding settled
settled-good b i = either GoodBlock (ready b) (entered-good b i) (kept_good b i)
