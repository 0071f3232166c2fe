use Rattle.bits.proofs.Zeros.{zeros_most, highest_zeros}
use Rattle.bits.proofs.highest.Goals as goal

pub overflow_sub-result : goal.overflow_sub-result
overflow_sub-result c = zeros_most c.args.w c.requires c.ranges.w.fits

pub returns : goal.returns
returns c = highest_zeros c.args.w c.requires c.ranges.w.fits
