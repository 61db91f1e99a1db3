-- `report::making::of_first` meets its contract: the entries of a table are no larger than the most.
use Rattle.std.proofs.Common.{◌+◌, arith}
use Rattle.tables.specs.Tables.{says}
use Rattle.tables.specs.Theorems.{resolution_bounded, dimension_bounded}
use Rattle.report.proofs.making.of_first.Goals as goal

pub gap_sum-resolution_sum-requires : goal.gap_sum-resolution_sum-requires
gap_sum-resolution_sum-requires c = (omega arith, (c.args.sizes.few, λ i h. rw (c.resolutions-resolutions.ensures.entry i h) (resolution_bounded (says c.args.first.now) c.args.sizes.k c.args.sizes.bits (i + 1))))

pub gap_sum-dimension_sum-requires : goal.gap_sum-dimension_sum-requires
gap_sum-dimension_sum-requires c = (omega arith, (c.args.sizes.narrow, λ i h. rw (c.dimensions-dimensions.ensures.entry i h) (dimension_bounded (says c.args.first.now) c.args.sizes.k (i + 1))))
