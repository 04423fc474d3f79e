use Rattle.std.proofs.Common.{◌^◌, ◌<◌, length, arith}
use Rattle.check_memory.specs.Paged.{paged_cells, content}
use Rattle.check_memory.proofs.ByteByByte.{some_read, byte_read}
use Rattle.check_memory.proofs.Space.{length-tabulate}
use Rattle.check_memory.proofs.pages.Pages.byte.Goals as goal

pub get-requires : goal.get-requires
get-requires c =
    let pages = c.args.self.now in
    let below : c.args.address < length (paged_cells pages) =
    omega (arith, c.ranges.address.fits, length-tabulate (content pages.slots pages.known) (2 ^ 64)) in
    some_read (paged_cells pages) c.read.new.cells c.args.address below c.read.ensures

pub returns : goal.returns
returns c =
    let pages = c.args.self.now in
    let below : c.args.address < length (paged_cells pages) =
    omega (arith, c.ranges.address.fits, length-tabulate (content pages.slots pages.known) (2 ^ 64)) in
    byte_read (paged_cells pages) c.read.new.cells c.args.address c.get.result below c.read.ensures c.get.ensures
