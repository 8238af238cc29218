-- A join buffer as long as the text is long enough: the blocks of a sheet don't depend on its length then.
-- Assumes nothing.
use Rattle.sheet_blocks.proofs.Rooms as rooms
use Rattle.proved_sheets.specs.Order.{RoomEnough}

-- the blocks of a sheet are those that a caller finds from its first byte on
pub blocks_are : RoomEnough
blocks_are = rooms.blocks_are
