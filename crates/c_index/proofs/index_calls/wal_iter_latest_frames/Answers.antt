use Rattle.c_index.proofs.LookupReplies.{list_told}
use Rattle.list_latest.specs.Latest.{iter_latest_frames}
use lib.ListN.{length}
use Rattle.c_index.proofs.index_calls.wal_iter_latest_frames.Goals as goal

pub returns : goal.returns
returns c =
    let a = c.args in
    rw c.from.ensures (list_told (iter_latest_frames a.capacity a.max_blocks a.min_frame a.max_frame (length a.out_pages.now) (length a.out_frames.now)) _ _ _ _ _ _ _ _ c.iter_latest_frames-listed.result c.iter_latest_frames-listed.ensures)
