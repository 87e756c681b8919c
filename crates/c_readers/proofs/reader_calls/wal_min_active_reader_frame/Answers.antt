use Rattle.std.proofs.Common.{rules}
use Rattle.c_reader_replies.specs.ReaderReply.{floor_reply}
use Rattle.c_readers.proofs.ReaderReplies.{floor_needs_slots, slots_told}
use Rattle.reader_floor.specs.Floor.{min_active_reader_frame}
use Rattle.c_readers.proofs.reader_calls.wal_min_active_reader_frame.Goals as goal

pub returns : goal.returns
returns c =
    slots_told floor_reply (λ n mode. min_active_reader_frame n mode c.args.card.now) (floor_needs_slots _) _ _ _ c.settings_of-settings.ensures _ _ c.from.ensures _ _ _ _ c.min_active_reader_frame-answer.ensures _ _ _ (search rules)
