use Rattle.std.proofs.Common.{rules}
use Rattle.c_reader_replies.specs.ReaderReply.{db_file_reply}
use Rattle.c_readers.proofs.ReaderReplies.{db_file_needs_slots, slots_told}
use Rattle.reader_floor.specs.Floor.{has_active_db_file_reader}
use Rattle.c_readers.proofs.reader_calls.wal_has_active_db_file_reader.Goals as goal

pub returns : goal.returns
returns c =
    slots_told db_file_reply (λ n mode. has_active_db_file_reader n mode c.args.card.now) (db_file_needs_slots _) _ _ _ c.settings_of-settings.ensures _ _ c.from.ensures _ _ _ _ c.has_active_db_file_reader-answer.ensures _ _ _ (search rules)
