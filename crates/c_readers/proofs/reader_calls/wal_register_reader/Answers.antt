use Rattle.std.proofs.Common.{rules}
use Rattle.c_reader_replies.specs.ReaderReply.{reader_reply}
use Rattle.c_readers.proofs.ReaderReplies.{register_needs_slots, slots_told}
use Rattle.reader_register.specs.Register.{register_reader}
use Rattle.c_readers.proofs.reader_calls.wal_register_reader.Goals as goal

pub returns : goal.returns
returns c =
    let a = c.args in
    slots_told reader_reply (λ n mode. register_reader n mode a.owner a.mark a.card.now) (register_needs_slots _ _ _) _ _ _ c.settings_of-settings.ensures _ _ c.register_told.ensures _ _ _ _ c.register_reader-answer.ensures _ _ _ (search rules)
