use Rattle.std.proofs.Common.{rules}
use Rattle.c_reader_replies.specs.ReaderReply.{limit_reply}
use Rattle.c_readers.proofs.ReaderReplies.{limit_needs_slots, limit_told}
use Rattle.reader_limit.specs.Limit.{copy_back_limit}
use Rattle.c_readers.proofs.reader_calls.wal_copy_back_limit.Goals as goal

pub returns : goal.returns
returns c =
    limit_told limit_reply (λ n mode. copy_back_limit n mode c.args.card.now) (limit_needs_slots _) _ _ _ c.settings_of-settings.ensures _ _ c.from.ensures _ _ _ _ _ c.copy_back_limit-answer.ensures _ _ _ (search rules)
