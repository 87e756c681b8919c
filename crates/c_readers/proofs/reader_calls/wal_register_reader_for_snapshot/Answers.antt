use Rattle.std.proofs.Common.{rules, refl}
use Rattle.c_reader_replies.specs.ReaderReply.{reader_reply}
use Rattle.c_readers.proofs.ReaderReplies.{share_needs_slots, plan_told}
use Rattle.reader_shared.specs.Shared.{register_reader_for_snapshot}
use Rattle.c_readers.proofs.reader_calls.wal_register_reader_for_snapshot.Goals as goal

pub returns : goal.returns
returns c =
    let a = c.args in
    rw c.change_registry.ensures
    (plan_told reader_reply (λ n mode. register_reader_for_snapshot n mode a.owner a.mark a.card.now) (share_needs_slots _ _ _) _ _ _ c.settings_of-settings.ensures _ _ c.from.ensures _ _ _ c.look_through.ensures refl _ _ _ _ _ c.share_plan-answer.ensures _ _ _ (search rules))
