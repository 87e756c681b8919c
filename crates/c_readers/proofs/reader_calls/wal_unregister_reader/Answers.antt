use Rattle.std.proofs.Common.{rules, refl, ◌∙◌}
use Rattle.c_numbers.specs.Reply.{refusal_number}
use Rattle.c_readers.proofs.ReaderReplies.{release_needs_slots, release_told, release_number}
use Rattle.reader_moves.specs.Update.{unregister_reader}
use Rattle.c_readers.proofs.reader_calls.wal_unregister_reader.Goals as goal

pub returns : goal.returns
returns c =
    let a = c.args in
    release_told refusal_number (λ n mode. unregister_reader n mode a.slot a.owner) (release_needs_slots _ _) _ _ _ c.settings_of-settings.ensures _ _ (c.refusal_told.ensures ∙ release_number _) _ _ _ c.slot_is_shared.ensures refl _ _ _ _ c.unregister_core-released.ensures _ _ _ (search rules)
