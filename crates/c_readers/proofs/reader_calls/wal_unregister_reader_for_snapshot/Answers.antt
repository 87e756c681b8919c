use Rattle.std.proofs.Common.{rules, refl, ◌≡◌, ◌∙◌, ap, sym}
use Rattle.c_numbers.specs.Reply.{refusal_number}
use Rattle.c_readers.proofs.ReaderReplies.{unshare_needs_slots, plan_told, unshare_number}
use Rattle.wal_types.specs.Refusal.{refused_number}
use Rattle.reader_shared.specs.Inner.{unshare_change}
use Rattle.reader_shared.specs.Shared.{unregister_reader_for_snapshot}
use Rattle.c_readers.proofs.reader_calls.wal_unregister_reader_for_snapshot.Goals as goal
use Rattle.c_readers.proofs.reader_calls.wal_unregister_reader_for_snapshot.Goals.{in-Ok, in_default}

pub returns : goal.returns
returns c =
    let a = c.args in
    let changed : c.match-answer.registry ≡ unshare_change c.unshare_plan-answer.result a.registry.now = elim c.match-answer.branch [ in-Ok w ↦ rw (w.registry-is, w.in-Ok.is) w.release_shared_snapshot_reader.ensures | in_default w ↦ rw (w.registry-is, w.in_default.is) ] in
    let same : c.match-answer.answer ≡ c.unshare_plan-answer.result = elim c.match-answer.branch [ in-Ok w ↦ w.answer-is ∙ sym w.in-Ok.is | in_default w ↦ w.answer-is ] in
    rw changed
    (plan_told refusal_number (λ n mode. unregister_reader_for_snapshot n mode a.mark a.slot a.owner) (unshare_needs_slots _ _ _) _ _ _ c.settings_of-settings.ensures _ _ (c.refusal_told.ensures ∙ (ap refused_number same ∙ unshare_number _)) _ _ _ c.look_through.ensures refl _ _ _ _ _ c.unshare_plan-answer.ensures _ _ _ (search rules))
