-- The copy-back limit, by the marks of live slots. Assumes nothing.
use mathlib.Core.Path.{◌≡◌, ◌∙◌}
use mathlib.Core.List.{List}
use Prim.Native.Nat.{ℕ}
use Rattle.wal_types.specs.declared.refusal.Refusal.{Refusal}
use Rattle.wal_types.specs.Refusal.{number}
use Rattle.wal_types.specs.Call.{Call, refused, value, does}
use Rattle.reader_probe.specs.declared.live.LiveMarks.{LiveMarks}
use Rattle.reader_floor.specs.Floor.{reclaim_dead}
use Rattle.reader_floor.specs.Inner.{all_slots_refusal, MarksOf}
use Rattle.reader_floor.proofs.Floored.{probing_refused, probing_accepted}
use Rattle.reader_limit.specs.Limit.{limit_of, held_back, limit_at, copy_back_limit}
use Rattle.reader_limit.specs.Inner.{LentLimit}
use Rattle.wal_types.specs.declared.settings.ReaderSettings.{ReaderSettings}
use Rattle.reader_slots.specs.declared.slots.SharedSlots.{SharedSlots}

module _ (settings : ReaderSettings) (bytes : List ℕ) (s : SharedSlots) (l : List ℕ) (published copied : ℕ) where
  abbrev limit_call : Call
  limit_call m p = does (value (limit_at settings.n settings.mode bytes m p)) (reclaim_dead settings.mode bytes p settings.n) m p

  pub limit_refused : (r : Refusal) → number r ≡ all_slots_refusal settings bytes s l → LentLimit (copy_back_limit settings.n settings.mode bytes) published copied s l (refused (number r)) s
  unfolding copy_back_limit
  limit_refused r e =
      let h = probing_refused settings bytes s l limit_call r e in
      (h.0, λ z p is_published is_copied. h.1 z p)

  pub limit_told : 0 ≡ all_slots_refusal settings bytes s l → (r : LiveMarks) (s' : SharedSlots) → MarksOf settings bytes s l r s' → (limit frame : ℕ) → limit ≡ limit_of published r.floor → frame ≡ held_back r.db_file_reader copied limit → LentLimit (copy_back_limit settings.n settings.mode bytes) published copied s l (value frame) s'
  unfolding copy_back_limit MarksOf
  limit_told e r s' h limit frame by_floor by_db_file = (
    h.2.0,
    λ z p is_published is_copied. probing_accepted settings bytes s l limit_call e z p
        ∙ rw (h.0, h.1 z p, ← h.2.1 z p, is_published, is_copied, by_db_file, by_floor),
  )
