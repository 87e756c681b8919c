-- The view up to a mark: what records above it and rollbacks not below it leave as it was. Assumes nothing.
use mathlib.Core.Path.{◌≡◌, refl, sym, ◌∙◌, ap}
use mathlib.Core.Bool.{Bool, false}
use mathlib.Core.List.{List, [], ◌∷◌, ◌++◌, Memᴰ}
use Prim.Native.Nat.{ℕ, ◌≤◌, min}
use native.Mathlib.Omega.{arith}
use Rattle.wal_types.specs.Memory.{Memory, Process}
use Rattle.wal_types.specs.Call.{Pair, pair, after}
use Rattle.index_end.specs.Place.{resets}
use Rattle.index_record.specs.Record.{record_frame}
use Rattle.index_record.specs.Rollback.{rollback_frames}
use Rattle.index_grown.specs.Entries.{entries, entries_found, up_to, greatest}
use Rattle.index_grown.specs.Grown.{Grown}
use Rattle.index_grown.specs.Listed.{IsListOf}
use Rattle.index_grown.proofs.Lists.{greatest_up_to, up_to_goes, up_to_twice}
use Rattle.index_grown.proofs.Entries.{entries_kept}
use Rattle.index_grown.proofs.Places.{started_entries}
use Rattle.index_grown.proofs.Records.{record_cases, entry_entries, entry_above}
use Rattle.index_grown.proofs.Rollbacks.{rollback_cases, taken_exactly}
use Rattle.index_grown.proofs.Unique.{listed_same}

-- two lists of pairs with the same pairs up to a mark
abbrev pub SameView : ℕ → List Pair → List Pair → Type 0
SameView mark es es' = up_to mark es' ≡ up_to mark es

module _ (mark : ℕ) (es es' : List Pair) (same : SameView mark es es') (low high : ℕ) (most : high ≤ mark) where
  -- LOOKUPS UP TO THE MARK are the same
  pub view_greatest : (page : ℕ) → greatest es' page low high ≡ greatest es page low high
  view_greatest page =
      sym (greatest_up_to page low high mark most es') ∙ (ap (λ (l : List Pair). greatest l page low high) same ∙ greatest_up_to page low high mark most es)

  -- and so are LISTS
  pub view_listed : (l : List Pair) → IsListOf es low high l → IsListOf es' low high l
  view_listed l = listed_same es low high es' l view_greatest

module _ (capacity b mark : ℕ) (m : Memory) (p : Process) (grown : Grown capacity b m) where
  -- RECORDS: with an entry at the mark or above, and no reset, a record leaves the view up to the mark
  pub record_view : (page frame : ℕ) (grow : Bool) (q : Pair) → Memᴰ q (entries m) → mark ≤ q.frame → resets frame m.header ≡ false
      → SameView mark (entries m) (entries (after (record_frame capacity b page frame grow) m p).memory)
  record_view page frame grow q i l off =
      record_cases capacity b page frame grow m p grown (λ d. SameView mark (entries m) (entries d.memory)) (λ n z. refl)
      (λ passed e. ap (up_to mark) (started_entries frame m.header m.pages m.frames ∙ found))
      (λ g passed e o.
      let a = rw off at (entry_above capacity b page frame grow m p grown g e passed o) in
      ap (up_to mark) (entry_entries capacity b page frame grow m p grown g e passed o ∙ ap (λ (x : List Pair). x ++ (pair page frame ∷ [])) found)
      ∙ up_to_goes mark (entries m) (pair page frame) (omega (arith, a q i)))
    where
      found : entries_found frame m ≡ entries m
      found = rw off

  -- ROLLBACKS: one not below the mark leaves the view up to the mark
  pub rollback_view : (bound : ℕ) → mark ≤ bound → SameView mark (entries m) (entries (after (rollback_frames capacity b bound) m p).memory)
  rollback_view bound l =
      rollback_cases capacity b bound m p grown (λ d. SameView mark (entries m) (entries d.memory)) (λ i z e. refl) (λ e. refl)
      (λ hash c k.
      ap (up_to mark) (entries_kept m.pages m.frames bound m.header.frame_index_len ∙ taken_exactly capacity b bound m grown) ∙ (up_to_twice bound mark (entries m) ∙ ap (λ (i : ℕ). up_to i (entries m)) lesser))
    where
      lesser : min bound mark ≡ mark
      lesser = omega arith
