-- Lookups, lists and searches up to a mark answer by the pairs that are seen up to it. Assumes nothing.
use mathlib.Core.Path.{◌≡◌, refl, sym, ◌∙◌, ap, subst}
use mathlib.Core.Bool.{◌||◌}
use mathlib.Core.List.{List, [], ◌∷◌}
use mathlib.Core.Logic.{◌⊎◌, inl, inr}
use Prim.Native.Nat.{ℕ, ◌≤◌}
use lib.Dec.{ltb}
use lib.ListN.{length}
use Rattle.std.specs.Prelude.{None}
use Rattle.wal_types.specs.Memory.{Memory, Process}
use Rattle.wal_types.specs.Refusal.{◌if◌}
use Rattle.wal_types.specs.declared.refusal.Refusal.TheVariants.{ShortList}
use Rattle.wal_types.specs.Call.{Pair, refused, listed, turned_away, accepted, does, Done, done, after}
use Rattle.index_find.specs.Index.{index_refusal}
use Rattle.index_find.specs.Find.{lookup_answer, find_frame}
use Rattle.index_find.proofs.Refused.{index_refused}
use Rattle.index_find.proofs.LookedUp.{find_refused}
use Rattle.list_latest.specs.Latest.{listed_entries, pairs_of, iter_latest_frames}
use Rattle.index_grown.specs.Entries.{entries, greatest}
use Rattle.index_grown.specs.Grown.{Grown}
use Rattle.index_grown.specs.Listed.{IsListOf}
use Rattle.index_grown.proofs.Answers.{find_cases, list_cases}
use Rattle.index_grown.proofs.Listed.{list_gives}
use Rattle.index_grown.proofs.Views.{view_greatest, view_listed}
use Rattle.index_scan.specs.Between.{frame_chosen, frame_between}
use Rattle.index_scan.proofs.Scanned.{scan_accepted}
use Rattle.index_scan.proofs.Choices.{view_chosen}
use Rattle.sequence.specs.Sequence.{Settings}
use Rattle.sequence.specs.Book.{Book}
use Rattle.sequence.proofs.IndexStands.{refusal_of, Stands}
use Rattle.sequence.proofs.IndexSeen.{Seen}

-- a list of an index that is refused is refused
list_refused : (capacity b low high room_pages room_frames : ℕ) (m : Memory) (p : Process) (n : ℕ) → index_refusal capacity b m.header (length m.pages) (length m.frames) (length m.hash) ≡ n → (n ≡ 0 → ⊥)
    → after (iter_latest_frames capacity b low high room_pages room_frames) m p ≡ done (refused n) m p
unfolding iter_latest_frames
list_refused capacity b low high room_pages room_frames m p n e i =
    index_refused capacity b (λ z q. (ShortList if (ltb room_pages (length (listed_entries low high z)) || ltb room_frames (length (listed_entries low high z)))) ∷ [])
    (λ z. does (listed (pairs_of z (listed_entries low high z))) (λ x. []) z) m p n e i

module _ (s : Settings) (m : Memory) (p : Process) (b : Book) (stands : Stands s m b) (mark : ℕ) (es : List Pair) (seen : Seen mark es m) (low high : ℕ) (most : high ≤ mark) where
  -- a lookup that is not refused gives the greatest frame of the page among the pairs that are seen
  pub find_seen : (page : ℕ) → accepted (after (find_frame s.capacity s.max_blocks page low high None) m p).answer
      → (after (find_frame s.capacity s.max_blocks page low high None) m p).answer ≡ lookup_answer (greatest es page low high)
  find_seen page = go stands.grown_or_shut
    where
      Gives : Done → Type 0
      Gives d = accepted d.answer → d.answer ≡ lookup_answer (greatest es page low high)

      go : Grown s.capacity s.max_blocks m ⊎ (refusal_of s m ≡ 0 → ⊥) → Gives (after (find_frame s.capacity s.max_blocks page low high None) m p)
      go (inl g) =
          find_cases s.capacity s.max_blocks m g p page low high Gives (λ n x. absurd (x turned_away))
          (λ x. ap lookup_answer (view_greatest mark es (entries m) seen.same_view low high most page))
      go (inr shut) =
          subst Gives (sym (find_refused s.capacity s.max_blocks page low high None m m.header m.pages m.frames m.hash p (refusal_of s m) refl shut)) (λ x. absurd (x turned_away))

  -- a list that is not refused is the list of the pairs that are seen
  pub list_seen : (room_pages room_frames : ℕ) → accepted (after (iter_latest_frames s.capacity s.max_blocks low high room_pages room_frames) m p).answer
      → (l : List Pair) × ((after (iter_latest_frames s.capacity s.max_blocks low high room_pages room_frames) m p).answer ≡ listed l) × IsListOf es low high l
  list_seen room_pages room_frames = go stands.grown_or_shut
    where
      Gives : Done → Type 0
      Gives d = accepted d.answer → (l : List Pair) × (d.answer ≡ listed l) × IsListOf es low high l

      go : Grown s.capacity s.max_blocks m ⊎ (refusal_of s m ≡ 0 → ⊥) → Gives (after (iter_latest_frames s.capacity s.max_blocks low high room_pages room_frames) m p)
      go (inl g) =
          list_cases s.capacity s.max_blocks low high room_pages room_frames m p Gives (λ n x. absurd (x turned_away))
          (λ x. (pairs_of m (listed_entries low high m), refl, view_listed mark (entries m) es (sym seen.same_view) low high most _ (list_gives s.capacity s.max_blocks m g low high)))
      go (inr shut) = subst Gives (sym (list_refused s.capacity s.max_blocks low high room_pages room_frames m p (refusal_of s m) refl shut)) (λ x. absurd (x turned_away))

  -- a search between two frames that is not refused gives what its choice gives among the pairs that are seen
  pub between_seen : (page choice : ℕ) → accepted (after (frame_between s.capacity s.max_blocks page low high choice) m p).answer
      → (after (frame_between s.capacity s.max_blocks page low high choice) m p).answer ≡ lookup_answer (frame_chosen es page low high choice)
  unfolding frame_between
  between_seen page choice a =
      scan_accepted s.capacity s.max_blocks (λ l. frame_chosen l page low high choice) m p a
      ∙ ap lookup_answer (view_chosen mark es (entries m) seen.same_view low high most page choice)
