-- find_frame and iter_latest_frames on a grown index: what the calls answer. Assumes nothing.
use mathlib.Core.Path.{◌≡◌, refl, sym, ◌∙◌, ap, subst}
use mathlib.Core.Bool.{true, ◌||◌}
use mathlib.Core.List.{List, [], ◌∷◌}
use Prim.Native.Nat.{ℕ, ◌<◌, ◌≤◌}
use native.Mathlib.Decide.{ℕ_discrete}
use lib.Dec.{ltb}
use lib.ListN.{length}
use borrow.Author.Tests.{le-ltb}
use Rattle.std.specs.Prelude.{Option, Some, None}
use Rattle.wal_types.specs.Settings.{capacity_in_limits, max_blocks_in_limits, entries_for, cells_for}
use Rattle.wal_types.specs.Memory.{Memory, Process}
use Rattle.wal_types.specs.Refusal.{Test, ◌if◌, lowest}
use Rattle.wal_types.specs.declared.refusal.Refusal.TheVariants.{ShortList}
use Rattle.wal_types.specs.Call.{Call, Answer, refused, none, listed, does, Done, done, after, unless}
use Rattle.wal_types.proofs.Refusals.{call_refused, call_accepted}
use Rattle.index_find.specs.Index.{index_refusal}
use Rattle.index_find.specs.Find.{lookup_answer, find_answer, find_frame}
use Rattle.index_find.proofs.Refused.{index_passed}
use Rattle.index_find.proofs.LookedUp.{find_refused}
use Rattle.list_latest.specs.Latest.{listed_entries, pairs_of, list_tests, iter_latest_frames}
use Rattle.index_grown.specs.Entries.{entries, greatest}
use Rattle.index_grown.specs.Grown.{Grown}
use Rattle.index_grown.proofs.Found.{lookup_gives, lookup_below, lookup_watermark}

module _ (capacity b : ℕ) (m : Memory) (grown : Grown capacity b m) where
  abbrev number_of : ℕ
  number_of = index_refusal capacity b m.header (length m.pages) (length m.frames) (length m.hash)

  -- ACCEPTED: with settings in their limits, no call on a grown index is refused with 1 or 2
  pub grown_accepted : capacity_in_limits capacity ≡ true → max_blocks_in_limits b ≡ true → number_of ≡ 0
  grown_accepted c d =
      let l = grown.long in
      rw (
        c,
        d,
        le-ltb capacity m.header.frame_index_len grown.len_in_capacity,
        le-ltb b m.header.frame_index_blocks grown.blocks_in_limit,
        le-ltb (entries_for m.header.frame_index_blocks) m.header.frame_index_len grown.len_in_blocks,
        le-ltb (length m.pages) (entries_for b) l.pages_long,
        le-ltb (length m.frames) (entries_for b) l.frames_long,
        le-ltb (length m.hash) (cells_for b) l.hash_long,
      )

  module _ (p : Process) where
    find_answers : (page low high : ℕ) (w : Option ℕ) (a : Answer) → number_of ≡ 0 → find_answer page low high w m ≡ a → after (find_frame capacity b page low high w) m p ≡ done a m p
    unfolding find_frame
    find_answers page low high w a passed e =
        index_passed capacity b (λ m p. []) (λ m. does (find_answer page low high w m) (λ z. []) m) m p passed ∙ ap (λ (x : Answer). done x m p) e

    -- a lookup answers the greatest frame of the page within the bounds, or none; and changes nothing
    pub find_done : (page low high : ℕ) → number_of ≡ 0 → after (find_frame capacity b page low high None) m p ≡ done (lookup_answer (greatest (entries m) page low high)) m p
    find_done page low high passed = find_answers page low high None _ passed (lookup_gives capacity b m grown page low high)

    -- with a watermark below min: none; else the greatest frame of the page up to it
    pub find_below : (page low high w : ℕ) → number_of ≡ 0 → w < low → after (find_frame capacity b page low high (Some w)) m p ≡ done none m p
    find_below page low high w passed l = find_answers page low high (Some w) none passed (lookup_below capacity b m grown page low high w l)

    pub find_watermark : (page low high w : ℕ) → number_of ≡ 0 → low ≤ w → after (find_frame capacity b page low high (Some w)) m p ≡ done (lookup_answer (greatest (entries m) page 0 w)) m p
    find_watermark page low high w passed l = find_answers page low high (Some w) _ passed (lookup_watermark capacity b m grown page low high w l)

    -- BY CASES: a lookup without a watermark is refused, or answers by the entries; in both it changes nothing
    pub find_cases : (page low high : ℕ) (P : Done → Type 0) → ((n : ℕ) → P (done (refused n) m p)) → P (done (lookup_answer (greatest (entries m) page low high)) m p) → P (after (find_frame capacity b page low high None) m p)
    find_cases page low high P refuses finds = go (ℕ_discrete number_of 0)
      where
        go : Dec (number_of ≡ 0) → P (after (find_frame capacity b page low high None) m p)
        go (yes e) = subst P (sym (find_done page low high e)) finds
        go (no i) = subst P (sym (find_refused capacity b page low high None m m.header m.pages m.frames m.hash p number_of refl i)) (refuses number_of)

-- iter_latest_frames, on any memory
module _ (capacity b low high room_pages room_frames : ℕ) (m : Memory) (p : Process) where
  abbrev tests : Memory → Process → List Test
  tests m p = list_tests capacity b low high room_pages room_frames m

  abbrev lists : Call
  lists m = does (listed (pairs_of m (listed_entries low high m))) (λ z. []) m

  -- BY CASES: a list is refused, or gives the pairs of the entries; in both it changes nothing
  pub list_cases : (P : Done → Type 0) → ((n : ℕ) → P (done (refused n) m p)) → P (done (listed (pairs_of m (listed_entries low high m))) m p) → P (after (iter_latest_frames capacity b low high room_pages room_frames) m p)
  unfolding iter_latest_frames
  list_cases P refuses gives = go (ℕ_discrete (lowest (tests m p)) 0)
    where
      go : Dec (lowest (tests m p) ≡ 0) → P (after (unless tests lists) m p)
      go (yes e) = subst P (sym (call_accepted tests lists m p e)) gives
      go (no i) = subst P (sym (call_refused tests lists m p (lowest (tests m p)) refl i)) (refuses (lowest (tests m p)))

  -- accepted, with output cells enough
  pub list_done : index_refusal capacity b m.header (length m.pages) (length m.frames) (length m.hash) ≡ 0 → length (listed_entries low high m) ≤ room_pages → length (listed_entries low high m) ≤ room_frames
      → after (iter_latest_frames capacity b low high room_pages room_frames) m p ≡ done (listed (pairs_of m (listed_entries low high m))) m p
  unfolding iter_latest_frames
  list_done passed i j =
      index_passed capacity b own lists m p passed ∙ call_accepted own lists m p (rw (le-ltb _ _ i, le-ltb _ _ j))
    where
      own : Memory → Process → List Test
      own m p = (ShortList if (ltb room_pages (length (listed_entries low high m)) || ltb room_frames (length (listed_entries low high m)))) ∷ []
