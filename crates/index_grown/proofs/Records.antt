-- record_frame on a grown index: by its cases, what is left, and that it stays grown. Assumes nothing.
use mathlib.Core.Path.{◌≡◌, refl, sym, ◌∙◌, ap, subst}
use mathlib.Core.Bool.{Bool, true, false, cond}
use mathlib.Core.List.{List, [], ◌∷◌, ◌++◌}
use mathlib.Core.Logic.{◌⊎◌, inl, inr}
use Prim.Native.Nat.{ℕ, ◌+◌, ◌-◌, ◌*◌, ◌/◌, ◌%◌, ◌<◌, ◌≤◌, min}
use native.Mathlib.Decide.{ℕ_discrete}
use native.Mathlib.Nat.{eq-or-lt_of_le}
use native.Mathlib.Omega.{arith}
use lib.ListN.{length, get_or, set, length-set}
use lib.Seq.{get_or-set_same, get_or-set_other}
use Rattle.std.specs.Prelude.{Option, Some, None}
use Rattle.wal_types.specs.declared.Header.{Header}
use Rattle.wal_types.specs.Memory.{Memory, Process, frame_index_len_cell, frame_index_overflowed_cell}
use Rattle.wal_types.specs.Call.{Pair, pair, refused, stored, dropped, Done, done, after}
use Rattle.index_hash.specs.Block.{empty_cell, inserted, built}
use Rattle.index_hash.proofs.Empty.{inserted_at}
use Rattle.index_hash.proofs.Built.{built_length}
use Rattle.index_hash.proofs.Used.{never_full}
use Rattle.index_end.specs.declared.cells.IndexCells.{IndexCells}
use Rattle.index_find.specs.Index.{bad_settings, short_index, index_refusal, block_of, place_of, block_cells_of, block_pages_of, with_block, index_in}
use Rattle.index_end.specs.Cells.{cells_with, with_cells}
use Rattle.index_end.specs.Place.{started, placed, out_of_order}
use Rattle.index_record.specs.Record.{record_frame}
use Rattle.index_find.proofs.Blocks.{length_with}
use Rattle.index_record.proofs.Placed.{started_blocks, started_len}
use Rattle.index_record.proofs.Recorded.{record_refused, record_dropped, record_out_of_order, record_first, record_next}
use Rattle.index_grown.specs.Entries.{entries_of, entries, entries_found}
use Rattle.index_grown.specs.Grown.{FramesRise, Grown}
use Rattle.index_grown.specs.Calls.{RecordLeaves, left_stored, left_dropped, left_refused, SameReaders}
use Rattle.index_grown.proofs.Entries.{entries_stored, entries_each, rises_to}
use Rattle.index_grown.proofs.Lists.{Each}
use Rattle.index_grown.proofs.Blocks.{built_set_past, with_last, full_blocks}
use Rattle.index_grown.proofs.Starts.{header_grown}
use Rattle.index_grown.proofs.Places.{started_cases, started_entries, AtEndOf, at_end_of, above_last, built_entry, built_first}

-- refusals 1 and 2 are not 4
not_four : (a b : Bool) → ◌≡◌ {A = ℕ} (cond a 1 (cond b 2 0)) 4 → ⊥
not_four true b e = omega (arith, e)
not_four false true e = omega (arith, e)
not_four false false e = omega (arith, e)

-- the memory after a stored record: the entry at the end, and its block built with it
abbrev pub with_entry : ℕ → ℕ → Memory → IndexCells → Memory
with_entry page frame m g =
    index_in m (with_cells (cells_with frame_index_len_cell (g.frame_index_len + 1) g) m.header) (set m.pages g.frame_index_len page) (set m.frames g.frame_index_len frame)
    (with_block (block_of g.frame_index_len) (built (block_pages_of (block_of g.frame_index_len) (set m.pages g.frame_index_len page)) (place_of g.frame_index_len + 1)) m.hash)

-- after a dropped one: the flag set
abbrev pub with_drop : ℕ → Memory → Memory
with_drop frame m = index_in m (with_cells (cells_with frame_index_overflowed_cell 1 (started frame m.header)) m.header) m.pages m.frames m.hash

module _ (capacity b page frame : ℕ) (grow : Bool) (m : Memory) (p : Process) (grown : Grown capacity b m) where
  abbrev h : Header
  h = m.header

  abbrev call_done : Done
  call_done = after (record_frame capacity b page frame grow) m p

  abbrev number_of : ℕ
  number_of = index_refusal capacity b h (length m.pages) (length m.frames) (length m.hash)

  -- an entry at the end, above the last frame
  module _ (g : IndexCells) (at_end : placed capacity b grow (started frame h) ≡ Some g) where
    abbrev n : ℕ
    n = g.frame_index_len

    pub end_of : AtEndOf capacity b (started frame h) g
    end_of =
        let sb = started_blocks frame h in
        let sl = started_len frame h in
        let i = grown.len_in_blocks in
        let j = grown.blocks_in_limit in
        at_end_of capacity b grow (started frame h) g at_end (omega arith) (omega arith)

    -- the room that it has
    pub room : (n ≤ h.frame_index_len) × ((n < 4096 * b) × ((n < length m.pages) × ((n < length m.frames) × (8192 * (n / 4096) + 8192 ≤ length m.hash))))
    room =
        let e = end_of in
        let sl = started_len frame h in
        let l = grown.long in
        (omega arith, (omega arith, (omega arith, (omega arith, omega arith))))

    -- past the first place of its block the entry follows those that are there
    follows : (place_of n ≡ 0 → ⊥) → block_cells_of (block_of n) m.hash ≡ built (block_pages_of (block_of n) m.pages) (place_of n)
    follows o = go (started_cases frame h)
      where
        go : ((started frame h).frame_index_len ≡ 0) ⊎ ((started frame h).frame_index_len ≡ h.frame_index_len) → block_cells_of (block_of n) m.hash ≡ built (block_pages_of (block_of n) m.pages) (place_of n)
        go (inl z) = let e = end_of.same_len in let q : n % 4096 ≡ 0 = omega arith in absurd (o q)
        go (inr s) =
            let e : n ≡ h.frame_index_len = end_of.same_len ∙ s in
            let c : min (h.frame_index_len - 4096 * (n / 4096)) 4096 ≡ n % 4096 = omega arith in
            let d : n % 4096 ≡ 0 → ⊥ = o in
            grown.blocks_built (block_of n) (omega arith) ∙ ap (built (block_pages_of (block_of n) m.pages)) c

    -- it always finds an empty cell
    pub never_four : (place_of n ≡ 0 → ⊥) → empty_cell (block_cells_of (block_of n) m.hash) page ≡ None → ⊥
    never_four o e = never_full (block_pages_of (block_of n) m.pages) (place_of n) page (omega arith) (ap (λ (x : List ℕ). empty_cell x page) (sym (follows o)) ∙ e)

    module _ (passed : number_of ≡ 0) (in_order : out_of_order frame n m.frames ≡ false) where
      -- STORED: in closed form
      pub stores : call_done ≡ done stored (with_entry page frame m g) p
      stores = go (ℕ_discrete (place_of n) 0)
        where
          fits : 8192 * (n / 4096) + 8192 ≤ length m.hash
          fits = room.1.1.1.1

          next : (c : Option ℕ) → empty_cell (block_cells_of (block_of n) m.hash) page ≡ c → (place_of n ≡ 0 → ⊥) → call_done ≡ done stored (with_entry page frame m g) p
          next None e o = absurd (never_four o e)
          next (Some c) e o =
              record_next capacity b page frame grow m h m.pages m.frames m.hash p passed g at_end c in_order o fits e
              ∙ ap (λ (cells : List ℕ). done stored (index_in m (with_cells (cells_with frame_index_len_cell (n + 1) g) h) (set m.pages n page) (set m.frames n frame) (with_block (block_of n) cells m.hash)) p)
              (sym (inserted_at (block_cells_of (block_of n) m.hash) (place_of n) page c e)
              ∙ (ap (λ (x : List ℕ). inserted x (place_of n) page) (follows o) ∙ sym (built_entry n page m.pages room.1.1.0)))

          go : Dec (place_of n ≡ 0) → call_done ≡ done stored (with_entry page frame m g) p
          go (yes o) =
              record_first capacity b page frame grow m h m.pages m.frames m.hash p passed g at_end in_order o fits
              ∙ ap (λ (cells : List ℕ). done stored (index_in m (with_cells (cells_with frame_index_len_cell (n + 1) g) h) (set m.pages n page) (set m.frames n frame) (with_block (block_of n) cells m.hash)) p)
              (built_first n page m.pages room.1.1.0 o)
          go (no o) = next (empty_cell (block_cells_of (block_of n) m.hash) page) refl o

      -- the frames still rise
      still_rise : FramesRise (n + 1) (set m.frames n frame)
      still_rise i j l b = go (eq-or-lt_of_le {n = j} {m = n} (omega arith))
        where
          earlier : (i : ℕ) → i < n → get_or (set m.frames n frame) i 0 ≡ get_or m.frames i 0
          earlier i b = get_or-set_other m.frames n i frame 0 (λ e. absurd (omega arith))

          go : (j ≡ n) ⊎ (j < n) → get_or (set m.frames n frame) i 0 < get_or (set m.frames n frame) j 0
          go (inl e) =
              let r = room in
              rw (earlier i (omega arith), e, get_or-set_same m.frames n frame 0 room.1.1.1.0)
              (omega (arith, above_last frame n m.frames in_order (omega arith), rises_to h.frame_index_len m.frames grown.frames_rise i (n - 1) (omega arith) (omega arith)))
          go (inr s) = let r = room in rw (earlier i (omega arith), earlier j s) (grown.frames_rise i j l (omega arith))

      pub entry_grown : Grown capacity b (with_entry page frame m g)
      entry_grown =
          let r = room in
          let e = end_of in
          let l = grown.long in
          let cells = built (block_pages_of (block_of n) (set m.pages n page)) (place_of n + 1) in
          let lw : length (with_block (block_of n) cells m.hash) ≡ length m.hash = length_with (block_of n) m.hash room.1.1.1.1 cells (built_length (block_pages_of (block_of n) (set m.pages n page)) (place_of n + 1)) in
          let lp = length-set m.pages n page in
          let lf = length-set m.frames n frame in
          record {
            long = record { pages_long = omega arith; frames_long = omega arith; hash_long = omega arith };
            len_in_capacity = omega arith;
            len_in_blocks = omega arith;
            blocks_in_limit = e.in_limit;
            frames_rise = still_rise;
            blocks_built =
                with_last (n / 4096) (n % 4096 + 1) (set m.pages n page) m.hash (omega arith) (omega arith) room.1.1.1.1
                (λ j b. full_blocks h.frame_index_len m.pages m.hash grown.blocks_built (n / 4096) j (omega arith) b ∙ sym (built_set_past j 4096 n page m.pages (omega arith) (omega arith)))
                (n + 1) (omega arith);
          }

      -- the entries, and the new one
      pub entry_entries : entries (with_entry page frame m g) ≡ entries_found frame m ++ (pair page frame ∷ [])
      entry_entries =
          entries_stored m.pages m.frames n page frame room.1.1.0 room.1.1.1.0
          ∙ ap (λ (l : List Pair). l ++ (pair page frame ∷ [])) (ap (λ (i : ℕ). entries_of i m.pages m.frames) end_of.same_len ∙ started_entries frame h m.pages m.frames)

      -- and its frame is above theirs
      pub entry_above : Each (λ q. q.frame < frame) (entries_found frame m)
      entry_above =
          let r = room in
          subst (Each (λ q. q.frame < frame)) (ap (λ (i : ℕ). entries_of i m.pages m.frames) end_of.same_len ∙ started_entries frame h m.pages m.frames)
          (entries_each m.pages m.frames (λ q. q.frame < frame) n
          (λ i l. omega (arith, above_last frame n m.frames in_order (omega arith), rises_to h.frame_index_len m.frames grown.frames_rise i (n - 1) (omega arith) (omega arith))))

  -- BY CASES: a record is refused, never with 4, and changes nothing; or dropped; or stored at the end
  pub record_cases : (P : Done → Type 0) → ((n : ℕ) → (n ≡ 4 → ⊥) → P (done (refused n) m p))
      → (number_of ≡ 0 → placed capacity b grow (started frame h) ≡ None → P (done dropped (with_drop frame m) p))
      → ((g : IndexCells) → number_of ≡ 0 → placed capacity b grow (started frame h) ≡ Some g → out_of_order frame g.frame_index_len m.frames ≡ false → P (done stored (with_entry page frame m g) p))
      → P call_done
  record_cases P refuses drops enters = by_number (ℕ_discrete number_of 0)
    where
      by_cell : number_of ≡ 0 → (g : IndexCells) → placed capacity b grow (started frame h) ≡ Some g → (o : Bool) → out_of_order frame g.frame_index_len m.frames ≡ o → P call_done
      by_cell passed g e true o =
          subst P (sym (record_out_of_order capacity b page frame grow m h m.pages m.frames m.hash p passed g e o)) (refuses 3 (λ q. omega (arith, q)))
      by_cell passed g e false o = subst P (sym (stores g e passed o)) (enters g passed e o)

      by_place : number_of ≡ 0 → (r : Option IndexCells) → placed capacity b grow (started frame h) ≡ r → P call_done
      by_place passed None e = subst P (sym (record_dropped capacity b page frame grow m h m.pages m.frames m.hash p passed e)) (drops passed e)
      by_place passed (Some g) e = by_cell passed g e (out_of_order frame g.frame_index_len m.frames) refl

      by_number : Dec (number_of ≡ 0) → P call_done
      by_number (yes passed) = by_place passed (placed capacity b grow (started frame h)) refl
      by_number (no i) =
          subst P (sym (record_refused capacity b page frame grow m h m.pages m.frames m.hash p number_of refl i))
          (refuses number_of (not_four (bad_settings capacity b h) (short_index b (length m.pages) (length m.frames) (length m.hash))))

  -- KEPT: a record, stored, dropped or refused, leaves a grown index
  pub record_grown : Grown capacity b call_done.memory
  record_grown =
      record_cases (λ d. Grown capacity b d.memory) (λ n i. grown)
      (λ passed e. header_grown capacity b m grown (with_drop frame m) refl refl refl (started_blocks frame h) (started_cases frame h))
      (λ g passed e o. entry_grown g e passed o)

  -- THE ENTRIES: stored, the pair comes at the end of those that it found; dropped, it leaves those; refused, nothing changes
  pub record_leaves : RecordLeaves page frame m call_done.memory call_done.answer
  record_leaves =
      record_cases (λ d. RecordLeaves page frame m d.memory d.answer) (λ n i. left_refused refl)
      (λ passed e. left_dropped (started_entries frame h m.pages m.frames))
      (λ g passed e o. left_stored (entry_entries g e passed o))

  -- the published frame and the reader slots stay
  pub record_elsewhere : SameReaders m call_done.memory
  record_elsewhere =
      record_cases (λ d. SameReaders m d.memory) (λ n i. record { same_published = refl; same_bitmap = refl; same_reader_frames = refl; same_reader_owners = refl })
      (λ passed e. record { same_published = refl; same_bitmap = refl; same_reader_frames = refl; same_reader_owners = refl })
      (λ g passed e o. record { same_published = refl; same_bitmap = refl; same_reader_frames = refl; same_reader_owners = refl })

  -- a stored record's frame is above that of every entry that it found
  pub record_above : call_done.answer ≡ stored → Each (λ q. q.frame < frame) (entries_found frame m)
  record_above =
      record_cases (λ d. d.answer ≡ stored → Each (λ q. q.frame < frame) (entries_found frame m))
      (λ n i e. let z : ◌≡◌ {A = ℕ} 0 1 = cc in absurd (omega arith))
      (λ passed e q. let z : ◌≡◌ {A = ℕ} 0 1 = cc in absurd (omega arith))
      (λ g passed e o q. entry_above g e passed o)

  -- NEVER FULL: no record on a grown index is refused with 4
  pub record_never_full : call_done.answer ≡ refused 4 → ⊥
  record_never_full =
      record_cases (λ d. d.answer ≡ refused 4 → ⊥) (λ n i e. let q : n ≡ 4 = cc in i q)
      (λ passed e q. let z : ◌≡◌ {A = ℕ} 0 1 = cc in omega arith)
      (λ g passed e o q. let z : ◌≡◌ {A = ℕ} 0 1 = cc in omega arith)
