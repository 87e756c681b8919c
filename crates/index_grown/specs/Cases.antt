-- Document 01's table of proved cases, in one table: homes of pages, then lookups and lists after its three records on fresh memory. Assumes nothing.
use Rattle.std.specs.Prelude.{Option, Some, None, ◌≡◌, false, [], ◌∷◌, ℕ, ◌≤◌}
use Rattle.wal_types.specs.Memory.{Memory, Process}
use Rattle.wal_types.specs.Fresh.{Fresh}
use Rattle.wal_types.specs.Call.{pair, Answer, frame_found, none, listed, Done, after}
use Rattle.index_hash.specs.Home.{home}
use Rattle.index_record.specs.Record.{record_frame}
use Rattle.index_find.specs.Find.{find_frame}
use Rattle.list_latest.specs.Latest.{iter_latest_frames}
use Rattle.index_grown.specs.Grown.{LongMemory}

-- R page frame, as the program makes it: capacity 4,096, B 1, growth no
abbrev pub recorded : ℕ → ℕ → Memory → Process → Done
recorded page frame m p = after (record_frame 4096 1 page frame false) m p

-- the memory after R 7 1, R 8199 2, R 7 3
abbrev pub three_records : Memory → Process → Memory
three_records m p = (recorded 7 3 (recorded 8199 2 (recorded 7 1 m p).memory p).memory p).memory

-- what a lookup and a list answer after them
abbrev pub then_find : Memory → Process → ℕ → ℕ → ℕ → Option ℕ → Answer
then_find m p page low high w = (after (find_frame 4096 1 page low high w) (three_records m p) p).answer

abbrev pub then_list : Memory → Process → ℕ → ℕ → ℕ → ℕ → Answer
then_list m p low high room_pages room_frames = (after (iter_latest_frames 4096 1 low high room_pages room_frames) (three_records m p) p).answer

-- The table, a field for each case. m is the memory before the three records, p the process.
pub record Cases (m : Memory) (p : Process) : Type 0 where
  -- homes: 1→383, 22→234, 8,192→0, 8,193→383, 2^64-1→7,809
  pub home_1 : home 1 ≡ 383
  pub home_22 : home 22 ≡ 234
  pub home_8192 : home 8192 ≡ 0
  pub home_8193 : home 8193 ≡ 383
  pub home_last : home 18446744073709551615 ≡ 7809
  -- page 7 in 2..2 none; in 1..3 gives 3
  pub page_7_in_2_2 : then_find m p 7 2 2 None ≡ none
  pub page_7_in_1_3 : then_find m p 7 1 3 None ≡ frame_found 3
  -- min 2 with watermark 2 gives 1, min 2 with watermark 1 none: whatever max is
  pub page_7_watermark_2 : (high : ℕ) → then_find m p 7 2 high (Some 2) ≡ frame_found 1
  pub page_7_watermark_1 : (high : ℕ) → then_find m p 7 2 high (Some 1) ≡ none
  -- list 2..2 is (8,199, 2); list 1..3 is (7, 3), (8,199, 2); list 3..2 is empty: with output cells enough
  pub list_2_2 : (room_pages room_frames : ℕ) → 1 ≤ room_pages → 1 ≤ room_frames → then_list m p 2 2 room_pages room_frames ≡ listed (pair 8199 2 ∷ [])
  pub list_1_3 : (room_pages room_frames : ℕ) → 2 ≤ room_pages → 2 ≤ room_frames → then_list m p 1 3 room_pages room_frames ≡ listed (pair 7 3 ∷ (pair 8199 2 ∷ []))
  pub list_3_2 : (room_pages room_frames : ℕ) → then_list m p 3 2 room_pages room_frames ≡ listed []

-- The cases hold on any fresh memory with one block in use and cells for a block, for any process.
unfoldable pub ProvedCases : Type 0
ProvedCases = (m : Memory) (n : ℕ) → Fresh 1 1 n m → LongMemory 1 m → (p : Process) → Cases m p
