-- The copy-back limit, added by the port (document 01, "Copy-back limit"; document 02, Slip 3). Assumes nothing.
use Rattle.std.specs.Prelude.{◌≡◌, Option, Some, None, Result, Ok, Err, Bool, ◌&&◌, cond, List, ℕ, min, eqb, get_or}
use Rattle.wal_types.specs.declared.SharedWalOwnershipMode.{SharedWalOwnershipMode}
use Rattle.wal_types.specs.Settings.{unused}
use Rattle.wal_types.specs.Memory.{Memory, Process}
use Rattle.wal_types.specs.declared.refusal.Refusal.{Refusal}
use Rattle.wal_types.specs.Refusal.{number}
use Rattle.wal_types.specs.Call.{Call, Carried, Answer, refused, value, does, unless, after, done}
use Rattle.reader_slots.specs.Slots.{slots_in, locals_in}
use Rattle.reader_slots.specs.Search.{some_slot}
use Rattle.reader_probe.specs.Live.{live}
use Rattle.reader_floor.specs.Floor.{floor_of, probe_tests, reclaim_dead}

-- the lesser of the published frame and the floor; the published frame if there is no floor
abbrev pub limit_of : ℕ → Option ℕ → ℕ
limit_of published (Some f) = min published f
limit_of published None = published

-- whether a live slot has mark 0: a reader of the database file, live as for the floor
abbrev pub db_file_is_read : ℕ → SharedWalOwnershipMode → List ℕ → Memory → Process → Bool
db_file_is_read n mode bytes m p = some_slot (λ i. live mode bytes p m i && eqb (get_or m.reader_frames i unused) 0) n 0

-- while one has, the lesser of the limit and the number of frames already copied
abbrev pub held_back : Bool → ℕ → ℕ → ℕ
held_back is_read copied limit = cond is_read (min limit copied) limit

abbrev pub limit_at : ℕ → SharedWalOwnershipMode → List ℕ → Memory → Process → ℕ
limit_at n mode bytes m p =
    held_back (db_file_is_read n mode bytes m p) m.header.nbackfills (limit_of m.header.max_frame (floor_of n mode bytes m p))

-- It reclaims and refuses as the floor does.
unfoldable pub copy_back_limit : ℕ → SharedWalOwnershipMode → List ℕ → Call
copy_back_limit n mode bytes =
    unless (probe_tests n mode bytes n) (λ m p. does (value (limit_at n mode bytes m p)) (reclaim_dead mode bytes p n) m p)

-- what the answer tells
abbrev pub limit_answer : Result ℕ Refusal → Answer
limit_answer (Ok frame) = value frame
limit_answer (Err r) = refused (number r)

-- On any memory whose published frame and number of copied frames are those given, with the lists b, f and o in it, by any
-- process with the local owners l, it answers a, leaves the lists b', f' and o', and changes nothing else.
abbrev pub LimitCarried : Carried → ℕ → ℕ → List ℕ → List ℕ → List ℕ → List ℕ → Answer → List ℕ → List ℕ → List ℕ → Type 0
LimitCarried carried published copied b f o l a b' f' o' =
    (z : Memory) (p : Process) → z.header.max_frame ≡ published → z.header.nbackfills ≡ copied → carried (slots_in z b f o) (locals_in p l) ≡ done a (slots_in z b' f' o') (locals_in p l)

abbrev pub LimitCall : Call → ℕ → ℕ → List ℕ → List ℕ → List ℕ → List ℕ → Answer → List ℕ → List ℕ → List ℕ → Type 0
LimitCall call = LimitCarried (after call)
