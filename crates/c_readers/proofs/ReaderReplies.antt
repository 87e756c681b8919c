-- The reply of a reader call tells what the call's contract says. Assumes nothing.
use mathlib.Core.Path.{◌≡◌, refl, sym, ◌∙◌}
use mathlib.Core.Bool.{Bool, true, false, cond}
use mathlib.Core.List.{List}
use Prim.Native.Nat.{ℕ, min}
use lib.Dec.{eqb}
use lib.ListN.{length}
use Rattle.std.specs.Prelude.{Result, Ok, Err}
use Rattle.std.specs.Bool.{⊤}
use Rattle.wal_types.specs.declared.SharedReadMark.{SharedReadMark}
use Rattle.wal_types.specs.declared.SharedWalOwnershipMode.{SharedWalOwnershipMode}
use Rattle.wal_types.specs.declared.SharedWalOwnershipMode.TheVariants.{LinuxOfd, ProcessScopedFcntl}
use Rattle.wal_types.specs.declared.settings.ReaderSettings.{ReaderSettings}
use Rattle.wal_types.specs.declared.refusal.Refusal.{Refusal}
use Rattle.wal_types.specs.declared.refusal.Refusal.TheVariants.{Settings as BadSettings}
use Rattle.wal_types.specs.Refusal.{refused_number}
use Rattle.wal_types.specs.Memory.{Memory, Process}
use Rattle.wal_types.specs.Mode.{mode_given}
use Rattle.wal_types.specs.Call.{Call, Answer, Done, refusal, after, done}
use Rattle.reader_slots.specs.Slots.{is_in_registry}
use Rattle.reader_slots.specs.declared.slots.SharedSlots.{SharedSlots}
use Rattle.reader_slots.specs.Inner.{LentCall}
use Rattle.reader_register.specs.Register.{register_reader}
use Rattle.reader_moves.specs.Update.{unregister_reader, release_answer, MoveCall}
use Rattle.reader_moves.specs.declared.update.SlotInRegistry.{SlotInRegistry}
use Rattle.reader_moves.specs.Inner.{LentRelease}
use Rattle.reader_floor.specs.Floor.{min_active_reader_frame, has_active_db_file_reader}
use Rattle.reader_limit.specs.Limit.{copy_back_limit}
use Rattle.reader_limit.specs.Inner.{LentLimit}
use Rattle.reader_marks.specs.declared.MarkInRegistry.{MarkInRegistry}
use Rattle.reader_marks.specs.InnerScan.{seen_of}
use Rattle.reader_shared.specs.Shared.{register_reader_for_snapshot, unregister_reader_for_snapshot, unshare_answer, registry_in}
use Rattle.reader_shared.specs.Inner.{PlanCall, PlanCarried}
use Rattle.c_numbers.specs.Mode.{with_mode}
use Rattle.c_numbers.specs.Reply.{refusal_number}
use Rattle.c_reader_replies.specs.ReaderReply.{settings_given}
use Rattle.c_readers.specs.ReaderReplied.{Told, SlotsReplied, RegistryReplied, MoveReplied, LimitReplied}

-- Of 0 slots the call is refused with 1.
abbrev pub NeedsSlots : (ℕ → SharedWalOwnershipMode → Call) → Type 0
NeedsSlots call = (mode : SharedWalOwnershipMode) (m : Memory) (p : Process) → call 0 mode m p ≡ refusal 1 p

pub register_needs_slots : (owner mark : ℕ) (bytes : List ℕ) → NeedsSlots (λ n mode. register_reader n mode owner mark bytes)
unfolding register_reader
register_needs_slots owner mark bytes mode m p = refl

pub release_needs_slots : (slot owner : ℕ) → NeedsSlots (λ n mode. unregister_reader n mode slot owner)
unfolding unregister_reader
release_needs_slots slot owner mode m p = refl

pub share_needs_slots : (owner mark : ℕ) (bytes : List ℕ) → NeedsSlots (λ n mode. register_reader_for_snapshot n mode owner mark bytes)
unfolding register_reader_for_snapshot
share_needs_slots owner mark bytes mode m p = refl

pub unshare_needs_slots : (mark slot owner : ℕ) → NeedsSlots (λ n mode. unregister_reader_for_snapshot n mode mark slot owner)
unfolding unregister_reader_for_snapshot
unshare_needs_slots mark slot owner mode m p = refl

pub floor_needs_slots : (bytes : List ℕ) → NeedsSlots (λ n mode. min_active_reader_frame n mode bytes)
unfolding min_active_reader_frame
floor_needs_slots bytes mode m p = refl

pub db_file_needs_slots : (bytes : List ℕ) → NeedsSlots (λ n mode. has_active_db_file_reader n mode bytes)
unfolding has_active_db_file_reader
db_file_needs_slots bytes mode m p = refl

pub limit_needs_slots : (bytes : List ℕ) → NeedsSlots (λ n mode. copy_back_limit n mode bytes)
unfolding copy_back_limit
limit_needs_slots bytes mode m p = refl

-- the number of a release's refusal, and of a shared one's
pub release_number : (answer : Result ⊤ Refusal) → refused_number answer ≡ refusal_number (release_answer answer)
release_number (Ok x) = refl
release_number (Err r) = refl

pub unshare_number : (answer : Result ℕ Refusal) → refused_number answer ≡ refusal_number (unshare_answer answer)
unshare_number (Ok place) = refl
unshare_number (Err r) = refl

-- A reply tells an answer of the outcome that has it.
pub told_by : {R : Type 0} (reply_of : Answer → R) (r : R) (a : Answer) (m : Memory) (p : Process) (d : Done) → r ≡ reply_of a → d ≡ done a m p → Told reply_of r m p d
told_by reply_of r a m p d er ed = rw ed (record { reply_told = er; memory_left = refl; process_left = refl })

-- the lent lists as the caller has them after the call
abbrev pub Left : SharedSlots → List ℕ → List ℕ → List ℕ → Type 0
Left v b f o = (b ≡ v.bitmap.now) × (f ≡ v.reader_frames.now) × (o ≡ v.reader_owners.now)

module _ {R : Type 0} (reply_of : Answer → R) (call : ℕ → SharedWalOwnershipMode → Call) (needs : NeedsSlots call) where
  -- the call with its mode's number is the call with the settings that are given for it
  by_settings : (mode n : ℕ) (m : Memory) (p : Process) → after (with_mode (mode_given mode) (call n)) m p ≡ after (call (settings_given (mode_given mode) n).n (settings_given (mode_given mode) n).mode) m p
  unfolding mode_given
  by_settings mode n m p = go (eqb mode 0) (eqb mode 1)
    where
      go : (t u : Bool) → after (with_mode (cond t (Ok LinuxOfd) (cond u (Ok ProcessScopedFcntl) (Err BadSettings))) (call n)) m p ≡ after (call (settings_given (cond t (Ok LinuxOfd) (cond u (Ok ProcessScopedFcntl) (Err BadSettings))) n).n (settings_given (cond t (Ok LinuxOfd) (cond u (Ok ProcessScopedFcntl) (Err BadSettings))) n).mode) m p
      go true u = refl
      go false true = refl
      go false false = rw (needs LinuxOfd m p)

  module _ (mode n : ℕ) (s : ReaderSettings) (given : s ≡ settings_given (mode_given mode) n) (a : Answer) (r : R) (told : r ≡ reply_of a) where
    told_of : (m m' : Memory) (p p' : Process) → after (call s.n s.mode) m p ≡ done a m' p' → Told reply_of r m' p' (after (with_mode (mode_given mode) (call n)) m p)
    told_of m m' p p' e = told_by reply_of r a m' p' _ told (by_settings mode n m p ∙ rw (← given) e)

    pub slots_told : (v : SharedSlots) (l : List ℕ) (v' : SharedSlots) (l' : List ℕ) → LentCall (call s.n s.mode) v l a v' l' → (b' f' o' : List ℕ) → Left v' b' f' o' → SlotsReplied reply_of (with_mode (mode_given mode) (call n)) v.bitmap.now v.reader_frames.now v.reader_owners.now l r b' f' o' l'
    slots_told v l v' l' e b' f' o' left z p = rw (left.0, left.1, left.2) (told_of _ _ _ _ (e.1 z p))

    pub limit_told : (published copied : ℕ) (v : SharedSlots) (l : List ℕ) (v' : SharedSlots) → LentLimit (call s.n s.mode) published copied v l a v' → (b' f' o' : List ℕ) → Left v' b' f' o' → LimitReplied reply_of (with_mode (mode_given mode) (call n)) published copied v.bitmap.now v.reader_frames.now v.reader_owners.now l r b' f' o'
    limit_told published copied v l v' e b' f' o' left z p is_published is_copied = rw (left.0, left.1, left.2) (told_of _ _ _ _ (e.1 z p is_published is_copied))

    -- a release, where this registry has the slot or not
    pub release_told : (slot : ℕ) (g : List SharedReadMark) (told : SlotInRegistry) → told.is_shared ≡ is_in_registry s.n g slot → told.records ≡ length g → (v : SharedSlots) (l : List ℕ) (v' : SharedSlots) (l' : List ℕ) → LentRelease s.n slot told (call s.n s.mode) v l a v' l' → (b' f' o' : List ℕ) → Left v' b' f' o' → RegistryReplied reply_of (with_mode (mode_given mode) (call n)) v.bitmap.now v.reader_frames.now v.reader_owners.now l g r b' f' o' l' g
    release_told slot g told is long v l v' l' e b' f' o' left z p = rw (left.0, left.1, left.2) (told_of _ _ _ _ (e.1 z (registry_in p l g) (sym is) (sym long)))

    -- a plan, where this is seen of the registry, and the change made of it
    pub plan_told : (mark : ℕ) (g : List SharedReadMark) (told : MarkInRegistry) → told.seen ≡ seen_of (min s.n (length g)) g mark → told.records ≡ length g → (v : SharedSlots) (l : List ℕ) (v' : SharedSlots) (l' : List ℕ) (change : List SharedReadMark → List SharedReadMark) → PlanCall s.n mark told (call s.n s.mode) v l a v' l' change → (b' f' o' : List ℕ) → Left v' b' f' o' → RegistryReplied reply_of (with_mode (mode_given mode) (call n)) v.bitmap.now v.reader_frames.now v.reader_owners.now l g r b' f' o' l' (change g)
    unfolding PlanCarried
    plan_told mark g told looked long v l v' l' change e b' f' o' left z p = rw (left.0, left.1, left.2) (told_of _ _ _ _ (e.1 g looked long z p))

-- a move, where this registry has the slot or not
pub move_told : {R : Type 0} (reply_of : Answer → R) (call : Call) (n slot : ℕ) (shared : Bool) (g : List SharedReadMark) → shared ≡ is_in_registry n g slot → (f o : List ℕ) (a : Answer) (f' : List ℕ) → MoveCall n slot shared (length g) call f o a f' → (r : R) → r ≡ reply_of a → MoveReplied reply_of call f o g r f'
move_told reply_of call n slot shared g is f o a f' e r told z p = told_by reply_of r a _ _ _ told (e z (registry_in p p.local_readers g) (sym is) refl)
