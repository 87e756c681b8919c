-- Words for the contracts of the inner functions: their tests and the form of their calls, over the lent lists. No contract of a C
-- function cites them. Assumes nothing.
use Rattle.std.specs.Prelude.{Option, Bool, not, ◌&&◌, List, ◌++◌, ℕ, eqb, get_or}
use Rattle.wal_types.specs.declared.SharedWalOwnershipMode.{SharedWalOwnershipMode}
use Rattle.wal_types.specs.Settings.{is_fcntl}
use Rattle.wal_types.specs.Memory.{slot_bit}
use Rattle.wal_types.specs.Refusal.{lowest}
use Rattle.wal_types.specs.Call.{Answer}
use Rattle.wal_types.specs.declared.settings.ReaderSettings.{ReaderSettings}
use Rattle.wal_types.specs.declared.settings.Reader.{Reader}
use Rattle.reader_slots.specs.declared.slots.SharedSlots.{SharedSlots}
use Rattle.std.specs.Option.{option_or}
use Rattle.reader_slots.specs.Search.{lowest_slot}
use Rattle.reader_slots.specs.Inner.{LentCall, slots_tests, reader_tests, card_tests, available_by}
use Rattle.reader_register.specs.Register.{registers}

-- a slot that is reclaimed, by the bitmap b, the slot owners o and the local owners l
abbrev pub stale_by : SharedWalOwnershipMode → List ℕ → List ℕ → List ℕ → List ℕ → ℕ → Bool
stale_by mode bytes b o l i =
    not (eqb (slot_bit b i) 1) && not (not (eqb (get_or l i 0) 0)) && eqb (get_or bytes i 0) 1
    && not (is_fcntl mode && eqb (get_or o i 0) 0)

-- the slot that a registration takes: the lowest one that is free, or else the lowest one that is stale
unfoldable pub chosen_by : ReaderSettings → List ℕ → List ℕ → List ℕ → List ℕ → Option ℕ
chosen_by settings bytes b o l =
    option_or (lowest_slot (available_by b l bytes) settings.n 0) (lowest_slot (stale_by settings.mode bytes b o l) settings.n 0)

-- the number of the refusal, 0 for none
unfoldable pub register_refusal : ℕ → SharedSlots → List ℕ → Reader → List ℕ → ℕ
register_refusal n s l reader bytes = lowest (slots_tests n s l ++ reader_tests reader.owner.0 reader.mark ++ card_tests n bytes)

-- register_reader where none of its refusals applies
unfoldable pub RegistersCall : ReaderSettings → Reader → List ℕ → SharedSlots → List ℕ → Answer → SharedSlots → List ℕ → Type 0
RegistersCall settings reader bytes s l a s' l' = LentCall (registers settings.n settings.mode reader.owner.0 reader.mark bytes) s l a s' l'
