-- The reader calls' answers as replies, and settings read from numbers. Assumes nothing.
use Rattle.std.specs.Prelude.{Option, Some, None, Result, Ok, Err, ℕ}
use Rattle.wal_types.specs.declared.SharedWalOwnershipMode.{SharedWalOwnershipMode}
use Rattle.wal_types.specs.declared.SharedWalOwnershipMode.TheVariants.{LinuxOfd}
use Rattle.wal_types.specs.declared.settings.ReaderSettings.{ReaderSettings}
use Rattle.wal_types.specs.declared.refusal.Refusal.{Refusal}
use Rattle.wal_types.specs.Refusal.{number}
use Rattle.wal_types.specs.Call.{Answer, refused, slot_taken, none, if_slot}
use Rattle.c_numbers.specs.Reply.{refusal_number, answer_number, found_number}
use Rattle.c_reader_replies.specs.declared.HeldSlot.{HeldSlot}
use Rattle.c_reader_replies.specs.declared.ReaderReply.{ReaderReply}
use Rattle.c_reader_replies.specs.declared.FloorReply.{FloorReply}
use Rattle.c_reader_replies.specs.declared.DbFileReply.{DbFileReply}
use Rattle.c_reader_replies.specs.declared.LimitReply.{LimitReply}

-- A mode with the number of slots: 0 of them where the mode is unknown.
abbrev pub settings_given : Result SharedWalOwnershipMode Refusal → ℕ → ReaderSettings
settings_given (Ok mode) n = record { n = n; mode = mode }
settings_given (Err r) n = record { n = 0; mode = LinuxOfd }

-- What a slot that is held tells, none, or a refusal.
abbrev pub held_answer : Result (Option HeldSlot) Refusal → Answer
held_answer (Ok (Some held)) = slot_taken held.slot held.reader.owner.0 held.reader.mark
held_answer (Ok None) = none
held_answer (Err r) = refused (number r)

-- The reply that tells an answer: of a slot, of a floor, of a database file reader, of a limit.
abbrev pub no_slot : ℕ → ReaderReply
no_slot k = record { refusal = k; taken = 0; slot = 0; owner = 0; mark = 0 }

abbrev pub reader_reply : Answer → ReaderReply
reader_reply a =
    if_slot (λ i o mark. record { refusal = 0; taken = 1; slot = i; owner = o; mark = mark }) (no_slot (refusal_number a)) a

abbrev pub floor_reply : Answer → FloorReply
floor_reply a = record { refusal = refusal_number a; found = found_number a; mark = answer_number a }

abbrev pub db_file_reply : Answer → DbFileReply
db_file_reply a = record { refusal = refusal_number a; active = answer_number a }

abbrev pub limit_reply : Answer → LimitReply
limit_reply a = record { refusal = refusal_number a; limit = answer_number a }
