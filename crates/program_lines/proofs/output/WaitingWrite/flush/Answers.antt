-- What waited is with what it is written to, and its own flush keeps it. Assumes nothing.
use Rattle.std.proofs.Common.{Result, Ok, Err, OnOk}
use Rattle.std.proofs.KnownBytes.{Keeps-trans, Appends-kept, append_known-kept}
use Rattle.program_lines.proofs.Windows.{all_written}
use Rattle.program_lines.proofs.output.WaitingWrite.flush.Goals as goal

pub returns-clause-bytes : goal.returns-clause-bytes
returns-clause-bytes g c = Keeps-trans _ _ _ c.in_ok-write_to.ensures.bytes (append_known-kept _ _ _ c.flush.ensures.bytes)

on_ok : {X E : Type 0} {P : Type 0} (r : Result X E) → P → OnOk r P
on_ok (Ok x) p = p
on_ok (Err e) p = tt

pub returns-clause-written : goal.returns-clause-written
returns-clause-written g c =
    on_ok c.flush.result (Appends-kept _ _ _ _ (all_written _ _ _ _ c.in_ok-write_to.ensures.none_waits.0 c.in_ok-write_to.ensures.bytes) c.flush.ensures.bytes)
