use Rattle.c_header_replies.proofs.lock_reply.release_by_mode.Goals as goal

pub returns : goal.returns
returns c z p = rw (← c.try_from.ensures, c.in_ok-given.was) (c.release.ensures z p)
