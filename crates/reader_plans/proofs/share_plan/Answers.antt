use Rattle.std.proofs.lemmas.Result.{err_from_is_err_and}
use Rattle.reader_plans.proofs.Shares.{share_refused, joined_refused, joined_taken, new_card, slot_fits, registered}
use Rattle.reader_plans.proofs.share_plan.Goals as goal

pub returns-in_err-check_share : goal.returns-in_err-check_share
returns-in_err-check_share c = let p = err_from_is_err_and c.from_residual.result c.from_residual.ensures.1 in rw (p.1, p.2) (share_refused _ _ _ _ _ c.args.registry _ c.in_err-check_share.ensures)

pub returns-in_err-plan-in-Shared : goal.returns-in_err-plan-in-Shared
returns-in_err-plan-in-Shared c = let p = err_from_is_err_and c.from_residual-in_err-plan-in-Shared.result c.from_residual-in_err-plan-in-Shared.ensures.1 in rw (p.1, p.2) (joined_refused _ _ _ _ _ c.args.registry c.in_ok-check_share.ensures _ _ c.in-Shared.is _ c.check_card-card_refusal.ensures _ c.in_err-plan-in-Shared.ensures.refused)

pub returns-in-Shared : goal.returns-in-Shared
returns-in-Shared c = rw c.in_ok-plan-in-Shared.ensures.told (joined_taken _ _ _ _ _ c.args.registry c.in_ok-check_share.ensures _ _ c.in-Shared.is _ c.check_card-card_refusal.ensures c.in_ok-plan-in-Shared.ensures.refused)

pub returns-in_err-card_refusal : goal.returns-in_err-card_refusal
returns-in_err-card_refusal c = let p = err_from_is_err_and c.from_residual-in_err-card_refusal.result c.from_residual-in_err-card_refusal.ensures.1 in rw (p.1, p.2) (new_card _ _ _ _ _ c.args.registry c.in_ok-check_share.ensures _ c.in-New.is _ c.in_err-card_refusal.ensures)

pub share_published-requires : goal.share_published-requires
share_published-requires c = λ slot e. slot_fits _ _ _ _ _ c.args.registry c.in_ok-check_share.ensures _ c.in-New.is c.in_ok-card_refusal.ensures _ _ _ c.register_checked-registered.ensures slot e

pub returns : goal.returns
returns c = rw c.share_published.ensures (registered _ _ _ _ _ c.args.registry c.in_ok-check_share.ensures _ c.in-New.is c.in_ok-card_refusal.ensures _ _ _ c.register_checked-registered.ensures _ c.in-Some.is)
