-- The refusals of a mark that is joined: that of its record, then that of the card. Assumes nothing.
use mathlib.Core.Path.{◌≡◌, sym, ◌∙◌, ap}
use mathlib.Core.Bool.{Bool, true, false, cond}
use mathlib.Core.List.{[], ◌∷◌}
use lib.Dec.{leb}
use Rattle.std.specs.Prelude.{Result, Ok, Err}
use Rattle.wal_types.specs.declared.SharedReadMark.{SharedReadMark}
use Rattle.wal_types.specs.Settings.{most_holders}
use Rattle.wal_types.specs.declared.refusal.Refusal.{Refusal}
use Rattle.wal_types.specs.declared.refusal.Refusal.TheVariants.{RegistryFull}
use Rattle.wal_types.specs.Refusal.{number, refused_number, ◌if◌}
use Rattle.wal_types.proofs.Refusals.{number_not_zero}
use Rattle.reader_slots.proofs.Calls.{none_applies}
use Rattle.reader_shared.specs.Inner.{room_refusal, joined_refusal}

module _ (item : SharedReadMark) (card : Result Unit Refusal) where
  pub joined_full : (r : Refusal) → number r ≡ room_refusal item → number r ≡ joined_refusal item card
  joined_full r e = go (leb most_holders item.holders) e
    where
      go : (t : Bool) → number r ≡ cond t 13 0 → number r ≡ cond t 13 (refused_number card)
      go true g = g
      go false g = absurd (number_not_zero r g)

  module _ (room : 0 ≡ room_refusal item) where
    by_card : refused_number card ≡ joined_refusal item card
    by_card = let below = (none_applies ((RegistryFull if leb most_holders item.holders) ∷ []) (sym room)).0 in rw below

    pub joined_bad_card : (r : Refusal) → card ≡ Err r → number r ≡ joined_refusal item card
    joined_bad_card r e = sym (ap refused_number e) ∙ by_card

    pub joined_kept : (x : Unit) → card ≡ Ok x → 0 ≡ joined_refusal item card
    joined_kept x e = sym (ap refused_number e) ∙ by_card
