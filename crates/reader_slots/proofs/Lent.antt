-- Lent slots that a call hands back: the same lists. Assumes nothing.
use mathlib.Core.Path.{refl, ◌∙◌}
use Rattle.reader_slots.specs.declared.slots.SharedSlots.{SharedSlots}
use Rattle.reader_slots.specs.Inner.{SameSlots}

-- a call that changes none of them
pub same_lent : (s : SharedSlots) → SameSlots s s
same_lent s =
    record {
      bitmap_same = refl;
      frames_same = refl;
      owners_same = refl;
      words_kept = refl;
      frames_kept = refl;
      owners_kept = refl;
    }

-- one call after another
pub lent_then : (s s₁ s' : SharedSlots) → SameSlots s s₁ → SameSlots s₁ s' → SameSlots s s'
lent_then s s₁ s' a b =
    record {
      bitmap_same = b.bitmap_same ∙ a.bitmap_same;
      frames_same = b.frames_same ∙ a.frames_same;
      owners_same = b.owners_same ∙ a.owners_same;
      words_kept = b.words_kept ∙ a.words_kept;
      frames_kept = b.frames_kept ∙ a.frames_kept;
      owners_kept = b.owners_kept ∙ a.owners_kept;
    }
