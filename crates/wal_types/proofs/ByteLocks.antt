-- What a byte lock's answer says of its byte. Assumes nothing.
use mathlib.Core.Path.{◌≡◌, refl, sym, ◌∙◌}
use mathlib.Core.Bool.{Bool, true, false, cond}
use Prim.Native.Nat.{ℕ, zero, suc, ◌+◌}
use native.Mathlib.Omega.{arith}
use lib.Dec.{eqb, ltb}
use borrow.Author.Tests.{ne_eqb, lt-ltb, le-ltb}
use Rattle.std.specs.Prelude.{Ok, Err}
use Rattle.wal_types.specs.declared.byte_lock.ByteLock.{ByteLock}
use Rattle.wal_types.specs.declared.byte_lock.ByteLock.TheVariants.{Busy, Granted, Error}
use Rattle.wal_types.specs.declared.refusal.Refusal.{Refusal}
use Rattle.wal_types.specs.declared.refusal.Refusal.TheVariants.{Card}
use Rattle.wal_types.specs.InnerByteLock.{byte_lock_given}

above_two : (n : ℕ) → byte_lock_given (suc (suc (suc n))) ≡ Err Card
unfolding byte_lock_given
above_two n = rw (ne_eqb (suc (suc (suc n))) 0 (omega arith), ne_eqb (suc (suc (suc n))) 1 (omega arith), ne_eqb (suc (suc (suc n))) 2 (omega arith))

-- a byte that is refused is above 2, and refused as a card's
pub off_card : (n : ℕ) (r : Refusal) → byte_lock_given n ≡ Err r → (r ≡ Card) × (ltb 2 n ≡ true)
unfolding byte_lock_given
off_card zero r e = cc
off_card (suc zero) r e = cc
off_card (suc (suc zero)) r e = cc
off_card (suc (suc (suc n))) r e = (let a = above_two n in cc, lt-ltb 2 (suc (suc (suc n))) (omega arith))

-- one that is not, is at most 2, and is 1 where the lock is granted alone
pub on_card : (n : ℕ) (b : ByteLock) → byte_lock_given n ≡ Ok b → ltb 2 n ≡ false
unfolding byte_lock_given
on_card zero b e = refl
on_card (suc zero) b e = refl
on_card (suc (suc zero)) b e = refl
on_card (suc (suc (suc n))) b e = let a = above_two n in cc

pub granted : (n : ℕ) (b : ByteLock) → byte_lock_given n ≡ Ok b → b ≡ Granted → eqb n 1 ≡ true
unfolding byte_lock_given
granted zero b e g = cc
granted (suc zero) b e g = refl
granted (suc (suc zero)) b e g = cc
granted (suc (suc (suc n))) b e g = let a = above_two n in cc

pub not_granted : (n : ℕ) (b : ByteLock) → byte_lock_given n ≡ Ok b → (b ≡ Granted → ⊥) → eqb n 1 ≡ false
unfolding byte_lock_given
not_granted zero b e g = refl
not_granted (suc zero) b e g = absurd (g cc)
not_granted (suc (suc zero)) b e g = refl
not_granted (suc (suc (suc n))) b e g = ne_eqb (suc (suc (suc n))) 1 (omega arith)
