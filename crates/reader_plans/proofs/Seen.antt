-- What is seen of a registry that has n records. Assumes nothing.
use mathlib.Core.Path.{◌≡◌, refl}
use mathlib.Core.List.{List}
use Prim.Native.Nat.{ℕ, ◌≤◌, min}
use native.Mathlib.Omega.{arith}
use lib.ListN.{length, get_or}
use Rattle.std.specs.Prelude.{Option, Some, None}
use Rattle.wal_types.specs.declared.SharedReadMark.{SharedReadMark}
use Rattle.wal_types.specs.Memory.{no_mark}
use Rattle.reader_marks.specs.declared.Seen.{Seen}
use Rattle.reader_marks.specs.declared.Seen.TheVariants.{Shared, New}
use Rattle.reader_marks.specs.Registry.{record_of, empty_record}
use Rattle.reader_marks.specs.InnerScan.{seen_by, seen_of}

module _ (n : ℕ) (r : List SharedReadMark) (mark : ℕ) (long : n ≤ length r) where
  seen_all : (seen : Seen) → seen ≡ seen_of (min n (length r)) r mark → seen ≡ seen_by r (record_of n r mark) (empty_record n r)
  unfolding seen_of
  seen_all seen e = let q : min n (length r) ≡ n = omega arith in rw q at e

  -- the mark has this record, in this place
  pub placed : (place : ℕ) (item : SharedReadMark) → Shared place item ≡ seen_of (min n (length r)) r mark → (record_of n r mark ≡ Some place) × (get_or r place no_mark ≡ item)
  placed place item e = go (record_of n r mark) refl (seen_all (Shared place item) e)
    where
      go : (o : Option ℕ) → record_of n r mark ≡ o → Shared place item ≡ seen_by r o (empty_record n r) → (record_of n r mark ≡ Some place) × (get_or r place no_mark ≡ item)
      go (Some i) x g = let same : i ≡ place = cc in (rw same at x, rw same at (let z : get_or r i no_mark ≡ item = cc in z))
      go None x g = cc

  -- it has none, and this is the place of the first empty one
  pub unplaced : (free : Option ℕ) → New free ≡ seen_of (min n (length r)) r mark → (record_of n r mark ≡ None) × (empty_record n r ≡ free)
  unplaced free e = go (record_of n r mark) refl (seen_all (New free) e)
    where
      go : (o : Option ℕ) → record_of n r mark ≡ o → New free ≡ seen_by r o (empty_record n r) → (record_of n r mark ≡ None) × (empty_record n r ≡ free)
      go (Some i) x g = cc
      go None x g = (x, cc)
