-- The call's answer, by its tests and by what is written. Assumes nothing.
use mathlib.Core.Path.{◌≡◌, refl, sym, ap, ap₂, subst, ◌∙◌}
use mathlib.Core.Bool.{Bool, true, false, ◌||◌, cond}
use mathlib.Core.List.{List, [], ◌∷◌, ◌++◌, map, map-map}
use Prim.Native.Nat.{ℕ, zero, suc}
use native.Mathlib.Omega.{arith}
use lib.Dec.{ltb}
use lib.ListN.{length, get_or, take, drop, length-map}
use borrow.Author.Tests.{le-ltb}
use Rattle.wal_types.specs.declared.Header.{Header}
use Rattle.wal_types.specs.Memory.{Memory, Process}
use Rattle.wal_types.specs.Store.{apply}
use Rattle.wal_types.specs.Refusal.{Test, ◌if◌, lowest, number}
use Rattle.wal_types.specs.declared.refusal.Refusal.TheVariants.{Settings, ShortMemory, ShortList}
use Rattle.wal_types.specs.Call.{Pair, pair, Call, Outcome, Done, accepted_or, listed, refused, done, after}
use Rattle.index_find.specs.Index.{bad_settings, short_index, index_refusal, index_in}
use Rattle.index_find.specs.Find.{visible}
use Rattle.index_find.proofs.Settings.{passed_frames}
use Rattle.index_find.proofs.Search.{visible_front}
use Rattle.std.specs.Prelude.{Result, Ok, Err}
use Rattle.wal_types.specs.declared.refusal.Refusal.{Refusal}
use Rattle.wal_types.proofs.Refusals.{number_not_zero}
use Rattle.list_choose.specs.Chosen.{in_bounds}
use Rattle.list_latest.specs.Latest.{latest, iter_latest_frames}
use Rattle.list_latest.specs.InnerResult.{IsListed, IsRefused, Lists}
use Rattle.list_latest.specs.InnerWritten.{Written, TooMany, Writes}

-- The three tests.
abbrev three : Bool → Bool → Bool → List Test
three bad short many = (Settings if bad) ∷ (ShortMemory if short) ∷ (ShortList if many) ∷ []

none_applies : (bad short : Bool) → ◌≡◌ {A = ℕ} 0 (cond bad 1 (cond short 2 0)) → (bad ≡ false) × (short ≡ false)
none_applies true short e = absurd (omega arith)
none_applies false true e = absurd (omega arith)
none_applies false false e = (refl, refl)

first_two : (bad short many : Bool) (n : ℕ) → n ≡ cond bad 1 (cond short 2 0) → (n ≡ 0 → ⊥) → lowest (three bad short many) ≡ n
first_two true short many n e p = sym e
first_two false true many n e p = sym e
first_two false false many n e p = absurd (p e)

third : (bad short many : Bool) → ◌≡◌ {A = ℕ} 0 (cond bad 1 (cond short 2 0)) → lowest (three bad short many) ≡ cond {A = ℕ} many 5 0
third true short many e = absurd (omega arith)
third false true many e = absurd (omega arith)
third false false many e = refl

-- a call by the number of its refusal
abbrev by_number : ℕ → Outcome → Memory → Process → Done
by_number n o m p = done (accepted_or n p o).answer (apply (accepted_or n p o).stores m) (accepted_or n p o).process

turned_away : (n : ℕ) (o : Outcome) (m : Memory) (p : Process) → (n ≡ 0 → ⊥) → by_number n o m p ≡ done (refused n) m p
turned_away zero o m p e = absurd (e refl)
turned_away (suc n) o m p e = refl

module _ (capacity b : ℕ) (h : Header) (pages frames hash : List ℕ) (low high : ℕ) (old_pages old_frames new_pages new_frames : List ℕ) where
  -- the entries that are listed, and their pairs
  abbrev entries : List ℕ
  entries = in_bounds frames low high (latest pages hash (visible frames h.frame_index_len high))

  abbrev pairs : List Pair
  pairs = map (λ e. pair (get_or pages e 0) (get_or frames e 0)) entries

  abbrev bad : Bool
  bad = bad_settings capacity b h

  abbrev short : Bool
  short = short_index b (length pages) (length frames) (length hash)

  abbrev many : Bool
  many = ltb (length old_pages) (length entries) || ltb (length old_frames) (length entries)

  abbrev call : Call
  call = iter_latest_frames capacity b low high (length old_pages) (length old_frames)

  abbrev listing : Process → Outcome
  listing p = record { answer = listed pairs; stores = []; process = p }

  -- the call by its tests
  by_tests : (z : Memory) (p : Process) → after call (index_in z h pages frames hash) p ≡ by_number (lowest (three bad short many)) (listing p) (index_in z h pages frames hash) p
  unfolding iter_latest_frames
  by_tests z p = refl

  -- refusals 1 and 2
  pub refused_first :
      (r : Refusal) → number r ≡ index_refusal capacity b h (length pages) (length frames) (length hash)
      → new_pages ≡ old_pages → new_frames ≡ old_frames
      → (z : Memory) (p : Process) → IsRefused (iter_latest_frames capacity b low high (length old_pages) (length old_frames)) (index_in z h pages frames hash) p r old_pages old_frames new_pages new_frames
  refused_first r e kp kf z p =
      record {
        answered =
            by_tests z p
            ∙ ap (λ (k : ℕ). by_number k (listing p) (index_in z h pages frames hash) p) (first_two bad short many (number r) e (number_not_zero r))
            ∙ turned_away (number r) (listing p) (index_in z h pages frames hash) p (number_not_zero r);
        pages_kept = kp;
        frames_kept = kf;
      }

  module _ (ok : 0 ≡ index_refusal capacity b h (length pages) (length frames) (length hash)) where
    -- refusal 5, or none
    by_room : (t : Bool) → many ≡ t → (z : Memory) (p : Process) → after call (index_in z h pages frames hash) p ≡ by_number (cond t 5 0) (listing p) (index_in z h pages frames hash) p
    by_room t e z p =
        by_tests z p
        ∙ ap (λ (k : ℕ). by_number k (listing p) (index_in z h pages frames hash) p) (third bad short many ok ∙ ap (λ (s : Bool). cond {A = ℕ} s 5 0) e)

    all_listed : (n : ℕ) → Written pages frames entries n old_pages old_frames new_pages new_frames → (z : Memory) (p : Process) → IsListed call (index_in z h pages frames hash) p n old_pages old_frames new_pages new_frames
    all_listed n w z p =
        let c : n ≡ length pairs = w.count ∙ sym (length-map entries (λ e. pair (get_or pages e 0) (get_or frames e 0))) in
        record {
          pairs = pairs;
          answered = by_room false enough z p;
          count = c;
          pages_written = w.pages_written ∙ ap₂ (λ (l : List ℕ) (k : ℕ). l ++ drop k old_pages) (sym (map-map (λ q. q.page) (λ e. pair (get_or pages e 0) (get_or frames e 0)) entries)) c;
          frames_written = w.frames_written ∙ ap₂ (λ (l : List ℕ) (k : ℕ). l ++ drop k old_frames) (sym (map-map (λ q. q.frame) (λ e. pair (get_or pages e 0) (get_or frames e 0)) entries)) c;
        }
      where
        enough : many ≡ false
        enough =
            let e = w.count in
            let a = w.pages_room in
            let b = w.frames_room in
            rw (le-ltb (length old_pages) (length entries) (omega arith), le-ltb (length old_frames) (length entries) (omega arith))

    too_many : (r : Refusal) → TooMany entries r old_pages old_frames new_pages new_frames → (z : Memory) (p : Process) → IsRefused call (index_in z h pages frames hash) p r old_pages old_frames new_pages new_frames
    too_many r w z p =
        record {
          answered = by_room true w.short z p ∙ ap (λ (k : Refusal). done (refused (number k)) (index_in z h pages frames hash) p) (sym w.too_few_cells);
          pages_kept = w.pages_kept;
          frames_kept = w.frames_kept;
        }

    listed_visible : (r : Result ℕ Refusal) → Writes pages frames entries r old_pages old_frames new_pages new_frames → (z : Memory) (p : Process) → Lists call (index_in z h pages frames hash) p r old_pages old_frames new_pages new_frames
    listed_visible (Ok n) w = all_listed n w
    listed_visible (Err r) w = too_many r w

    -- what was written is what the call lists; of the frames those of the entries were searched
    pub listed_or_short :
        (v : ℕ) → v ≡ visible (take h.frame_index_len frames) (length (take h.frame_index_len frames)) high → (r : Result ℕ Refusal)
        → Writes pages frames (in_bounds frames low high (latest pages hash v)) r old_pages old_frames new_pages new_frames
        → (z : Memory) (p : Process) → Lists (iter_latest_frames capacity b low high (length old_pages) (length old_frames)) (index_in z h pages frames hash) p r old_pages old_frames new_pages new_frames
    listed_or_short v e r w =
        listed_visible r (subst (λ (x : ℕ). Writes pages frames (in_bounds frames low high (latest pages hash x)) r old_pages old_frames new_pages new_frames) (e ∙ visible_front frames h.frame_index_len high (passed_frames capacity b h _ _ _ (sym ok))) w)
