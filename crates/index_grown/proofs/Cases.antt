-- Document 01's table of proved cases. Assumes nothing.
use mathlib.Core.Path.{◌≡◌, refl, sym, ◌∙◌, ap, subst}
use mathlib.Core.Bool.{false}
use mathlib.Core.List.Memᴰ
use mathlib.Core.List.{List, [], ◌∷◌, ◌++◌, Memᴰ}
use mathlib.Core.Logic.{inl, inr}
use Prim.Native.Nat.{ℕ, ◌≤◌, ◌<◌}
use native.Mathlib.Decide.{ℕ_discrete}
use native.Mathlib.Omega.{arith}
use lib.ListN.{length, get_or, length-map}
use lib.Seq.{get_or-set_same}
use borrow.Author.Tests.{ne_eqb}
use Rattle.std.specs.Prelude.{Some, None}
use Rattle.index_end.specs.declared.cells.IndexCells.{IndexCells}
use Rattle.wal_types.specs.Memory.{Memory, Process}
use Rattle.wal_types.specs.Fresh.{Fresh}
use Rattle.wal_types.specs.Call.{Pair, pair, Answer, stored, frame_found, none, listed, Done, done, after}
use Rattle.index_hash.specs.Home.{home}
use Rattle.index_end.specs.Place.{started, placed, out_of_order}
use Rattle.index_find.specs.Find.{lookup_answer, find_frame}
use Rattle.list_latest.specs.Latest.{listed_entries, pairs_of, iter_latest_frames}
use Rattle.index_grown.specs.Entries.{entries, greatest}
use Rattle.index_grown.specs.Grown.{LongMemory, Grown}
use Rattle.index_grown.specs.Listed.{PagesRise, IsListOf}
use Rattle.index_grown.specs.Cases.{recorded, three_records, then_find, then_list, Cases, ProvedCases}
use Rattle.index_grown.proofs.Starts.{fresh_grown}
use Rattle.index_grown.proofs.Records.{with_entry, stores, entry_grown, entry_entries}
use Rattle.index_grown.proofs.Answers.{grown_accepted, find_done, find_below, find_watermark, list_done}
use Rattle.index_grown.proofs.Listed.{list_gives}
use Rattle.index_grown.proofs.Unique.{listed_once}

-- the pairs that they leave
abbrev three : List Pair
three = pair 7 1 ∷ (pair 8199 2 ∷ (pair 7 3 ∷ []))

-- another page has none of them
other_page : (page low high : ℕ) → (7 ≡ page → ⊥) → (8199 ≡ page → ⊥) → greatest three page low high ≡ None
unfolding greatest
other_page page low high a b = rw (ne_eqb 7 page a, ne_eqb 8199 page b)

-- a list of them, by what the two pages have
list_of : (low high : ℕ) (l : List Pair) → PagesRise 0 l → ((page f : ℕ) → Memᴰ (pair page f) l → greatest three page low high ≡ Some f)
    → ((f : ℕ) → greatest three 7 low high ≡ Some f → Memᴰ (pair 7 f) l) → ((f : ℕ) → greatest three 8199 low high ≡ Some f → Memᴰ (pair 8199 f) l) → IsListOf three low high l
list_of low high l rises only seven other =
    record { rises = rises; only = only; every = λ page f e. go page f e (ℕ_discrete 7 page) (ℕ_discrete 8199 page) }
  where
    go : (page f : ℕ) → greatest three page low high ≡ Some f → Dec (7 ≡ page) → Dec (8199 ≡ page) → Memᴰ (pair page f) l
    go page f e (yes a) d = subst (λ (x : ℕ). Memᴰ (pair x f) l) a (seven f (rw (← a) at e))
    go page f e (no a) (yes d) = subst (λ (x : ℕ). Memᴰ (pair x f) l) d (other f (rw (← d) at e))
    go page f e (no a) (no d) =
        let z = other_page page low high a d in
        let y : ◌≡◌ {A = ℕ} 0 1 = cc in
        absurd (omega arith)

-- a pair that is another's has its page and frame
page_is : (page f x g : ℕ) → pair page f ≡ pair x g → page ≡ x
page_is page f x g e = ap (λ (q : Pair). q.page) e

frame_is : (page f x g : ℕ) → pair page f ≡ pair x g → f ≡ g
frame_is page f x g e = ap (λ (q : Pair). q.frame) e

at_page : (low high x g : ℕ) → greatest three x low high ≡ Some g → (page f : ℕ) → pair page f ≡ pair x g → greatest three page low high ≡ Some f
at_page low high x g e page f q = rw (page_is page f x g q, frame_is page f x g q) e

is_2_2 : IsListOf three 2 2 (pair 8199 2 ∷ [])
unfolding greatest
is_2_2 =
    list_of 2 2 (pair 8199 2 ∷ []) (omega arith, tt)
    (λ page f m. elim (Memᴰ.cases_cons m) [ inl e ↦ at_page 2 2 8199 2 refl page f e | inr i ↦ absurd (Memᴰ.not-nil i) ])
    (λ f e. let z : ◌≡◌ {A = ℕ} 0 1 = cc in absurd (omega arith))
    (λ f e. let z : f ≡ 2 = cc in Memᴰ.head (ap (pair 8199) z))

is_1_3 : IsListOf three 1 3 (pair 7 3 ∷ (pair 8199 2 ∷ []))
unfolding greatest
is_1_3 =
    list_of 1 3 (pair 7 3 ∷ (pair 8199 2 ∷ [])) (omega arith, (omega arith, tt))
    (λ page f m. elim (Memᴰ.cases_cons m) [
      | inl e ↦ at_page 1 3 7 3 refl page f e
      | inr i ↦ elim (Memᴰ.cases_cons i) [ inl e ↦ at_page 1 3 8199 2 refl page f e | inr j ↦ absurd (Memᴰ.not-nil j) ]
    ])
    (λ f e. let z : f ≡ 3 = cc in Memᴰ.head (ap (pair 7) z))
    (λ f e. let z : f ≡ 2 = cc in Memᴰ.tail (Memᴰ.head (ap (pair 8199) z)))

is_3_2 : IsListOf three 3 2 []
unfolding greatest
is_3_2 =
    list_of 3 2 [] tt (λ page f m. absurd (Memᴰ.not-nil m))
    (λ f e. let z : ◌≡◌ {A = ℕ} 0 1 = cc in absurd (omega arith))
    (λ f e. let z : ◌≡◌ {A = ℕ} 0 1 = cc in absurd (omega arith))

-- one block in use, nothing published; page, frame and hash cells for a block
module _ (m : Memory) (n : ℕ) (fresh : Fresh 1 1 n m) (long : LongMemory 1 m) (p : Process) where
  -- the index's cells with so many entries
  abbrev cells_at : ℕ → IndexCells
  cells_at len = record { frame_index_blocks = 1; frame_index_len = len; frame_index_overflowed = 0; max_frame = m.header.max_frame }

  abbrev m1 : Memory
  m1 = with_entry 7 1 m (cells_at 0)

  abbrev m2 : Memory
  m2 = with_entry 8199 2 m1 (cells_at 1)

  abbrev m3 : Memory
  m3 = with_entry 7 3 m2 (cells_at 2)

  -- the first record: it resets the index, and is the first of its block
  g0 : Grown 4096 1 m
  g0 = fresh_grown 4096 1 m 1 n (omega arith) fresh long

  end0 : placed 4096 1 false (started 1 m.header) ≡ Some (cells_at 0)
  unfolding placed started
  end0 = rw fresh.header_fresh

  first_record : recorded 7 1 m p ≡ done stored m1 p
  first_record = stores 4096 1 7 1 false m p g0 (cells_at 0) end0 (grown_accepted 4096 1 m g0 refl refl) refl

  g1 : Grown 4096 1 m1
  g1 = entry_grown 4096 1 7 1 false m p g0 (cells_at 0) end0 (grown_accepted 4096 1 m g0 refl refl) refl

  entries1 : entries m1 ≡ pair 7 1 ∷ []
  entries1 =
      entry_entries 4096 1 7 1 false m p g0 (cells_at 0) end0 (grown_accepted 4096 1 m g0 refl refl) refl
      ∙ rw fresh.header_fresh

  -- the second
  end1 : placed 4096 1 false (started 2 m1.header) ≡ Some (cells_at 1)
  unfolding placed started
  end1 = refl

  order1 : out_of_order 2 1 m1.frames ≡ false
  order1 = let l = long.frames_long in rw (get_or-set_same m.frames 0 1 0 (omega arith))

  second_record : recorded 8199 2 m1 p ≡ done stored m2 p
  second_record = stores 4096 1 8199 2 false m1 p g1 (cells_at 1) end1 (grown_accepted 4096 1 m1 g1 refl refl) order1

  g2 : Grown 4096 1 m2
  g2 = entry_grown 4096 1 8199 2 false m1 p g1 (cells_at 1) end1 (grown_accepted 4096 1 m1 g1 refl refl) order1

  entries2 : entries m2 ≡ pair 7 1 ∷ (pair 8199 2 ∷ [])
  entries2 =
      entry_entries 4096 1 8199 2 false m1 p g1 (cells_at 1) end1 (grown_accepted 4096 1 m1 g1 refl refl) order1
      ∙ ap (λ (l : List Pair). l ++ (pair 8199 2 ∷ [])) entries1

  -- the third
  end2 : placed 4096 1 false (started 3 m2.header) ≡ Some (cells_at 2)
  unfolding placed started
  end2 = refl

  order2 : out_of_order 3 2 m2.frames ≡ false
  order2 = let l = g1.long.frames_long in rw (get_or-set_same m1.frames 1 2 0 (omega arith))

  third_record : recorded 7 3 m2 p ≡ done stored m3 p
  third_record = stores 4096 1 7 3 false m2 p g2 (cells_at 2) end2 (grown_accepted 4096 1 m2 g2 refl refl) order2

  g3 : Grown 4096 1 m3
  g3 = entry_grown 4096 1 7 3 false m2 p g2 (cells_at 2) end2 (grown_accepted 4096 1 m2 g2 refl refl) order2

  entries3 : entries m3 ≡ three
  entries3 =
      entry_entries 4096 1 7 3 false m2 p g2 (cells_at 2) end2 (grown_accepted 4096 1 m2 g2 refl refl) order2
      ∙ ap (λ (l : List Pair). l ++ (pair 7 3 ∷ [])) entries2

  after_three : three_records m p ≡ m3
  after_three =
      ap (λ (d : Done). (recorded 7 3 (recorded 8199 2 d.memory p).memory p).memory) first_record
      ∙ (ap (λ (d : Done). (recorded 7 3 d.memory p).memory) second_record ∙ ap (λ (d : Done). d.memory) third_record)

  -- a lookup after the three records, by their pairs
  looks : (page low high : ℕ) (a : Answer) → lookup_answer (greatest three page low high) ≡ a → then_find m p page low high None ≡ a
  looks page low high a e =
      ap (λ (x : Memory). (after (find_frame 4096 1 page low high None) x p).answer) after_three
      ∙ (ap (λ (d : Done). d.answer) (find_done 4096 1 m3 g3 p page low high (grown_accepted 4096 1 m3 g3 refl refl)) ∙ (ap (λ (l : List Pair). lookup_answer (greatest l page low high)) entries3 ∙ e))

  -- with a watermark of at least min, and with one below it
  looks_up_to : (low high w : ℕ) (a : Answer) → low ≤ w → lookup_answer (greatest three 7 0 w) ≡ a → then_find m p 7 low high (Some w) ≡ a
  looks_up_to low high w a l e =
      ap (λ (x : Memory). (after (find_frame 4096 1 7 low high (Some w)) x p).answer) after_three
      ∙ (ap (λ (d : Done). d.answer) (find_watermark 4096 1 m3 g3 p 7 low high w (grown_accepted 4096 1 m3 g3 refl refl) l) ∙ (ap (λ (es : List Pair). lookup_answer (greatest es 7 0 w)) entries3 ∙ e))

  looks_below : (low high w : ℕ) → w < low → then_find m p 7 low high (Some w) ≡ none
  looks_below low high w l =
      ap (λ (x : Memory). (after (find_frame 4096 1 7 low high (Some w)) x p).answer) after_three
      ∙ ap (λ (d : Done). d.answer) (find_below 4096 1 m3 g3 p 7 low high w (grown_accepted 4096 1 m3 g3 refl refl) l)

  -- a list after the three records, by their pairs, with output cells enough
  lists : (low high : ℕ) (l : List Pair) → IsListOf three low high l → (room_pages room_frames : ℕ) → length l ≤ room_pages → length l ≤ room_frames → then_list m p low high room_pages room_frames ≡ listed l
  lists low high l is rp rf i j =
      let e : pairs_of m3 (listed_entries low high m3) ≡ l = listed_once three low high _ l (subst (λ (es : List Pair). IsListOf es low high (pairs_of m3 (listed_entries low high m3))) entries3 (list_gives 4096 1 m3 g3 low high)) is in
      let c : length (listed_entries low high m3) ≡ length l = sym (length-map (listed_entries low high m3) (λ n. pair (get_or m3.pages n 0) (get_or m3.frames n 0))) ∙ ap length e in
      ap (λ (x : Memory). (after (iter_latest_frames 4096 1 low high rp rf) x p).answer) after_three
      ∙ (ap (λ (d : Done). d.answer) (list_done 4096 1 low high rp rf m3 p (grown_accepted 4096 1 m3 g3 refl refl) (omega arith) (omega arith)) ∙ ap listed e)

  cases : Cases m p
  unfolding home greatest
  cases =
      record {
        home_1 = refl;
        home_22 = refl;
        home_8192 = refl;
        home_8193 = refl;
        home_last = refl;
        page_7_in_2_2 = looks 7 2 2 none refl;
        page_7_in_1_3 = looks 7 1 3 (frame_found 3) refl;
        page_7_watermark_2 = λ high. looks_up_to 2 high 2 (frame_found 1) (omega arith) refl;
        page_7_watermark_1 = λ high. looks_below 2 high 1 (omega arith);
        list_2_2 = lists 2 2 (pair 8199 2 ∷ []) is_2_2;
        list_1_3 = lists 1 3 (pair 7 3 ∷ (pair 8199 2 ∷ [])) is_1_3;
        list_3_2 = λ rp rf. lists 3 2 [] is_3_2 rp rf (omega arith) (omega arith);
      }

pub proved_cases : ProvedCases
unfolding ProvedCases
proved_cases = cases
