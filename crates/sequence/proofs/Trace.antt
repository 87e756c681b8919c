-- Sequences followed call by call: each call with what it answers and leaves. Assumes nothing.
use mathlib.Core.Path.{◌≡◌, refl, sym, ◌∙◌, ap, subst}
use mathlib.Core.Bool.{cond}
use mathlib.Core.List.{List, [], ◌∷◌, ◌++◌}
use Prim.Native.Nat.{ℕ, ◌≤◌}
use lib.Dec.{eqb}
use Rattle.wal_types.specs.Call.{Answer, Done, after}
use Rattle.sequence.specs.Sequence.{Settings, perform, World, Event, run, Throughout}
use Rattle.sequence.specs.Book.{Book, entered, book_after}
use Rattle.sequence.specs.Hold.{holders_next, SharedLasts}
use Rattle.sequence.specs.Example.{answers}

-- the world after a call that comes to d
abbrev pub left_by : World → ℕ → Done → World
left_by w who d = record { memory = d.memory; processes = λ i. cond (eqb i who) d.process (w.processes i) }

-- a call made in a world comes to d
abbrev pub ComesTo : Settings → Event → World → Done → Type 0
ComesTo s e w d = after (perform s e.op) w.memory (w.processes e.who) ≡ d

-- A list of calls from one world to another, with their answers.
pub data Trace (s : Settings) : List Event → World → List Answer → World → Type 0 where
  over : {w : World} → Trace s [] w [] w
  step : {e : Event} {rest : List Event} {w w' : World} {more : List Answer} (d : Done) → ComesTo s e w d → Trace s rest (left_by w e.who d) more w' → Trace s (e ∷ rest) w (d.answer ∷ more) w'

-- a holder is left before each call and after the last, by calls and answers
abbrev pub HoldersLeft : ℕ → ℕ → List Event → List Answer → ℕ → Type 0
HoldersLeft who mark [] told n = 1 ≤ n
HoldersLeft who mark (e ∷ rest) [] n = ⊥
HoldersLeft who mark (e ∷ rest) (a ∷ told) n = (1 ≤ n) × HoldersLeft who mark rest told (holders_next who mark e a n)

-- the book, fed calls and answers
abbrev pub fed : List Event → List Answer → Book → Book
fed [] told b = b
fed (e ∷ rest) [] b = b
fed (e ∷ rest) (a ∷ told) b = fed rest told (entered e.op a b)

module _ (s : Settings) where
  unfoldable pub append : {es fs : List Event} {w w' w'' : World} {told more : List Answer} → Trace s es w told w' → Trace s fs w' more w'' → Trace s (es ++ fs) w (told ++ more) w''
  append over h = h
  append (step d q g) h = step d q (append g h)

  pub trace_run : {es : List Event} {w w' : World} {told : List Answer} → Trace s es w told w' → run s es w ≡ w'
  unfolding run
  trace_run over = refl
  trace_run (step {e} {rest} {w} d q g) = ap (λ (x : Done). run s rest (left_by w e.who x)) q ∙ trace_run g

  pub trace_answers : {es : List Event} {w w' : World} {told : List Answer} → Trace s es w told w' → answers s es w ≡ told
  unfolding answers
  trace_answers over = refl
  trace_answers (step {e} {rest} {w} d q g) =
      ap (λ (x : Done). x.answer ∷ answers s rest (left_by w e.who x)) q ∙ ap (λ (l : List Answer). d.answer ∷ l) (trace_answers g)

  pub trace_book : {es : List Event} {w w' : World} {told : List Answer} (b : Book) → Trace s es w told w' → book_after s es w b ≡ fed es told b
  unfolding book_after
  trace_book b over = refl
  trace_book b (step {e} {rest} {w} d q g) =
      ap (λ (x : Done). book_after s rest (left_by w e.who x) (entered e.op x.answer b)) q ∙ trace_book (entered e.op d.answer b) g

  -- a property of each call, with what it comes to
  abbrev pub Along : (Event → World → Done → Type 0) → {es : List Event} {w w' : World} {told : List Answer} → Trace s es w told w' → Type 0
  Along P over = Unit {0}
  Along P (step {e} {rest} {w} d q g) = P e w d × Along P g

  pub throughout : (Q : Event → World → Type 0) (P : Event → World → Done → Type 0) → ((e : Event) (w : World) (d : Done) → ComesTo s e w d → P e w d → Q e w)
      → {es : List Event} {w w' : World} {told : List Answer} (g : Trace s es w told w') → Along P g → Throughout Q s es w
  unfolding Throughout
  throughout Q P gives over a = tt
  throughout Q P gives (step {e} {rest} {w} d q g) a =
      (gives e w d q a.0, subst (λ (x : Done). Throughout Q s rest (left_by w e.who x)) (sym q) (throughout Q P gives g a.1))

  pub trace_lasts : (who mark : ℕ) {es : List Event} {w w' : World} {told : List Answer} (n : ℕ) → Trace s es w told w' → HoldersLeft who mark es told n → SharedLasts s who mark es w n
  unfolding SharedLasts
  trace_lasts who mark n over h = h
  trace_lasts who mark n (step {e} {rest} {w} d q g) h =
      (h.0, subst (λ (x : Done). SharedLasts s who mark rest (left_by w e.who x) (holders_next who mark e x.answer n)) (sym q) (trace_lasts who mark (holders_next who mark e d.answer n) g h.1))
