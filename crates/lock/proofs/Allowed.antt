-- No line that is due is refused by the memory or the queue, where the limit is at least 2 and at least the number of tasks.
use Rattle.std.proofs.Common.{◌≡◌, ℕ, suc, ◌+◌, ◌-◌, ◌<◌, ◌≤◌, true, false, eqb, ◌≢◌, List, [], ◌∷◌, length, get_or, None, sym, refl, subst, arith}
use Rattle.std.specs.List.{AllByRecursion as All}
use Rattle.std.proofs.ByRecursion.{All-weaker}
use Rattle.std.proofs.lemmas.Bool.{eq-eqb, le-leb, lt-ltb, ne_eqb, or_from}
use Rattle.memory.specs.declared.operation.Operation.TheVariants.{Read, Write, Add, Swap}
use Rattle.memory.specs.declared.operation.Step.TheVariants.{Up, Down}
use Rattle.queue.specs.Waiting.{oldest, waits}
use Rattle.lines.specs.declared.deed.Deed.{Deed}
use Rattle.lines.specs.declared.deed.Deed.TheVariants.{Touch, Join, First, Quit, Nothing}
use Rattle.lines.specs.declared.place.Line.{Line}
use Rattle.lines.specs.declared.place.Line.TheVariants.{L0p1}
use Rattle.lines.specs.declared.track.Track.{Track}
use Rattle.lines.specs.Lines.{deed_of, next_deed}
use Rattle.calls.specs.declared.record.Record.{Record}
use Rattle.calls.specs.States.{State, record_of}
use Rattle.calls.specs.Steps.{deed_refusal}
use Rattle.lock.proofs.Facts.{Before, OneTask, seen, seen_cells}
use Rattle.lock.proofs.Holds.{Waits, at, rests_apart, room, tick_counted}
use Rattle.lock.proofs.Judged.{Due, Lawful}

waits_not : (ws : List ℕ) (t : ℕ) → All (λ z. z ≢ t) ws → waits ws t ≡ false
waits_not [] t a = refl
waits_not (y ∷ ys) t a = or_from (eqb y t) (waits ys t) (ne_eqb y t a.0) (waits_not ys t a.1)

is_oldest : (ws : List ℕ) (t : ℕ) → 1 ≤ t → get_or ws 0 0 ≡ t → oldest ws t ≡ true
is_oldest [] t low e = absurd (omega arith)
is_oldest (y ∷ ys) t low e = eq-eqb y t e

module _ (limit t : ℕ) (cs ws : List ℕ) where
  -- what each deed asks
  abbrev Asks : Deed → Type 0
  Asks (Touch (Read c)) = c < 7
  Asks (Touch (Write c n)) = (c < 7) × (n ≤ limit)
  Asks (Touch (Add c Up)) = (c < 7) × (get_or cs c 0 + 1 ≤ limit)
  Asks (Touch (Add c Down)) = (c < 7) × (1 ≤ get_or cs c 0)
  Asks (Touch (Swap c e n)) = (c < 7) × (e ≤ limit) × (n ≤ limit)
  Asks Join = All (λ z. z ≢ t) ws
  Asks Quit = get_or ws 0 0 ≡ t
  Asks d = Unit {0}

  asked : (d : Deed) → 1 ≤ t → t ≤ 64 → Asks d → deed_refusal limit t d cs ws ≡ None
  asked (Touch (Read c)) low high a = rw (le-leb 1 t low, le-leb t 64 high, lt-ltb c 7 a)
  asked (Touch (Write c n)) low high a = rw (le-leb 1 t low, le-leb t 64 high, lt-ltb c 7 a.0, le-leb n limit a.1)
  asked (Touch (Add c Up)) low high a = rw (le-leb 1 t low, le-leb t 64 high, lt-ltb c 7 a.0, lt-ltb (get_or cs c 0) limit (omega arith))
  asked (Touch (Add c Down)) low high a = rw (le-leb 1 t low, le-leb t 64 high, lt-ltb c 7 a.0, lt-ltb 0 (get_or cs c 0) (omega arith))
  asked (Touch (Swap c e n)) low high a = rw (le-leb 1 t low, le-leb t 64 high, lt-ltb c 7 a.0, le-leb e limit a.1, le-leb n limit a.2)
  asked Join low high a = rw (le-leb 1 t low, le-leb t 64 high, waits_not ws t a)
  asked First low high a = rw (le-leb 1 t low, le-leb t 64 high)
  asked Quit low high a = rw (le-leb 1 t low, le-leb t 64 high, is_oldest ws t low a)
  asked Nothing low high a = refl

-- what the tasks and the limit give
record Fit (limit i : ℕ) (cs ws : List ℕ) (r : Track) : Type 0 where
  one : OneTask (seen_cells cs ws) (seen i r)
  counted : (seen i r).counted ≤ get_or cs 0 0
  another : (seen i r).counted ≡ 0 → get_or cs 0 0 + 1 ≤ limit
  register : r.x ≤ limit
  own : suc i ≤ limit
  two : 2 ≤ limit
  joins : (seen i r).rank ≡ 0 → All (λ z. z ≢ suc i) ws

asks_line : (limit i : ℕ) (cs ws : List ℕ) (r : Track) (l : Line) → Before l (seen i r) → Fit limit i cs ws r → Asks limit (suc i) cs ws (deed_of l (suc i) r)
asks_line limit i cs ws r L0p1 b k = k.joins b.0
asks_line limit i cs ws r l b k = grind arith

pub allowed : (limit : ℕ) (s : State) (t : ℕ) (r : Record) → Lawful s → length s.records ≤ limit → 2 ≤ limit → Due s t r → deed_refusal limit t (next_deed t r.track) s.cells s.waiting ≡ None
allowed limit s t r g more two d =
    let i = t - 1 in
    let k = (record_of s t).track in
    let h : i < length s.records = omega (arith, d.low, d.high) in
    let fit : Fit limit i s.cells s.waiting k = record {
      one = g.holds.one i;
      counted = omega (arith, g.holds.count, tick_counted s.records i);
      another = λ n. omega (arith, g.holds.count, room s.records i h n);
      register = omega (arith, g.holds.x_register i);
      own = omega arith;
      two = two;
      joins = λ q. All-weaker (Waits s.records) _ (rests_apart s.records i (at s.records i) h q) s.waiting g.holds.waits;
    } in
    let is : suc i ≡ t = omega (arith, d.low) in
    let line : deed_refusal limit t (deed_of d.next t k) s.cells s.waiting ≡ None = subst (λ n. deed_refusal limit n (deed_of d.next n k) s.cells s.waiting ≡ None) is (asked limit (suc i) s.cells s.waiting (deed_of d.next (suc i) k) (omega arith) (omega (arith, d.high, g.few)) (asks_line limit i s.cells s.waiting k d.next d.leads.before fit)) in
    subst (λ p. deed_refusal limit t p s.cells s.waiting ≡ None) (sym (d.leads.deed t)) line
