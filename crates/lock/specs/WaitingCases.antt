-- Cases of two tasks: upgrades granted and turned down, and tasks that wait and come in later.
use Rattle.std.specs.Prelude.{◌≡◌, List, [], ◌∷◌, ◌++◌}
use Rattle.memory.specs.declared.interface.Memory.{Ghosts}
use Rattle.lines.specs.declared.place.Line.TheVariants.{L0p2, L16p1, L22, L22p2, L27p5, L6}
use Rattle.lines.specs.declared.place.Place.TheVariants.{Inside, Next}
use Rattle.lines.specs.declared.place.Right.TheVariants.{Reading, Writing}
use Rattle.lines.specs.declared.place.Standing.TheVariants.{Normal, Upgraded}
use Rattle.calls.specs.Steps.{begin}
use Rattle.lock.specs.Cases.{Comes, R, Stands, W, advances, leaves_with, obeyed, reader_in, unmeasured, upgrades, writer_in}
use Rattle.lock.specs.Runs.{Made}

-- reader 1 stands before 27.5 and reader 2 before 16.1
abbrev pub last_swap : List Made
last_swap = reader_in 1 ++ upgrades 1 ++ advances 3 1 ++ obeyed (begin 2) ∷ []

-- 27.5 first, and reader 2 goes on to 22.2
abbrev pub waiting_at_22p2 : List Made
waiting_at_22p2 = last_swap ++ advances 1 1 ++ advances 9 2

-- reader 1 waits at 22 for writer 2
abbrev pub waiting_at_22 : List Made
waiting_at_22 = writer_in 2 ++ obeyed (begin 1) ∷ advances 7 1

-- writer 2 waits at 6 for reader 1
abbrev pub waiting_at_6 : List Made
waiting_at_6 = reader_in 1 ++ obeyed (begin 2) ∷ advances 11 2

-- writer 2 waits at 0.2 for writer 1
abbrev pub waiting_at_0p2 : List Made
waiting_at_0p2 = writer_in 1 ++ obeyed (begin 2) ∷ advances 2 2

pub record WaitingCases {B : Type 0} (mem : Ghosts B) : Type 0 where
  pub before_swap :
      Comes mem unmeasured (R ∷ R ∷ []) last_swap
      (λ z. Stands z 1 (Next L27p5) Normal 10 × Stands z 2 (Next L16p1) Normal 1)
  -- 27.5 first: the upgrade is granted, and reader 2 waits at 22.2 until the upgraded task has left
  pub upgrade_first : Comes mem unmeasured (R ∷ R ∷ []) (last_swap ++ advances 1 1) (λ z. Stands z 1 Inside Upgraded 11)
  pub reader_waits :
      Comes mem unmeasured (R ∷ R ∷ []) waiting_at_22p2
      (λ z. Stands z 1 Inside Upgraded 11 × Stands z 2 (Next L22p2) Normal 8)
  pub reader_comes_in :
      Comes mem unmeasured (R ∷ R ∷ []) (waiting_at_22p2 ++ leaves_with Writing 1 ++ advances 6 1 ++ advances 1 2)
      (λ z. Stands z 2 Inside Normal 9)
  -- 16.1 first: the upgrade is turned down
  pub reader_first :
      Comes mem unmeasured (R ∷ R ∷ []) (last_swap ++ advances 1 2 ++ advances 1 1)
      (λ z. Stands z 1 Inside Normal 11)
  -- another reader is inside: the upgrade is turned down at 27.1, and at 27.3 where that reader came in after 27.1
  pub turned_down_at_once : Comes mem unmeasured (R ∷ R ∷ []) (reader_in 1 ++ reader_in 2 ++ upgrades 1) (λ z. Stands z 1 Inside Normal 8)
  pub turned_down_at_27p3 :
      Comes mem unmeasured (R ∷ R ∷ []) (reader_in 1 ++ upgrades 1 ++ reader_in 2 ++ advances 2 1)
      (λ z. Stands z 1 Inside Normal 10)
  -- a reader waits at 22 until the writer has done 7 and 8
  pub reader_after_writer_waits : Comes mem unmeasured (R ∷ W ∷ []) waiting_at_22 (λ z. Stands z 1 (Next L22) Normal 5)
  pub reader_after_writer :
      Comes mem unmeasured (R ∷ W ∷ []) (waiting_at_22 ++ leaves_with Writing 2 ++ advances 2 2 ++ advances 2 1)
      (λ z. Stands z 1 Inside Normal 7)
  -- a writer waits at 6 until the last reader, on its way out, has set Permit
  pub writer_after_reader_waits : Comes mem unmeasured (R ∷ W ∷ []) waiting_at_6 (λ z. Stands z 2 (Next L6) Normal 7)
  pub writer_after_reader :
      Comes mem unmeasured (R ∷ W ∷ []) (waiting_at_6 ++ leaves_with Reading 1 ++ advances 7 1 ++ advances 1 2)
      (λ z. Stands z 2 Inside Normal 8)
  -- a second writer waits at 0.2 until the first has left the queue
  pub writer_after_writer_waits :
      Comes mem unmeasured (W ∷ W ∷ []) waiting_at_0p2
      (λ z. Stands z 2 (Next L0p2) Normal 0 × (z.waiting ≡ 1 ∷ 2 ∷ []))
  pub writer_after_writer :
      Comes mem unmeasured (W ∷ W ∷ []) (waiting_at_0p2 ++ leaves_with Writing 1 ++ advances 2 1 ++ advances 13 2)
      (λ z. Stands z 2 Inside Normal 10 × (z.waiting ≡ 2 ∷ []))
