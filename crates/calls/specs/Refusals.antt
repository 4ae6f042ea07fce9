-- The published number of each refusal: 1 to 4 of the memory; 1, 5 and 6 of the queue; 10 to 32 of the lock itself.
use Rattle.std.specs.Prelude.{ℕ}
use Rattle.memory.specs.Refusals.{refusal_number as memory_number}
use Rattle.queue.specs.Refusals.{refusal_number as queue_number}
use Rattle.calls.specs.declared.refusal.Refusal.{Refusal}
use Rattle.calls.specs.declared.refusal.Refusal.TheVariants.{Memory, Queue, Shut, Opened, Roles, Role, Limit, Ceiling, Queued, NoTask, Busy, Finished, OffLine, Outside, PassOut, OtherRight, OtherLock, NoPass, Upgrades, NoRow, Thickness, Stored}

abbrev pub refusal_number : Refusal → ℕ
refusal_number (Memory e) = memory_number e
refusal_number (Queue e) = queue_number e
refusal_number Shut = 10
refusal_number Opened = 11
refusal_number Roles = 12
refusal_number Role = 13
refusal_number Limit = 14
refusal_number Ceiling = 15
refusal_number Queued = 16
refusal_number NoTask = 20
refusal_number Busy = 21
refusal_number Finished = 22
refusal_number OffLine = 23
refusal_number Outside = 24
refusal_number PassOut = 25
refusal_number OtherRight = 26
refusal_number OtherLock = 27
refusal_number NoPass = 28
refusal_number Upgrades = 29
refusal_number NoRow = 30
refusal_number Thickness = 31
refusal_number Stored = 32
