-- What a task paid: the cost, the upgrades (u) and the downgrades (g) of its current or latest attempt,
-- and the total and the number of its finished attempts.
use Rattle.std.specs.Prelude.{ℕ, ◌+◌, min}
use Rattle.calls.specs.declared.account.Account.{Account}

-- of a task that never began
abbrev pub unpaid : Account
unpaid = record { cost = 0; u = 0; g = 0; total = 0; finished = 0 }

-- an attempt begins
abbrev pub restarted : Account → Account
restarted a = record { cost = 0; u = 0; g = 0; total = a.total; finished = a.finished }

-- an upgrade or a downgrade of the attempt is obeyed

abbrev pub one_more_upgrade : Account → Account
one_more_upgrade a = record { cost = a.cost; u = a.u + 1; g = a.g; total = a.total; finished = a.finished }

abbrev pub one_more_downgrade : Account → Account
one_more_downgrade a = record { cost = a.cost; u = a.u; g = a.g + 1; total = a.total; finished = a.finished }

-- a line adds its share; the cost stays at the largest 32-bit number if it would pass that
abbrev pub charged : Account → ℕ → Account
charged a share = record { cost = min (a.cost + share) 4294967295; u = a.u; g = a.g; total = a.total; finished = a.finished }

-- the attempt is finished: its cost joins the total
abbrev pub closed : Account → Account
closed a = record { cost = a.cost; u = a.u; g = a.g; total = a.total + a.cost; finished = a.finished + 1 }
