-- The places are looked at in turn.
use Rattle.std.proofs.Common.{ℕ, ◌+◌, ◌%◌, eqb, get_or, ap, ◌∙◌, arith, rules, tests}
use Rattle.std.proofs.lemmas.Iterator.{YieldsList-from_range}
use Rattle.std.proofs.lemmas.Iterator.Search.{any_from_yields_List}
use Rattle.queue.specs.Waiting.{waits}
use Rattle.queue.specs.Round.{round}
use Rattle.queue.proofs.Round.{round_waits}
use Rattle.queue.proofs.ring.Ring.is_waiting.Goals as goal

pub returns : goal.returns
returns c =
    let s = c.args.self.now in
    let t = c.args.task in
    any_from_yields_List (λ k. eqb (get_or s.numbers ((s.start + k) % 64) 0) t) _ _ _ c.any.ensures.ran (YieldsList-from_range 0 s.count s.count (cc) (omega arith)) (λ x b q k. search (rules, tests))
    ∙ round_waits s.numbers s.start s.count t 0 ∙ ap (λ (p : ℕ). waits (round s.numbers p s.count) t) (omega arith)
