use Rattle.cache.specs.Layers.{cached}
use Rattle.lock.proofs.Answering.{answering, cached_law, cached_total, over_packed, over_words, stored_answers}
use Rattle.lock.proofs.cases.calls_answer.Goals as goal

pub returns-clause-any : goal.returns-clause-any
returns-clause-any g c = λ total. answering g.M.Memory total g.met.M.Memory.kept g.met.M.Memory.seven

pub returns-clause-layer : goal.returns-clause-layer
returns-clause-layer g c = λ total.
    let m = g.M.Memory in
    answering (cached m) (cached_total m total) (cached_law m g.met.M.Memory.kept) (λ s. g.met.M.Memory.seven s.below)

pub returns-clause-words : goal.returns-clause-words
returns-clause-words g c = stored_answers over_words

pub returns-clause-packed : goal.returns-clause-packed
returns-clause-packed g c = stored_answers over_packed
