use Rattle.std.proofs.lemmas.Result.{IfOk-weaker}
use Rattle.cache.specs.declared.layer.Cache.{Cache}
use Rattle.lock.proofs.Copies.{cached_by_copies}
use Rattle.lock.proofs.Exactly.{runs_exactly}
use Rattle.lock.proofs.caching.Lock+Cache+B+Q.open_cached.Goals as goal

-- the bound that open promises of every memory that charges by copies
pub returns-clause-cost_bound : goal.returns-clause-cost_bound
returns-clause-cost_bound g c =
    IfOk-weaker c.open.result _ _ (λ opened bound. bound (λ (m : Cache g.row.B.Denot). m.copies.masks) (cached_by_copies g.B.Memory g.met.B.Memory.kept)) c.open.ensures.cost_bound

-- they hold from every state: of the bound it is only taken that the opening was obeyed
pub returns-clause-exact_costs : goal.returns-clause-exact_costs
returns-clause-exact_costs g c =
    IfOk-weaker c.open.result _ _ (λ opened bound. λ one es z n run. runs_exactly g.B.Memory one es _ z _ n run) c.open.ensures.cost_bound
