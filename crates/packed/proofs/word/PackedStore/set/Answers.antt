use Rattle.std.proofs.Common.{◌<◌, arith, rules}
use Rattle.std.proofs.lemmas.Bool.Decides.{nat_tests}
use Rattle.packed.proofs.Replaced.{replace_field}
use Rattle.packed.proofs.word.PackedStore.set.Goals as goal

pub returns : goal.returns
returns c =
    let place : c.args.cell < 7 = grind (arith, nat_tests) in
    search (rules, replace_field c.args.self.now.bits c.args.number c.args.cell c.if-number-gt-ONES.false place)
